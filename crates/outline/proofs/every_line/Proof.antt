-- `every_line` does nothing; what it ensures is proved beside it, each in its own file. Assumes nothing.
use Rattle.outline.proofs.GatesRun.{gates_shut}
use Rattle.outline.proofs.DischargeLaw.{never_together, together_on_line}
use Rattle.outline.proofs.ConnectedLaw.{connected_on_line}
use Rattle.outline.proofs.TicketLaw.{ticket}
use Rattle.outline.proofs.RunForms.{lines_are_runs}
use Rattle.outline.proofs.ReadBack.{read_back}
use Rattle.outline.proofs.LineBytes.{reply_bounded, bytes_stay}
use Rattle.outline.proofs.LineOrder.{answered_in_order, refused_lines}
use Rattle.outline.proofs.LineBack.{read_back_on_line}
use Rattle.outline.proofs.LineRuns.{gates_on_line, ticket_on_line}
use Rattle.outline.proofs.every_line.Statement.{statement}
use Rattle.outline.proofs.every_line.Tie as tie

returns : tie.Need-returns
returns c = (reply_bounded, (bytes_stay, (answered_in_order, (refused_lines, (read_back_on_line read_back, (gates_on_line gates_shut lines_are_runs, (ticket_on_line ticket, (together_on_line never_together, connected_on_line))))))))

pub every_line_spec : {M : Type 1} → statement M
every_line_spec = tie.close (tie.spec returns)
