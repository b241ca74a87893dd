-- `paper_holds` does nothing; what it ensures is proved beside it, each in its own file. Assumes nothing.
use Rattle.outline.proofs.Figures.{starred, runs, table}
use Rattle.outline.proofs.Worked.{batches, letters, lines}
use Rattle.outline.proofs.LogFigures.{logs, inputs, tickets}
use Rattle.outline.proofs.Rules.{weighed, refused, staged, booked}
use Rattle.outline.proofs.Finishes.{finished}
use Rattle.outline.proofs.LineFigures.{received, spoken, logged}
use Rattle.outline.proofs.CommandFigures.{commanded}
use Rattle.outline.proofs.OpeningFigures.{opened}
use Rattle.outline.proofs.RequestFigures.{asked}
use Rattle.outline.proofs.StageFigures.{sequenced}
use Rattle.outline.proofs.WeightFigures.{tracked}
use Rattle.outline.proofs.OutputFigures.{displayed}
use Rattle.outline.proofs.DischargeFigures.{discharged, requested}
use Rattle.outline.proofs.RefillFigures.{refills}
use Rattle.outline.proofs.WaitingFigures.{waited}
use Rattle.outline.proofs.ConnectedFigures.{while_connected}
use Rattle.outline.proofs.OpeningLaw.{opening_law}
use Rattle.outline.proofs.RawLaw.{raw_law}
use Rattle.outline.proofs.SetpointLaw.{setpoint_law}
use Rattle.outline.proofs.TimedLaw.{timed_law}
use Rattle.outline.proofs.ScaleLaw.{scale_law}
use Rattle.outline.proofs.AnalogRange.{analog_laws}
use Rattle.outline.proofs.paper_holds.Statement.{statement}
use Rattle.outline.proofs.paper_holds.Tie as tie

returns : tie.Need-returns
returns c = (starred, (runs, (table, (batches, (letters, (lines, (logs, (inputs, (tickets, (weighed, (refused, (staged, (booked, (finished, (received, (spoken, (logged, (commanded, (opened, (asked, (sequenced, (tracked, (displayed, (discharged, (requested, (refills, (waited, (while_connected, (opening_law, (raw_law, (setpoint_law, (timed_law, (scale_law, analog_laws)))))))))))))))))))))))))))))))))

pub paper_holds_spec : {M : Type 1} → statement M
paper_holds_spec = tie.close (tie.spec returns)
