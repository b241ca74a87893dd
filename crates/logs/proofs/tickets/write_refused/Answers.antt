-- One line without a minus.
use Rattle.logs.proofs.TextLaws.{refused_line}
use Rattle.logs.proofs.tickets.write_refused.Goals as goal

pub returns : goal.returns
returns c = rw (← refused_line c.args.number) (record { count = c.write_text.ensures.count; bytes = c.write_text.ensures.bytes })
