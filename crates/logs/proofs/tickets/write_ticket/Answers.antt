-- No day, no text; else its lines.
use Rattle.logs.proofs.TextLaws.{ticket_none, ticket_lines, nothing}
use Rattle.logs.proofs.tickets.write_ticket.Goals as goal

pub returns-in_default : goal.returns-in_default
returns-in_default c =
    let e = nothing c.args.out.now in
    simp (c.in_default.is, ticket_none) (record { count = e.0; bytes = e.1 })

pub returns : goal.returns
returns c =
    rw (← ticket_lines c.args.weighing c.args.totals _ c.in-Some.is c.amounts_of.ensures) (record { count = c.write_text.ensures.count; bytes = c.write_text.ensures.bytes })
