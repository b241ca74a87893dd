-- Both parts are made of the totals that the buffer holds.
use Rattle.std.proofs.Common.{rules}
use Rattle.types.specs.declared.machine.State.{State}
use Rattle.outline.specs.Parts.{with_sequence, with_totals}
use Rattle.board.proofs.Held.{read_part, held_as, by_totals, booked_by}
use Rattle.board.proofs.steps.book_batch.Goals as goal

pub returns : goal.returns
returns c st h =
    let t = read_part (λ (t : State). t.totals) c.totals_at-totals.ensures h in
    let es = by_totals c.args.v c.args.after c.booked_sequence.result t (search rules) in
    let et = booked_by c.args.v c.booked_totals.result t (search rules) in
    held_as (λ i. with_totals (with_sequence st (es i)) (et i)) (c.put_totals.ensures.state _ (c.put_sequence.ensures.state st h))
