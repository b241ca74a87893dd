-- Of the totals that the buffer holds, those without the batch that was booked last.
use Rattle.std.proofs.Common.{ap, ◌∙◌}
use Rattle.types.specs.declared.machine.State.{State}
use Rattle.outline.specs.Totals.{taken_back}
use Rattle.outline.specs.Parts.{with_totals}
use Rattle.board.proofs.Held.{read_part, held_as}
use Rattle.board.proofs.steps.take_back.Goals as goal

pub returns : goal.returns
returns c st h =
    let t = read_part (λ (t : State). t.totals) c.totals_at.ensures h in
    held_as (λ i. with_totals st ((c.take_back.ensures ∙ ap taken_back t) i)) (c.put_totals.ensures.state st h)
