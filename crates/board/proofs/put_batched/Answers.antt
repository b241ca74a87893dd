-- Part by part, from the earlier image.
use Rattle.types.specs.declared.machine.State.{State}
use Rattle.outline.specs.Parts.{with_setpoints, with_sequence, with_totals}
use Rattle.board.proofs.Held.{read_earlier, held_as}
use Rattle.board.proofs.put_batched.Goals as goal

pub returns : goal.returns
returns c k st h =
    let setpoints = read_earlier (λ (t : State). t.setpoints) _ c.setpoints_at.ensures k in
    let sequence = read_earlier (λ (t : State). t.sequence) _ c.sequence_at.ensures k in
    let totals = read_earlier (λ (t : State). t.totals) _ c.totals_at.ensures k in
    held_as (λ i. with_totals (with_sequence (with_setpoints st (setpoints i)) (sequence i)) (totals i))
    (c.put_totals.ensures.state _ (c.put_sequence.ensures.state _ (c.put_setpoints.ensures.state st h)))
