-- Tracking of the weighing that the buffer holds, by its stage.
use Rattle.std.proofs.Common.{◌∙◌}
use Rattle.types.specs.declared.machine.State.{State}
use Rattle.outline.specs.Zero.{tracked_of}
use Rattle.outline.specs.Stages.{idle_of}
use Rattle.outline.specs.Parts.{with_weighing}
use Rattle.board.proofs.Held.{read_part, held_as}
use Rattle.board.proofs.steps.track.Goals as goal

pub returns : goal.returns
returns c st h =
    let a = c.args in
    let q = read_part (λ (t : State). t.sequence) c.sequence_at.ensures h in
    let w = read_part (λ (t : State). t.weighing) c.weighing_at-weighing.ensures h in
    let idle = c.is_idle-idle.ensures ∙ (λ i. idle_of (q i).stage) in
    let e = c.tracked.ensures ∙ (λ i. tracked_of a.s (idle i) a.keyed a.x (w i)) in
    held_as (λ i. with_weighing st (e i)) (c.put_weighing.ensures.state st h)
