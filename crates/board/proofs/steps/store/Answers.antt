-- By the stage of the sequence that the buffer holds.
use Rattle.std.proofs.Common.{refl, sym, ◌∙◌}
use Rattle.types.specs.declared.machine.State.{State}
use Rattle.outline.specs.Stages.{idle_of}
use Rattle.outline.proofs.Steps.{stored_idle, stored_runs}
use Rattle.board.proofs.Held.{read_part, held_as}
use Rattle.board.proofs.steps.store.Goals as goal

pub returns-then-is_idle : goal.returns-then-is_idle
returns-then-is_idle c st h =
    let q = read_part (λ (t : State). t.sequence) c.sequence_at.ensures h in
    let idle = sym (c.is_idle.ensures ∙ (λ i. idle_of (q i).stage)) ∙ c.if-is_idle.true in
    held_as (stored_idle st _ idle) (c.put_setpoints.ensures.state st h)

pub returns-else-is_idle : goal.returns-else-is_idle
returns-else-is_idle c st h =
    let q = read_part (λ (t : State). t.sequence) c.sequence_at.ensures h in
    let runs = sym (c.is_idle.ensures ∙ (λ i. idle_of (q i).stage)) ∙ c.if-is_idle.false in
    held_as (stored_runs st _ runs _ refl) (c.put_waiting.ensures.state st h)
