-- In 00 nothing; else what a stop leaves of the sequence that the buffer holds, and what waits comes into use.
use Rattle.std.proofs.Common.{refl, sym, ap, ◌∙◌}
use Rattle.types.specs.declared.machine.State.{State}
use Rattle.outline.specs.Stages.{idle_of, stop_sequence}
use Rattle.outline.proofs.Steps.{stopped_idle, stopped_runs}
use Rattle.board.proofs.Held.{read_part, held_as}
use Rattle.board.proofs.steps.stop.Goals as goal

pub returns-then-is_idle : goal.returns-then-is_idle
returns-then-is_idle c st h =
    let q = read_part (λ (t : State). t.sequence) c.sequence_at-sequence.ensures h in
    held_as (stopped_idle st (sym (c.is_idle.ensures ∙ (λ i. idle_of (q i).stage)) ∙ c.if-is_idle.true)) h

pub returns : goal.returns
returns c st h =
    let q = read_part (λ (t : State). t.sequence) c.sequence_at-sequence.ensures h in
    let runs = sym (c.is_idle.ensures ∙ (λ i. idle_of (q i).stage)) ∙ c.if-is_idle.false in
    held_as (stopped_runs st runs _ _ _ (c.stop_sequence.ensures ∙ ap stop_sequence q) refl refl)
    (c.bring_in.ensures _ (c.put_sequence.ensures.state st h))
