-- Where step 6 is passed over and in stage 00 nothing; else step 6 of the sequence that the buffer holds.
use Rattle.std.proofs.Common.{refl, sym, ◌∙◌}
use Rattle.types.specs.declared.machine.State.{State}
use Rattle.outline.specs.Stages.{idle_of}
use Rattle.outline.specs.Parts.{pick_state}
use Rattle.outline.specs.Tick.{stepped_of}
use Rattle.outline.proofs.Steps.{step_idle}
use Rattle.board.proofs.Held.{read_part, held_as, stepped_on}
use Rattle.board.proofs.steps.step.Goals as goal

pub returns-then-held : goal.returns-then-held
returns-then-held c st h = held_as (λ i. pick_state (sym c.if-held.true i) st (stepped_of c.args.s st c.args.x)) h

pub returns-then-is_idle : goal.returns-then-is_idle
returns-then-is_idle c st h =
    let q = read_part (λ (t : State). t.sequence) c.sequence_at-sequence.ensures h in
    held_as (stepped_on _ st _ _ _ c.if-held.false (step_idle _ st _ (sym (c.is_idle.ensures ∙ (λ i. idle_of (q i).stage)) ∙ c.if-is_idle.true))) h

pub returns : goal.returns
returns c st h =
    let q = read_part (λ (t : State). t.sequence) c.sequence_at-sequence.ensures h in
    let runs = sym (c.is_idle.ensures ∙ (λ i. idle_of (q i).stage)) ∙ c.if-is_idle.false in
    held_as (stepped_on _ st _ _ _ c.if-held.false refl) (c.go_on.ensures st h q runs)
