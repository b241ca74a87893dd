-- The setpoints are those that the buffer holds, the sequence is as it says. A stage that goes on is written; where it returns to 00 a
-- finished batch is booked, and what waits comes into use.
use Rattle.std.proofs.Common.{rules, refl, sym, ◌∙◌}
use mir.Syntax.{w64}
use mir.Val.{to_z, of_z}
use Rattle.types.specs.declared.machine.State.{State}
use Rattle.outline.proofs.Steps.{step-on, step_back, step-finished}
use Rattle.board.proofs.Held.{read_part, held_as, held_as_bytes, by_sequence}
use Rattle.board.proofs.steps.go_on.Goals.{then-after, else-after}
use Rattle.board.proofs.steps.go_on.Goals as goal

pub returns-then-not-is_idle : goal.returns-then-not-is_idle
returns-then-not-is_idle c st h e runs =
    let n = read_part (λ (t : State). t.setpoints) c.setpoints_at-setpoints.ensures h in
    held_as (step-on c.args.s st c.args.x c.setpoints_at-setpoints.result c.is_fit-unfit.result c.compared-v.result c.advance-after.result n (search rules) (search rules) (by_sequence _ _ _ _ e (search rules)) (sym c.is_idle.ensures ∙ c.if-not-is_idle.true)) (c.put_sequence.ensures.state st h)

pub returns : goal.returns
returns c st h e runs =
    let n = read_part (λ (t : State). t.setpoints) c.setpoints_at-setpoints.ensures h in
    let back = sym c.is_idle.ensures ∙ c.if-not-is_idle.false in
    elim c.if-after.branch [
      | then-after w ↦
          held_as (step-finished c.args.s st c.args.x c.setpoints_at-setpoints.result c.is_fit-unfit.result (to_z w64 (of_z w64 c.compared-v.result)) c.advance-after.result n (search rules) (search rules) (by_sequence _ _ _ _ e (search rules)) _ _ runs back refl refl _ _ w.if-after.true refl refl)
          (c.bring_in.ensures _ (held_as_bytes w.state-is (w.book_batch.ensures st h)))
      | else-after w ↦
          held_as (step_back c.args.s st c.args.x c.setpoints_at-setpoints.result c.is_fit-unfit.result c.compared-v.result c.advance-after.result n (search rules) (search rules) (by_sequence _ _ _ _ e (search rules)) _ _ runs back refl refl w.if-after.false)
          (c.bring_in.ensures _ (held_as_bytes w.state-is (w.put_sequence-else-after.ensures.state st h)))
    ]
