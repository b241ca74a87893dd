-- The outputs ask for three parts of the state, which are those that the buffer holds.
use Rattle.std.proofs.Common.{ap, ◌∙◌}
use Rattle.types.specs.declared.machine.State.{State}
use Rattle.types.specs.declared.machine.Answer.{Answer}
use Rattle.board.specs.InPlace.{outputs_put}
use Rattle.board.proofs.Held.{read_part, shown_by}
use Rattle.board.proofs.steps.answer.Goals as goal

pub returns : goal.returns
returns c st h =
    let a = c.args in
    let p = read_part (λ (t : State). t.panel) c.panel_at.ensures h in
    let n = read_part (λ (t : State). t.setpoints) c.setpoints_at.ensures h in
    let q = read_part (λ (t : State). t.sequence) c.sequence_at.ensures h in
    c.put_outputs.ensures ∙ ap (λ (o : Answer). outputs_put a.told a.length o a.answer.now) (c.outputs-a.ensures ∙ shown_by _ _ _ _ _ st p n q)
