-- Of the weighing that the buffer holds, that with the tare.
use Rattle.std.proofs.Common.{rules, ◌≡◌, ◌∙◌}
use Rattle.types.specs.declared.machine.State.{State}
use Rattle.outline.specs.Zero.{tared_of}
use Rattle.outline.specs.Parts.{with_weighing}
use Rattle.board.proofs.Held.{read_part, held_as}
use Rattle.board.proofs.steps.put_tare.Goals as goal

pub returns : goal.returns
returns c st h =
    let w = read_part (λ (t : State). t.weighing) c.weighing_at.ensures h in
    let e : c.tared.result ≡ tared_of c.weighing_at.result c.args.tare = search rules in
    held_as (λ i. with_weighing st ((e ∙ (λ j. tared_of (w j) c.args.tare)) i)) (c.put_weighing.ensures.state st h)
