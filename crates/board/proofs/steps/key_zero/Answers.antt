-- Of the weighing that the buffer holds, that with a zero keyed.
use Rattle.std.proofs.Common.{rules, ◌≡◌, ◌∙◌}
use Rattle.types.specs.declared.machine.State.{State}
use Rattle.outline.specs.Zero.{zeroed_of}
use Rattle.outline.specs.Parts.{with_weighing}
use Rattle.board.proofs.Held.{read_part, held_as}
use Rattle.board.proofs.steps.key_zero.Goals as goal

pub returns : goal.returns
returns c st h =
    let w = read_part (λ (t : State). t.weighing) c.weighing_at.ensures h in
    let e : c.zeroed.result ≡ zeroed_of c.weighing_at.result c.args.raw = search rules in
    held_as (λ i. with_weighing st ((e ∙ (λ j. zeroed_of (w j) c.args.raw)) i)) (c.put_weighing.ensures.state st h)
