-- The weights of the stability and the weighing that the buffer holds.
use Rattle.std.proofs.Common.{rules, ◌≡◌, ◌∙◌}
use Rattle.types.specs.declared.machine.State.{State}
use Rattle.outline.specs.Weight.{weigh_of}
use Rattle.outline.specs.Tick.{weights_of}
use Rattle.board.specs.InPlace.{raw_in}
use Rattle.board.proofs.Held.{read_part}
use Rattle.board.proofs.steps.again.Goals as goal

pub returns : goal.returns
unfolding weights_of raw_in
returns c st h =
    let a = c.args in
    let q = read_part (λ (t : State). t.stability) c.stability_at.ensures h in
    let w = read_part (λ (t : State). t.weighing) c.weighing_at.ensures h in
    let r : c.then_some-raw.result ≡ raw_in a.x = search rules in
    c.weigh.ensures ∙ (λ i. weigh_of a.s (q i) (w i) (r i) a.x.contact)
