-- Of the sequence that the buffer holds, that of a discharge.
use Rattle.std.proofs.Common.{ap, ◌∙◌}
use Rattle.types.specs.declared.machine.State.{State}
use Rattle.outline.specs.Stages.{discharge_sequence}
use Rattle.outline.specs.Parts.{with_sequence}
use Rattle.board.proofs.Held.{read_part, held_as}
use Rattle.board.proofs.steps.discharge.Goals as goal

pub returns : goal.returns
returns c st h =
    let q = read_part (λ (t : State). t.sequence) c.sequence_at.ensures h in
    held_as (λ i. with_sequence st ((c.discharge_sequence.ensures ∙ ap discharge_sequence q) i)) (c.put_sequence.ensures.state st h)
