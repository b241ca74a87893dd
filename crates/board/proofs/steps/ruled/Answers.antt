-- The ruling of the sequence and the totals that the buffer holds.
use Rattle.std.proofs.Common.{◌∙◌}
use Rattle.types.specs.declared.machine.State.{State}
use Rattle.outline.specs.Requests.{rows_to, first_of, ruling_of}
use Rattle.board.proofs.Held.{read_part}
use Rattle.board.proofs.steps.ruled.Goals as goal

pub returns : goal.returns
unfolding ruling_of
returns c st h =
    let a = c.args in
    let q = read_part (λ (t : State). t.sequence) c.sequence_at.ensures h in
    let t = read_part (λ (t : State). t.totals) c.totals_at.ensures h in
    c.ruling.ensures ∙ (λ i. first_of (rows_to a.s.range a.s.batching.mode (q i) (t i) a.x a.request))
