-- The numbers at the places and the bytes beside them: these two are the comparison with an image.
use Rattle.std.proofs.Common.{sym, ◌∙◌, ◌&&◌}
use Rattle.places.specs.Places.{gaps, zeros_in}
use Rattle.types.specs.declared.machine.State.{State}
use Rattle.images.specs.StateImage.{state_length, state_rows}
use Rattle.images.proofs.Buffers.{part_here}
use Rattle.images.proofs.Read.{written}
use Rattle.images.proofs.state.is_written.Goals as goal

pub is_read_whole-requires-clause-q_value : goal.is_read_whole-requires-clause-q_value
is_read_whole-requires-clause-q_value c = part_here c.args.s.now c.requires (λ (t : State). t.sequence) c.sequence_at.ensures

pub is_read_whole-requires-clause-t_value : goal.is_read_whole-requires-clause-t_value
is_read_whole-requires-clause-t_value c = part_here c.args.s.now c.requires (λ (t : State). t.totals) c.totals_at.ensures

pub returns-then-is_read_whole : goal.returns-then-is_read_whole
returns-then-is_read_whole c =
    sym (written c.args.s.now (λ i. (c.type_inv.s i).fits) c.requires ∙ (λ i. (sym c.is_read_whole.ensures ∙ c.if-is_read_whole.true) i && sym c.is_unused_zero.ensures i))

pub returns-else-is_read_whole : goal.returns-else-is_read_whole
returns-else-is_read_whole c =
    let e = sym c.is_read_whole.ensures ∙ c.if-is_read_whole.false in
    c.if-is_read_whole.false
    ∙ sym (written c.args.s.now (λ i. (c.type_inv.s i).fits) c.requires ∙ (λ i. e i && zeros_in (gaps 0 state_length state_rows) c.args.s.now))
