-- A signed number is the one that was read.
use Rattle.std.proofs.Common.{List, ℕ, sym, ap, ◌∙◌}
use Rattle.std.specs.Int.{w32, w64}
use Rattle.whole.specs.Bits.{got}
use Rattle.places.specs.Places.{get_all}
use Rattle.images.specs.StateImage.{state_at}
use Rattle.images.proofs.Buffers.{of_long}
use Rattle.images.proofs.parts.book_at.Goals as goal

pub returns : goal.returns
unfolding state_at get_all
returns c =
    (λ i. record {
      opening = ((got {w = w32} _ c.read.type_inv).read ∙ c.read.ensures) i;
      last = ((got {w = w32} _ c.read-2.type_inv).read ∙ c.read-2.ensures) i;
      refilled = ((got {w = w64} _ c.read-3.type_inv).read ∙ c.read-3.ensures) i;
      used = ((got {w = w64} _ c.read-4.type_inv).read ∙ c.read-4.ensures) i;
      unbooked = ((got {w = w64} _ c.read-5.type_inv).read ∙ c.read-5.ensures) i;
      ticks = c.read-6.ensures i;
      begun = c.read-7.ensures i;
      contact = c.read-8.ensures i;
    })
    ∙ ap (λ (b : List ℕ). (state_at b).book) (sym (of_long c.args.s.now c.if-s-lt-EARLIER_LENGTH.false))
