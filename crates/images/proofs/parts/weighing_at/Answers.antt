-- A signed number is the one that was read.
use Rattle.std.proofs.Common.{List, ℕ, sym, ap, ◌∙◌}
use Rattle.std.specs.Int.{w32}
use Rattle.whole.specs.Bits.{got}
use Rattle.places.specs.Places.{get_all}
use Rattle.images.specs.StateImage.{state_at}
use Rattle.images.proofs.Buffers.{of_long}
use Rattle.images.proofs.parts.weighing_at.Goals as goal

pub returns : goal.returns
unfolding state_at get_all
returns c =
    (λ i. record {
      zero = ((got {w = w32} _ c.read.type_inv).read ∙ c.read.ensures) i;
      tracked = ((got {w = w32} _ c.read-2.type_inv).read ∙ c.read-2.ensures) i;
      tare = ((got {w = w32} _ c.read-3.type_inv).read ∙ c.read-3.ensures) i;
      counter = c.read-4.ensures i;
    })
    ∙ ap (λ (b : List ℕ). (state_at b).weighing) (sym (of_long c.args.s.now c.if-s-lt-EARLIER_LENGTH.false))
