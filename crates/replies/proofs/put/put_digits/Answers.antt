-- A turn stores the last digit that is left; after the last turn none is.
use Rattle.std.proofs.Common.{◌≡◌, ◌∙◌, refl, arith}
use Rattle.outline.proofs.Lengths.{length_digits}
use Rattle.replies.proofs.Stores.{digit_down, no_digits}
use Rattle.replies.proofs.put.put_digits.Goals as goal

pub loop-k-preserved : goal.loop-k-preserved
loop-k-preserved c = digit_down _ _ _ _ (omega arith) ∙ c.loop-k.invariant

pub returns : goal.returns
returns c =
    let none : c.loop-k.k ≡ 0 = omega arith in
    record { stored = rw (none, no_digits) at c.loop-k.invariant; behind = refl; long = length_digits _ _ }
