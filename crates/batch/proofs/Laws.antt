-- Facts that several proofs cite.
use mathlib.Core.Path.{◌≡◌}
use Prim.Native.Nat.{ℕ, ◌+◌, ◌<◌, ◌^◌}
use native.Mathlib.Omega.{arith}
use lib.IntN.{pos, ◌+ℤ◌, ◌-ℤ◌}
use mir.Syntax.{w64}
use mir.Val.{SFits, to_z, of_z}
use Rattle.whole.specs.Machine.{fits_abs, nat_diff_fits}
use Rattle.whole.specs.Bits.{Read, nat, add, add_need, sub, sub_need}

-- Two numbers of 32 bits, cast to signed: on 64 bits neither their difference nor their sum wraps.
module _ (a b : ℕ) (h : a < 2 ^ 32) (k : b < 2 ^ 32) where
  one : Read w64 a (pos a)
  one = nat (omega arith)

  other : Read w64 b (pos b)
  other = nat (omega arith)

  apart : SFits w64 (pos a -ℤ pos b)
  apart = nat_diff_fits a b (omega arith) (omega arith)

  together : SFits w64 (pos a +ℤ pos b)
  together = fits_abs w64 (omega arith)

  pub less_fits : SFits w64 (to_z w64 a -ℤ to_z w64 b)
  less_fits = sub_need one other apart

  pub less_is : to_z w64 (of_z w64 (to_z w64 a -ℤ to_z w64 b)) ≡ pos a -ℤ pos b
  less_is = (sub one other apart).read

  pub more_fits : SFits w64 (to_z w64 a +ℤ to_z w64 b)
  more_fits = add_need one other together

  pub more_is : to_z w64 (of_z w64 (to_z w64 a +ℤ to_z w64 b)) ≡ pos (a + b)
  more_is = (add one other together).read
