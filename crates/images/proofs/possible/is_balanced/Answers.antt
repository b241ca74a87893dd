-- The bounds that it asks for keep every sum within 64 bits.
use Rattle.std.proofs.Common.{arith, ◌∙◌, ℤ, ◌≤◌, ◌+◌, eqb, of_z, ◌+ℤ◌, ◌-ℤ◌, to_z-of_z}
use Rattle.std.proofs.Common.{SFits}
use Rattle.std.specs.Prelude.{nat_abs}
use Rattle.std.specs.Int.{w32, w64}
use Rattle.whole.specs.Ints.{abs_add, abs_sub}
use Rattle.whole.specs.Bits.{got, arg, be, add, sub, sub_need, eqb_is}
use Rattle.whole.specs.Machine.{wider, abs_fits, fits_abs}
use Rattle.images.proofs.possible.is_balanced.Goals as goal

module _ (o r u n : ℤ) (f : SFits w32 o) (used : nat_abs r + nat_abs u ≤ 1000000000000000000) where
  one : SFits w64 (o +ℤ r)
  one = fits_abs w64 (omega (arith, abs_add o r, abs_fits w32 f))

  two : SFits w64 (o +ℤ r -ℤ u)
  two = fits_abs w64 (omega (arith, abs_sub (o +ℤ r) u, abs_add o r, abs_fits w32 f))

  three : nat_abs n ≤ 1000000000000000000 → SFits w64 (o +ℤ r -ℤ u -ℤ n)
  three unbooked = fits_abs w64 (omega (arith, abs_sub (o +ℤ r -ℤ u) n, abs_sub (o +ℤ r) u, abs_add o r, abs_fits w32 f))

pub overflow_sub-result-2 : goal.overflow_sub-result-2
overflow_sub-result-2 c =
    let f = c.ranges in
    let a = c.args in
    let k = c.requires.used_bound in
    let opening = be (got {w = w64} c.from.result c.from.type_inv) (c.from.ensures ∙ to_z-of_z f.opening) in
    let first = add opening (arg f.refilled) (one a.opening a.refilled a.used a.unbooked f.opening k) in
    let second = sub first (arg f.used) (two a.opening a.refilled a.used a.unbooked f.opening k) in
    sub_need second (arg f.unbooked) (three a.opening a.refilled a.used a.unbooked f.opening k c.requires.unbooked_bound)

pub returns : goal.returns
returns c =
    let f = c.ranges in
    let a = c.args in
    let k = c.requires.used_bound in
    let opening = be (got {w = w64} c.from.result c.from.type_inv) (c.from.ensures ∙ to_z-of_z f.opening) in
    let first = add opening (arg f.refilled) (one a.opening a.refilled a.used a.unbooked f.opening k) in
    let second = sub first (arg f.used) (two a.opening a.refilled a.used a.unbooked f.opening k) in
    let last = c.from-2.ensures ∙ to_z-of_z f.last in
    (λ i. eqb (of_z w64 (second.read i -ℤ (arg f.unbooked).read i)) (of_z w64 (last i)))
    ∙ eqb_is (three a.opening a.refilled a.used a.unbooked f.opening k c.requires.unbooked_bound) (wider f.last)
