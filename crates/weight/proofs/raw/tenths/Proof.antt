-- Each part is read as the number of the definition, and no product leaves an i64.
use borrow.Author.Rules.{rules}
use mathlib.Core.Path.{ap, ◌∙◌}
use Prim.Native.Nat.{◌*◌}
use native.Mathlib.Omega.{arith}
use lib.IntN.{ℤ, pos, ◌-ℤ◌, ◌*ℤ◌}
use mir.Syntax.{w32, w64}
use mir.Val.{SFits, of_z, to_z}
use mir.Facts.{to_z-of_z}
use Rattle.whole.specs.Bits.{Read, nat, got, be, mul, mul_need}
use Rattle.whole.specs.Machine.{sfits_of, diff_abs, mul_fits}
use Rattle.whole.specs.Nearest.{nearest_of}
use Rattle.weight.proofs.raw.tenths.Statement.{statement}
use Rattle.weight.proofs.raw.tenths.Tie as tie

zero_fits : (s : tie.Start) → SFits w32 s.args.cal.zero
zero_fits s = search sfits_of

weight_fits : (s : tie.Start) → SFits w64 (pos 10 *ℤ pos s.args.cal.weight)
weight_fits s = mul_fits w64 10 65535 (pos 10) s.args.cal.weight (omega arith) (omega arith) tt

weight : (s : tie.Start) → Read w64 (of_z w64 (pos 10 *ℤ to_z w64 s.args.cal.weight)) (pos (10 * s.args.cal.weight))
weight s = mul (nat {n = 10} (omega arith)) (nat (omega arith)) (weight_fits s)

scaled_fits : (s : tie.Start) → SFits w64 ((s.args.count -ℤ s.args.cal.zero) *ℤ pos (10 * s.args.cal.weight))
scaled_fits s =
    mul_fits w64 4294967296 655350 (s.args.count -ℤ s.args.cal.zero) (10 * s.args.cal.weight) (diff_abs s.ranges.count (zero_fits s)) (omega arith) tt

from_zero : (c : tie.After-difference-from_zero) → Read w64 (of_z w64 c.difference-from_zero.result) (c.args.count -ℤ c.args.cal.zero)
from_zero c =
    let s = c.before.before in
    be (got c.difference-from_zero.result c.difference-from_zero.type_inv) (simp (c.difference-from_zero.ensures, to_z-of_z s.ranges.count, to_z-of_z (zero_fits s)))

difference-from_zero-requires : tie.Need-difference-from_zero-requires
difference-from_zero-requires c κs = search rules

overflow_cast-weight : tie.Need-overflow_cast-weight
overflow_cast-weight c = search rules

overflow_mul-weight : tie.Need-overflow_mul-weight
overflow_mul-weight c =
    let s = c.before.before.before in
    mul_need (nat {n = 10} (omega arith)) (nat {n = s.args.cal.weight} (omega arith)) (weight_fits s)

overflow_mul-from_zero : tie.Need-overflow_mul-from_zero
overflow_mul-from_zero c =
    let s = c.before.before.before in
    mul_need (from_zero c.before) (weight s) (scaled_fits s)

nearest-requires : tie.Need-nearest-requires
nearest-requires c κs = search rules

returns : tie.Need-returns
returns c =
    let s = c.before.before.before.before in
    (got {w = w64} c.nearest.result c.nearest.type_inv).read
    ∙ c.nearest.ensures
    ∙ ap (λ (x : ℤ). nearest_of x s.args.cal.counts) (mul (from_zero c.before.before) (weight s) (scaled_fits s)).read

pub tenths_spec : {M : Type 1} → statement M
tenths_spec =
    tie.close
    (tie.spec difference-from_zero-requires overflow_cast-weight overflow_mul-weight overflow_mul-from_zero nearest-requires returns)
