-- Each part is read as the number of the definition; what is taken times d is at most a difference of two i32.
use borrow.Author.Rules.{rules}
use mathlib.Core.Path.{ap, ◌∙◌}
use native.Mathlib.Omega.{arith}
use Prim.Native.Nat.{◌≤◌}
use lib.IntN.{ℤ, pos, nat_abs, ◌-ℤ◌}
use mir.Syntax.{w32, w64}
use mir.Val.{SFits, of_z}
use mir.Facts.{to_z-of_z}
use Rattle.whole.specs.Bits.{Read, nat, got, be, mul, mul_need}
use Rattle.whole.specs.Machine.{sfits_of, diff_abs, mul_fits}
use Rattle.whole.specs.Nearest.{nearest_le, abs_nearest}
use Rattle.outline.specs.Weight.{divisions_of, gross_of, kept_of, weigh_of}
use Rattle.weight.proofs.weigh_good.Statement.{statement}
use Rattle.weight.proofs.weigh_good.Tie as tie

-- of the definition, at the start
zero_fits : (s : tie.Start) → SFits w32 s.args.w.zero
zero_fits s = search sfits_of

tare_fits : (s : tie.Start) → SFits w32 s.args.w.tare
tare_fits s = search sfits_of

abbrev fine_of : tie.Start → ℤ
fine_of s = s.args.raw -ℤ s.args.w.zero

abbrev gross_at : tie.Start → ℤ
gross_at s = gross_of s.args.s.range (divisions_of (fine_of s))

product_fits : (s : tie.Start) → SFits w64 (gross_at s)
product_fits s =
    let few : nat_abs (divisions_of (fine_of s)) ≤ 4294967296 =
    omega (arith, abs_nearest (fine_of s) 10, nearest_le (nat_abs (fine_of s)) 10, diff_abs s.ranges.raw (zero_fits s)) in
    mul_fits w64 4294967296 255 (divisions_of (fine_of s)) s.args.s.range.division few (omega arith) tt

-- and of the code
fine : (c : tie.After-difference-fine) → Read w64 (of_z w64 c.difference-fine.result) (fine_of c.before.before)
fine c =
    let s = c.before.before in
    be (got c.difference-fine.result c.difference-fine.type_inv) (simp (c.difference-fine.ensures, to_z-of_z s.ranges.raw, to_z-of_z (zero_fits s)))

divisions : (c : tie.After-nearest-divisions) → Read w64 (of_z w64 c.nearest-divisions.result) (divisions_of (fine_of c.before.before.before))
divisions c = be (got c.nearest-divisions.result c.nearest-divisions.type_inv) (c.nearest-divisions.ensures ∙ ap divisions_of (fine c.before).read)

division : (s : tie.Start) → Read w64 s.args.s.range.division (pos s.args.s.range.division)
division s = nat (omega arith)

gross : (c : tie.After-kept-gross) → Read w32 (of_z w32 c.kept-gross.result) (kept_of (gross_at c.before.before.before.before.before.before))
gross c =
    let s = c.before.before.before.before.before.before in
    be (got c.kept-gross.result c.kept-gross.type_inv) (c.kept-gross.ensures ∙ ap kept_of (mul (divisions c.before.before.before) (division s) (product_fits s)).read)

net : (c : tie.After-kept-net) → Read w32 (of_z w32 c.kept-net.result) (kept_of (kept_of (gross_at c.before.before.before.before.before.before.before.before.before) -ℤ c.args.w.tare))
net c =
    let d = c.before in
    let s = d.before.before.before.before.before.before.before.before in
    be (got c.kept-net.result c.kept-net.type_inv)
    (c.kept-net.ensures ∙ ap kept_of ((got {w = w64} d.difference.result d.difference.type_inv).read ∙ d.difference.ensures ∙ (λ i. (gross d.before.before).read i -ℤ to_z-of_z (tare_fits s) i)))

difference-fine-requires : tie.Need-difference-fine-requires
difference-fine-requires c κs = search rules

nearest-divisions-requires : tie.Need-nearest-divisions-requires
nearest-divisions-requires c κs = search rules

overflow_cast-range : tie.Need-overflow_cast-range
overflow_cast-range c = search rules

overflow_mul-divisions : tie.Need-overflow_mul-divisions
overflow_mul-divisions c =
    let s = c.before.before.before.before.before in
    mul_need (divisions c.before.before) (division s) (product_fits s)

kept-gross-requires : tie.Need-kept-gross-requires
kept-gross-requires c κs = search rules

difference-requires : tie.Need-difference-requires
difference-requires c κs = search rules

kept-net-requires : tie.Need-kept-net-requires
kept-net-requires c κs = search rules

is_overloaded-overload-requires : tie.Need-is_overloaded-overload-requires
is_overloaded-overload-requires c κs = search rules

is_stable-stable-requires : tie.Need-is_stable-stable-requires
is_stable-stable-requires c κs = search rules

returns : tie.Need-returns
unfolding weigh_of
returns c =
    let n = c.before.before.before in
    let g = n.before.before.before in
    let d = g.before.before.before in
    let s = d.before.before.before in
    simp (
      to_z-of_z s.ranges.raw,
      (fine d.before).read,
      (divisions d).read,
      (gross g).read,
      (net n).read,
      c.is_overloaded-overload.ensures,
      c.is_stable-stable.ensures,
    )

pub weigh_good_spec : {M : Type 1} → statement M
weigh_good_spec =
    tie.close
    (tie.spec
    difference-fine-requires
    nearest-divisions-requires
    overflow_cast-range
    overflow_mul-divisions
    kept-gross-requires
    difference-requires
    kept-net-requires
    is_overloaded-overload-requires
    is_stable-stable-requires
    returns)
