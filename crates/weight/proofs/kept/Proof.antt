-- What is plain, and what is stopped at the limit, fits an i32, so the cast keeps it.
use borrow.Author.Rules.{rules}
use mathlib.Core.Path.{sym, ap, ◌∙◌}
use Prim.Native.Nat.{ℕ, ◌≤◌}
use native.Mathlib.Omega.{arith}
use lib.IntN.{ℤ, pos, neg_ℤ, nat_abs}
use lib.Signed.{le_z, lt_z}
use mir.Syntax.{w32, w64}
use mir.Val.{SFits, of_z}
use mir.Facts.{to_z-of_z}
use Rattle.whole.specs.Bits.{Read, arg, got, be, cast, cast_need}
use Rattle.whole.specs.Limit.{limit_abs, limit_plain, inside}
use Rattle.whole.specs.Machine.{fits_abs}
use Rattle.outline.specs.Limits.{display_limit}
use Rattle.outline.specs.Weight.{kept_of}
use Rattle.weight.proofs.kept.Statement.{statement}
use Rattle.weight.proofs.kept.Tie as tie

-- ---- a plain weight
abbrev plain : ℕ
plain = 1073741824

small : (c : tie.Then-x-lt-DISPLAY_PLAIN) → nat_abs c.args.x ≤ plain
small c =
    let s = c.before.before in
    let e = to_z-of_z s.ranges.x in
    inside s.args.x plain (ap (le_z (neg_ℤ (pos plain))) (sym e) ∙ c.if-x.true) (ap (λ (x : ℤ). lt_z x (pos plain)) (sym e) ∙ c.if-x-lt-DISPLAY_PLAIN.true)

small_fits : (c : tie.Then-x-lt-DISPLAY_PLAIN) → SFits w32 c.args.x
small_fits c = fits_abs w32 (omega (arith, small c))

overflow_sub-t-3 : tie.Need-overflow_sub-t-3
overflow_sub-t-3 c = search rules

overflow_cast-result : tie.Need-overflow_cast-result
overflow_cast-result c = cast_need (arg c.ranges.x) (small_fits c)

returns-then-x-lt-DISPLAY_PLAIN : tie.Need-returns-then-x-lt-DISPLAY_PLAIN
returns-then-x-lt-DISPLAY_PLAIN c =
    let s = c.before.before in
    (cast (arg s.ranges.x) (small_fits c)).read ∙ sym (limit_plain display_limit s.args.x (omega (arith, small c)))

-- ---- any weight
stopped : (c : tie.After-limited) → Read w64 (of_z w64 c.limited.result) (kept_of c.args.x)
stopped c = be (got c.limited.result c.limited.type_inv) (simp (c.limited.ensures, to_z-of_z c.ranges.x))

fits : (s : tie.Start) → SFits w32 (kept_of s.args.x)
fits s = fits_abs w32 (omega (arith, limit_abs display_limit s.args.x))

limited-requires : tie.Need-limited-requires
limited-requires c κs = search rules

overflow_cast-result-2 : tie.Need-overflow_cast-result-2
overflow_cast-result-2 c = cast_need (stopped c) (fits c.before.before)

returns : tie.Need-returns
returns c = (cast (stopped c) (fits c.before.before)).read

pub kept_spec : {M : Type 1} → statement M
kept_spec = tie.close (tie.spec overflow_sub-t-3 overflow_cast-result returns-then-x-lt-DISPLAY_PLAIN limited-requires overflow_cast-result-2 returns)
