-- The limit is tested by a difference, so that no sum wraps; each test that fails answers no.
use mathlib.Core.Bool.{Bool, true, false}
use mathlib.Core.Path.{◌≡◌, ap, ◌∙◌}
use Prim.Native.Nat.{◌+◌}
use native.Mathlib.Omega.{arith}
use borrow.Author.Rules.{rules}
use borrow.Author.Tests.{le-leb, lt-leb}
use lib.Dec.{lit<}
use lib.IntN.{ℤ, pos, nat_abs}
use lib.Signed.{lt_z, non_neg}
use mir.Facts.{to_z-of_z}
use mir.Syntax.{w64}
use mir.Val.{of_z, to_z}
use Rattle.whole.specs.Bits.{arg, nat, lt_is}
use Rattle.whole.specs.Ints.{ints, linear, int_elim}
use Rattle.outline.specs.Limits.{total_limit}
use Rattle.whole.specs.Chains.{and_last, and_both}
use Rattle.totals.proofs.is_bookable.Statement.{statement}
use Rattle.totals.proofs.is_bookable.Tie as tie

-- what the first test says of v
below : (v : ℤ) → lt_z v (pos 0) ≡ true → non_neg v ≡ false
below = int_elim _ (λ a b h. simp ints (omega (linear, simp ints at h)))

least : (v : ℤ) → lt_z v (pos 0) ≡ false → non_neg v ≡ true
least = int_elim _ (λ a b h. simp ints (omega (linear, simp ints at h)))

sign : {t : Bool} (s : tie.Start) → lt_z (to_z w64 (of_z w64 s.args.v)) (pos 0) ≡ t → lt_z s.args.v (pos 0) ≡ t
sign s e = lt_is (arg s.ranges.v) (nat {w = w64} {n = 0} (lit< tt)) e

-- the weight that was found
found : (c : tie.After-magnitude-weight) → c.magnitude-weight.result ≡ nat_abs c.args.v
found c = c.magnitude-weight.ensures ∙ ap nat_abs (to_z-of_z {w = w64} c.ranges.v)

returns-then-v-lt0 : tie.Need-returns-then-v-lt0
returns-then-v-lt0 c = let s = c.before in simp (below s.args.v (sign s c.if-v-lt0.true))

magnitude-weight-requires : tie.Need-magnitude-weight-requires
magnitude-weight-requires c κs = search rules

returns-then-weight-gt-TOTAL_LIMIT : tie.Need-returns-then-weight-gt-TOTAL_LIMIT
returns-then-weight-gt-TOTAL_LIMIT c =
    let s = c.before.before.before in
    simp
    (least s.args.v (sign s c.if-v-lt0.false), lt-leb (s.args.t.total + nat_abs s.args.v) total_limit (omega (arith, found c.before, c.if-weight-gt-TOTAL_LIMIT.true)))

returns-then-weight-t : tie.Need-returns-then-weight-t
returns-then-weight-t c =
    let s = c.before.before.before.before.before in
    simp
    (least s.args.v (sign s c.if-v-lt0.false), lt-leb (s.args.t.total + nat_abs s.args.v) total_limit (omega (arith, found c.before.before.before, c.if-weight-t.true)))

returns : tie.Need-returns
returns c =
    let s = c.before.before.before.before.before.before in
    and_last
    (and_both
    (least s.args.v (sign s c.if-v-lt0.false))
    (le-leb (s.args.t.total + nat_abs s.args.v) total_limit (omega (arith, found c.before.before.before.before, c.if-weight-t.false, c.if-weight-gt-TOTAL_LIMIT.false))))

pub is_bookable_spec : {M : Type 1} → statement M
is_bookable_spec = tie.close (tie.spec returns-then-v-lt0 magnitude-weight-requires returns-then-weight-gt-TOTAL_LIMIT returns-then-weight-t returns)
