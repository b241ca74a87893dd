-- A batch that can be booked leaves total and count within their limits, so that neither sum wraps.
use mathlib.Core.Bool.{true, ◌&&◌, and-eq-true_iff}
use mathlib.Core.Path.{◌≡◌, sym, ap, ◌∙◌}
use Prim.Native.Nat.{suc, ◌+◌, ◌≤◌}
use native.Mathlib.Numerals.{add-one}
use native.Mathlib.Omega.{arith}
use borrow.Author.Rules.{rules}
use borrow.Author.Tests.{leb-true}
use lib.Dec.{leb}
use lib.IntN.{ℤ, nat_abs}
use lib.Signed.{non_neg}
use mir.Facts.{to_z-of_z}
use mir.Syntax.{w64}
use Rattle.whole.specs.Machine.{fits_of}
use Rattle.outline.specs.Limits.{total_limit, batch_limit}
use Rattle.outline.specs.Totals.{bookable, booked_totals}
use Rattle.types.specs.declared.stages.Totals.{Totals}
use Rattle.totals.proofs.booked_totals.Statement.{statement}
use Rattle.totals.proofs.booked_totals.Tie as tie

module _ (t : Totals) (v : ℤ) (e : bookable t v ≡ true) where
  parts : ((non_neg v && leb (t.total + nat_abs v) total_limit) ≡ true) × (leb (suc t.count) batch_limit ≡ true)
  parts = (and-eq-true_iff (non_neg v && leb (t.total + nat_abs v) total_limit) (leb (suc t.count) batch_limit)).0 e

  total_held : t.total + nat_abs v ≤ total_limit
  total_held = leb-true (t.total + nat_abs v) total_limit ((and-eq-true_iff (non_neg v) (leb (t.total + nat_abs v) total_limit)).0 parts.0).1

  count_held : suc t.count ≤ batch_limit
  count_held = leb-true (suc t.count) batch_limit parts.1

-- the answer that was given is that of v
asked : (c : tie.After-is_bookable) → bookable c.args.t c.args.v ≡ c.is_bookable.result
asked c = sym (c.is_bookable.ensures ∙ ap (bookable c.args.t) (to_z-of_z {w = w64} c.ranges.v))

-- what is known where it is booked
yes : (c : tie.Else-not-is_bookable) → bookable c.args.t c.args.v ≡ true
yes c = asked c.before ∙ c.if-not-is_bookable.false

found : (c : tie.After-magnitude-weight) → c.magnitude-weight.result ≡ nat_abs c.args.v
found c = c.magnitude-weight.ensures ∙ ap nat_abs (to_z-of_z {w = w64} c.ranges.v)

is_bookable-requires : tie.Need-is_bookable-requires
is_bookable-requires c κs = search rules

returns-then-not-is_bookable : tie.Need-returns-then-not-is_bookable
unfolding booked_totals
returns-then-not-is_bookable c = simp (asked c.before ∙ c.if-not-is_bookable.true)

magnitude-weight-requires : tie.Need-magnitude-weight-requires
magnitude-weight-requires c κs = search rules

overflow_add-result : tie.Need-overflow_add-result
overflow_add-result c = let s = c.before.before.before.before in fits_of (omega (arith, found c.before, total_held s.args.t s.args.v (yes c.before.before)))

overflow_add-result-2 : tie.Need-overflow_add-result-2
overflow_add-result-2 c = let s = c.before.before.before.before.before in fits_of (omega (arith, count_held s.args.t s.args.v (yes c.before.before.before)))

returns : tie.Need-returns
unfolding booked_totals
returns c = simp (yes c.before.before.before, found c.before.before, add-one)

pub booked_totals_spec : {M : Type 1} → statement M
booked_totals_spec =
    tie.close (tie.spec is_bookable-requires returns-then-not-is_bookable magnitude-weight-requires overflow_add-result overflow_add-result-2 returns)
