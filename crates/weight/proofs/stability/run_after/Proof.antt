-- The magnitude of the change is that of the definition, and each way through the tests is one case of it.
use borrow.Author.Rules.{rules}
use mathlib.Core.Path.{◌≡◌}
use Prim.Native.Nat.{ℕ, suc, ◌+◌, ◌<◌, ◌≤◌, min}
use native.Mathlib.Omega.{arith}
use lib.IntN.{ℤ, nat_abs, ◌-ℤ◌}
use mir.Syntax.{w64}
use mir.Facts.{to_z-of_z}
use Rattle.whole.specs.Bits.{got}
use Rattle.outline.specs.Weight.{steadied_of}
use Rattle.outline.specs.Within.{inside, outside}
use Rattle.weight.proofs.stability.run_after.Statement.{statement}
use Rattle.weight.proofs.stability.run_after.Tie as tie

abbrev change_of : tie.After-magnitude-change → ℤ
change_of c = c.before.before.args.raw -ℤ c.before.before.args.last

change : (c : tie.After-magnitude-change) → c.magnitude-change.result ≡ nat_abs (change_of c)
change c =
    let s = c.before.before in
    cc (to_z-of_z s.ranges.raw, to_z-of_z s.ranges.last, (got {w = w64} c.difference.result c.difference.type_inv).read)

one_more_lem : (a b : ℕ) → a < b → min (suc a) b ≡ a + 1
one_more_lem a b h = omega arith

no_more : (a b : ℕ) → b ≤ a → min (suc a) b ≡ b
no_more a b h = omega arith

difference-requires : tie.Need-difference-requires
difference-requires c κs = search rules

magnitude-change-requires : tie.Need-magnitude-change-requires
magnitude-change-requires c κs = search rules

overflow_cast-rule : tie.Need-overflow_cast-rule
overflow_cast-rule c = search rules

overflow_mul-rule : tie.Need-overflow_mul-rule
overflow_mul-rule c = search rules

overflow_add-result : tie.Need-overflow_add-result
overflow_add-result c = search rules

returns-then-q-rule : tie.Need-returns-then-q-rule
unfolding steadied_of
returns-then-q-rule c =
    let t = c.before.before.before.before in
    let m = t.before.before.before in
    simp (t.if-q.true, inside _ (change_of m) (change m) t.if-change-rule.true, one_more_lem _ _ c.if-q-rule.true)

returns-then-change-rule : tie.Need-returns-then-change-rule
unfolding steadied_of
returns-then-change-rule c =
    let t = c.before.before.before in
    let m = t.before.before.before in
    simp (t.if-q.true, inside _ (change_of m) (change m) t.if-change-rule.true, no_more _ _ c.if-q-rule.false)

returns-else-change-rule : tie.Need-returns-else-change-rule
unfolding steadied_of
returns-else-change-rule c =
    let m = c.before.before.before in
    simp (c.if-q.true, outside _ (change_of m) (change m) c.if-change-rule.false)

returns-else-q : tie.Need-returns-else-q
unfolding steadied_of
returns-else-q c = simp c.if-q.false

pub run_after_spec : {M : Type 1} → statement M
run_after_spec =
    tie.close
    (tie.spec
    difference-requires
    magnitude-change-requires
    overflow_cast-rule
    overflow_mul-rule
    overflow_add-result
    returns-then-q-rule
    returns-then-change-rule
    returns-else-change-rule
    returns-else-q)
