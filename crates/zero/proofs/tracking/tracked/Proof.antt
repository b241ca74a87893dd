-- Each way through the tests is one case of the definition. A calm tick's fine weight is within the width, which a u8 holds.
use borrow.Author.Rules.{rules}
use borrow.Author.Tests.{leb-true}
use mathlib.Core.Path.{◌≡◌, sym, ◌∙◌}
use mathlib.Core.Bool.{Bool, true, false, not, ◌&&◌}
use Prim.Native.Nat.{◌≤◌}
use native.Mathlib.Omega.{arith}
use lib.IntN.{nat_abs}
use Rattle.whole.specs.Chains.{and_right}
use Rattle.types.specs.declared.settings.Tracking.{Tracking}
use Rattle.types.specs.declared.weight.Weights.{Weights}
use Rattle.outline.specs.Weight.{fit_of}
use Rattle.outline.specs.Zero.{tracking_on, calm_of, tracked_of}
use Rattle.zero.proofs.tracking.tracked.Statement.{statement}
use Rattle.zero.proofs.tracking.tracked.Tie as tie

calm_small : (t : Tracking) (idle keyed : Bool) (x : Weights) → calm_of t idle keyed x ≡ true → nat_abs x.fine ≤ t.width
calm_small t idle keyed x e = leb-true (nat_abs x.fine) t.width (and_right (fit_of x && idle && not keyed && not x.contact) _ e)

width_small : (s : tie.Start) → s.args.s.tracking.width ≤ 255
width_small s = omega arith

off : (c : tie.Then-not-is_tracking) → tracking_on c.args.s.tracking ≡ false
off c = sym c.is_tracking.ensures ∙ c.if-not-is_tracking.true

on : (c : tie.Else-not-is_tracking) → tracking_on c.args.s.tracking ≡ true
on c = sym c.is_tracking.ensures ∙ c.if-not-is_tracking.false

is_tracking-requires : tie.Need-is_tracking-requires
is_tracking-requires c κs = search rules

returns-then-not-is_tracking : tie.Need-returns-then-not-is_tracking
unfolding tracked_of
returns-then-not-is_tracking c = simp (off c)

is_calm-requires : tie.Need-is_calm-requires
is_calm-requires c κs = search rules

counted_up-requires : tie.Need-counted_up-requires
counted_up-requires c κs =
    let s = c.before.before.before.before in
    let a = s.args in
    omega (arith, width_small s.before.before, calm_small a.s.tracking a.idle a.keyed a.x (sym c.is_calm.ensures ∙ c.if-is_calm.true))

returns-then-is_calm : tie.Need-returns-then-is_calm
unfolding tracked_of
returns-then-is_calm c =
    let m = c.before.before in
    simp (c.counted_up.ensures, on m.before.before, sym m.is_calm.ensures ∙ c.if-is_calm.true)

returns : tie.Need-returns
unfolding tracked_of
returns c = simp (on c.before.before.before, sym c.is_calm.ensures ∙ c.if-is_calm.false)

pub tracked_spec : {M : Type 1} → statement M
tracked_spec =
    tie.close
    (tie.spec
    is_tracking-requires
    returns-then-not-is_tracking
    is_calm-requires
    counted_up-requires
    returns-then-is_calm
    returns)
