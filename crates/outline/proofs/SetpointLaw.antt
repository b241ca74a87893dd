-- Accepted setpoints are exactly those of the rules. Assumes nothing.
use Prim.Native.Nat.{ℕ, ◌<◌, ◌≤◌}
use mathlib.Core.Path.{◌≡◌, refl}
use mathlib.Core.Bool.{Bool, true, ◌&&◌, ◌||◌}
use mathlib.Core.List.{List, [], ◌∷◌}
use mathlib.Core.Logic.{◌⊎◌, inl, inr, ⊎_elim}
use native.Mathlib.Omega.{arith}
use lib.Dec.{leb, ltb, eqb}
use borrow.Author.Tests.{leb-true, le-leb, ltb-true, lt-ltb, eqb-true, eq-eqb}
use Rattle.types.specs.declared.settings.Mode.{Mode}
use Rattle.types.specs.declared.settings.Mode.TheVariants as mode
use Rattle.types.specs.declared.stages.Setpoints.{Setpoints}
use Rattle.outline.specs.Limits.{setpoint_limit}
use Rattle.outline.specs.Setpoints.{seven_fit, fall_fits, preliminary_fits, optional_fits, setpoints_fit}
use Rattle.outline.specs.Owed.{Kept, SetpointLaw}
use Rattle.whole.specs.Chains.{links, linked, or_either, or_first, or_second}

-- a rule "0, or more": the test and the fact
module _ (z r : Bool) {Z R : Type 0} where
  rule : (z ≡ true → Z) → (r ≡ true → R) → z || r ≡ true → Z ⊎ R
  rule f g h = ⊎_elim (λ e. inl (f e)) (λ e. inr (g e)) (or_either z r h)

  rule_back : (Z → z ≡ true) → (R → r ≡ true) → Z ⊎ R → z || r ≡ true
  rule_back f g = ⊎_elim (λ e. or_first z r (f e)) (λ e. or_second z r (g e))

module _ (p : Setpoints) where
  -- P
  above : ltb p.fall p.preliminary && leb p.preliminary p.target ≡ true → (p.fall < p.preliminary) × (p.preliminary ≤ p.target)
  above h =
      let l = links (ltb p.fall p.preliminary) (leb p.preliminary p.target ∷ []) h in
      (ltb-true p.fall p.preliminary l.0, leb-true p.preliminary p.target l.1.0)

  above_back : (p.fall < p.preliminary) × (p.preliminary ≤ p.target) → ltb p.fall p.preliminary && leb p.preliminary p.target ≡ true
  above_back r =
      linked (ltb p.fall p.preliminary) (leb p.preliminary p.target ∷ []) (lt-ltb p.fall p.preliminary r.0) (le-leb p.preliminary p.target r.1, tt)

  -- OP
  abbrev OpTests : Bool
  OpTests = ltb p.fall p.optional && ltb p.preliminary p.optional && leb p.optional p.target

  abbrev OpFacts : Type 0
  OpFacts = (p.fall < p.optional) × (p.preliminary < p.optional) × (p.optional ≤ p.target)

  above_both : OpTests ≡ true → OpFacts
  above_both h =
      let l = links (ltb p.fall p.optional) (ltb p.preliminary p.optional ∷ leb p.optional p.target ∷ []) h in
      (ltb-true p.fall p.optional l.0, ltb-true p.preliminary p.optional l.1.0, leb-true p.optional p.target l.1.1.0)

  above_both_back : OpFacts → OpTests ≡ true
  above_both_back r =
      linked (ltb p.fall p.optional) (ltb p.preliminary p.optional ∷ leb p.optional p.target ∷ [])
      (lt-ltb p.fall p.optional r.0) (lt-ltb p.preliminary p.optional r.1, (le-leb p.optional p.target r.2, tt))

optional_kept : (m : Mode) (p : Setpoints) → optional_fits m p ≡ true → m ≡ mode.Normal → (p.optional ≡ 0) ⊎ OpFacts p
optional_kept mode.Normal p h e = rule (eqb p.optional 0) (OpTests p) (eqb-true p.optional 0) (above_both p) h
optional_kept mode.Loss p h e = let z : ◌≡◌ {A = ℕ} 0 1 = cc in absurd (omega arith)

optional_fits_lem : (m : Mode) (p : Setpoints) → (m ≡ mode.Normal → (p.optional ≡ 0) ⊎ OpFacts p) → optional_fits m p ≡ true
optional_fits_lem mode.Normal p h = rule_back (eqb p.optional 0) (OpTests p) (eq-eqb p.optional 0) (above_both_back p) (h refl)
optional_fits_lem mode.Loss p h = refl

-- the seven numbers, each at most the limit
abbrev others : Setpoints → List Bool
others p =
    leb p.fall setpoint_limit ∷ leb p.preliminary setpoint_limit ∷ leb p.optional setpoint_limit ∷ leb p.over setpoint_limit
    ∷ leb p.under setpoint_limit ∷ leb p.near setpoint_limit ∷ []

kept : (m : Mode) (p : Setpoints) → setpoints_fit m p ≡ true → Kept m p
unfolding setpoints_fit
kept m p h =
    let r = links (seven_fit p) (fall_fits p ∷ preliminary_fits p ∷ optional_fits m p ∷ []) h in
    let n = links (leb p.target setpoint_limit) (others p) r.0 in
    record {
      target = leb-true p.target setpoint_limit n.0;
      fall = leb-true p.fall setpoint_limit n.1.0;
      preliminary = leb-true p.preliminary setpoint_limit n.1.1.0;
      optional = leb-true p.optional setpoint_limit n.1.1.1.0;
      over = leb-true p.over setpoint_limit n.1.1.1.1.0;
      under = leb-true p.under setpoint_limit n.1.1.1.1.1.0;
      near = leb-true p.near setpoint_limit n.1.1.1.1.1.1.0;
      fall_rule = leb-true p.fall p.target r.1.0;
      preliminary_rule =
          rule (eqb p.preliminary 0) (ltb p.fall p.preliminary && leb p.preliminary p.target) (eqb-true p.preliminary 0) (above p) r.1.1.0;
      optional_rule = optional_kept m p r.1.1.1.0;
    }

fitting : (m : Mode) (p : Setpoints) → Kept m p → setpoints_fit m p ≡ true
unfolding setpoints_fit
fitting m p k =
    let few : (n : ℕ) → n ≤ setpoint_limit → leb n setpoint_limit ≡ true = λ n h. le-leb n setpoint_limit h in
    let seven : seven_fit p ≡ true =
    linked (leb p.target setpoint_limit) (others p) (few p.target k.target)
    (few p.fall k.fall, (few p.preliminary k.preliminary, (few p.optional k.optional, (few p.over k.over, (few p.under k.under, (few p.near k.near, tt)))))) in
    linked (seven_fit p) (fall_fits p ∷ preliminary_fits p ∷ optional_fits m p ∷ []) seven (
      le-leb p.fall p.target k.fall_rule,
      (
        rule_back (eqb p.preliminary 0) (ltb p.fall p.preliminary && leb p.preliminary p.target) (eq-eqb p.preliminary 0) (above_back p) k.preliminary_rule,
        (
          optional_fits_lem m p k.optional_rule,
          tt,
        ),
      ),
    )

pub setpoint_law : SetpointLaw
setpoint_law m p = (kept m p, fitting m p)
