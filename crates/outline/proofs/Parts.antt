-- Small laws of tests, choices and whole numbers, for the proofs over runs: what a tick does to one part of the state, whatever it does
-- to the others. Assumes nothing.
use Rattle.std.specs.Prelude.{Err, ℤ}
use mathlib.Core.Path.{◌≡◌, refl, sym, ◌∙◌, subst}
use mathlib.Core.Bool.{Bool, true, false, cond, not, ◌&&◌}
use mathlib.Core.List.{List, [], ◌∷◌}
use lib.Dec.{T}
use lib.IntN.{ℤ, pos, ◌+ℤ◌}
use Rattle.whole.specs.Ints.{ints, linear, int_elim}
use Rattle.outline.specs.Requests.{Row, first_of, done_of}

pub cond_same : {A : Type 0} (t : Bool) (a : A) → cond t a a ≡ a
cond_same true a = refl
cond_same false a = refl

pub cond_turned : {A : Type 0} (t : Bool) (a b : A) → cond t a b ≡ cond (not t) b a
cond_turned true a b = refl
cond_turned false a b = refl

-- what holds of both holds of the one chosen
pub cond_in : {A : Type 0} (P : A → Type 0) (t : Bool) {a b : A} → (t ≡ true → P a) → (t ≡ false → P b) → P (cond t a b)
cond_in P true p q = p refl
cond_in P false p q = q refl

pub and_no : (t : Bool) → t && false ≡ false
and_no true = refl
and_no false = refl

pub and_yes : (t : Bool) → t && true ≡ t
and_yes true = refl
and_yes false = refl

pub clash : {t : Bool} → t ≡ true → t ≡ false → ⊥
clash p q = subst T (sym p ∙ q) tt

pub plus_nought : (a : ℤ) → a +ℤ pos 0 ≡ a
plus_nought = int_elim _ (λ a a'. simp ints (omega linear))

pub nought_plus : (a : ℤ) → pos 0 +ℤ a ≡ a
nought_plus = int_elim _ (λ a a'. simp ints (omega linear))

-- an accepted request: none of its rows applies
abbrev pub NoneApplies : List Row → Type 0
NoneApplies [] = Unit {0}
NoneApplies (r ∷ rs) = (r.applies ≡ false) × NoneApplies rs

pub none_applies : (rs : List Row) → done_of (first_of rs) ≡ true → NoneApplies rs
none_applies [] e = tt
none_applies (r ∷ rs) e = go r.applies refl (none_applies rs) e
  where
    go : (t : Bool) → r.applies ≡ t → (done_of (first_of rs) ≡ true → NoneApplies rs) → done_of (cond t (Err r.number) (first_of rs)) ≡ true
        → (r.applies ≡ false) × NoneApplies rs
    go true p rest e = absurd (clash e refl)
    go false p rest e = (p, rest e)
