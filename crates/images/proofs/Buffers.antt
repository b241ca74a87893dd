-- A buffer of an image's own length, one of an earlier image's, and one of any other. Assumes nothing.
use Rattle.std.specs.Prelude.{Option, None, Some, ℕ, pos}
use Rattle.std.specs.Int.{w32, w64}
use Rattle.std.specs.Bool.{then_some}
use Rattle.types.specs.declared.weight.Display.TheVariants.{Gross}
use Rattle.types.specs.declared.stages.Stage.TheVariants.{Idle}
use Prim.Native.Nat.{ℕ, zero, suc, ◌+◌, ◌*◌, ◌≤◌, ◌<◌}
use native.Mathlib.Omega.{arith}
use mathlib.Core.Path.{◌≡◌, refl, sym, ap, ◌∙◌}
use mathlib.Core.List.{List, []}
use mathlib.Core.Bool.{Bool, true, false, cond, ◌||◌}
use mathlib.Core.Logic.{◌⊎◌, inl, inr}
use lib.Dec.{eqb}
use lib.ListN.{length, replicate, length-append}
use borrow.Author.Tests.{eqb-true, eq-eqb, ne_eqb, le-leb, lt-leb}
use Rattle.types.specs.declared.stages.SequenceError.TheVariants as error
use Rattle.types.specs.declared.stages.Judgement.TheVariants as judgement
use Rattle.types.specs.declared.stages.Setpoints.{Setpoints}
use Rattle.types.specs.declared.machine.State.{State}
use Rattle.outline.specs.Settings.{settings_of}
use Rattle.outline.proofs.Parts.{clash}
use Rattle.places.specs.Places.{Place, be_at, put_all, signed, flag_of}
use Rattle.places.proofs.Numbers.{pad_get}
use Rattle.images.specs.StateImage.{state_length, earlier_length, grown_of, state_at, display_of, stage_of, error_of, judgement_of, back_of, write_of}
use Rattle.images.specs.GivenImage.{given_length, given_at}
use Rattle.images.specs.Possible.{possible}
use Rattle.images.specs.Buffers.{bytes_of, bytes_from, is_image, filled, put_part, possible_in}
use Rattle.images.proofs.Alike.{Alike, none_behind}

module _ (n : ℕ) (l : List ℕ) where
  pub of_length : length l ≡ n → bytes_of n l ≡ l
  unfolding bytes_of
  of_length e = simp (eq-eqb (length l) n e)

  pub of_other : (length l ≡ n → ⊥) → bytes_of n l ≡ []
  unfolding bytes_of
  of_other e = simp (ne_eqb (length l) n e)

module _ (l : List ℕ) where
  pub of_long : earlier_length ≤ length l → bytes_from l ≡ l
  unfolding bytes_from
  of_long h = simp (le-leb earlier_length (length l) h)

  pub of_short : length l < earlier_length → bytes_from l ≡ []
  unfolding bytes_from
  of_short h = simp (lt-leb earlier_length (length l) h)

-- nothing stands where there is no byte
pub be_none : (n at : ℕ) → be_at n [] at ≡ 0
unfolding be_at
be_none zero at = refl
be_none (suc n) at = λ i. be_none n at i * 256 + 0

-- and so 0, no, or the first name is read there
pub flag_none : flag_of 0 ≡ false
unfolding flag_of
flag_none = refl

pub narrow_none : signed w32 0 ≡ pos 0
unfolding signed
narrow_none = refl

pub broad_none : signed w64 0 ≡ pos 0
unfolding signed
broad_none = refl

pub display_none : display_of 0 ≡ Gross
unfolding display_of
display_none = refl

pub stage_none : (t : ℕ) → stage_of 0 t ≡ Idle
unfolding stage_of
stage_none t = refl

pub error_none : error_of 0 ≡ error.None
unfolding error_of
error_none = refl

pub judgement_none : judgement_of 0 ≡ judgement.None
unfolding judgement_of
judgement_none = refl

pub back_none : (v : ℕ) → back_of 0 v ≡ None
unfolding back_of
back_none v = refl

pub write_none : (p : Setpoints) → write_of 0 p ≡ None
unfolding write_of
write_none p = refl

-- a value that is there where a flag says so
pub back_some : (n v : ℕ) → back_of n v ≡ then_some (flag_of n) v
unfolding back_of flag_of
back_some n v = go (eqb n 1)
  where
    go : (t : Bool) → cond t (Some v) None ≡ then_some t v
    go true = refl
    go false = refl

pub write_some : (n : ℕ) (p : Setpoints) → write_of n p ≡ then_some (flag_of n) p
unfolding write_of flag_of
write_some n p = go (eqb n 1)
  where
    go : (t : Bool) → cond t (Some p) None ≡ then_some t p
    go true = refl
    go false = refl

pub ruleset reads = (of_long, of_short, of_length, of_other, be_none, flag_none, narrow_none, broad_none, display_none, stage_none, error_none, judgement_none, back_none, write_none, back_some, write_some)

-- what an image grows to reads as it does
pub grown_alike : (e : List ℕ) → Alike (grown_of e) e
unfolding grown_of
grown_alike e = pad_get e 32

pub grown_length : (e : List ℕ) → length e ≡ earlier_length → length (grown_of e) ≡ state_length
unfolding grown_of
grown_length e n = length-append e (replicate 32 0) ∙ ap (λ (k : ℕ). k + 32) n

module _ (l : List ℕ) where
  pub filled_alike : Alike (filled l) l
  unfolding filled
  filled_alike = go (eqb (length l) earlier_length)
    where
      go : (t : Bool) → Alike (cond t (grown_of l) l) l
      go true = grown_alike l
      go false = λ i. refl

  pub filled_state : length l ≡ state_length → filled l ≡ l
  unfolding filled
  filled_state n = simp (ne_eqb (length l) earlier_length (λ m. omega (arith, n, m)))

  pub filled_earlier : length l ≡ earlier_length → filled l ≡ grown_of l
  unfolding filled
  filled_earlier n = simp (eq-eqb (length l) earlier_length n)

-- ---- an image of either length
either_length : (n : ℕ) → is_image n ≡ true → (n ≡ state_length) ⊎ (n ≡ earlier_length)
either_length n = go (eqb n state_length) (eqb n earlier_length) refl refl
  where
    go : (a b : Bool) → eqb n state_length ≡ a → eqb n earlier_length ≡ b → a || b ≡ true → (n ≡ state_length) ⊎ (n ≡ earlier_length)
    go true b e f h = inl (eqb-true n state_length e)
    go false true e f h = inr (eqb-true n earlier_length f)
    go false false e f h = absurd (clash h refl)

module _ (l : List ℕ) (k : is_image (length l) ≡ true) where
  pub long : earlier_length ≤ length l
  long = go (either_length (length l) k)
    where
      go : (length l ≡ state_length) ⊎ (length l ≡ earlier_length) → earlier_length ≤ length l
      go (inl e) = omega (arith, e)
      go (inr e) = omega (arith, e)

  -- a part as it was read
  pub part_here : {A : Type 0} (f : State → A) {r : A} → r ≡ f (state_at (bytes_from l)) → r ≡ f (state_at l)
  part_here f e = e ∙ ap (λ (b : List ℕ). f (state_at b)) (of_long l long)

  pub waiting_here : {w : Option Setpoints} → w ≡ (state_at (bytes_of state_length l)).waiting → w ≡ (state_at l).waiting
  waiting_here {w} e = e ∙ go (either_length (length l) k)
    where
      go : (length l ≡ state_length) ⊎ (length l ≡ earlier_length) → (state_at (bytes_of state_length l)).waiting ≡ (state_at l).waiting
      go (inl n) = ap (λ (b : List ℕ). (state_at b).waiting) (of_length state_length l n)
      go (inr n) =
          ap (λ (b : List ℕ). (state_at b).waiting) (of_other state_length l (λ m. omega (arith, n, m)))
          ∙ none_behind [] (omega arith) ∙ sym (none_behind l (omega (arith, n)))

  pub filled_length : length (filled l) ≡ state_length
  filled_length = go (either_length (length l) k)
    where
      go : (length l ≡ state_length) ⊎ (length l ≡ earlier_length) → length (filled l) ≡ state_length
      go (inl n) = ap length (filled_state l n) ∙ n
      go (inr n) = ap length (filled_earlier l n) ∙ grown_length l n

module _ (rows : List Place) (numbers l : List ℕ) where
  pub put_here : length l ≡ state_length → put_part rows numbers l ≡ put_all rows numbers l
  unfolding put_part
  put_here e = simp (eq-eqb (length l) state_length e)

  pub put_nowhere : (length l ≡ state_length → ⊥) → put_part rows numbers l ≡ l
  unfolding put_part
  put_nowhere e = simp (ne_eqb (length l) state_length e)

module _ (g s : List ℕ) where
  pub possible_here : length g ≡ given_length → is_image (length s) ≡ true → possible_in g s ≡ possible (settings_of (given_at g)) (state_at s)
  unfolding possible_in
  possible_here e f = simp (eq-eqb (length g) given_length e, f)

  pub possible_no_settings : (length g ≡ given_length → ⊥) → possible_in g s ≡ false
  unfolding possible_in
  possible_no_settings e = simp (ne_eqb (length g) given_length e)

  pub possible_no_state : length g ≡ given_length → is_image (length s) ≡ false → possible_in g s ≡ false
  unfolding possible_in
  possible_no_state e f = simp (eq-eqb (length g) given_length e, f)
