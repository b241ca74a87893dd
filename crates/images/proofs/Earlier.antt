-- An earlier image grows to the image of its state, in which nothing waits; and each possible state in which nothing waits has an earlier
-- image. Assumes nothing.
use Prim.Native.Nat.{ℕ, suc, ◌+◌, ◌-◌, ◌≤◌, min}
use native.Mathlib.Omega.{arith}
use mathlib.Core.Path.{◌≡◌, refl, sym, ap, ◌∙◌}
use mathlib.Core.Bool.{Bool, true, false, cond, ◌||◌}
use mathlib.Core.List.{List, [], ◌∷◌, ◌++◌}
use lib.Dec.{T, eqb, ltb, leb, leb→le, le→leb}
use lib.Ieee.Fits.{and_l, and_r, and_i}
use lib.ListN.{length, get_or, take, drop, replicate, length-take, length-drop, take-append-drop}
use lib.Seq.{get_or-drop}
use borrow.Author.Tests.{eqb-true}
use Rattle.places.specs.Places.{Place, put_all, tidy, unused, same_bytes}
use Rattle.places.proofs.Numbers.{same_yes, same_self, pad_get}
use Rattle.places.proofs.Layouts.{or_r, put_unused}
use Rattle.places.proofs.Anew.{part_anew}
use Rattle.types.specs.declared.machine.State.{State}
use Rattle.outline.specs.Setpoints.{none_waiting}
use Rattle.outline.specs.Tick.{open_state}
use Rattle.images.specs.StateImage.{state_length, earlier_length, grown_of, state_rows, book_rows, book_numbers, stability_rows, stability_numbers, weighing_rows, weighing_numbers, panel_rows, panel_numbers, setpoint_rows, setpoint_numbers, sequence_rows, sequence_numbers, totals_rows, totals_numbers, waiting_rows, waiting_numbers, put_state, image_of, state_at}
use Rattle.images.specs.Holds.{HeldState}
use Rattle.images.specs.Images.{state_refusal, state_in, earlier_refusal}
use Rattle.images.specs.Owed.{Grows, Earlier, EarlierRead}
use Rattle.images.proofs.Alike.{state_alike, none_behind}
use Rattle.images.proofs.Buffers.{grown_alike, grown_length}
use Rattle.images.proofs.Tests.{earlier_same}
use Rattle.images.proofs.Trip.{none, image_state, image_length}
use Rattle.images.proofs.InPlace.{blank, open_image_lem}
use Rattle.images.proofs.Decided.{range_of}
use Rattle.images.proofs.Bounds.{range_held}

-- ---- an earlier image that is not refused
pub passes : (e : List ℕ) → earlier_refusal e ≡ 0 → (length e ≡ earlier_length) × (image_of (state_at e) ≡ grown_of e)
unfolding earlier_refusal
passes e = go (eqb (length e) earlier_length) (same_bytes (image_of (state_at e)) (grown_of e)) refl refl
  where
    go : (a b : Bool) → eqb (length e) earlier_length ≡ a → same_bytes (image_of (state_at e)) (grown_of e) ≡ b → ◌≡◌ {A = ℕ} (cond a (cond b 0 21) 20) 0
        → (length e ≡ earlier_length) × (image_of (state_at e) ≡ grown_of e)
    go true true n s h = (eqb-true (length e) earlier_length n, same_yes (image_of (state_at e)) (grown_of e) s)
    go true false n s h = absurd (omega arith)
    go false b n s h = absurd (omega arith)

pub grows : Grows
unfolding state_in
grows g e z p =
    let k = passes e z in
    let st = state_alike (grown_of e) e (grown_alike e) in
    let same = ap (λ (l : List ℕ). same_bytes l (grown_of e)) k.1 ∙ same_self (grown_of e) in
    record {
      image =
          (λ i. record { refusal = state_refusal g (grown_of e) (st i); state = st i })
          ∙ (λ i. record { refusal = none g (grown_of e) (state_at e) (grown_length e k.0) p same i; state = state_at e });
      none = none_behind e (omega (arith, k.0));
    }

-- ---- the image of a state in which nothing waits, less the bytes that earlier ones lacked
-- a byte behind all places is in none of them
behind_all : (ps : List Place) (from k : ℕ) → T (tidy from k ps) → (i : ℕ) → k ≤ i → (from ≤ k) × T (unused ps i)
behind_all [] from k t i h = (leb→le from k t, tt)
behind_all (p ∷ ps) from k t i h =
    let r = behind_all ps (p.at + p.bytes) k (and_r (leb from p.at) (tidy (p.at + p.bytes) k ps) t) i h in
    let a = leb→le from p.at (and_l (leb from p.at) (tidy (p.at + p.bytes) k ps) t) in
    let b = r.0 in
    let behind : p.at + p.bytes ≤ i = omega arith in
    (omega arith, and_i (ltb i p.at || leb (p.at + p.bytes) i) (unused ps i) (or_r (ltb i p.at) (leb (p.at + p.bytes) i) (le→leb (p.at + p.bytes) i behind)) r.1)

-- a list whose bytes are all 0
all_zero : (l : List ℕ) → ((i : ℕ) → get_or l i 0 ≡ 0) → l ≡ replicate (length l) 0
all_zero [] f = refl
all_zero (x ∷ l) f = λ i. f 0 i ∷ all_zero l (λ j. f (suc j)) i

-- the rows of an earlier image, and the numbers that a state has for them
abbrev rows : List Place
rows = book_rows ++ stability_rows ++ weighing_rows ++ panel_rows ++ setpoint_rows ++ sequence_rows ++ totals_rows

abbrev numbers : State → List ℕ
numbers st =
    book_numbers st.book ++ stability_numbers st.stability ++ weighing_numbers st.weighing ++ panel_numbers st.panel
    ++ setpoint_numbers st.setpoints ++ sequence_numbers st.sequence ++ totals_numbers st.totals

module _ (st : State) (h : HeldState st) (w : st.waiting ≡ none_waiting) where
  abbrev e : List ℕ
  e = take earlier_length (image_of st)

  -- the rows of what waits leave the opening's bytes, all 0, as they are
  of_rows : image_of st ≡ put_all rows (numbers st) blank
  unfolding image_of put_state open_state
  of_rows =
      (λ i. put_all state_rows (numbers st ++ waiting_numbers (w i)) blank)
      ∙ sym (part_anew state_length [] rows waiting_rows [] (numbers open_state) (numbers st) (waiting_numbers none_waiting) blank 0 0 tt tt refl refl refl)
      ∙ ap (put_all rows (numbers st)) open_image_lem

  zero_behind : (i : ℕ) → earlier_length ≤ i → get_or (image_of st) i 0 ≡ 0
  zero_behind i k =
      ap (λ (l : List ℕ). get_or l i 0) of_rows ∙ put_unused rows (numbers st) blank i (behind_all rows 0 earlier_length tt i k).1 ∙ pad_get [] state_length i

  grown : grown_of e ≡ image_of st
  unfolding grown_of
  grown =
      let d = drop earlier_length (image_of st) in
      let n : length d ≡ 32 = length-drop earlier_length (image_of st) ∙ ap (λ (k : ℕ). k - earlier_length) (image_length st) in
      let z = all_zero d (λ i. get_or-drop earlier_length (image_of st) i 0 ∙ zero_behind (earlier_length + i) (omega arith)) ∙ ap (λ (k : ℕ). replicate k 0) n in
      ap (λ (x : List ℕ). e ++ x) (sym z) ∙ take-append-drop earlier_length (image_of st)

  earlier : Earlier st
  earlier =
      let n : length e ≡ earlier_length = length-take earlier_length (image_of st) ∙ ap (min earlier_length) (image_length st) in
      let s : state_at e ≡ st = sym (state_alike (grown_of e) e (grown_alike e)) ∙ ap state_at grown ∙ image_state st h in
      record {
        refusal = sym (earlier_same e n ((λ i. same_bytes (image_of (s i)) (grown i)) ∙ same_self (image_of st)));
        state = s;
        grown = grown;
      }

pub earlier_read : EarlierRead
earlier_read g s a st p w = earlier st (range_held s (g, a) st (range_of s st p)) w
