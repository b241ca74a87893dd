-- A chain of tests that ends early, and what an image is refused for, test by test. Assumes nothing.
use Rattle.std.specs.Prelude.{ℕ, Option, None, Some}
use Rattle.std.specs.Option.{is_some}
use Rattle.types.specs.declared.stages.Setpoints.{Setpoints}
use Prim.Native.Nat.{ℕ, ◌+◌, ◌*◌}
use mathlib.Core.Path.{◌≡◌, refl, sym, ap, ◌∙◌}
use mathlib.Core.Bool.{Bool, true, false, cond, ◌&&◌, ◌||◌}
use mathlib.Core.List.{List, [], ◌∷◌}
use lib.Dec.{eqb, leb}
use lib.ListN.{length}
use lib.IntN.{pos, nat_abs, ◌+ℤ◌}
use borrow.Author.Tests.{eq-eqb, eqb-true, ne_eqb}
use Rattle.whole.specs.Ints.{eq_z}
use Rattle.whole.specs.Chains.{links}
use Rattle.places.specs.Places.{same_bytes}
use Rattle.types.specs.declared.settings.Given.{Given}
use Rattle.types.specs.declared.settings.Settings.{Settings}
use Rattle.types.specs.declared.daybook.Book.{Book}
use Rattle.types.specs.declared.machine.State.{State}
use Rattle.outline.specs.Limits.{raw_limit, rise_limit, day_ticks}
use Rattle.outline.specs.Setpoints.{setpoints_fit}
use Rattle.outline.specs.Kinds.{is_write}
use Rattle.outline.specs.Ranges.{write_fits}
use Rattle.outline.proofs.Parts.{clash}
use Rattle.images.specs.StateImage.{state_length, earlier_length, image_of, state_at, grown_of}
use Rattle.images.specs.GivenImage.{given_length, given_image, given_refusal}
use Rattle.images.specs.Possible.{blank_book, balances, book_possible, stability_possible, weighing_possible, sequence_possible, totals_possible, together_possible, rest_possible, possible}
use Rattle.images.specs.Images.{bytes_refusal, earlier_refusal}
use Rattle.images.specs.Buffers.{filled}
use Rattle.images.proofs.Buffers.{filled_state, filled_earlier}

-- ---- the day book: two tests are asked first, since the others' sums need them
no : (t : Bool) → (t ≡ true → ⊥) → false ≡ t
no true n = absurd (n refl)
no false n = refl

module _ (b : Book) where
  abbrev tests : List Bool
  tests =
      leb (nat_abs b.opening) raw_limit ∷ leb (nat_abs b.last) raw_limit ∷ leb (nat_abs b.refilled + nat_abs b.used) (rise_limit * b.ticks)
      ∷ leb (nat_abs (b.unbooked +ℤ b.last)) raw_limit ∷ (leb day_ticks b.ticks || eq_z b.unbooked (pos 0)) ∷ (b.begun || blank_book b)
      ∷ balances b ∷ []

  pub book_sums : leb (nat_abs b.refilled + nat_abs b.used) (rise_limit * b.ticks) ≡ false → false ≡ book_possible b
  unfolding book_possible
  book_sums e = no _ (λ h. clash (links (leb b.ticks day_ticks) tests h).1.1.1.0 e)

  pub book_fall : leb (nat_abs (b.unbooked +ℤ b.last)) raw_limit ≡ false → false ≡ book_possible b
  unfolding book_possible
  book_fall e = no _ (λ h. clash (links (leb b.ticks day_ticks) tests h).1.1.1.1.0 e)

  passed : (x s f d e h : Bool) → s ≡ true → f ≡ true → x && d && e && h ≡ x && s && f && d && e && h
  passed true true true d e h p q = refl
  passed true true false d e h p q = absurd (clash q refl)
  passed true false f d e h p q = absurd (clash p refl)
  passed false s f d e h p q = refl

  pub book_rest : leb (nat_abs b.refilled + nat_abs b.used) (rise_limit * b.ticks) ≡ true → leb (nat_abs (b.unbooked +ℤ b.last)) raw_limit ≡ true
      → leb b.ticks day_ticks && leb (nat_abs b.opening) raw_limit && leb (nat_abs b.last) raw_limit
      && (leb day_ticks b.ticks || eq_z b.unbooked (pos 0)) && (b.begun || blank_book b) && balances b
      ≡ book_possible b
  unfolding book_possible
  book_rest p q = passed (leb b.ticks day_ticks && leb (nat_abs b.opening) raw_limit && leb (nat_abs b.last) raw_limit) _ _ _ _ _ p q

-- ---- a state: the day book, the totals, the weighing and what waits are asked first, and one that is not possible ends the test
module _ (s : Settings) (st : State) where
  abbrev parts : List Bool
  parts =
      stability_possible s.steadiness st.stability ∷ weighing_possible s.range s.tracking st.weighing
      ∷ setpoints_fit s.batching.mode st.setpoints ∷ sequence_possible s.batching st.sequence ∷ totals_possible st.totals
      ∷ write_fits s.batching.mode st.waiting ∷ together_possible s st ∷ []

  pub not_book : book_possible st.book ≡ false → false ≡ possible s st
  unfolding possible
  not_book e = no _ (λ h. clash (links (book_possible st.book) parts h).0 e)

  pub not_weighing : weighing_possible s.range s.tracking st.weighing ≡ false → false ≡ possible s st
  unfolding possible
  not_weighing e = no _ (λ h. clash (links (book_possible st.book) parts h).1.1.0 e)

  pub not_totals : totals_possible st.totals ≡ false → false ≡ possible s st
  unfolding possible
  not_totals e = no _ (λ h. clash (links (book_possible st.book) parts h).1.1.1.1.1.0 e)

  pub not_waiting : write_fits s.batching.mode st.waiting ≡ false → false ≡ possible s st
  unfolding possible
  not_waiting e = no _ (λ h. clash (links (book_possible st.book) parts h).1.1.1.1.1.1.0 e)

  four : (q p x g : Bool) → q && p && x && g ≡ true && q && true && p && x && true && true && g
  four false p x g = refl
  four true false x g = refl
  four true true false g = refl
  four true true true g = refl

  pub rest : book_possible st.book ≡ true → totals_possible st.totals ≡ true → weighing_possible s.range s.tracking st.weighing ≡ true
      → write_fits s.batching.mode st.waiting ≡ true
      → rest_possible s st.stability st.setpoints st.sequence st.book.begun st.weighing.counter (is_write st.waiting) ≡ possible s st
  unfolding possible rest_possible
  rest b t w v =
      let q = stability_possible s.steadiness st.stability in
      let p = setpoints_fit s.batching.mode st.setpoints in
      let x = sequence_possible s.batching st.sequence in
      let g = together_possible s st in
      four q p x g ∙ (λ i. sym b i && q && sym w i && p && x && sym t i && sym v i && g)

-- setpoints wait, or none do
pub write_is : (w : Option Setpoints) → is_some w ≡ is_write w
write_is None = refl
write_is (Some p) = refl

-- ---- a settings image
module _ (l : List ℕ) (g : Given) where
  pub given_length_lem : (length l ≡ given_length → ⊥) → 20 ≡ given_refusal l g
  unfolding given_refusal
  given_length_lem n = simp (ne_eqb (length l) given_length n)

  pub given_bytes : length l ≡ given_length → same_bytes (given_image g) l ≡ false → 21 ≡ given_refusal l g
  unfolding given_refusal
  given_bytes n s = simp (eq-eqb (length l) given_length n, s)

  pub given_good : length l ≡ given_length → same_bytes (given_image g) l ≡ true → 0 ≡ given_refusal l g
  unfolding given_refusal
  given_good n s = simp (eq-eqb (length l) given_length n, s)

-- ---- the bytes of a state image, and of an earlier one: the one test of both, and why it passes
abbrev pub filled_refusal : ℕ → List ℕ → ℕ
filled_refusal n l = cond (eqb (length l) n) (cond (same_bytes (image_of (state_at l)) (filled l)) 0 21) 20

by_length : (t : Bool) (a b : ℕ) → (t ≡ true → a ≡ b) → ◌≡◌ {A = ℕ} (cond t a 20) (cond t b 20)
by_length true a b f = f refl
by_length false a b f = refl

module _ (l : List ℕ) where
  by_bytes : (m : List ℕ) → filled l ≡ m → ◌≡◌ {A = ℕ} (cond (same_bytes (image_of (state_at l)) (filled l)) 0 21) (cond (same_bytes (image_of (state_at l)) m) 0 21)
  by_bytes m e = ap (λ (x : List ℕ). cond (same_bytes (image_of (state_at l)) x) 0 21) e

  pub state_bytes : filled_refusal state_length l ≡ bytes_refusal l
  unfolding bytes_refusal
  state_bytes = by_length (eqb (length l) state_length) _ _ (λ n. by_bytes l (filled_state l (eqb-true (length l) state_length n)))

  pub earlier_bytes : filled_refusal earlier_length l ≡ earlier_refusal l
  unfolding earlier_refusal
  earlier_bytes = by_length (eqb (length l) earlier_length) _ _ (λ n. by_bytes (grown_of l) (filled_earlier l (eqb-true (length l) earlier_length n)))

  pub earlier_same : length l ≡ earlier_length → same_bytes (image_of (state_at l)) (grown_of l) ≡ true → 0 ≡ earlier_refusal l
  unfolding earlier_refusal
  earlier_same n s = simp (eq-eqb (length l) earlier_length n, s)
