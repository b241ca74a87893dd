-- What a call is refused with, step by step. Assumes nothing.
use Rattle.std.specs.Prelude.{ℕ, List}
use native.Mathlib.Omega.{arith}
use mathlib.Core.Path.{◌≡◌, refl, sym, ap, ◌∙◌}
use mathlib.Core.Bool.{Bool, true, false, cond}
use lib.Dec.{eqb}
use lib.ListN.{length, replicate}
use borrow.Author.Tests.{eqb-true}
use Rattle.types.specs.declared.settings.Given.{Given}
use Rattle.outline.specs.Settings.{open_of}
use Rattle.outline.specs.Numbers.{opening_number}
use Rattle.outline.specs.Tick.{open_state}
use Rattle.images.proofs.InPlace.{open_holds}
use Rattle.places.specs.Places.{same_bytes}
use Rattle.images.specs.declared.refusals.ImageRefusal.TheVariants as image
use Rattle.images.specs.StateImage.{state_length, earlier_length, image_of, state_at, grown_of}
use Rattle.images.specs.Possible.{possible}
use Rattle.images.specs.Images.{state_refusal, bytes_refusal, earlier_refusal, state_in}
use Rattle.images.specs.GivenImage.{given_in}
use Rattle.board.specs.declared.CallRefusal.{CallRefusal}
use Rattle.board.specs.declared.CallRefusal.TheVariants.{Image, Settings as SettingsRefused, ShortBuffer, LongBlock}
use Rattle.board.specs.Board.{images_refusal, call_refusal, given_by, settings_by, state_by, refusal_by, length_refusal, earlier_by, grow_answer, open_answer, open_image, grow_image}
use Rattle.board.specs.Called.{refusal_number, image_refusal, judged_number}
use Rattle.places.specs.Places.{Bytes}
use Rattle.images.specs.Buffers.{is_image}
use Rattle.images.specs.Holds.{Holds}
use Rattle.images.proofs.Earlier.{passes as bytes_pass}
use Rattle.images.proofs.Trip.{one_image}
use Rattle.images.proofs.Read.{held_at}
use Rattle.board.proofs.Calls.{passes, none, earlier_passes}
use Rattle.board.proofs.Cases.{by_images, state_passes, given_passes, open_images, is_kept, is_done, length_passes}

-- a refusal has no 0
pub refused : (n : CallRefusal) → refusal_number n ≡ 0 → ⊥
refused (Image image.WrongLength) e = omega (arith, e)
refused (Image image.Impossible) e = omega (arith, e)
refused SettingsRefused e = omega (arith, e)
refused ShortBuffer e = omega (arith, e)
refused LongBlock e = omega (arith, e)

module _ (a b : ℕ) (g : Given) where
  late_ranges : (images_refusal a 0 ≡ 0 → ⊥) → images_refusal a 21 ≡ images_refusal a 0
  unfolding images_refusal
  late_ranges = go (eqb a 20) (eqb a 0)
    where
      go : (x z : Bool) → (◌≡◌ {A = ℕ} (cond x 20 (cond z 0 a)) 0 → ⊥) → ◌≡◌ {A = ℕ} (cond x 20 (cond z 21 a)) (cond x 20 (cond z 0 a))
      go true z h = refl
      go false true h = absurd (h refl)
      go false false h = refl

  first_same : (p : Bool) → (images_refusal a b ≡ 0 → ⊥) → images_refusal a (image_refusal b p) ≡ images_refusal a b
  unfolding image_refusal
  first_same p n = go (eqb b 0) p refl
    where
      go : (z p : Bool) → eqb b 0 ≡ z → images_refusal a (cond z (cond p 0 21) b) ≡ images_refusal a b
      go false p k = refl
      go true true k = ap (images_refusal a) (sym (eqb-true b 0 k))
      go true false k =
          let e = ap (images_refusal a) (eqb-true b 0 k) in
          late_ranges (λ h. n (e ∙ h)) ∙ sym e

  -- the lengths and the bytes come first
  pub judged_first : (n : CallRefusal) (p : Bool) → refusal_number n ≡ images_refusal a b → refusal_number n ≡ call_refusal a (image_refusal b p) g
  judged_first n p e =
      let some : images_refusal a b ≡ 0 → ⊥ = λ h. refused n (e ∙ h) in
      let same = first_same p some in
      e ∙ sym same ∙ sym (by_images a (image_refusal b p) g (λ h. some (sym same ∙ h)))

  module _ (w : images_refusal a b ≡ 0) where
    -- then the ranges
    pub judged_ranges : (p : Bool) → p ≡ false → 21 ≡ call_refusal a (image_refusal b p) g
    unfolding call_refusal images_refusal image_refusal
    judged_ranges p e = simp (given_passes a b w, state_passes a b g w, e)

    -- then the settings
    pub judged_settings : (p : Bool) → p ≡ true → opening_number (open_of g) ≡ call_refusal a (image_refusal b p) g
    unfolding call_refusal images_refusal image_refusal
    judged_settings p e = simp (given_passes a b w, state_passes a b g w, e)

-- of a state image it is the outline's refusal
pub judged_state : (l t : List ℕ) → judged_number l (bytes_refusal t) t ≡ refusal_by l t
unfolding judged_number refusal_by bytes_refusal image_refusal state_in state_refusal
judged_state l t = go (eqb (length t) state_length) (possible (settings_by l) (state_at t)) (same_bytes (image_of (state_at t)) t)
  where
    go : (k p s : Bool)
        → call_refusal (given_in l).refusal (cond (eqb (cond k (cond s 0 21) 20) 0) (cond p 0 21) (cond k (cond s 0 21) 20)) (given_by l)
        ≡ call_refusal (given_in l).refusal (cond k (cond p (cond s 0 21) 21) 20) (given_by l)
    go false p s = refl
    go true true true = refl
    go true true false = refl
    go true false true = refl
    go true false false = refl

-- and of an earlier one, in a buffer for today's
pub judged_earlier : (l e : List ℕ) (n : ℕ) → judged_number l (images_refusal (length_refusal n) (earlier_refusal e)) e ≡ grow_answer l e n
unfolding judged_number grow_answer image_refusal earlier_by images_refusal length_refusal
judged_earlier l e n = go (eqb n state_length) (eqb (earlier_refusal e) 0) (possible (settings_by l) (state_at e)) refl
  where
    r : ℕ
    r = earlier_refusal e

    both : ℕ → ℕ → ℕ
    both x y = cond (eqb x 20) 20 (cond (eqb y 20) 20 (cond (eqb x 0) y x))

    by : ℕ → Bool → ℕ
    by b p = cond (eqb b 0) (cond p 0 21) b

    -- a number that is no 20 or is one, told apart where the two sides differ
    last : (y q p : Bool) → eqb r 0 ≡ q → eqb r 20 ≡ y → by (cond y 20 r) p ≡ cond (eqb (cond q (cond p 0 21) r) 20) 20 (cond q (cond p 0 21) r)
    last true true p f y = absurd (omega (arith, eqb-true r 0 f, eqb-true r 20 y))
    last true false p f y = sym (ap (λ (k : Bool). cond k 20 r) y)
    last false true true f y = ap (λ (k : Bool). cond k 0 r) f
    last false true false f y = ap (λ (k : Bool). cond k 21 r) f
    last false false p f y = ap (λ (k : Bool). cond k (cond p 0 21) r) f ∙ sym (ap (λ (k : Bool). cond k 20 r) y)

    go : (k q p : Bool) → eqb r 0 ≡ q
        → call_refusal (given_in l).refusal (by (both (cond k 0 20) r) p) (given_by l)
        ≡ call_refusal (given_in l).refusal (both (cond k 0 20) (cond q (cond p 0 21) r)) (given_by l)
    go false q p f = refl
    go true q p f = ap (λ (b : ℕ). call_refusal (given_in l).refusal b (given_by l)) (last (eqb r 20) q p f refl)

-- ---- the lengths that the ranges are asked of
pub bytes_image : (t : List ℕ) → bytes_refusal t ≡ 0 → is_image (length t) ≡ true
unfolding bytes_refusal
bytes_image t = go (eqb (length t) state_length) refl
  where
    go : (k : Bool) → eqb (length t) state_length ≡ k → ◌≡◌ {A = ℕ} (cond k (cond (same_bytes (image_of (state_at t)) t) 0 21) 20) 0 → is_image (length t) ≡ true
    go true e h = ap is_image (eqb-true (length t) state_length e)
    go false e h = absurd (omega arith)

pub earlier_image : (e : List ℕ) (a : ℕ) (g : Given) → images_refusal a (earlier_refusal e) ≡ 0 → is_image (length e) ≡ true
earlier_image e a g w = ap is_image (bytes_pass e (state_passes a (earlier_refusal e) g w)).0

-- ---- the buffer holds the state that is read from it
pub buffer_held : (l t : List ℕ) → Bytes t → refusal_by l t ≡ 0 → Holds t (state_by l t)
unfolding state_in
buffer_held l t b e = record { image = one_image (given_by l) t (passes l t e).state; held = held_at t b }

-- ---- open
module _ (l t : List ℕ) where
  abbrev why_open : ℕ
  why_open = images_refusal (given_in l).refusal (length_refusal (length t))

  pub open_kept : (n : CallRefusal) → refusal_number n ≡ why_open → (refusal_number n ≡ open_answer l (length t)) × (t ≡ open_image l t)
  open_kept n e =
      let r = open_images l t (λ h. refused n (e ∙ h)) in
      (e ∙ r.0, r.1)

  -- what stands after the images is the settings' refusal
  opening_answer : why_open ≡ 0 → open_answer l (length t) ≡ opening_number (open_of (given_by l))
  unfolding open_answer call_refusal
  opening_answer w = simp w

  pub open_settings : (n : CallRefusal) → why_open ≡ 0 → refusal_number n ≡ opening_number (open_of (given_by l))
      → (refusal_number n ≡ open_answer l (length t)) × (t ≡ open_image l t)
  unfolding open_image
  open_settings n w e =
      let told = opening_answer w ∙ sym e in
      (sym told, rw told (is_kept (refusal_number n) (image_of open_state) t (refused n)))

  pub open_good : why_open ≡ 0 → 0 ≡ opening_number (open_of (given_by l)) → (0 ≡ open_answer l (length t)) × (replicate (length t) 0 ≡ open_image l t)
  unfolding open_image
  open_good w e =
      let told = opening_answer w ∙ sym e in
      (sym told, rw told (ap (λ (k : ℕ). replicate k 0) (length_passes (length t) (state_passes (given_in l).refusal (length_refusal (length t)) (given_by l) w)) ∙ sym open_holds.image))

-- ---- grow
module _ (l e t : List ℕ) where
  pub grow_refused : (n : CallRefusal) → refusal_number n ≡ grow_answer l e (length t) → t ≡ grow_image l e t
  unfolding grow_image
  grow_refused n h = is_kept (grow_answer l e (length t)) (grown_of e) t (λ z. refused n (h ∙ z))

  module _ (z : grow_answer l e (length t) ≡ 0) where
    pub grow_done : grown_of e ≡ grow_image l e t
    unfolding grow_image
    grow_done = is_done (grow_answer l e (length t)) (grown_of e) t z

    -- what the growth itself asks
    pub grow_state : (earlier_refusal e ≡ 0) × (length e ≡ earlier_length) × (length t ≡ state_length)
    unfolding grow_answer call_refusal
    grow_state =
        let n = none (given_in l).refusal (images_refusal (length_refusal (length t)) (earlier_by l e)) (opening_number (open_of (given_by l))) z in
        let k = earlier_passes l e (state_passes (length_refusal (length t)) (earlier_by l e) (given_by l) n.1) in
        (k.0, (bytes_pass e k.0).0, length_passes (length t) (given_passes (length_refusal (length t)) (earlier_by l e) n.1))
