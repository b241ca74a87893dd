-- What a call answers and leaves, by what it was refused with. Assumes nothing.
use Rattle.std.specs.Prelude.{None, Some, ℤ, ℕ, Option}
use Prim.Native.Nat.{ℕ, ◌≤◌}
use native.Mathlib.Omega.{arith}
use mathlib.Core.Path.{◌≡◌, refl, sym, ap, ◌∙◌}
use mathlib.Core.Bool.{Bool, true, false, cond}
use mathlib.Core.List.{List}
use lib.Dec.{eqb}
use lib.ListN.{length, replicate}
use lib.IntN.{ℤ}
use borrow.Author.Tests.{eq-eqb, ne_eqb, eqb-true, le-leb}
use Rattle.types.specs.declared.settings.Given.{Given}
use Rattle.types.specs.declared.settings.Settings.{Settings}
use Rattle.types.specs.declared.requests.Request.{Request}
use Rattle.types.specs.declared.machine.State.{State}
use Rattle.types.specs.declared.machine.Input.{Input}
use Rattle.types.specs.declared.machine.Ticked.{Ticked}
use Rattle.outline.specs.Settings.{settings_of, open_of}
use Rattle.outline.specs.Numbers.{block_number, told_number}
use Rattle.outline.specs.Tick.{open_state, tick_of, block_of}
use Rattle.outline.specs.Replies.{line_tick_of, reply_buffer}
use Rattle.outline.proofs.Opened.{passed}
use Rattle.outline.proofs.Parts.{clash}
use Rattle.places.specs.Places.{same_bytes}
use Rattle.images.specs.StateImage.{state_length, earlier_length, image_of, state_at, grown_of}
use Rattle.images.specs.Possible.{possible}
use Rattle.images.specs.Buffers.{is_image}
use Rattle.images.specs.Images.{state_refusal, bytes_refusal, earlier_refusal, state_in}
use Rattle.images.specs.GivenImage.{given_length, given_image, given_at, given_refusal, given_in}
use Rattle.images.proofs.InPlace.{open_holds}
use Rattle.images.proofs.Earlier.{passes}
use Rattle.images.proofs.Trip.{one_image}
use Rattle.images.proofs.Read.{held_at}
use Rattle.images.specs.Holds.{Holds}
use Rattle.places.specs.Places.{Bytes}
use Rattle.board.specs.AskedBy.{is_request}
use Rattle.board.specs.AnswerImage.{answer_length, answer_buffer}
use Rattle.board.specs.Board.{images_refusal, call_refusal, given_by, settings_by, state_by, refusal_by, unless, length_refusal, open_answer, open_image, earlier_by, grow_answer, grow_image, if_room, tick_by, told_of, tick_answer, tick_image, tick_buffer, line_by, line_answer, line_image, line_reply, line_buffer, block_by, block_answer, block_image}

-- ---- the first refusal
module _ (a b : ℕ) (g : Given) where
  pub by_images : (images_refusal a b ≡ 0 → ⊥) → call_refusal a b g ≡ images_refusal a b
  unfolding call_refusal
  by_images n = simp (ne_eqb (images_refusal a b) 0 n)

  pub by_settings : images_refusal a b ≡ 0 → open_of g ≡ None → call_refusal a b g ≡ 10
  unfolding call_refusal
  by_settings e o = simp (e, o)

  pub by_none : (s : Settings) → images_refusal a b ≡ 0 → open_of g ≡ Some s → call_refusal a b g ≡ 0
  unfolding call_refusal
  by_none s e o = simp (e, o)

  pub state_passes : images_refusal a b ≡ 0 → b ≡ 0
  unfolding images_refusal
  state_passes = go (eqb a 20) (eqb b 20) (eqb a 0) refl
    where
      go : (p q r : Bool) → eqb a 0 ≡ r → ◌≡◌ {A = ℕ} (cond p 20 (cond q 20 (cond r b a))) 0 → b ≡ 0
      go true q r k e = absurd (omega arith)
      go false true r k e = absurd (omega arith)
      go false false true k e = e
      go false false false k e = absurd (clash (eq-eqb a 0 e) k)

-- accepted settings are what is made of the numbers given
pub made_of : (g : Given) (s : Settings) → open_of g ≡ Some s → settings_of g ≡ s
made_of g s e = (passed g s e).made

-- ---- lengths
pub length_passes : (n : ℕ) → length_refusal n ≡ 0 → n ≡ state_length
unfolding length_refusal
length_passes n = go (eqb n state_length) refl
  where
    go : (t : Bool) → eqb n state_length ≡ t → ◌≡◌ {A = ℕ} (cond t 0 20) 0 → n ≡ state_length
    go true e h = eqb-true n state_length e
    go false e h = absurd (omega arith)

-- ---- what stands after a refusal, and without one
module _ {A : Type 0} (r : ℕ) (done kept : A) where
  pub is_kept : (r ≡ 0 → ⊥) → kept ≡ unless r done kept
  is_kept n = simp (ne_eqb r 0 n)

  pub is_done : r ≡ 0 → done ≡ unless r done kept
  is_done e = simp e

-- an answer buffer that has room
module _ {A : Type 0} (answer : List ℕ) (done kept : A) where
  pub is_room : answer_length ≤ length answer → done ≡ if_room answer done kept
  is_room h = simp (le-leb answer_length (length answer) h)

-- ---- the same ticks, of equal settings, states and inputs
pub same_input : {a b : ℤ} {r q : Option Request} (contact : Bool) → a ≡ b → r ≡ q
    → ◌≡◌ {A = Input} (record { count = a; contact = contact; request = r }) (record { count = b; contact = contact; request = q })
same_input contact e f = λ i. record { count = e i; contact = contact; request = f i }

pub same_tick : {s s' : Settings} {st st' : State} {i j : Input} → s ≡ s' → st ≡ st' → i ≡ j → tick_of s st i ≡ tick_of s' st' j
same_tick e f h = λ k. tick_of (e k) (f k) (h k)

pub same_told : {p q : Bool} {a b : Ticked} → p ≡ q → a ≡ b → told_of p a ≡ told_of q b
same_told e f = λ k. told_of (e k) (f k)

pub same_line : {s s' : Settings} {st st' : State} {a b : ℤ} (contact : Bool) (receive reply : List ℕ) → s ≡ s' → st ≡ st' → a ≡ b
    → line_tick_of s st a contact receive reply ≡ line_tick_of s' st' b contact receive reply
same_line contact receive reply e f h = λ k. line_tick_of (e k) (f k) (h k) contact receive reply

pub same_reply : {s s' : Settings} {st st' : State} {a b : ℤ} (contact : Bool) (receive reply : List ℕ) → s ≡ s' → st ≡ st' → a ≡ b
    → reply_buffer s st a contact receive reply ≡ reply_buffer s' st' b contact receive reply
same_reply contact receive reply e f h = λ k. reply_buffer (e k) (f k) (h k) contact receive reply

pub same_block : {s s' : Settings} {st st' : State} (counts : List ℤ) (contact : Bool) → s ≡ s' → st ≡ st' → block_of s st counts contact ≡ block_of s' st' counts contact
same_block counts contact e f = λ k. block_of (e k) (f k) counts contact

-- ---- the settings' length
pub given_passes : (a b : ℕ) → images_refusal a b ≡ 0 → a ≡ 0
unfolding images_refusal
given_passes a b = go (eqb a 20) (eqb b 20) (eqb a 0) refl
  where
    go : (p q r : Bool) → eqb a 0 ≡ r → ◌≡◌ {A = ℕ} (cond p 20 (cond q 20 (cond r b a))) 0 → a ≡ 0
    go true q r k e = absurd (omega arith)
    go false true r k e = absurd (omega arith)
    go false false true k e = eqb-true a 0 k
    go false false false k e = e

pub given_long : (l : List ℕ) → (given_in l).refusal ≡ 0 → length l ≡ given_length
unfolding given_in given_refusal
given_long l = go (eqb (length l) given_length) refl
  where
    go : (k : Bool) → eqb (length l) given_length ≡ k → ◌≡◌ {A = ℕ} (cond k (cond (same_bytes (given_image (given_at l)) l) 0 21) 20) 0 → length l ≡ given_length
    go true k h = eqb-true (length l) given_length k
    go false k h = absurd (omega arith)

-- ---- open
module _ (l t : List ℕ) where
  abbrev whyOpen : ℕ
  whyOpen = images_refusal (given_in l).refusal (length_refusal (length t))

  pub open_given : whyOpen ≡ 0 → length l ≡ given_length
  open_given w = given_long l (given_passes (given_in l).refusal (length_refusal (length t)) w)

  pub open_images : (whyOpen ≡ 0 → ⊥) → (whyOpen ≡ open_answer l (length t)) × (t ≡ open_image l t)
  unfolding open_answer open_image
  open_images n =
      let e = by_images (given_in l).refusal (length_refusal (length t)) (given_by l) n in
      (sym e, rw e (is_kept whyOpen (image_of open_state) t n))

  pub open_settings : whyOpen ≡ 0 → open_of (given_by l) ≡ None → (10 ≡ open_answer l (length t)) × (t ≡ open_image l t)
  unfolding open_answer open_image
  open_settings w o = let e = by_settings (given_in l).refusal (length_refusal (length t)) (given_by l) w o in (sym e, rw e)

  pub open_good : (s : Settings) → whyOpen ≡ 0 → open_of (given_by l) ≡ Some s → (0 ≡ open_answer l (length t)) × (replicate (length t) 0 ≡ open_image l t)
  unfolding open_answer open_image
  open_good s w o =
      let e = by_none (given_in l).refusal (length_refusal (length t)) (given_by l) s w o in
      (sym e, rw e (ap (λ (k : ℕ). replicate k 0) (length_passes (length t) (state_passes (given_in l).refusal (length_refusal (length t)) (given_by l) w)) ∙ sym open_holds.image))

-- ---- grow
-- an earlier image that is not possible is refused after the lengths and the bytes
late : (a n : ℕ) → (images_refusal a (images_refusal n 0) ≡ 0 → ⊥) → images_refusal a (images_refusal n 21) ≡ images_refusal a (images_refusal n 0)
unfolding images_refusal
late a n = go (eqb n 20) (eqb n 0) (eqb a 20) (eqb a 0)
  where
    inner : Bool → Bool → ℕ → ℕ
    inner p q b = cond p 20 (cond q b n)

    outer : Bool → Bool → ℕ → ℕ
    outer x z b = cond x 20 (cond (eqb b 20) 20 (cond z b a))

    go : (p q x z : Bool) → (outer x z (inner p q 0) ≡ 0 → ⊥) → outer x z (inner p q 21) ≡ outer x z (inner p q 0)
    go true q x z h = refl
    go false true true z h = refl
    go false true false true h = absurd (h refl)
    go false true false false h = refl
    go false false x z h = refl

module _ (l e t : List ℕ) where
  abbrev growBytes : ℕ
  growBytes = images_refusal (length_refusal (length t)) (earlier_refusal e)

  abbrev whyGrow : ℕ
  whyGrow = images_refusal (given_in l).refusal growBytes

  abbrev canGrow : Bool
  canGrow = possible (settings_by l) (state_at e)

  growing : (whyGrow ≡ 0 → ⊥) → images_refusal (given_in l).refusal (images_refusal (length_refusal (length t)) (earlier_by l e)) ≡ whyGrow
  unfolding earlier_by
  growing n = go (eqb (earlier_refusal e) 0) canGrow refl
    where
      go : (z p : Bool) → eqb (earlier_refusal e) 0 ≡ z
          → images_refusal (given_in l).refusal (images_refusal (length_refusal (length t)) (cond z (cond p 0 21) (earlier_refusal e))) ≡ whyGrow
      go false p k = refl
      go true true k = sym (ap (λ (r : ℕ). images_refusal (given_in l).refusal (images_refusal (length_refusal (length t)) r)) (eqb-true (earlier_refusal e) 0 k))
      go true false k =
          let same = ap (λ (r : ℕ). images_refusal (given_in l).refusal (images_refusal (length_refusal (length t)) r)) (eqb-true (earlier_refusal e) 0 k) in
          late (given_in l).refusal (length_refusal (length t)) (λ h. n (same ∙ h)) ∙ sym same

  pub grow_kept : (whyGrow ≡ 0 → ⊥) → (whyGrow ≡ grow_answer l e (length t)) × (t ≡ grow_image l e t)
  unfolding grow_answer grow_image
  grow_kept n =
      let same = growing n in
      let k = by_images (given_in l).refusal (images_refusal (length_refusal (length t)) (earlier_by l e)) (given_by l) (λ h. n (sym same ∙ h)) ∙ same in
      (sym k, rw k (is_kept whyGrow (grown_of e) t n))

  module _ (w : whyGrow ≡ 0) where
    given-none : (given_in l).refusal ≡ 0
    given-none = given_passes (given_in l).refusal growBytes w

    bytes-none : growBytes ≡ 0
    bytes-none = state_passes (given_in l).refusal growBytes (given_by l) w

    length_none : length_refusal (length t) ≡ 0
    length_none = given_passes (length_refusal (length t)) (earlier_refusal e) bytes-none

    earlier-none : earlier_refusal e ≡ 0
    earlier-none = state_passes (length_refusal (length t)) (earlier_refusal e) (given_by l) bytes-none

    pub grow-given : length l ≡ given_length
    grow-given = given_long l given-none

    pub grow-earlier : is_image (length e) ≡ true
    grow-earlier = ap is_image (passes e earlier-none).0

    -- what the growth itself asks
    pub grow-state : (earlier_refusal e ≡ 0) × (length e ≡ earlier_length) × (length t ≡ state_length)
    grow-state = (earlier-none, (passes e earlier-none).0, length_passes (length t) length_none)

    pub grow-ranges : canGrow ≡ false → (21 ≡ grow_answer l e (length t)) × (t ≡ grow_image l e t)
    unfolding grow_answer grow_image call_refusal images_refusal earlier_by
    grow-ranges p = (simp (given-none, length_none, earlier-none, p), simp (given-none, length_none, earlier-none, p))

    pub grow-settings : canGrow ≡ true → open_of (given_by l) ≡ None → (10 ≡ grow_answer l e (length t)) × (t ≡ grow_image l e t)
    unfolding grow_answer grow_image call_refusal images_refusal earlier_by
    grow-settings p o = (simp (given-none, length_none, earlier-none, p, o), simp (given-none, length_none, earlier-none, p, o))

    pub grow-good : (s : Settings) → canGrow ≡ true → open_of (given_by l) ≡ Some s
        → (0 ≡ grow_answer l e (length t)) × (grown_of e ≡ grow_image l e t)
    unfolding grow_answer grow_image call_refusal images_refusal earlier_by
    grow-good s p o = (simp (given-none, length_none, earlier-none, p, o), simp (given-none, length_none, earlier-none, p, o))

-- ---- a state's image is judged by its bytes first, then by what is possible; k: the length is right, s: the bytes are the state's, p: it is possible
module _ (a : ℕ) where
  abbrev byBytes : Bool → Bool → ℕ
  byBytes k s = cond k (cond s 0 21) 20

  abbrev byBoth : Bool → Bool → Bool → ℕ
  byBoth k p s = cond k (cond p (cond s 0 21) 21) 20

  bytes_refuse : (k p s : Bool) → (images_refusal a (byBytes k s) ≡ 0 → ⊥) → images_refusal a (byBoth k p s) ≡ images_refusal a (byBytes k s)
  unfolding images_refusal
  bytes_refuse false p s n = refl
  bytes_refuse true true s n = refl
  bytes_refuse true false false n = refl
  bytes_refuse true false true n = go (eqb a 20) (eqb a 0) n
    where
      go : (x z : Bool) → (◌≡◌ {A = ℕ} (cond x 20 (cond z 0 a)) 0 → ⊥) → ◌≡◌ {A = ℕ} (cond x 20 (cond z 21 a)) (cond x 20 (cond z 0 a))
      go true z h = refl
      go false true h = absurd (h refl)
      go false false h = refl

  bytes_pass : (k p s : Bool) → images_refusal a (byBytes k s) ≡ 0 → images_refusal a (byBoth k p s) ≡ cond p 0 21
  unfolding images_refusal
  bytes_pass k true s e = e
  bytes_pass k false s e = go k s (given_passes a (byBytes k s) e) e
    where
      go : (k s : Bool) → a ≡ 0 → images_refusal a (byBytes k s) ≡ 0 → images_refusal a (byBoth k false s) ≡ 21
      go false s z h = absurd (omega (arith, h, ap (λ (n : ℕ). images_refusal n 20) z))
      go true s z h = simp z

-- ---- the calls that read both images
module _ (l t : List ℕ) where
  abbrev why : ℕ
  why = images_refusal (given_in l).refusal (state_in (given_by l) t).refusal

  -- what the lengths and the bytes are refused with
  abbrev first : ℕ
  first = images_refusal (given_in l).refusal (bytes_refusal t)

  abbrev canBe : Bool
  canBe = possible (settings_by l) (state_at t)

  first_refuses : (first ≡ 0 → ⊥) → why ≡ first
  unfolding bytes_refusal state_in state_refusal
  first_refuses n = bytes_refuse (given_in l).refusal (eqb (length t) state_length) canBe (same_bytes (image_of (state_at t)) t) n

  first_passes : first ≡ 0 → why ≡ cond canBe 0 21
  unfolding bytes_refusal state_in state_refusal
  first_passes e = bytes_pass (given_in l).refusal (eqb (length t) state_length) canBe (same_bytes (image_of (state_at t)) t) e

  pub first_given_lem : first ≡ 0 → length l ≡ given_length
  first_given_lem e = given_long l (given_passes (given_in l).refusal (bytes_refusal t) e)

  first_state : first ≡ 0 → length t ≡ state_length
  unfolding bytes_refusal
  first_state e = go (eqb (length t) state_length) refl (state_passes (given_in l).refusal (bytes_refusal t) (given_by l) e)
    where
      go : (k : Bool) → eqb (length t) state_length ≡ k → ◌≡◌ {A = ℕ} (cond k (cond (same_bytes (image_of (state_at t)) t) 0 21) 20) 0 → length t ≡ state_length
      go true k h = eqb-true (length t) state_length k
      go false k h = absurd (omega arith)

  pub first_image : first ≡ 0 → is_image (length t) ≡ true
  first_image e = ap is_image (first_state e)

  both_images : (why ≡ 0 → ⊥) → refusal_by l t ≡ why
  unfolding refusal_by
  both_images n = by_images (given_in l).refusal (state_in (given_by l) t).refusal (given_by l) n

  pub by_bytes : (first ≡ 0 → ⊥) → refusal_by l t ≡ first
  by_bytes n = both_images (λ e. n (sym (first_refuses n) ∙ e)) ∙ first_refuses n

  pub by_ranges : first ≡ 0 → canBe ≡ false → refusal_by l t ≡ 21
  by_ranges e p =
      let w : why ≡ 21 = first_passes e ∙ ap (λ (b : Bool). cond b 0 21) p in
      both_images (λ h. absurd (omega (arith, w, h))) ∙ w

  pub unrefused : first ≡ 0 → canBe ≡ true → why ≡ 0
  unrefused e p = first_passes e ∙ ap (λ (b : Bool). cond b 0 21) p

  pub both_settings : why ≡ 0 → open_of (given_by l) ≡ None → refusal_by l t ≡ 10
  unfolding refusal_by
  both_settings w o = by_settings (given_in l).refusal (state_in (given_by l) t).refusal (given_by l) w o

  pub both_good : (s : Settings) → why ≡ 0 → open_of (given_by l) ≡ Some s → refusal_by l t ≡ 0
  unfolding refusal_by
  both_good s w o = by_none (given_in l).refusal (state_in (given_by l) t).refusal (given_by l) s w o

  -- the buffer holds the state that is read from it
  pub state_held : Bytes t → why ≡ 0 → Holds t (state_by l t)
  unfolding state_in
  state_held b w = record { image = one_image (given_by l) t (state_passes (given_in l).refusal (state_in (given_by l) t).refusal (given_by l) w); held = held_at t b }

  -- a tick
  module _ (count : ℤ) (contact : Bool) (n : ℕ) (points answer : List ℕ) where
    pub tick_kept : (r : ℕ) → refusal_by l t ≡ r → (r ≡ 0 → ⊥)
        → (r ≡ tick_answer l t count contact n points answer) × (t ≡ tick_image l t count contact n points answer) × (answer ≡ tick_buffer l t count contact n points answer)
    unfolding tick_answer tick_image tick_buffer
    tick_kept r e k = rw e (is_kept r _ r k, is_kept r _ t k, is_kept r _ answer k)

    pub tick-done : refusal_by l t ≡ 0 →
        let a = tick_by l t count contact n points in
        (if_room answer (told_of (is_request n points) a) 14 ≡ tick_answer l t count contact n points answer)
        × (if_room answer (image_of a.state) t ≡ tick_image l t count contact n points answer)
        × (if_room answer (answer_buffer (told_of (is_request n points) a) 0 a.answer answer) answer ≡ tick_buffer l t count contact n points answer)
    unfolding tick_answer tick_image tick_buffer
    tick-done e = rw e (refl, refl, refl)

  -- a tick with a line
  module _ (count : ℤ) (contact : Bool) (receive reply answer : List ℕ) where
    pub line_kept : (r : ℕ) → refusal_by l t ≡ r → (r ≡ 0 → ⊥)
        → (r ≡ line_answer l t count contact receive reply answer)
        × (t ≡ line_image l t count contact receive reply answer)
        × (reply ≡ line_reply l t count contact receive reply answer)
        × (answer ≡ line_buffer l t count contact receive reply answer)
    unfolding line_answer line_image line_reply line_buffer
    line_kept r e k = rw e (is_kept r _ r k, is_kept r _ t k, is_kept r _ reply k, is_kept r _ answer k)

    pub line-done : refusal_by l t ≡ 0 →
        let a = line_by l t count contact receive reply in
        (if_room answer (told_number a.told) 14 ≡ line_answer l t count contact receive reply answer)
        × (if_room answer (image_of a.state) t ≡ line_image l t count contact receive reply answer)
        × (if_room answer (reply_buffer (settings_by l) (state_by l t) count contact receive reply) reply ≡ line_reply l t count contact receive reply answer)
        × (if_room answer (answer_buffer (told_number a.told) a.length a.answer answer) answer ≡ line_buffer l t count contact receive reply answer)
    unfolding line_answer line_image line_reply line_buffer
    line-done e = rw e (refl, refl, refl, refl)

  -- a block
  module _ (counts : List ℤ) (contact : Bool) where
    pub block-kept : (r : ℕ) → refusal_by l t ≡ r → (r ≡ 0 → ⊥) → (r ≡ block_answer l t counts contact) × (t ≡ block_image l t counts contact)
    unfolding block_answer block_image
    block-kept r e k = rw e (is_kept r _ r k, is_kept r _ t k)

    pub block-done : refusal_by l t ≡ 0 →
        let b = block_by l t counts contact in
        (block_number b.answer ≡ block_answer l t counts contact) × (image_of b.state ≡ block_image l t counts contact)
    unfolding block_answer block_image
    block-done e = rw e (refl, refl)
