-- Any calls over an image are the ticks over its state: nothing is lost between two calls. Assumes nothing.
use Rattle.std.specs.Prelude.{None, Some, ℤ, ℕ, Ok, Err}
use Prim.Native.Nat.{ℕ}
use native.Mathlib.Omega.{arith}
use mathlib.Core.Path.{◌≡◌, refl, sym, ap, ◌∙◌}
use mathlib.Core.Bool.{Bool, true, false, cond}
use mathlib.Core.List.{List, [], ◌∷◌, foldl}
use lib.Dec.{eqb, leb}
use lib.ListN.{length, take}
use lib.IntN.{ℤ}
use borrow.Author.Tests.{eq-eqb, eqb-true, lt-ltb}
use Rattle.types.specs.declared.settings.Given.{Given}
use Rattle.types.specs.declared.settings.Settings.{Settings}
use Rattle.types.specs.declared.machine.State.{State}
use Rattle.types.specs.declared.machine.Input.{Input}
use Rattle.types.specs.declared.machine.Blocked.{Blocked}
use Rattle.types.specs.declared.machine.BlockRefusal.TheVariants as ran
use Rattle.types.specs.declared.lines.LineTick.{LineTick}
use Rattle.outline.specs.Limits.{block_limit}
use Rattle.outline.specs.Settings.{settings_fit, settings_of, open_of}
use Rattle.outline.specs.Setpoints.{none_waiting}
use Rattle.outline.specs.Numbers.{opening_number}
use Rattle.settings.specs.Held.{Held}
use Rattle.outline.specs.StaysTrue.{earlier_tick}
use Rattle.outline.specs.Tick.{open_state, next_of, tick_of, count_in, block_of, unasked_of}
use Rattle.outline.specs.Replies.{asked_of, due_text, line_tick_of}
use Rattle.outline.proofs.Parts.{clash}
use Rattle.outline.proofs.LineBytes.{reply_bounded}
use Rattle.outline.specs.Run.{History, ◌▷◌, run_of, run_from, then_all, block_inputs, line_input}
use Rattle.images.specs.StateImage.{state_length, earlier_length, image_of, state_at, grown_of}
use Rattle.images.specs.GivenImage.{GivenRead, given_image, given_in}
use Rattle.images.specs.Images.{StateRead, state_in}
use Rattle.images.specs.Owed.{good}
use Rattle.images.specs.Images.{earlier_refusal}
use Rattle.images.specs.Possible.{possible}
use Rattle.images.proofs.Earlier.{grows, earlier_read}
use Rattle.images.proofs.Decided.{range_passes}
use Rattle.outline.proofs.RangeRun.{run_in}
use Rattle.outline.proofs.BookRun.{balance_law}
use Rattle.outline.proofs.EarlierRun.{earlier_keeps}
use Rattle.images.proofs.GivenTrip.{given_back}
use Rattle.images.proofs.Trip.{one_image}
use Rattle.images.proofs.FromImages.{runs_pass, from_images}
use Rattle.board.specs.AnswerImage.{answer_length, length_byte}
use Rattle.board.proofs.Cases.{made_of, state_passes, is_done, grow-good}
use Rattle.board.specs.Board.{images_refusal, call_refusal, given_by, settings_by, state_by, refusal_by, length_refusal, open_answer, open_image, earlier_by, grow_answer, grow_image, if_room, input_by, tick_by, tick_image, line_by, line_image, block_by, block_image}
use Rattle.board.specs.Owed.{Call, tick, line, block, image_after, image_run, ticks_of, state_run, history_of, CallsAreTicks, OpensARun, CallsAreRuns, GrowsPass, GrownBack, GrowsARun, GrowsEarlier, LengthTold}

-- ---- what is not refused: settings that were accepted, and a state that its image gives back
pub record Passed (l t : List ℕ) : Type 0 where
  pub given : (given_in l).refusal ≡ 0
  pub state : (state_in (given_by l) t).refusal ≡ 0
  pub opened : open_of (given_by l) ≡ Some (settings_by l)

opens : (g : Given) → opening_number (open_of g) ≡ 0 → open_of g ≡ Some (settings_of g)
unfolding open_of
opens g = go (settings_fit g)
  where
    go : (b : Bool) → opening_number (cond b (Some (settings_of g)) None) ≡ 0 → cond b (Some (settings_of g)) None ≡ Some (settings_of g)
    go true e = refl
    go false e = absurd (omega arith)

-- none of the two images is refused, nor the settings
pub none : (a b o : ℕ) → ◌≡◌ {A = ℕ} (cond (eqb (images_refusal a b) 0) o (images_refusal a b)) 0 → (a ≡ 0) × (b ≡ 0) × (o ≡ 0)
unfolding images_refusal
none a b o = go (eqb a 20) (eqb b 20) (eqb a 0) refl
  where
    last : (c : Bool) → eqb b 0 ≡ c → ◌≡◌ {A = ℕ} (cond c o b) 0 → (b ≡ 0) × (o ≡ 0)
    last true k h = (eqb-true b 0 k, h)
    last false k h = absurd (clash (eq-eqb b 0 h) k)

    kept : (c : Bool) → eqb a 0 ≡ c → ◌≡◌ {A = ℕ} (cond c o a) 0 → c ≡ true
    kept true k h = refl
    kept false k h = absurd (clash (eq-eqb a 0 h) k)

    go : (p q r : Bool) → eqb a 0 ≡ r → ◌≡◌ {A = ℕ} (cond (eqb (cond p 20 (cond q 20 (cond r b a))) 0) o (cond p 20 (cond q 20 (cond r b a)))) 0 → (a ≡ 0) × (b ≡ 0) × (o ≡ 0)
    go true q r k h = absurd (omega arith)
    go false true r k h = absurd (omega arith)
    go false false true k h = let e = last (eqb b 0) refl h in (eqb-true a 0 k, e.0, e.1)
    go false false false k h = absurd (clash (kept (eqb a 0) refl h) k)

pub passes : (l t : List ℕ) → refusal_by l t ≡ 0 → Passed l t
unfolding refusal_by call_refusal
passes l t e =
    let n = none (given_in l).refusal (state_in (given_by l) t).refusal (opening_number (open_of (given_by l))) e in
    record { given = n.0; state = n.1; opened = opens (given_by l) n.2 }

-- and the other way round
unrefused : (l t : List ℕ) (s : Settings) → (given_in l).refusal ≡ 0 → (state_in (given_by l) t).refusal ≡ 0 → open_of (given_by l) ≡ Some s → refusal_by l t ≡ 0
unfolding refusal_by call_refusal images_refusal
unrefused l t s e f o = simp (e, f, o)

-- ---- the ticks of one call
module _ (s : Settings) (st : State) where
  either : (b : Bool) (x y : LineTick) (i j : Input) → x.state ≡ next_of s st i → y.state ≡ next_of s st j → (cond b x y).state ≡ next_of s st (cond b i j)
  either true x y i j p q = p
  either false x y i j p q = q

  line_is : (count : ℤ) (contact : Bool) (receive reply : List ℕ) → (line_tick_of s st count contact receive reply).state ≡ next_of s st (line_input s st count contact receive reply)
  unfolding line_tick_of line_input tick_of
  line_is count contact receive reply =
      either (leb (length (due_text s st count contact receive)) (length reply)) _ _ (asked_of s count contact receive) (unasked_of count contact) refl refl

counts_are : (s : Settings) (st : State) (counts : List ℤ) (contact : Bool) → foldl (count_in s contact) st counts ≡ foldl (next_of s) st (block_inputs counts contact)
unfolding count_in block_inputs
counts_are s st [] contact = refl
counts_are s st (count ∷ counts) contact = counts_are s (next_of s st (unasked_of count contact)) counts contact

block_is : (s : Settings) (st : State) (counts : List ℤ) (contact : Bool) → (block_of s st counts contact).state ≡ run_from s st (cond (leb (length counts) block_limit) (block_inputs counts contact) [])
unfolding block_of run_from
block_is s st counts contact = go (leb (length counts) block_limit)
  where
    go : (b : Bool) → (cond {A = Blocked} b (record { answer = Ok tt; state = foldl (count_in s contact) st counts }) (record { answer = Err ran.TooLong; state = st })).state ≡ foldl (next_of s) st (cond b (block_inputs counts contact) [])
    go true = counts_are s st counts contact
    go false = refl

-- ---- a call over the image of a state
module _ (l t : List ℕ) (r : refusal_by l t ≡ 0) where
  abbrev here : State
  here = state_by l t

  own : image_of here ≡ t
  own = one_image (given_by l) t (passes l t r).state

  roomy : (answer : List ℕ) (i : Input) → if_room answer (image_of (next_of (settings_by l) here i)) t ≡ image_of (run_from (settings_by l) here (if_room answer (i ∷ []) []))
  unfolding run_from
  roomy answer i = go (leb answer_length (length answer))
    where
      go : (b : Bool) → cond b (image_of (next_of (settings_by l) here i)) t ≡ image_of (foldl (next_of (settings_by l)) here (cond b (i ∷ []) []))
      go true = refl
      go false = sym own

  one_call : (c : Call) → image_after l t c ≡ image_of (run_from (settings_by l) here (ticks_of (settings_by l) here c))
  unfolding image_after ticks_of tick_image tick_by tick_of line_image line_by block_image block_by
  one_call (tick count contact n points answer) = simp r (roomy answer (input_by count contact n points))
  one_call (line count contact receive reply answer) =
      simp (r, line_is (settings_by l) here count contact receive reply) (roomy answer (line_input (settings_by l) here count contact receive reply))
  one_call (block counts contact) = simp r (ap image_of (block_is (settings_by l) here counts contact))

-- ---- any calls
pub calls_are_ticks : CallsAreTicks
unfolding image_run state_run
calls_are_ticks l t r [] = record { image = sym (own l t r); passes = r }
calls_are_ticks l t r (c ∷ cs) =
    let p = passes l t r in
    let s = settings_by l in
    let next = run_from s (state_by l t) (ticks_of s (state_by l t) c) in
    let back = (from_images (given_by l) s p.opened t p.state (ticks_of s (state_by l t) c)).image in
    let again = unrefused l (image_of next) s p.given (ap (λ (x : StateRead). x.refusal) back) p.opened in
    let rest = calls_are_ticks l (image_of next) again cs in
    let one = one_call l t r c in
    record {
      image = ap (λ (x : List ℕ). image_run l x cs) one ∙ rest.image ∙ ap (λ (x : StateRead). image_of (state_run s x.state cs)) back;
      passes = ap (λ (x : List ℕ). refusal_by l (image_run l x cs)) one ∙ rest.passes;
    }

-- ---- from an opening
run_then : (s : Settings) (h : History Input) (is : List Input) → run_from s (run_of s h) is ≡ run_of s (then_all h is)
unfolding run_from run_of then_all
run_then s h [] = refl
run_then s h (i ∷ is) = run_then s (h ▷ i) is

runs_on : (s : Settings) (h : History Input) (cs : List Call) → state_run s (run_of s h) cs ≡ run_of s (history_of s h cs)
unfolding state_run history_of
runs_on s h [] = refl
runs_on s h (c ∷ cs) =
    ap (λ (st : State). state_run s st cs) (run_then s h (ticks_of s (run_of s h) c)) ∙ runs_on s (then_all h (ticks_of s (run_of s h) c)) cs

pub opens_a_run : OpensARun
unfolding open_image open_answer length_refusal call_refusal images_refusal run_of
opens_a_run g s held o t n =
    let back = given_back g held in
    simp (ap (λ (x : GivenRead). x.refusal) back, ap open_of (ap (λ (x : GivenRead). x.given) back) ∙ o, n)

pub calls_are_runs : CallsAreRuns
calls_are_runs g s held o h cs =
    let l = given_image g in
    let back = given_back g held in
    let given : (given_in l).refusal ≡ 0 = ap (λ (x : GivenRead). x.refusal) back in
    let same : given_by l ≡ g = ap (λ (x : GivenRead). x.given) back in
    let accepted : open_of (given_by l) ≡ Some s = ap open_of same ∙ o in
    let state : state_in (given_by l) (image_of (run_of s h)) ≡ good (run_of s h) = ap (λ (x : Given). state_in x (image_of (run_of s h))) same ∙ runs_pass g s o h in
    let whole = unrefused l (image_of (run_of s h)) s given (ap (λ (x : StateRead). x.refusal) state) accepted in
    (calls_are_ticks l (image_of (run_of s h)) whole cs).image
    ∙ (λ i. image_of (state_run (made_of (given_by l) s accepted i) (state i).state cs))
    ∙ ap image_of (runs_on s h cs)

-- no reply is longer than a line
pub length_told : LengthTold
unfolding length_byte
length_told s st count contact receive reply =
    simp (lt-ltb (line_tick_of s st count contact receive reply).length 256 (omega (arith, (reply_bounded s st count contact receive reply).line)))

-- ---- a grown image
pub earlier_passes : (l e : List ℕ) → earlier_by l e ≡ 0 → (earlier_refusal e ≡ 0) × (possible (settings_by l) (state_at e) ≡ true)
unfolding earlier_by
earlier_passes l e = go (eqb (earlier_refusal e) 0) (possible (settings_by l) (state_at e)) refl
  where
    go : (z p : Bool) → eqb (earlier_refusal e) 0 ≡ z → ◌≡◌ {A = ℕ} (cond z (cond p 0 21) (earlier_refusal e)) 0 → (earlier_refusal e ≡ 0) × (p ≡ true)
    go true true k h = (eqb-true (earlier_refusal e) 0 k, refl)
    go true false k h = absurd (omega arith)
    go false p k h = absurd (clash (eq-eqb (earlier_refusal e) 0 h) k)

-- the image that an earlier one grows to passes, and gives its state
grown : (l e t : List ℕ) → grow_answer l e (length t) ≡ 0 → (refusal_by l (grown_of e) ≡ 0) × (state_by l (grown_of e) ≡ state_at e) × ((state_at e).waiting ≡ none_waiting)
unfolding grow_answer call_refusal
grown l e t z =
    let n = none (given_in l).refusal (images_refusal (length_refusal (length t)) (earlier_by l e)) (opening_number (open_of (given_by l))) z in
    let k = earlier_passes l e (state_passes (length_refusal (length t)) (earlier_by l e) (given_by l) n.1) in
    let g = grows (given_by l) e k.0 k.1 in (
      unrefused l (grown_of e) (settings_by l) n.0 (ap (λ (r : StateRead). r.refusal) g.image) (opens (given_by l) n.2),
      ap (λ (r : StateRead). r.state) g.image,
      g.none,
    )

pub grows_pass : GrowsPass
unfolding grow_image
grows_pass l e t z =
    let k = grown l e t z in
    let same = is_done (grow_answer l e (length t)) (grown_of e) t z in
    record {
      passes = ap (refusal_by l) (sym same) ∙ k.0;
      state = ap (state_by l) (sym same) ∙ k.1;
      none = k.2;
    }

-- ---- the earlier image of a state that is possible, and so of a run
unrefused_all : (a n r : ℕ) → a ≡ 0 → n ≡ state_length → r ≡ 0 → images_refusal a (images_refusal (length_refusal n) r) ≡ 0
unfolding images_refusal length_refusal
unrefused_all a n r ea en er = simp (ea, en, er)

grows_possible : (g : Given) (s : Settings) → Held g → open_of g ≡ Some s → (st : State) → possible s st ≡ true
    → st.waiting ≡ none_waiting → (t : List ℕ) → length t ≡ state_length → GrownBack (given_image g) (take earlier_length (image_of st)) t st
grows_possible g s k a st p w t n =
    let l = given_image g in
    let e = take earlier_length (image_of st) in
    let b = given_back g k in
    let x = earlier_read g s a st p w in
    let made : settings_by l ≡ s = ap (λ (r : GivenRead). settings_of r.given) b ∙ made_of g s a in
    let can : possible (settings_by l) (state_at e) ≡ true = (λ i. possible (made i) (x.state i)) ∙ p in
    let why = unrefused_all (given_in l).refusal (length t) (earlier_refusal e) (ap (λ (r : GivenRead). r.refusal) b) n x.refusal in
    let k = grow-good l e t why s can (ap (λ (r : GivenRead). open_of r.given) b ∙ a) in
    record { told = sym k.0; image = sym k.1 ∙ x.grown }

pub grows_a_run : GrowsARun
grows_a_run g s k a h = grows_possible g s k a (run_of s h) (range_passes s (run_of s h) (run_in s h) (balance_law s (g, a) h))

pub grows_earlier : GrowsEarlier
grows_earlier g s k a is =
    let e = earlier_keeps s is in
    grows_possible g s k a (foldl (earlier_tick s) open_state is) (range_passes s _ e.range e.balance)
