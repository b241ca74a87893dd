-- There and back. A state that its machine types hold is read from its image; an image that is not refused is its state's, and a byte of it that no
-- row has is 0. Assumes nothing.
use Rattle.std.specs.Prelude.{Option, ℕ}
use Prim.Native.Nat.{ℕ}
use native.Mathlib.Omega.{arith}
use mathlib.Core.Path.{◌≡◌, refl, sym, ap, ◌∙◌}
use mathlib.Core.Bool.{Bool, true, false, cond}
use mathlib.Core.List.{List, [], ◌∷◌}
use lib.Dec.{eqb}
use lib.ListN.{length, get_or, take, drop, replicate}
use mir.Syntax.{w32, w64}
use borrow.Author.Tests.{eq-eqb}
use Rattle.places.specs.Places.{get_all, same_bytes, Numbers}
use Rattle.places.proofs.Numbers.{coded_lt, signed_coded, same_yes, same_self, pad_get}
use Rattle.places.proofs.Layouts.{get_put_all, put_all_length, put_unused}
use Rattle.types.specs.declared.settings.Given.{Given}
use Rattle.types.specs.declared.daybook.Book.{Book}
use Rattle.types.specs.declared.weight.Weighing.{Weighing}
use Rattle.types.specs.declared.stages.Setpoints.{Setpoints}
use Rattle.types.specs.declared.stages.Sequence.{Sequence}
use Rattle.types.specs.declared.stages.Totals.{Totals}
use Rattle.types.specs.declared.machine.State.{State}
use Rattle.outline.specs.Settings.{settings_of}
use Rattle.images.specs.StateImage.{state_length, book_rows, book_numbers, book_of, stability_rows, stability_numbers, stability_of, weighing_rows, weighing_numbers, weighing_of, panel_rows, panel_numbers, panel_of, setpoint_rows, setpoint_numbers, setpoints_of, sequence_rows, sequence_numbers, sequence_of, totals_rows, totals_numbers, totals_of, write_points, waiting_rows, waiting_numbers, waiting_of, state_rows, state_numbers, put_state, image_of, state_at}
use Rattle.images.specs.Holds.{HeldBook, HeldWeighing, HeldSetpoints, HeldSequence, HeldTotals, HeldState}
use Rattle.images.specs.Possible.{possible}
use Rattle.images.specs.Images.{state_refusal, state_in}
use Rattle.images.specs.Owed.{good, OneImage, UnusedZero}
use Rattle.images.proofs.Tables.{table, fit_all}
use Rattle.images.proofs.NameLaws.{flag_back, flag_lt, display_back, display_lt, stage_back, stage_lt, error_back, error_lt, judgement_back, judgement_lt, back_back, back_lt, write_back, write_lt}

-- ---- the numbers of each part of a state
book_fits : (b : Book) → HeldBook b → Numbers book_rows (book_numbers b)
book_fits b h = (coded_lt h.opening, (coded_lt h.last, (coded_lt h.refilled, (coded_lt h.used, (coded_lt h.unbooked, (h.ticks, (flag_lt b.begun, (flag_lt b.contact, tt))))))))

weighing_fits : (w : Weighing) → HeldWeighing w → Numbers weighing_rows (weighing_numbers w)
weighing_fits w h = (coded_lt h.zero, (coded_lt h.tracked, (coded_lt h.tare, (h.counter, tt))))

setpoints_fit_lem : (p : Setpoints) → HeldSetpoints p → Numbers setpoint_rows (setpoint_numbers p)
setpoints_fit_lem p h = (h.target, (h.fall, (h.preliminary, (h.optional, (h.over, (h.under, (h.near, tt)))))))

sequence_fits_lem : (q : Sequence) → HeldSequence q → Numbers sequence_rows (sequence_numbers q)
sequence_fits_lem q h = (stage_lt q.stage, (h.timer, (h.clock, (error_lt q.error, (judgement_lt q.judgement, tt)))))

totals_fit : (t : Totals) → HeldTotals t → Numbers totals_rows (totals_numbers t)
totals_fit t h = (h.total, (h.count, (back_lt t.back, (h.weight, tt))))

waiting_fits : (w : Option Setpoints) → HeldSetpoints (write_points w) → Numbers waiting_rows (waiting_numbers w)
waiting_fits w h = (write_lt w, setpoints_fit_lem (write_points w) h)

-- ---- a state from its image
module _ (st : State) (h : HeldState st) where
  pub numbers_fit : Numbers state_rows (state_numbers st)
  numbers_fit =
      fit_all (
      table book_rows (book_numbers st.book) (book_fits st.book h.book)
      ∷ table stability_rows (stability_numbers st.stability) (flag_lt st.stability.good, (h.run, tt))
      ∷ table weighing_rows (weighing_numbers st.weighing) (weighing_fits st.weighing h.weighing)
      ∷ table panel_rows (panel_numbers st.panel) (display_lt st.panel.display, tt)
      ∷ table setpoint_rows (setpoint_numbers st.setpoints) (setpoints_fit_lem st.setpoints h.setpoints)
      ∷ table sequence_rows (sequence_numbers st.sequence) (sequence_fits_lem st.sequence h.sequence)
      ∷ table totals_rows (totals_numbers st.totals) (totals_fit st.totals h.totals)
      ∷ table waiting_rows (waiting_numbers st.waiting) (waiting_fits st.waiting h.waiting)
      ∷ []
      )

  image_numbers : get_all state_rows (image_of st) ≡ state_numbers st
  unfolding image_of put_state
  image_numbers = get_put_all state_rows (state_numbers st) (replicate state_length 0) 0 state_length tt (omega arith) numbers_fit

  pub image_state : state_at (image_of st) ≡ st
  unfolding state_at get_all
  image_state =
      (λ i. record {
        book = book_of (take 8 (image_numbers i));
        stability = stability_of (take 2 (drop 8 (image_numbers i)));
        weighing = weighing_of (take 4 (drop 10 (image_numbers i)));
        panel = panel_of (take 1 (drop 14 (image_numbers i)));
        setpoints = setpoints_of (take 7 (drop 15 (image_numbers i)));
        sequence = sequence_of (take 5 (drop 22 (image_numbers i)));
        totals = totals_of (take 4 (drop 27 (image_numbers i)));
        waiting = waiting_of (drop 31 (image_numbers i));
      })
      ∙ (λ i. record {
        book = record {
          opening = signed_coded w32 st.book.opening h.book.opening i;
          last = signed_coded w32 st.book.last h.book.last i;
          refilled = signed_coded w64 st.book.refilled h.book.refilled i;
          used = signed_coded w64 st.book.used h.book.used i;
          unbooked = signed_coded w64 st.book.unbooked h.book.unbooked i;
          ticks = st.book.ticks;
          begun = flag_back st.book.begun i;
          contact = flag_back st.book.contact i;
        };
        stability = record { good = flag_back st.stability.good i; run = st.stability.run };
        weighing = record {
          zero = signed_coded w32 st.weighing.zero h.weighing.zero i;
          tracked = signed_coded w32 st.weighing.tracked h.weighing.tracked i;
          tare = signed_coded w32 st.weighing.tare h.weighing.tare i;
          counter = st.weighing.counter;
        };
        panel = record { display = display_back st.panel.display i };
        setpoints = st.setpoints;
        sequence = record {
          stage = stage_back st.sequence.stage i;
          clock = st.sequence.clock;
          error = error_back st.sequence.error i;
          judgement = judgement_back st.sequence.judgement i;
        };
        totals = record { total = st.totals.total; count = st.totals.count; back = back_back st.totals.back i };
        waiting = write_back st.waiting i;
      })

pub image_length : (st : State) → length (image_of st) ≡ state_length
unfolding image_of put_state
image_length st = put_all_length state_rows (state_numbers st) (replicate state_length 0)

-- ---- the tests in their order
module _ (g : Given) (l : List ℕ) (st : State) where
  pub none : length l ≡ state_length → possible (settings_of g) st ≡ true → same_bytes (image_of st) l ≡ true → state_refusal g l st ≡ 0
  unfolding state_refusal
  none n p s = simp (eq-eqb (length l) state_length n, p, s)

  passes : state_refusal g l st ≡ 0 → (possible (settings_of g) st ≡ true) × (image_of st ≡ l)
  unfolding state_refusal
  passes = go (eqb (length l) state_length) (possible (settings_of g) st) (same_bytes (image_of st) l) refl refl
    where
      go : (a b d : Bool) → possible (settings_of g) st ≡ b → same_bytes (image_of st) l ≡ d → ◌≡◌ {A = ℕ} (cond a (cond b (cond d 0 21) 21) 20) 0
          → (possible (settings_of g) st ≡ true) × (image_of st ≡ l)
      go true true true p s h = (p, same_yes (image_of st) l s)
      go true true false p s h = absurd (omega arith)
      go true false d p s h = absurd (omega arith)
      go false b d p s h = absurd (omega arith)

-- what is written is read back
pub held_back : (g : Given) (st : State) → HeldState st → possible (settings_of g) st ≡ true → state_in g (image_of st) ≡ good st
unfolding state_in
held_back g st h p =
    (λ i. record { refusal = state_refusal g (image_of st) (image_state st h i); state = image_state st h i })
    ∙ (λ i. record { refusal = none g (image_of st) st (image_length st) p (same_self (image_of st)) i; state = st })

-- ---- an image that is not refused
pub is_possible : (g : Given) (l : List ℕ) → (state_in g l).refusal ≡ 0 → possible (settings_of g) (state_in g l).state ≡ true
unfolding state_in
is_possible g l h = (passes g l (state_at l) h).0

pub one_image : OneImage
unfolding state_in
one_image g l h = (passes g l (state_at l) h).1

pub unused_zero : UnusedZero
unfolding image_of put_state
unused_zero g l i h u =
    sym (ap (λ (x : List ℕ). get_or x i 0) (one_image g l h))
    ∙ put_unused state_rows (state_numbers (state_in g l).state) (replicate state_length 0) i u
    ∙ pad_get [] state_length i
