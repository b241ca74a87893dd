-- A part of a state written in its place: a buffer that held the state holds it with this part made anew. Assumes nothing.
use Rattle.std.specs.Prelude.{Option, ℕ}
use Prim.Native.Nat.{ℕ, ◌^◌, ◌<◌}
use mathlib.Core.Path.{◌≡◌, refl, sym, ap, ◌∙◌}
use mathlib.Core.List.{List, [], ◌++◌}
use native.Mathlib.Omega.{arith}
use lib.IntN.{pos}
use lib.ListN.{length, replicate}
use mir.Syntax.{w32, w64}
use mir.Val.{SFits}
use Rattle.outline.specs.Tick.{open_state}
use Rattle.whole.specs.Machine.{sfits_of}
use Rattle.places.specs.Places.{put_be, put_all, coded, flag_tag}
use Rattle.places.proofs.Anew.{part_anew}
use Rattle.types.specs.declared.daybook.Book.{Book}
use Rattle.types.specs.declared.weight.Stability.{Stability}
use Rattle.types.specs.declared.weight.Weighing.{Weighing}
use Rattle.types.specs.declared.weight.Panel.{Panel}
use Rattle.types.specs.declared.stages.Setpoints.{Setpoints}
use Rattle.types.specs.declared.stages.Sequence.{Sequence}
use Rattle.types.specs.declared.stages.Totals.{Totals}
use Rattle.types.specs.declared.machine.State.{State}
use Rattle.outline.specs.Parts.{with_book, with_stability, with_weighing, with_setpoints, with_waiting, with_sequence, with_totals}
use Rattle.images.specs.StateImage.{display_number, stage_timer, back_tag, back_weight, write_tag, write_points, state_length, book_rows, book_numbers, stability_rows, stability_numbers, weighing_rows, weighing_numbers, panel_rows, panel_numbers, setpoint_rows, setpoint_numbers, sequence_rows, sequence_numbers, totals_rows, totals_numbers, waiting_rows, waiting_numbers, put_state, image_of, state_at}
use Rattle.images.specs.Buffers.{put_part}
use Rattle.images.proofs.Buffers.{put_here, put_nowhere}
use Rattle.images.proofs.NameLaws.{none_held}
use Rattle.images.proofs.Trip.{image_state, image_length}
use Rattle.images.specs.Holds.{HeldBook, HeldWeighing, HeldSetpoints, HeldSequence, HeldTotals, HeldState, Holds, Turns, with_panel}

-- a buffer that holds a state has its length, and reads as it
pub holds_length : {l : List ℕ} {st : State} → Holds l st → length l ≡ state_length
holds_length {l} {st} h = ap length (sym h.image) ∙ image_length st

pub holds_state : {l : List ℕ} {st : State} → Holds l st → state_at l ≡ st
holds_state {l} {st} h = ap state_at (sym h.image) ∙ image_state st h.held

-- what is written: nothing where the buffer has another length
pub ruleset writes = (put_here, put_nowhere, holds_length)

-- the bytes that a state is written over
abbrev pub blank : List ℕ
blank = replicate state_length 0

pub turns_book : (b : Book) → HeldBook b → (l l' : List ℕ) → l' ≡ put_part book_rows (book_numbers b) l → Turns l l' (λ (st : State). with_book st b)
unfolding image_of put_state
turns_book b k l l' e st h = record {
  image =
      sym (part_anew state_length [] book_rows (stability_rows ++ weighing_rows ++ panel_rows ++ setpoint_rows ++ sequence_rows ++ totals_rows ++ waiting_rows) [] (book_numbers st.book) (book_numbers b) (stability_numbers st.stability ++ weighing_numbers st.weighing ++ panel_numbers st.panel ++ setpoint_numbers st.setpoints ++ sequence_numbers st.sequence ++ totals_numbers st.totals ++ waiting_numbers st.waiting) blank 0 0 tt tt refl refl refl)
      ∙ ap (put_all book_rows (book_numbers b)) h.image ∙ sym (put_here book_rows (book_numbers b) l (holds_length h)) ∙ sym e;
  held = record { book = k; run = h.held.run; weighing = h.held.weighing; setpoints = h.held.setpoints; waiting = h.held.waiting; sequence = h.held.sequence; totals = h.held.totals };
}

pub turns_stability : (q : Stability) → q.run < 2 ^ 16 → (l l' : List ℕ) → l' ≡ put_part stability_rows (stability_numbers q) l → Turns l l' (λ (st : State). with_stability st q)
unfolding image_of put_state
turns_stability q k l l' e st h = record {
  image =
      sym (part_anew state_length book_rows stability_rows (weighing_rows ++ panel_rows ++ setpoint_rows ++ sequence_rows ++ totals_rows ++ waiting_rows) (book_numbers st.book) (stability_numbers st.stability) (stability_numbers q) (weighing_numbers st.weighing ++ panel_numbers st.panel ++ setpoint_numbers st.setpoints ++ sequence_numbers st.sequence ++ totals_numbers st.totals ++ waiting_numbers st.waiting) blank 0 0 tt tt refl refl refl)
      ∙ ap (put_all stability_rows (stability_numbers q)) h.image ∙ sym (put_here stability_rows (stability_numbers q) l (holds_length h)) ∙ sym e;
  held = record { book = h.held.book; run = k; weighing = h.held.weighing; setpoints = h.held.setpoints; waiting = h.held.waiting; sequence = h.held.sequence; totals = h.held.totals };
}

pub turns_weighing : (w : Weighing) → HeldWeighing w → (l l' : List ℕ) → l' ≡ put_part weighing_rows (weighing_numbers w) l → Turns l l' (λ (st : State). with_weighing st w)
unfolding image_of put_state
turns_weighing w k l l' e st h = record {
  image =
      sym (part_anew state_length (book_rows ++ stability_rows) weighing_rows (panel_rows ++ setpoint_rows ++ sequence_rows ++ totals_rows ++ waiting_rows) (book_numbers st.book ++ stability_numbers st.stability) (weighing_numbers st.weighing) (weighing_numbers w) (panel_numbers st.panel ++ setpoint_numbers st.setpoints ++ sequence_numbers st.sequence ++ totals_numbers st.totals ++ waiting_numbers st.waiting) blank 0 0 tt tt refl refl refl)
      ∙ ap (put_all weighing_rows (weighing_numbers w)) h.image ∙ sym (put_here weighing_rows (weighing_numbers w) l (holds_length h)) ∙ sym e;
  held = record { book = h.held.book; run = h.held.run; weighing = k; setpoints = h.held.setpoints; waiting = h.held.waiting; sequence = h.held.sequence; totals = h.held.totals };
}

pub turns_panel : (p : Panel) → (l l' : List ℕ) → l' ≡ put_part panel_rows (panel_numbers p) l → Turns l l' (λ (st : State). with_panel st p)
unfolding image_of put_state
turns_panel p l l' e st h = record {
  image =
      sym (part_anew state_length (book_rows ++ stability_rows ++ weighing_rows) panel_rows (setpoint_rows ++ sequence_rows ++ totals_rows ++ waiting_rows) (book_numbers st.book ++ stability_numbers st.stability ++ weighing_numbers st.weighing) (panel_numbers st.panel) (panel_numbers p) (setpoint_numbers st.setpoints ++ sequence_numbers st.sequence ++ totals_numbers st.totals ++ waiting_numbers st.waiting) blank 0 0 tt tt refl refl refl)
      ∙ ap (put_all panel_rows (panel_numbers p)) h.image ∙ sym (put_here panel_rows (panel_numbers p) l (holds_length h)) ∙ sym e;
  held = record { book = h.held.book; run = h.held.run; weighing = h.held.weighing; setpoints = h.held.setpoints; waiting = h.held.waiting; sequence = h.held.sequence; totals = h.held.totals };
}

pub turns_setpoints : (p : Setpoints) → HeldSetpoints p → (l l' : List ℕ) → l' ≡ put_part setpoint_rows (setpoint_numbers p) l → Turns l l' (λ (st : State). with_setpoints st p)
unfolding image_of put_state
turns_setpoints p k l l' e st h = record {
  image =
      sym (part_anew state_length (book_rows ++ stability_rows ++ weighing_rows ++ panel_rows) setpoint_rows (sequence_rows ++ totals_rows ++ waiting_rows) (book_numbers st.book ++ stability_numbers st.stability ++ weighing_numbers st.weighing ++ panel_numbers st.panel) (setpoint_numbers st.setpoints) (setpoint_numbers p) (sequence_numbers st.sequence ++ totals_numbers st.totals ++ waiting_numbers st.waiting) blank 0 0 tt tt refl refl refl)
      ∙ ap (put_all setpoint_rows (setpoint_numbers p)) h.image ∙ sym (put_here setpoint_rows (setpoint_numbers p) l (holds_length h)) ∙ sym e;
  held = record { book = h.held.book; run = h.held.run; weighing = h.held.weighing; setpoints = k; waiting = h.held.waiting; sequence = h.held.sequence; totals = h.held.totals };
}

pub turns_sequence : (q : Sequence) → HeldSequence q → (l l' : List ℕ) → l' ≡ put_part sequence_rows (sequence_numbers q) l → Turns l l' (λ (st : State). with_sequence st q)
unfolding image_of put_state
turns_sequence q k l l' e st h = record {
  image =
      sym (part_anew state_length (book_rows ++ stability_rows ++ weighing_rows ++ panel_rows ++ setpoint_rows) sequence_rows (totals_rows ++ waiting_rows) (book_numbers st.book ++ stability_numbers st.stability ++ weighing_numbers st.weighing ++ panel_numbers st.panel ++ setpoint_numbers st.setpoints) (sequence_numbers st.sequence) (sequence_numbers q) (totals_numbers st.totals ++ waiting_numbers st.waiting) blank 0 0 tt tt refl refl refl)
      ∙ ap (put_all sequence_rows (sequence_numbers q)) h.image ∙ sym (put_here sequence_rows (sequence_numbers q) l (holds_length h)) ∙ sym e;
  held = record { book = h.held.book; run = h.held.run; weighing = h.held.weighing; setpoints = h.held.setpoints; waiting = h.held.waiting; sequence = k; totals = h.held.totals };
}

pub turns_totals : (t : Totals) → HeldTotals t → (l l' : List ℕ) → l' ≡ put_part totals_rows (totals_numbers t) l → Turns l l' (λ (st : State). with_totals st t)
unfolding image_of put_state
turns_totals t k l l' e st h = record {
  image =
      sym (part_anew state_length (book_rows ++ stability_rows ++ weighing_rows ++ panel_rows ++ setpoint_rows ++ sequence_rows) totals_rows waiting_rows (book_numbers st.book ++ stability_numbers st.stability ++ weighing_numbers st.weighing ++ panel_numbers st.panel ++ setpoint_numbers st.setpoints ++ sequence_numbers st.sequence) (totals_numbers st.totals) (totals_numbers t) (waiting_numbers st.waiting) blank 0 0 tt tt refl refl refl)
      ∙ ap (put_all totals_rows (totals_numbers t)) h.image ∙ sym (put_here totals_rows (totals_numbers t) l (holds_length h)) ∙ sym e;
  held = record { book = h.held.book; run = h.held.run; weighing = h.held.weighing; setpoints = h.held.setpoints; waiting = h.held.waiting; sequence = h.held.sequence; totals = k };
}

pub turns_waiting : (w : Option Setpoints) → HeldSetpoints (write_points w) → (l l' : List ℕ) → l' ≡ put_part waiting_rows (waiting_numbers w) l → Turns l l' (λ (st : State). with_waiting st w)
unfolding image_of put_state
turns_waiting w k l l' e st h = record {
  image =
      sym (part_anew state_length (book_rows ++ stability_rows ++ weighing_rows ++ panel_rows ++ setpoint_rows ++ sequence_rows ++ totals_rows) waiting_rows [] (book_numbers st.book ++ stability_numbers st.stability ++ weighing_numbers st.weighing ++ panel_numbers st.panel ++ setpoint_numbers st.setpoints ++ sequence_numbers st.sequence ++ totals_numbers st.totals) (waiting_numbers st.waiting) (waiting_numbers w) [] blank 0 0 tt tt refl refl refl)
      ∙ ap (put_all waiting_rows (waiting_numbers w)) h.image ∙ sym (put_here waiting_rows (waiting_numbers w) l (holds_length h)) ∙ sym e;
  held = record { book = h.held.book; run = h.held.run; weighing = h.held.weighing; setpoints = h.held.setpoints; waiting = k; sequence = h.held.sequence; totals = h.held.totals };
}

-- ---- the opening state's image is all 0
open_held : HeldState open_state
unfolding open_state stage_timer back_weight write_points
open_held = record {
  book = record { opening = none; last = none; refilled = empty; used = empty; unbooked = empty; ticks = omega arith };
  run = omega arith;
  weighing = record { zero = none; tracked = none; tare = none; counter = omega arith };
  setpoints = none_held;
  waiting = none_held;
  sequence = record { timer = omega arith; clock = omega arith };
  totals = record { total = omega arith; count = omega arith; weight = omega arith };
}
  where
    none : SFits w32 (pos 0)
    none = sfits_of (omega arith)

    empty : SFits w64 (pos 0)
    empty = sfits_of (omega arith)

pub open_image_lem : image_of open_state ≡ blank
unfolding image_of put_state put_all put_be coded flag_tag display_number stage_timer back_tag back_weight write_tag write_points open_state
open_image_lem = refl

pub open_holds : Holds blank open_state
open_holds = record { image = open_image_lem; held = open_held }
