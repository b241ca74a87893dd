-- Two long runs that figures of several files read: each is computed once here, with all that they read of it. Assumes nothing.
use Rattle.std.specs.Prelude.{None, Some}
use Prim.Native.Nat.{ℕ}
use mathlib.Core.Path.{◌≡◌, refl}
use mathlib.Core.List.{List, ◌++◌}
use lib.IntN.{ℤ, pos}
use Rattle.types.specs.declared.requests.Request.TheVariants as request
use Rattle.types.specs.declared.machine.State.{State}
use Rattle.types.specs.declared.machine.Ticked.{Ticked}
use Rattle.whole.specs.Nearest.{nearest_n, nearest_of}
use Rattle.whole.specs.Limit.{limit_to}
use Rattle.outline.specs.Settings.{settings_of}
use Rattle.outline.specs.Weight.{raw_of, weigh_of, steadied_of}
use Rattle.outline.specs.DayBook.{limit_of, booked_of, later_good, book_of, closed_of}
use Rattle.outline.specs.Zero.{tracked_of}
use Rattle.outline.specs.Setpoints.{setpoints_fit}
use Rattle.outline.specs.Stages.{facts_of, wait_of, first_flow, after_start, judged_of, move_of, stop_sequence, land_of, advance_of}
use Rattle.outline.specs.Totals.{booked_totals, booked_sequence, taken_back}
use Rattle.outline.specs.Requests.{ruling_of, granted_of, decided_of}
use Rattle.outline.specs.Tick.{open_state, entered_of, weights_of, settled_of, served_of, with_tracking, finished_of, stepped_of, ended_of, next_of, outputs_of, tick_of, count_in}
use Rattle.outline.specs.Lines.{line_end_of, line_of, kind_of, prefix_length, is_prefixed, letters_of, field_of, fields_of, decode_of, body_of, spoken_of, command_of}
use Rattle.outline.specs.Replies.{digits_of, total_text, framed, reply_text, request_of, shown_of, reply_due, told_of, due_text, line_tick_of, written_of, reply_buffer}
use Rattle.outline.specs.Ticket.{decimal_in, decimal_text, pair_text, day_text, left_text, ticket_text}
use Rattle.outline.specs.Numbers.{outcome_number}
use Rattle.outline.specs.Figures.{minus, settings_a, tick_at, told, next, held, setpoints}
use Rattle.outline.specs.Worked.{line, reply}
use Rattle.outline.specs.LogFigures.{printed, ticket_after}

-- ---- five falls: read in Figures and LogFigures
pub record OfFalls : Type 0 where
  pub zero : ℤ
  pub gross : ℤ
  pub used : ℤ
  pub ticket : List ℕ

abbrev pub of_falls : Ticked → OfFalls
of_falls t = record {
  zero = t.state.weighing.zero;
  gross = t.answer.reading.gross;
  used = t.state.book.used;
  ticket = ticket_after (tick_at settings_a t.state (minus 25) (Some request.DayClose));
}

pub falls :
    of_falls
    (tick_at settings_a
    (held 99 (held 100 (held 100 (held 100 (held 100 (next open_state (pos 0) None) (minus 5)) (minus 10)) (minus 15)) (minus 20)) (minus 25))
    (minus 25) None)
    ≡ record {
      zero = minus 20;
      gross = minus 1;
      used = pos 25;
      ticket =
          printed "opening=0" ++ printed "refilled=0" ++ printed "used=25" ++ printed "unbooked=0" ++ printed "closing=-25"
          ++ printed "tracked=-20" ++ printed "batches=0" ++ printed "total=0";
    }
unfolding nearest_n nearest_of limit_to settings_of raw_of weigh_of steadied_of limit_of booked_of later_good book_of closed_of tracked_of facts_of advance_of ruling_of granted_of decided_of open_state entered_of weights_of settled_of served_of with_tracking finished_of stepped_of ended_of next_of outputs_of tick_of count_in decimal_in decimal_text pair_text day_text left_text ticket_text
falls = refl

-- ---- one batch: read in Figures, Worked, LogFigures and Rules
pub record OfBatch : Type 0 where
  pub total : ℕ
  pub count : ℕ
  pub undo : ℕ
  pub undo_again : ℕ
  pub undone_total : ℕ
  pub undone_count : ℕ
  pub shown : List ℕ
  pub ticket : List ℕ

abbrev pub of_batch : State → OfBatch
of_batch st = record {
  total = st.totals.total;
  count = st.totals.count;
  undo = outcome_number (told settings_a st (pos 100) (Some request.Undo)).outcome;
  undo_again = outcome_number (told settings_a (next st (pos 100) (Some request.Undo)) (pos 100) (Some request.Undo)).outcome;
  undone_total = (next st (pos 100) (Some request.Undo)).totals.total;
  undone_count = (next st (pos 100) (Some request.Undo)).totals.count;
  shown = reply settings_a st (pos 100) (line "RT") 19;
  ticket = ticket_after (tick_at settings_a st (pos 100) (Some request.DayClose));
}

pub batch :
    of_batch
    (held 103
    (held 2 (next (next open_state (pos 0) (Some (request.Set (setpoints 10 0 0 0)))) (pos 0) (Some request.Start)) (pos 0)) (pos 100))
    ≡ record {
      total = 10;
      count = 1;
      undo = 0;
      undo_again = 7;
      undone_total = 0;
      undone_count = 0;
      shown = line "00000010,00000001";
      ticket =
          printed "opening=0" ++ printed "refilled=0" ++ printed "used=-100" ++ printed "unbooked=0" ++ printed "closing=100"
          ++ printed "tracked=0" ++ printed "batches=1" ++ printed "total=10";
    }
unfolding nearest_n nearest_of limit_to settings_of raw_of weigh_of steadied_of limit_of booked_of later_good book_of closed_of tracked_of setpoints_fit facts_of wait_of first_flow after_start judged_of move_of stop_sequence land_of advance_of booked_totals booked_sequence taken_back ruling_of granted_of decided_of open_state entered_of weights_of settled_of served_of with_tracking finished_of stepped_of ended_of next_of outputs_of tick_of count_in line_end_of line_of kind_of prefix_length is_prefixed letters_of field_of fields_of decode_of body_of spoken_of command_of digits_of total_text framed reply_text request_of shown_of reply_due told_of due_text line_tick_of written_of reply_buffer decimal_in decimal_text pair_text day_text left_text ticket_text
batch = refl
