-- What was worked by hand of request A5 holds: each figure is computed through the definitions. Assumes nothing.
use mathlib.Core.Path.{refl}
use Rattle.whole.specs.Nearest.{nearest_n, nearest_of}
use Rattle.whole.specs.Limit.{limit_to}
use Rattle.outline.specs.Settings.{settings_of}
use Rattle.outline.specs.Weight.{raw_of, weigh_of, steadied_of}
use Rattle.outline.specs.DayBook.{limit_of, booked_of, later_good, book_of, closed_of}
use Rattle.outline.specs.Zero.{tracked_of}
use Rattle.outline.specs.Setpoints.{setpoints_fit, near_of}
use Rattle.outline.specs.Stages.{facts_of, wait_of, first_flow, after_start, judged_of, move_of, stop_sequence, land_of, advance_of}
use Rattle.outline.specs.Totals.{booked_totals, booked_sequence, taken_back}
use Rattle.outline.specs.Requests.{ruling_of, granted_of, decided_of}
use Rattle.outline.specs.Tick.{open_state, entered_of, weights_of, settled_of, served_of, with_tracking, finished_of, stepped_of, ended_of, next_of, outputs_of, tick_of, count_in}
use Rattle.outline.specs.Lines.{line_end_of, line_of, kind_of, prefix_length, is_prefixed, letters_of, field_of, fields_of, decode_of, body_of, spoken_of, command_of}
use Rattle.outline.specs.Replies.{digits_of, points_text, framed, reply_text, request_of, shown_of, reply_due, told_of, due_text, line_tick_of, written_of, reply_buffer}
use Rattle.outline.specs.WaitingFigures.{Waited}

pub waited : Waited
unfolding nearest_n nearest_of limit_to settings_of raw_of weigh_of steadied_of limit_of booked_of later_good book_of closed_of tracked_of setpoints_fit near_of facts_of wait_of first_flow after_start judged_of move_of stop_sequence land_of advance_of booked_totals booked_sequence taken_back ruling_of granted_of decided_of open_state entered_of weights_of settled_of served_of with_tracking finished_of stepped_of ended_of next_of outputs_of tick_of count_in line_end_of line_of kind_of prefix_length is_prefixed letters_of field_of fields_of decode_of body_of spoken_of command_of digits_of points_text framed reply_text request_of shown_of reply_due told_of due_text line_tick_of written_of reply_buffer
waited = record {
  not-3 = refl;
  broken = refl;
  broken_waits = (refl, refl);
  in_00 = (refl, refl);
  in_09 = (refl, refl);
  in_15 = (refl, refl);
  second = (refl, refl);
  by_the_old = refl;
  still_waits = (refl, refl);
  finished = refl;
  finished_sets = (refl, refl);
  finished_over = refl;
  finished_over_sets = (refl, refl);
  finished_near = refl;
  failed = refl;
  failed_sets = (refl, refl);
  stopped_sets = (refl, refl);
  stopped_near = refl;
  in_16 = (refl, refl);
  emptied = (refl, refl);
  with_finish = refl;
  with_finish_sets = (refl, refl);
  next-batch = refl;
  cleared = refl;
  cleared_sets = (refl, refl);
  undone = refl;
  undone_sets = (refl, refl);
  no_room = (refl, refl);
  noughts = (refl, refl);
  noughts_read = refl;
  noughts-next = refl;
  read_waiting = refl;
  read_finishing = refl;
  read_after = refl;
  read_none = refl;
}
