-- What was worked by hand of a closed refill contact holds: each figure is computed through the definitions. Assumes nothing.
use mathlib.Core.Path.{refl}
use Rattle.whole.specs.Nearest.{nearest_n, nearest_of}
use Rattle.whole.specs.Limit.{limit_to}
use Rattle.outline.specs.Settings.{settings_of}
use Rattle.outline.specs.Weight.{raw_of, weigh_of, steadied_of}
use Rattle.outline.specs.DayBook.{limit_of, booked_of, later_good, book_of, closed_of}
use Rattle.outline.specs.Zero.{tracked_of}
use Rattle.outline.specs.Setpoints.{setpoints_fit}
use Rattle.outline.specs.Stages.{facts_of, wait_of, first_flow, after_start, judged_of, move_of, stop_sequence, land_of, advance_of}
use Rattle.outline.specs.Totals.{booked_totals, booked_sequence, taken_back}
use Rattle.outline.specs.Requests.{ruling_of, granted_of, decided_of}
use Rattle.outline.specs.Tick.{open_state, entered_of, weights_of, settled_of, served_of, with_tracking, finished_of, stepped_of, ended_of, next_of, outputs_of, tick_of, count_in, block_of}
use Rattle.outline.specs.Lines.{line_end_of, line_of, kind_of, prefix_length, is_prefixed, letters_of, decode_of, body_of, spoken_of, command_of}
use Rattle.outline.specs.Replies.{digits_of, refused_text, framed, reply_text, request_of, reply_due, told_of, due_text, line_tick_of, written_of, reply_buffer}
use Rattle.outline.specs.Log.{is_none, request_tick, request_buffer}
use Rattle.outline.specs.ConnectedFigures.{WhileConnected}

pub while_connected : WhileConnected
unfolding nearest_n nearest_of limit_to settings_of raw_of weigh_of steadied_of limit_of booked_of later_good book_of closed_of tracked_of setpoints_fit facts_of wait_of first_flow after_start judged_of move_of stop_sequence land_of advance_of booked_totals booked_sequence taken_back ruling_of granted_of decided_of open_state entered_of weights_of settled_of served_of with_tracking finished_of stepped_of ended_of next_of outputs_of tick_of line_end_of line_of kind_of prefix_length is_prefixed letters_of decode_of body_of spoken_of command_of refused_text framed reply_text request_of reply_due told_of due_text line_tick_of digits_of written_of reply_buffer is_none request_tick request_buffer count_in block_of
while_connected = record {
  zero_calm = refl;
  zero_at_2000 = refl;
  zero_bad = refl;
  zero_bad_running = refl;
  zero_overload = refl;
  zero_overload_calm = refl;
  zero_overload_running = refl;
  zero_running = refl;
  zero_running_calm = refl;
  zero_unstable = refl;
  zero_outside = refl;
  zero_unstable_outside = refl;
  zero_filled = refl;
  zero_filled_done = refl;
  zero_refused = refl;
  zero_done = refl;
  tare_calm = refl;
  tare_taken = refl;
  tare_running = refl;
  tare_unstable = refl;
  tare_below = refl;
  tare_clear = refl;
  start = refl;
  stop = refl;
  set = refl;
  set_broken = refl;
  total_clear = refl;
  undo = refl;
  show_gross_lem = refl;
  show_net_lem = refl;
  day_close_lem = refl;
  discharge = refl;
  line_zero = refl;
  line_zero_reply = refl;
  line_zero_kept = refl;
  line_tare = refl;
  line_tare_reply = refl;
  line_short = refl;
  line_short_open = refl;
  line_short_closed = refl;
  line_short_5 = refl;
  line_address = refl;
  line_address_short = refl;
  log_zero = refl;
  log_zero_reply = refl;
  track-at-q = refl;
  track-before-q = refl;
  track-filling = refl;
  track-bad = refl;
  track-q-1 = refl;
  track-after-move = refl;
  track-refused = refl;
  track-tare = refl;
  tare_counter = refl;
  stop_counter = refl;
  block_closed = refl;
  block-open = refl;
}
