-- Lines and a log's requests, as worked by hand: each figure is computed through the definitions. Assumes nothing.
use mathlib.Core.Path.{refl}
use Rattle.whole.specs.Nearest.{nearest_n, nearest_of}
use Rattle.whole.specs.Limit.{limit_to}
use Rattle.outline.specs.Settings.{settings_of}
use Rattle.outline.specs.Weight.{raw_of, weigh_of, steadied_of}
use Rattle.outline.specs.DayBook.{limit_of, booked_of, later_good, book_of, closed_of}
use Rattle.outline.specs.Zero.{tracked_of}
use Rattle.outline.specs.Setpoints.{setpoints_fit}
use Rattle.outline.specs.Stages.{facts_of, wait_of, first_flow, after_start, judged_of, move_of, stop_sequence, land_of, advance_of}
use Rattle.outline.specs.Totals.{booked_totals, booked_sequence, taken_back}
use Rattle.outline.specs.Requests.{ruling_of, granted_of, decided_of}
use Rattle.outline.specs.Tick.{open_state, entered_of, weights_of, settled_of, served_of, with_tracking, finished_of, stepped_of, ended_of, next_of, outputs_of, tick_of}
use Rattle.outline.specs.Lines.{line_end_of, line_of, kind_of, prefix_length, is_prefixed, letters_of, field_of, fields_of, decode_of, body_of, spoken_of, command_of}
use Rattle.outline.specs.Replies.{digits_of, weight_text, total_text, points_text, refused_text, framed, reply_text, request_of, shown_of, reply_due, told_of, due_text, line_tick_of, written_of, reply_buffer}
use Rattle.outline.specs.Log.{number_at, log_line_of, is_none, request_tick, request_buffer}
use Rattle.outline.specs.LineFigures.{Received, Spoken, Logged}

pub received : Received
unfolding nearest_n nearest_of limit_to settings_of raw_of weigh_of steadied_of limit_of booked_of later_good book_of closed_of tracked_of setpoints_fit facts_of wait_of first_flow after_start judged_of move_of stop_sequence land_of advance_of booked_totals booked_sequence taken_back ruling_of granted_of decided_of open_state entered_of weights_of settled_of served_of with_tracking finished_of stepped_of ended_of next_of outputs_of tick_of line_end_of line_of kind_of prefix_length is_prefixed letters_of field_of fields_of decode_of body_of spoken_of command_of digits_of weight_text total_text points_text refused_text framed reply_text request_of shown_of reply_due told_of due_text line_tick_of written_of reply_buffer
received = record {
  cr_within = refl;
  cr_within_told = refl;
  cr_twice = refl;
  cr_twice_told = refl;
  cr_cr = refl;
  two_lines = refl;
  two_lines_told = refl;
  bytes_behind = refl;
  bytes_behind_told = refl;
  none_empty = refl;
  long_empty = refl;
  long_told = refl;
  kind_none = refl;
  kind_cr_cr = refl;
  kind_long = refl;
  kind_64 = refl;
  kind_empty = refl;
  kind_one = refl;
  kind-numbers = refl;
}

pub spoken : Spoken
unfolding nearest_n nearest_of limit_to settings_of raw_of weigh_of steadied_of limit_of booked_of later_good book_of closed_of tracked_of setpoints_fit facts_of wait_of first_flow after_start judged_of move_of stop_sequence land_of advance_of booked_totals booked_sequence taken_back ruling_of granted_of decided_of open_state entered_of weights_of settled_of served_of with_tracking finished_of stepped_of ended_of next_of outputs_of tick_of line_end_of line_of kind_of prefix_length is_prefixed letters_of field_of fields_of decode_of body_of spoken_of command_of digits_of weight_text total_text points_text refused_text framed reply_text request_of shown_of reply_due told_of due_text line_tick_of written_of reply_buffer
spoken = record {
  address_1_missing = refl;
  address_1 = refl;
  not_at = refl;
  other_tens = refl;
  address_42 = refl;
  address_42_tens_0 = refl;
  address_42_tens_3 = refl;
  address_42_tens_5 = refl;
  address_99 = refl;
  one_byte = refl;
  one_behind_prefix = refl;
  none_behind_prefix = refl;
  digits_42 = refl;
  digits_41 = refl;
  digits_43 = refl;
  digits_48 = refl;
  digits_42_set = refl;
  digits_43_not_set = refl;
  digits_48_not_set = refl;
  overload_plus = refl;
  overload_minus = refl;
}

pub logged : Logged
unfolding nearest_n nearest_of limit_to settings_of raw_of weigh_of steadied_of limit_of booked_of later_good book_of closed_of tracked_of setpoints_fit facts_of wait_of first_flow after_start judged_of move_of stop_sequence land_of advance_of booked_totals booked_sequence taken_back ruling_of granted_of decided_of open_state entered_of weights_of settled_of served_of with_tracking finished_of stepped_of ended_of next_of outputs_of tick_of line_end_of line_of kind_of prefix_length is_prefixed letters_of field_of fields_of decode_of body_of spoken_of command_of digits_of weight_text total_text points_text refused_text framed reply_text request_of shown_of reply_due told_of due_text line_tick_of written_of reply_buffer number_at log_line_of is_none request_tick request_buffer
logged = record {
  parted_by_x = refl;
  parted_by_minus = refl;
  parted_by_tab = refl;
  minus_x = refl;
  x_minus = refl;
  minus_x_told = refl;
  x_minus_told = refl;
  none_told = refl;
  received = refl;
  received_told = refl;
  received_buffer = refl;
  of_64 = refl;
  of_65 = refl;
  of_100 = refl;
  of_65_received = refl;
  of_100_received = refl;
  none_refilled = refl;
  none_used = refl;
  closed_told = refl;
  closed_day = refl;
}
