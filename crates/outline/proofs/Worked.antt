-- What was worked by hand holds: each figure is computed through the definitions. Assumes nothing.
use mathlib.Core.Path.{refl, ap}
use Rattle.whole.specs.Nearest.{nearest_n, nearest_of}
use Rattle.whole.specs.Limit.{limit_to}
use Rattle.outline.specs.Settings.{counts_fit, capacity_fits, division_fits, zero_range_fits, tracking_fits, stability_fits, mode_fits, delays_fit, flow_fits, address_fits, analog_fits, discharge_fits, settings_fit, settings_of, open_of}
use Rattle.outline.specs.Weight.{raw_of, weigh_of, steadied_of}
use Rattle.outline.specs.DayBook.{limit_of, booked_of, later_good, book_of, closed_of}
use Rattle.outline.specs.Zero.{tracked_of}
use Rattle.outline.specs.Setpoints.{setpoints_fit, near_of, full_of}
use Rattle.outline.specs.Stages.{facts_of, wait_of, first_flow, after_start, judged_of, move_of, stop_sequence, land_of, advance_of, gates_of}
use Rattle.outline.specs.Totals.{booked_totals, booked_sequence, taken_back}
use Rattle.outline.specs.Requests.{ruling_of, granted_of, decided_of}
use Rattle.outline.specs.Analog.{analog_of}
use Rattle.outline.specs.Tick.{open_state, entered_of, weights_of, settled_of, served_of, with_tracking, finished_of, stepped_of, ended_of, next_of, outputs_of, tick_of, count_in}
use Rattle.outline.specs.Lines.{line_end_of, line_of, kind_of, prefix_length, is_prefixed, letters_of, field_of, fields_of, decode_of, body_of, spoken_of, command_of}
use Rattle.outline.specs.Replies.{request_of}
use Rattle.outline.specs.Replies.{digits_of, weight_text, total_text, points_text, refused_text, framed, reply_text, shown_of, reply_due, told_of, due_text, line_tick_of, written_of, reply_buffer}
use Rattle.outline.specs.Worked.{Batches, Letters, Lines}
use Rattle.outline.proofs.FigureRuns.{batch}

pub batches : Batches
unfolding nearest_n nearest_of limit_to counts_fit capacity_fits division_fits zero_range_fits tracking_fits stability_fits mode_fits delays_fit flow_fits address_fits analog_fits discharge_fits settings_fit settings_of open_of raw_of weigh_of steadied_of limit_of booked_of later_good book_of closed_of tracked_of setpoints_fit near_of full_of facts_of wait_of first_flow after_start judged_of move_of stop_sequence land_of advance_of gates_of booked_totals booked_sequence taken_back ruling_of granted_of decided_of analog_of open_state entered_of weights_of settled_of served_of with_tracking finished_of stepped_of ended_of next_of outputs_of tick_of count_in
batches = record { stages = refl; gates = refl; late_stages = refl; finish_at_limit = refl; finish_past_limit = refl; late_errors = refl }

pub letters : Letters
letters = record { rw = refl; rt = refl; rs = refl; mz = refl; mt = refl; ct = refl; mg = refl; mn = refl; bb = refl; hb = refl; dt = refl; ca = refl; dc = refl; bd = refl; ss = refl }

pub lines : Lines
unfolding nearest_n nearest_of limit_to counts_fit capacity_fits division_fits zero_range_fits tracking_fits stability_fits mode_fits delays_fit flow_fits address_fits analog_fits discharge_fits settings_fit settings_of open_of raw_of weigh_of steadied_of limit_of booked_of later_good book_of closed_of tracked_of setpoints_fit near_of full_of facts_of wait_of first_flow after_start judged_of move_of stop_sequence land_of advance_of gates_of booked_totals booked_sequence taken_back ruling_of granted_of decided_of analog_of open_state entered_of weights_of settled_of served_of with_tracking finished_of stepped_of ended_of next_of outputs_of tick_of count_in line_end_of line_of kind_of prefix_length is_prefixed letters_of field_of fields_of decode_of body_of spoken_of command_of request_of digits_of weight_text total_text points_text refused_text framed reply_text shown_of reply_due told_of due_text line_tick_of written_of reply_buffer
lines = record {
  rw = refl;
  rw_length = refl;
  rw_unstable = refl;
  rw_over = refl;
  rw_bad = refl;
  rw_prefixed = refl;
  rw_net = refl;
  rt = ap (λ x. x.shown) batch;
  ss = refl;
  rs = refl;
  ss_short = refl;
  ss_letter = refl;
  mz_unstable = refl;
  mz_short = refl;
  mz_short_buffer = refl;
  mz_short_zero = refl;
  mz_zero = refl;
  mz_gross = refl;
  ng_short = refl;
  other_address = refl;
  no_prefix = refl;
  no_prefix_silent = refl;
  no_line = refl;
  long_line = refl;
  long_line_silent = refl;
  line_of_64 = refl;
  empty_line = refl;
  too_long = refl;
  lower_case = refl;
}
