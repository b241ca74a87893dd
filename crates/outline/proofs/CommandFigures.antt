-- What each command asks, as worked by hand: each figure is computed through the definitions. Assumes nothing.
use mathlib.Core.Path.{refl}
use Rattle.whole.specs.Nearest.{nearest_n, nearest_of}
use Rattle.whole.specs.Limit.{limit_to}
use Rattle.outline.specs.Settings.{settings_of}
use Rattle.outline.specs.Weight.{raw_of, weigh_of, steadied_of}
use Rattle.outline.specs.DayBook.{limit_of, booked_of, later_good, book_of, closed_of}
use Rattle.outline.specs.Zero.{tracked_of}
use Rattle.outline.specs.Setpoints.{setpoints_fit}
use Rattle.outline.specs.Stages.{facts_of, wait_of, first_flow, after_start, judged_of, move_of, stop_sequence, land_of, advance_of}
use Rattle.outline.specs.Totals.{booked_totals, booked_sequence, taken_back}
use Rattle.outline.specs.Requests.{ruling_of, granted_of, decided_of}
use Rattle.outline.specs.Tick.{open_state, entered_of, weights_of, settled_of, served_of, with_tracking, finished_of, stepped_of, ended_of, next_of, outputs_of, tick_of}
use Rattle.outline.specs.Lines.{line_end_of, line_of, kind_of, prefix_length, is_prefixed, letters_of, field_of, fields_of, decode_of, body_of, spoken_of, command_of}
use Rattle.outline.specs.Replies.{digits_of, weight_text, total_text, points_text, refused_text, framed, reply_text, request_of, shown_of, reply_due, told_of, due_text, line_tick_of, written_of, reply_buffer}
use Rattle.outline.specs.CommandFigures.{Commanded}

pub commanded : Commanded
unfolding nearest_n nearest_of limit_to settings_of raw_of weigh_of steadied_of limit_of booked_of later_good book_of closed_of tracked_of setpoints_fit facts_of wait_of first_flow after_start judged_of move_of stop_sequence land_of advance_of booked_totals booked_sequence taken_back ruling_of granted_of decided_of open_state entered_of weights_of settled_of served_of with_tracking finished_of stepped_of ended_of next_of outputs_of tick_of line_end_of line_of kind_of prefix_length is_prefixed letters_of field_of fields_of decode_of body_of spoken_of command_of digits_of weight_text total_text points_text refused_text framed reply_text request_of shown_of reply_due told_of due_text line_tick_of written_of reply_buffer
commanded = record {
  mz = refl;
  mz_weights = refl;
  mt = refl;
  mt_weights = refl;
  mt_net = refl;
  ct = refl;
  ct_weights = refl;
  ct_net = refl;
  ct_booked = refl;
  mn = refl;
  mn_zero = refl;
  mn_minus = refl;
  mg = refl;
  mg_shown = refl;
  gross_shown = refl;
  bb = refl;
  bb_stage = refl;
  hb = refl;
  hb_stage = refl;
  bd = refl;
  bd_stage = refl;
  bd_then_hb = refl;
  rw = refl;
  rt = refl;
  rs = refl;
  rw_stage = refl;
  rt_stage = refl;
  rs_stage = refl;
  two_booked_lem = refl;
  two_weights = refl;
  dt = refl;
  dt_booked = refl;
  dt_weights = refl;
  dt_then_ca = refl;
  ca = refl;
  ca_booked = refl;
  ca_weights = refl;
  ca_twice = refl;
  dc = refl;
  dc_day = refl;
  dc-next-day = refl;
  dc_booked = refl;
  dc_then_ca = refl;
}
