-- The rules worked by hand hold: each figure is computed through the definitions. Assumes nothing.
use Prim.Native.Nat.{suc}
use mathlib.Core.Path.{◌≡◌, refl, ap}
use mathlib.Core.Bool.{Bool, false, true}
use mathlib.Core.List.{List, []}
use lib.Dec.{leb}
use lib.ListN.{length, replicate}
use lib.IntN.{ℤ, pos}
use Rattle.types.specs.declared.settings.Settings.{Settings}
use Rattle.types.specs.declared.machine.State.{State}
use Rattle.whole.specs.Nearest.{nearest_n, nearest_of}
use Rattle.whole.specs.Limit.{limit_to}
use Rattle.outline.specs.Settings.{counts_fit, capacity_fits, division_fits, zero_range_fits, tracking_fits, stability_fits, mode_fits, delays_fit, flow_fits, address_fits, analog_fits, discharge_fits, settings_fit, settings_of, open_of}
use Rattle.outline.specs.Weight.{raw_of, weigh_of, steadied_of}
use Rattle.outline.specs.DayBook.{limit_of, booked_of, later_good, book_of, closed_of}
use Rattle.outline.specs.Zero.{tracked_of}
use Rattle.outline.specs.Setpoints.{setpoints_fit, near_of, full_of}
use Rattle.outline.specs.Stages.{facts_of, wait_of, first_flow, after_start, judged_of, move_of, stop_sequence, land_of, advance_of, gates_of}
use Rattle.outline.specs.Totals.{booked_totals, booked_sequence, taken_back}
use Rattle.outline.specs.Requests.{ruling_of, granted_of, decided_of}
use Rattle.outline.specs.Analog.{analog_of}
use Rattle.outline.specs.Tick.{open_state, entered_of, weights_of, settled_of, served_of, with_tracking, finished_of, stepped_of, ended_of, next_of, outputs_of, tick_of, count_in, block_of}
use Rattle.outline.specs.Lines.{line_end_of, line_of, kind_of, prefix_length, is_prefixed, letters_of, field_of, fields_of, decode_of, body_of, spoken_of, command_of}
use Rattle.outline.specs.Replies.{request_of}
use Rattle.outline.specs.Replies.{digits_of, weight_text, total_text, points_text, refused_text, framed, reply_text, shown_of, reply_due, told_of, due_text, line_tick_of, written_of, reply_buffer}
use Rattle.outline.specs.Limits.{block_limit}
use Rattle.outline.specs.Figures.{settings_a}
use Rattle.outline.specs.Rules.{running, Weighed, Refused, Staged, Booked}
use Rattle.outline.proofs.FigureRuns.{batch}

-- blocks that leave the state as it is, whatever it is
empty_block : (s : Settings) (st : State) (contact : Bool) → (block_of s st [] contact).state ≡ st
unfolding block_of
empty_block s st contact = refl

long_block : (s : Settings) (st : State) (counts : List ℤ) (contact : Bool) → leb (length counts) block_limit ≡ false → (block_of s st counts contact).state ≡ st
unfolding block_of
long_block s st counts contact h = rw h

pub weighed : Weighed
unfolding nearest_n nearest_of limit_to counts_fit capacity_fits division_fits zero_range_fits tracking_fits stability_fits mode_fits delays_fit flow_fits address_fits analog_fits discharge_fits settings_fit settings_of open_of raw_of weigh_of steadied_of limit_of booked_of later_good book_of closed_of tracked_of setpoints_fit near_of full_of facts_of wait_of first_flow after_start judged_of move_of stop_sequence land_of advance_of gates_of booked_totals booked_sequence taken_back ruling_of granted_of decided_of analog_of open_state entered_of weights_of settled_of served_of with_tracking finished_of stepped_of ended_of next_of outputs_of tick_of count_in line_end_of line_of kind_of prefix_length is_prefixed letters_of field_of fields_of decode_of body_of spoken_of command_of request_of digits_of weight_text total_text points_text refused_text framed reply_text shown_of reply_due told_of due_text line_tick_of written_of reply_buffer block_of
weighed = record {
  raw_up = refl;
  raw_down = refl;
  raw_at_z = refl;
  raw_bad = refl;
  bad_gross = refl;
  bad_net = refl;
  bad_overload = refl;
  tare_own = refl;
  tare_later = refl;
  tare_cleared = refl;
  tare_minus_4 = refl;
  tare_minus_5 = refl;
  tare_at_c = refl;
  tare_past_c = refl;
}

pub refused : Refused
unfolding nearest_n nearest_of limit_to counts_fit capacity_fits division_fits zero_range_fits tracking_fits stability_fits mode_fits delays_fit flow_fits address_fits analog_fits discharge_fits settings_fit settings_of open_of raw_of weigh_of steadied_of limit_of booked_of later_good book_of closed_of tracked_of setpoints_fit near_of full_of facts_of wait_of first_flow after_start judged_of move_of stop_sequence land_of advance_of gates_of booked_totals booked_sequence taken_back ruling_of granted_of decided_of analog_of open_state entered_of weights_of settled_of served_of with_tracking finished_of stepped_of ended_of next_of outputs_of tick_of count_in line_end_of line_of kind_of prefix_length is_prefixed letters_of field_of fields_of decode_of body_of spoken_of command_of request_of digits_of weight_text total_text points_text refused_text framed reply_text shown_of reply_due told_of due_text line_tick_of written_of reply_buffer block_of
refused = record {
  bad = refl;
  overload = refl;
  not_idle = refl;
  unstable = refl;
  outside = refl;
  start_bad = refl;
  start_overload = refl;
  start_running = refl;
  start_unstable = refl;
  discharge_bad = refl;
  discharge_overload = refl;
  discharge_running = refl;
  discharge_unstable = refl;
  tare_clear_running = refl;
  tare_clear_bad = refl;
  set_running = refl;
  close_bad = refl;
  close_overload = refl;
  undo_none = refl;
  stop = refl;
  clear = refl;
  show = refl;
}

pub staged : Staged
unfolding nearest_n nearest_of limit_to counts_fit capacity_fits division_fits zero_range_fits tracking_fits stability_fits mode_fits delays_fit flow_fits address_fits analog_fits discharge_fits settings_fit settings_of open_of raw_of weigh_of steadied_of limit_of booked_of later_good book_of closed_of tracked_of setpoints_fit near_of full_of facts_of wait_of first_flow after_start judged_of move_of stop_sequence land_of advance_of gates_of booked_totals booked_sequence taken_back ruling_of granted_of decided_of analog_of open_state entered_of weights_of settled_of served_of with_tracking finished_of stepped_of ended_of next_of outputs_of tick_of count_in line_end_of line_of kind_of prefix_length is_prefixed letters_of field_of fields_of decode_of body_of spoken_of command_of request_of digits_of weight_text total_text points_text refused_text framed reply_text shown_of reply_due told_of due_text line_tick_of written_of reply_buffer block_of
staged = record {
  ok_at_over = refl;
  over = refl;
  ok_at_under = refl;
  under = refl;
  no_final = refl;
  reached = refl;
  not_reached = refl;
  stopped = refl;
  stopped_idle = refl;
  bad = refl;
  overloaded = refl;
  not_booked = refl;
  not_booked_judged = refl;
  large_to_small_lem = refl;
  no_medium = refl;
  loss_stages = refl;
  loss_full = refl;
  undone = (ap (λ x. x.undone_total) batch, ap (λ x. x.undone_count) batch);
  read_before = refl;
  read_after = refl;
}

pub booked : Booked
unfolding nearest_n nearest_of limit_to counts_fit capacity_fits division_fits zero_range_fits tracking_fits stability_fits mode_fits delays_fit flow_fits address_fits analog_fits discharge_fits settings_fit settings_of open_of raw_of weigh_of steadied_of limit_of booked_of later_good book_of closed_of tracked_of setpoints_fit near_of full_of facts_of wait_of first_flow after_start judged_of move_of stop_sequence land_of advance_of gates_of booked_totals booked_sequence taken_back ruling_of granted_of decided_of analog_of open_state entered_of weights_of settled_of served_of with_tracking finished_of stepped_of ended_of next_of outputs_of tick_of count_in line_end_of line_of kind_of prefix_length is_prefixed letters_of field_of fields_of decode_of body_of spoken_of command_of request_of digits_of weight_text total_text points_text refused_text framed reply_text shown_of reply_due told_of due_text line_tick_of written_of reply_buffer block_of
booked = record {
  first = refl;
  last_booked = refl;
  not_booked = refl;
  unbooked = refl;
  bad_counts = refl;
  next_day = refl;
  near = refl;
  near_above = refl;
  near_bad = refl;
  near_overload = refl;
  full = refl;
  full_bad = refl;
  full_overload = refl;
  no_value_bad = refl;
  no_value_overload = refl;
  no_value = refl;
  no_line_first = refl;
  long_first = refl;
  empty_prefixed = refl;
  block = refl;
  block_empty = (refl, empty_block settings_a running true);
  block_long_state = long_block settings_a running (replicate (suc block_limit) (pos 0)) false refl;
  block_long = refl;
}
