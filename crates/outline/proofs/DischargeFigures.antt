-- What was worked by hand of a discharge holds: each figure is computed through the definitions. Assumes nothing.
use Rattle.std.specs.Prelude.{Some}
use mathlib.Core.Path.{◌≡◌, refl}
use mathlib.Core.List.{[], ◌∷◌}
use lib.IntN.{pos}
use Rattle.types.specs.declared.requests.Request.TheVariants as request
use Rattle.types.specs.declared.stages.Stage.TheVariants as stage
use Rattle.whole.specs.Nearest.{nearest_n, nearest_of}
use Rattle.whole.specs.Limit.{limit_to}
use Rattle.outline.specs.Settings.{counts_fit, capacity_fits, division_fits, zero_range_fits, tracking_fits, stability_fits, mode_fits, delays_fit, flow_fits, address_fits, analog_fits, discharge_fits, settings_fit, settings_of, open_of}
use Rattle.outline.specs.Weight.{raw_of, weigh_of, steadied_of}
use Rattle.outline.specs.DayBook.{limit_of, booked_of, later_good, book_of, closed_of}
use Rattle.outline.specs.Zero.{tracked_of}
use Rattle.outline.specs.Setpoints.{setpoints_fit}
use Rattle.outline.specs.Stages.{facts_of, wait_of, first_flow, after_start, judged_of, move_of, stop_sequence, land_of, advance_of, gates_of}
use Rattle.outline.specs.Totals.{booked_totals, booked_sequence, taken_back}
use Rattle.outline.specs.Requests.{ruling_of, granted_of, decided_of}
use Rattle.outline.specs.Tick.{open_state, entered_of, weights_of, settled_of, served_of, with_tracking, finished_of, stepped_of, ended_of, next_of, outputs_of, tick_of}
use Rattle.outline.specs.Lines.{line_end_of, line_of, kind_of, prefix_length, is_prefixed, letters_of, field_of, fields_of, decode_of, body_of, spoken_of, command_of}
use Rattle.outline.specs.Replies.{digits_of, weight_text, total_text, points_text, refused_text, framed, reply_text, request_of, shown_of, reply_due, told_of, due_text, line_tick_of, written_of, reply_buffer}
use Rattle.outline.specs.Parts.{with_sequence}
use Rattle.outline.specs.Worked.{leg, shut, emptying}
use Rattle.outline.specs.DischargeFigures.{settings_out, before, course_from, drained, Discharged, Requested}
use Rattle.types.specs.declared.stages.SequenceError.TheVariants as error
use Rattle.types.specs.declared.stages.Judgement.TheVariants as judgement

-- `stopped_batch` written out: under its name its ticks are computed many times over
stopped :
    course_from (settings_out 0 0 6000)
    (with_sequence before (record { stage = stage.SmallDisable 0; clock = 0; error = error.None; judgement = judgement.None }))
    (leg 1 (pos 0) (Some request.Stop) ∷ drained 1 2)
    ≡ record {
      stages = 0 ∷ 14 ∷ 15 ∷ 16 ∷ 0 ∷ [];
      gates = shut ∷ shut ∷ emptying ∷ emptying ∷ shut ∷ [];
      clocks = 0 ∷ 0 ∷ 0 ∷ 1 ∷ 0 ∷ [];
      errors = 4 ∷ 0 ∷ 0 ∷ 0 ∷ 0 ∷ [];
      after = 0 ∷ 0 ∷ 0 ∷ 10 ∷ 1 ∷ [];
    }
unfolding nearest_n nearest_of limit_to settings_of raw_of weigh_of steadied_of limit_of booked_of later_good book_of closed_of tracked_of setpoints_fit facts_of wait_of first_flow after_start judged_of move_of stop_sequence land_of advance_of gates_of booked_totals booked_sequence taken_back ruling_of granted_of decided_of open_state entered_of weights_of settled_of served_of with_tracking finished_of stepped_of ended_of next_of outputs_of tick_of
stopped = refl

pub discharged : Discharged
unfolding nearest_n nearest_of limit_to settings_of raw_of weigh_of steadied_of limit_of booked_of later_good book_of closed_of tracked_of setpoints_fit facts_of wait_of first_flow after_start judged_of move_of stop_sequence land_of advance_of gates_of booked_totals booked_sequence taken_back ruling_of granted_of decided_of open_state entered_of weights_of settled_of served_of with_tracking finished_of stepped_of ended_of next_of outputs_of tick_of
discharged = record {
  reached = refl;
  delays_0 = refl;
  delays_1 = refl;
  delays_3 = refl;
  above-near = refl;
  near_0 = refl;
  near_3 = refl;
  gross_stages = refl;
  gross_nets = refl;
  display_digits = refl;
  past_limit = refl;
  at_limit = refl;
  at_limit_sooner = refl;
  past_limit_3 = refl;
  past_limit_full = refl;
  past_limit_near = refl;
  start_unclocked = refl;
  limit_1 = refl;
  limit_2 = refl;
  own_limit = refl;
  own_limit_batch = refl;
  stop_14 = refl;
  stop_15 = refl;
  stop_16 = refl;
  stop_bad = refl;
  stop_overloaded = refl;
  stop-at-end = refl;
  stop_past_limit = refl;
  stop-twice = refl;
  bad_in_each = refl;
  overloaded_in_each = refl;
  overloaded_below = refl;
  bad_past_limit = refl;
  overloaded_past_limit = refl;
  overload-from = refl;
  judged_ok = refl;
  judged_over = refl;
  judged_under = refl;
  judged_none = refl;
  then_nothing = refl;
  then_undo = refl;
  then_start = refl;
  stopped-batch = stopped;
  day = refl;
  tracking = refl;
}

pub requested : Requested
unfolding nearest_n nearest_of limit_to counts_fit capacity_fits division_fits zero_range_fits tracking_fits stability_fits mode_fits delays_fit flow_fits address_fits analog_fits discharge_fits settings_fit settings_of open_of raw_of weigh_of steadied_of limit_of booked_of later_good book_of closed_of tracked_of setpoints_fit facts_of wait_of first_flow after_start judged_of move_of stop_sequence land_of advance_of gates_of booked_totals booked_sequence taken_back ruling_of granted_of decided_of open_state entered_of weights_of settled_of served_of with_tracking finished_of stepped_of ended_of next_of outputs_of tick_of line_end_of line_of kind_of prefix_length is_prefixed letters_of field_of fields_of decode_of body_of spoken_of command_of digits_of weight_text total_text points_text refused_text framed reply_text request_of shown_of reply_due told_of due_text line_tick_of written_of reply_buffer
requested = record {
  bid_idle = refl;
  bid-running = refl;
  bid_14 = refl;
  bid_15 = refl;
  bid_16 = refl;
  bid-loss-idle = refl;
  bid-loss-running = refl;
  bid_unstable = refl;
  bid_unstable_tick = refl;
  fit_14 = refl;
  fit_15 = refl;
  fit_16 = refl;
  bad_14 = refl;
  bad_15 = refl;
  bad_16 = refl;
  overload_14 = refl;
  overload_15 = refl;
  overload_16 = refl;
  calm_answers = refl;
  calm_stable = refl;
  undo_in_15 = refl;
  clear_in_15 = refl;
  clear_then_undo = refl;
  undo_none = refl;
  net_in_15 = refl;
  gross_in_15 = refl;
  close-in-15 = refl;
  delay_start = refl;
  delay_after = refl;
  limit = refl;
  loss_delay_start = refl;
  loss_delay_after = refl;
  loss_limit = refl;
  bd = refl;
  bd_bad = refl;
  bd_overload = refl;
  bd_under_way = refl;
  bd_loss = refl;
  bd_prefixed = refl;
  bd-prefixed-twice = refl;
  bd_no_prefix = refl;
  bd_letter = refl;
  bd_digit = refl;
  bd_lower_case = refl;
  db = refl;
  bd_within_3 = refl;
  bd_within_3_buffer = refl;
  bd_within_4 = refl;
  bd_within_5 = refl;
  bd_within_5_buffer = refl;
  bd_loss_within_5 = refl;
  bd_loss_within_5_buffer = refl;
}
