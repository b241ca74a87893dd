-- The figures of images are the definitions', computed. Assumes nothing.
use mathlib.Core.Path.{refl}
use Rattle.places.specs.Places.{be_at, put_be, get_all, put_all, signed, coded, flag_of, flag_tag, same_bytes}
use Rattle.outline.specs.Settings.{settings_of}
use Rattle.outline.specs.Tick.{open_state}
use Rattle.outline.specs.Setpoints.{setpoints_fit}
use Rattle.images.specs.StateImage.{display_number, display_of, stage_of, stage_timer, error_of, judgement_of, back_tag, back_weight, back_of, write_tag, write_points, write_of, put_state, image_of, state_at, grown_of}
use Rattle.images.specs.GivenImage.{put_given, given_image}
use Rattle.images.specs.Possible.{book_possible, stability_possible, weighing_possible, time_of, clock_limit, sequence_fits, totals_possible, flow_possible, together_fits, possible}
use Rattle.images.specs.Images.{earlier_refusal}
use Rattle.images.specs.Figures.{Imaged, Earlier, Judged}

pub imaged : Imaged
unfolding image_of put_state given_image put_given put_all put_be coded flag_tag display_number stage_timer back_tag back_weight write_tag write_points open_state
imaged = record { settings_a_lem = refl; settings_b = refl; opening = refl; mid = refl; feeding = refl; idle = refl; failed = refl; light = refl; unweighed = refl }

pub earlier : Earlier
unfolding image_of put_state state_at grown_of earlier_refusal be_at put_be get_all put_all signed coded flag_of flag_tag same_bytes display_number display_of stage_of stage_timer error_of judgement_of back_tag back_weight back_of write_tag write_points write_of
earlier = record {
  feeding_read = refl;
  feeding_taken = refl;
  feeding_grown = refl;
  idle_read = refl;
  idle_taken = refl;
  idle_grown = refl;
  one_short = refl;
  one_more_lem = refl;
  present = refl;
  last_unused = refl;
  no_display = refl;
}

pub judged : Judged
unfolding possible book_possible stability_possible weighing_possible setpoints_fit time_of clock_limit sequence_fits totals_possible flow_possible together_fits stage_timer back_tag back_weight settings_of
judged = record {
  mid_stands = refl;
  feeding_stands = refl;
  idle_stands = refl;
  failed_stands = refl;
  light_stands = refl;
  unweighed_stands = refl;
  unbalanced = refl;
  ticks_most = refl;
  ticks_over = refl;
  unbooked_early = refl;
  sums_most = refl;
  sums_over = refl;
  counter_most = refl;
  counter_while_closed = refl;
  counter_over = refl;
  tracked_most = refl;
  tracked_over = refl;
  tracked_least = refl;
  tracked_under = refl;
  counter_in_a_batch = refl;
  zero_most = refl;
  zero_over = refl;
  keyed_over = refl;
  tare_most = refl;
  tare_over = refl;
  tare_below = refl;
  off_tracked = refl;
  off_still = refl;
  run_most = refl;
  run_over = refl;
  batch_after_bad = refl;
  good_unbegun = refl;
  timer_most = refl;
  timer_over = refl;
  timer_of_0 = refl;
  timer_of_0_over = refl;
  clock_over = refl;
  judgement_in_a_batch = refl;
  stopped_discharge = refl;
  stopped_discharge_in_mode_2 = refl;
  bad_weight_in_mode_2 = refl;
  discharging = refl;
  discharging_in_mode_2 = refl;
  error_in_a_discharge = refl;
  discharge_clock_over = refl;
  delay_with_a_clock = refl;
  large_flow = refl;
  medium_flow_without_p = refl;
  large_flow_without_op = refl;
  start_without_f = refl;
  flow_without_f = refl;
  p_not_above_ff = refl;
  undo_most = refl;
  undo_over = refl;
  undo_of_none = refl;
  total_over = refl;
  waiting_in_00 = refl;
  waiting_in_a_batch = refl;
  waiting-in-a-discharge = refl;
  waiting_p_not_above_ff = refl;
}
