-- What was worked by hand of requests holds: each figure is computed through the definitions. Assumes nothing.
use mathlib.Core.Path.{refl}
use Rattle.whole.specs.Nearest.{nearest_n, nearest_of}
use Rattle.whole.specs.Limit.{limit_to}
use Rattle.outline.specs.Settings.{settings_of}
use Rattle.outline.specs.Weight.{raw_of, weigh_of, steadied_of}
use Rattle.outline.specs.DayBook.{limit_of, booked_of, later_good, book_of, closed_of}
use Rattle.outline.specs.Zero.{tracked_of}
use Rattle.outline.specs.Setpoints.{setpoints_fit}
use Rattle.outline.specs.Stages.{facts_of, wait_of, first_flow, after_start, judged_of, move_of, stop_sequence, land_of, advance_of}
use Rattle.outline.specs.Totals.{booked_totals, booked_sequence, taken_back}
use Rattle.outline.specs.Requests.{ruling_of, granted_of, decided_of}
use Rattle.outline.specs.Tick.{open_state, entered_of, weights_of, settled_of, served_of, with_tracking, finished_of, stepped_of, ended_of, next_of, outputs_of, tick_of}
use Rattle.outline.specs.RequestFigures.{Asked}

pub asked : Asked
unfolding nearest_n nearest_of limit_to settings_of raw_of weigh_of steadied_of limit_of booked_of later_good book_of closed_of tracked_of setpoints_fit facts_of wait_of first_flow after_start judged_of move_of stop_sequence land_of advance_of booked_totals booked_sequence taken_back ruling_of granted_of decided_of open_state entered_of weights_of settled_of served_of with_tracking finished_of stepped_of ended_of next_of outputs_of tick_of
asked = record {
  tare_bad = refl;
  tare_bad_running = refl;
  tare_overload = refl;
  tare_overload_calm = refl;
  tare_overload_running = refl;
  tare_running = refl;
  tare_running_calm = refl;
  tare_unstable = refl;
  tare_unstable_below = refl;
  tare_below = refl;
  start_bad_running = refl;
  start_overload_running = refl;
  discharge_bad_running = refl;
  discharge_overload_running = refl;
  discharge_running_calm = refl;
  set_bad = refl;
  set_bad_final = refl;
  set_overload = refl;
  set_overload_final = refl;
  set_at_limit = refl;
  set_beyond = refl;
  zero_with_tare = refl;
  tare_d_5 = refl;
  tare_d_5_taken = refl;
  clear_overload = refl;
  clear_overload_tare = refl;
  clear_overload_net = refl;
  stop_anywhere = refl;
  total_clear_anywhere = refl;
  show_gross_anywhere = refl;
  show_net_anywhere = refl;
  stopped_twice = refl;
  one_batch_lem = refl;
  stopped_after_batch = refl;
  step-6-accepted = refl;
  step-6-refused = refl;
  step_6_stop = refl;
}
