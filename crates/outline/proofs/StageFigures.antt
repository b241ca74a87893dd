-- What was worked by hand of stages holds: each figure is computed through the definitions. Assumes nothing.
use mathlib.Core.Path.{refl}
use Rattle.whole.specs.Nearest.{nearest_n, nearest_of}
use Rattle.whole.specs.Limit.{limit_to}
use Rattle.outline.specs.Settings.{settings_of}
use Rattle.outline.specs.Weight.{raw_of, weigh_of, steadied_of}
use Rattle.outline.specs.DayBook.{limit_of, booked_of, later_good, book_of}
use Rattle.outline.specs.Zero.{tracked_of}
use Rattle.outline.specs.Setpoints.{setpoints_fit}
use Rattle.outline.specs.Stages.{facts_of, wait_of, first_flow, after_start, judged_of, move_of, stop_sequence, land_of, advance_of}
use Rattle.outline.specs.Totals.{booked_totals, booked_sequence}
use Rattle.outline.specs.Requests.{ruling_of, granted_of, decided_of}
use Rattle.outline.specs.Tick.{open_state, entered_of, weights_of, settled_of, served_of, with_tracking, finished_of, stepped_of, ended_of, next_of, outputs_of, tick_of}
use Rattle.outline.specs.StageFigures.{Sequenced}

pub sequenced : Sequenced
unfolding nearest_n nearest_of limit_to settings_of raw_of weigh_of steadied_of limit_of booked_of later_good book_of tracked_of setpoints_fit facts_of wait_of first_flow after_start judged_of move_of stop_sequence land_of advance_of booked_totals booked_sequence ruling_of granted_of decided_of open_state entered_of weights_of settled_of served_of with_tracking finished_of stepped_of ended_of next_of outputs_of tick_of
sequenced = record {
  delays = refl;
  delays_end = refl;
  ahead_of_large = refl;
  quick_stages = refl;
  bad_in_each = refl;
  overloaded_in_each = refl;
  late_in_large_lem = refl;
  late_in_large_errors = refl;
  finish_before_overload = refl;
  finish_in_overload = refl;
  net-stages = refl;
  net_end = refl;
  over_by_1 = refl;
  under_by_3 = refl;
  total_to_limit = refl;
  total_past_limit = refl;
  total_at_limit = refl;
  total_one_more = refl;
  count_to_limit = refl;
  count_to_limit_by_0 = refl;
  count_past_limit = refl;
  count_past_limit_by_0 = refl;
  below_0 = refl;
}
