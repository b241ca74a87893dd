-- What was worked by hand of weights holds: each figure is computed through the definitions. Assumes nothing.
use mathlib.Core.Path.{refl}
use Rattle.whole.specs.Nearest.{nearest_n, nearest_of}
use Rattle.whole.specs.Limit.{limit_to}
use Rattle.outline.specs.Settings.{settings_of}
use Rattle.outline.specs.Weight.{raw_of, weigh_of, steadied_of}
use Rattle.outline.specs.DayBook.{limit_of, booked_of, later_good, book_of}
use Rattle.outline.specs.Zero.{tracked_of}
use Rattle.outline.specs.Setpoints.{near_of}
use Rattle.outline.specs.Stages.{facts_of, advance_of}
use Rattle.outline.specs.Requests.{ruling_of, granted_of, decided_of}
use Rattle.outline.specs.Tick.{open_state, entered_of, weights_of, settled_of, served_of, with_tracking, finished_of, stepped_of, ended_of, next_of, outputs_of, tick_of}
use Rattle.outline.specs.WeightFigures.{Tracked}

pub tracked : Tracked
unfolding nearest_n nearest_of limit_to settings_of raw_of weigh_of steadied_of limit_of booked_of later_good book_of tracked_of near_of facts_of advance_of ruling_of granted_of decided_of open_state entered_of weights_of settled_of served_of with_tracking finished_of stepped_of ended_of next_of outputs_of tick_of
tracked = record {
  track_5 = refl;
  track_minus_5 = refl;
  track_6 = refl;
  track_minus_6 = refl;
  track_10 = refl;
  track_9_ticks = refl;
  allowance_20 = refl;
  allowance_21 = refl;
  allowance_back = refl;
  gross_at_move = refl;
  near_at_move = refl;
  zero_at_move = refl;
  changes_of_20 = refl;
  changes_of_21 = refl;
  after-bad = refl;
  half_span_gross = refl;
  half_span_overload = refl;
  half_span_zero = refl;
  half_span_tare = refl;
}
