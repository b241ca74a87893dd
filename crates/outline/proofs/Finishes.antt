-- What was worked by hand of finishes holds: each figure is computed through the definitions. Assumes nothing.
use mathlib.Core.Path.{refl}
use Rattle.whole.specs.Nearest.{nearest_n, nearest_of}
use Rattle.whole.specs.Limit.{limit_to}
use Rattle.outline.specs.Settings.{settings_of}
use Rattle.outline.specs.Weight.{raw_of, weigh_of, steadied_of}
use Rattle.outline.specs.DayBook.{limit_of, booked_of, later_good, book_of}
use Rattle.outline.specs.Zero.{tracked_of}
use Rattle.outline.specs.Setpoints.{setpoints_fit}
use Rattle.outline.specs.Stages.{facts_of, wait_of, first_flow, after_start, judged_of, move_of, stop_sequence, land_of, advance_of}
use Rattle.outline.specs.Totals.{booked_totals, booked_sequence, taken_back}
use Rattle.outline.specs.Requests.{ruling_of, granted_of, decided_of}
use Rattle.outline.specs.Tick.{open_state, entered_of, weights_of, settled_of, served_of, with_tracking, finished_of, stepped_of, ended_of, next_of, tick_of}
use Rattle.outline.specs.Finishes.{Finished}

pub finished : Finished
unfolding nearest_n nearest_of limit_to settings_of raw_of weigh_of steadied_of limit_of booked_of later_good book_of tracked_of setpoints_fit facts_of wait_of first_flow after_start judged_of move_of stop_sequence land_of advance_of booked_totals booked_sequence taken_back ruling_of granted_of decided_of open_state entered_of weights_of settled_of served_of with_tracking finished_of stepped_of ended_of next_of tick_of
finished = record {
  once_booked = refl;
  twice_booked = refl;
  its_own_weight = refl;
  loss_booked = refl;
  unstable = refl;
  late = refl;
  bad = refl;
  overloaded = refl;
  bad_and_late = refl;
  overloaded_and_late = refl;
  stopped = refl;
  stopped_late = refl;
  undo_before = refl;
  clear_before = refl;
}
