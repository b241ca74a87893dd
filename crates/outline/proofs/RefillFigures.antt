-- What was worked by hand of refills and their splashes holds: each figure is computed through the definitions. Assumes nothing.
use mathlib.Core.Path.{refl}
use Rattle.whole.specs.Nearest.{nearest_n, nearest_of}
use Rattle.whole.specs.Limit.{limit_to}
use Rattle.outline.specs.Settings.{settings_of}
use Rattle.outline.specs.Weight.{raw_of, weigh_of, steadied_of}
use Rattle.outline.specs.DayBook.{limit_of, booked_of, later_good, book_of, closed_of}
use Rattle.outline.specs.Zero.{tracked_of}
use Rattle.outline.specs.Stages.{advance_of}
use Rattle.outline.specs.Requests.{ruling_of, granted_of, decided_of}
use Rattle.outline.specs.Tick.{open_state, entered_of, weights_of, settled_of, served_of, with_tracking, finished_of, stepped_of, ended_of, next_of, outputs_of, tick_of}
use Rattle.outline.specs.RefillFigures.{Refills}

pub refills : Refills
unfolding nearest_n nearest_of limit_to settings_of raw_of weigh_of steadied_of limit_of booked_of later_good book_of closed_of tracked_of advance_of ruling_of granted_of decided_of open_state entered_of weights_of settled_of served_of with_tracking finished_of stepped_of ended_of next_of outputs_of tick_of
refills = record {
  ticket = refl;
  rising = refl;
  reopened = refl;
  over-bad = refl;
  over-bad-closed = refl;
  bad-closed = refl;
  close-filling = refl;
  close-then-bad = refl;
  close-in-splash = refl;
  first-filling = refl;
  bad-before-first = refl;
  refused-close = refl;
  refused-close-open = refl;
  close-first = refl;
  past_limit = refl;
  filling-at-limit = refl;
  open-past-limit = refl;
  limit-by-bad = refl;
  first-past-limit = refl;
  close-at-limit = refl;
  close_open = refl;
  overloaded = refl;
  unchanged = refl;
  falling = refl;
  close-late-first = refl;
  ticks = refl;
  late_ticks = refl;
}
