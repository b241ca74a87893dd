-- What was worked by hand of outputs holds: each figure is computed through the definitions. Assumes nothing.
use mathlib.Core.Path.{refl}
use lib.Ieee.{of_int, sub, mul, div, add, lt}
use Rattle.whole.specs.Nearest.{nearest_n, nearest_of}
use Rattle.whole.specs.Limit.{limit_to}
use Rattle.outline.specs.Settings.{settings_of}
use Rattle.outline.specs.Weight.{raw_of, weigh_of, steadied_of}
use Rattle.outline.specs.DayBook.{limit_of, booked_of, later_good, book_of}
use Rattle.outline.specs.Zero.{tracked_of}
use Rattle.outline.specs.Setpoints.{setpoints_fit, near_of, full_of}
use Rattle.outline.specs.Stages.{facts_of, advance_of, gates_of}
use Rattle.outline.specs.Requests.{ruling_of, granted_of, decided_of}
use Rattle.outline.specs.Analog.{between_of, clip_of, analog_of}
use Rattle.outline.specs.Tick.{open_state, entered_of, weights_of, settled_of, served_of, with_tracking, finished_of, stepped_of, ended_of, next_of, outputs_of, tick_of, block_of}
use Rattle.outline.specs.OutputFigures.{Displayed}

pub displayed : Displayed
unfolding of_int sub mul div add lt nearest_n nearest_of limit_to settings_of raw_of weigh_of steadied_of limit_of booked_of later_good book_of tracked_of setpoints_fit near_of full_of facts_of advance_of gates_of ruling_of granted_of decided_of between_of clip_of analog_of open_state entered_of weights_of settled_of served_of with_tracking finished_of stepped_of ended_of next_of outputs_of tick_of block_of
displayed = record {
  first_at_0 = refl;
  first_at_10 = refl;
  first_judgement = refl;
  near_zero = refl;
  near_zero_of_gross = refl;
  full = refl;
  full_in_mode_1 = refl;
  analog-numbers = refl;
  analog_none = refl;
  analog_current = refl;
  analog_voltage = refl;
  volts_of_gross = refl;
  volts_of_net = refl;
  volts_of_gross_again = refl;
  current_of_net = refl;
  block_of_4096 = refl;
  block_of_4097 = refl;
}
