-- What was worked by hand of openings holds: each figure is computed through the definitions. Assumes nothing.
use mathlib.Core.Path.{refl}
use lib.Ieee.{of_int, sub}
use Rattle.outline.specs.Settings.{counts_fit, capacity_fits, division_fits, zero_range_fits, tracking_fits, stability_fits, mode_fits, delays_fit, flow_fits, address_fits, analog_fits, discharge_fits, settings_fit, settings_of, open_of}
use Rattle.outline.specs.Tick.{open_state}
use Rattle.outline.specs.OpeningFigures.{Opened}

pub opened : Opened
unfolding of_int sub counts_fit capacity_fits division_fits zero_range_fits tracking_fits stability_fits mode_fits delays_fit flow_fits address_fits analog_fits discharge_fits settings_fit settings_of open_of open_state
opened = record {
  settings_a_lem = refl;
  settings_b = refl;
  state = refl;
  accepted = refl;
  no_state = refl;
  other-divisions = refl;
  ends-at-limits = refl;
  low_end_beyond = refl;
  high_end_beyond = refl;
}
