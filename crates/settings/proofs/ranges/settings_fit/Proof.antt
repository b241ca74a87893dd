-- The rows, in the order of the definition.
use borrow.Author.Rules.{rules}
use Rattle.outline.specs.Settings.{settings_fit}
use Rattle.settings.proofs.ranges.settings_fit.Statement.{statement}
use Rattle.settings.proofs.ranges.settings_fit.Tie as tie

counts_fit-requires : tie.Need-counts_fit-requires
counts_fit-requires c κs = search rules

capacity_fits-requires : tie.Need-capacity_fits-requires
capacity_fits-requires c κs = search rules

division_fits-requires : tie.Need-division_fits-requires
division_fits-requires c κs = search rules

zero_range_fits-requires : tie.Need-zero_range_fits-requires
zero_range_fits-requires c κs = search rules

tracking_fits-requires : tie.Need-tracking_fits-requires
tracking_fits-requires c κs = search rules

stability_fits-requires : tie.Need-stability_fits-requires
stability_fits-requires c κs = search rules

mode_fits-requires : tie.Need-mode_fits-requires
mode_fits-requires c κs = search rules

delays_fit-requires : tie.Need-delays_fit-requires
delays_fit-requires c κs = search rules

flow_fits-requires : tie.Need-flow_fits-requires
flow_fits-requires c κs = search rules

address_fits-requires : tie.Need-address_fits-requires
address_fits-requires c κs = search rules

analog_fits-requires : tie.Need-analog_fits-requires
analog_fits-requires c κs = search rules

discharge_fits-requires : tie.Need-discharge_fits-requires
discharge_fits-requires c κs = search rules

returns : tie.Need-returns
unfolding settings_fit
returns c =
    simp (
      c.counts_fit.ensures,
      c.capacity_fits.ensures,
      c.division_fits.ensures,
      c.zero_range_fits.ensures,
      c.tracking_fits.ensures,
      c.stability_fits.ensures,
      c.mode_fits.ensures,
      c.delays_fit.ensures,
      c.flow_fits.ensures,
      c.address_fits.ensures,
      c.analog_fits.ensures,
      c.discharge_fits.ensures,
    )

pub settings_fit_spec : {M : Type 1} → statement M
settings_fit_spec =
    tie.close
    (tie.spec
    counts_fit-requires
    capacity_fits-requires
    division_fits-requires
    zero_range_fits-requires
    tracking_fits-requires
    stability_fits-requires
    mode_fits-requires
    delays_fit-requires
    flow_fits-requires
    address_fits-requires
    analog_fits-requires
    discharge_fits-requires
    returns)
