-- The figures hold: each is computed, runs of some hundred ticks among them. Assumes nothing.
use mathlib.Core.Path.{refl, ap}
use lib.Ieee.{of_int, sub, mul, div, add, lt}
use Rattle.whole.specs.Nearest.{nearest_n, nearest_of}
use Rattle.whole.specs.Limit.{limit_to}
use Rattle.outline.specs.Settings.{counts_fit, capacity_fits, division_fits, zero_range_fits, tracking_fits, stability_fits, mode_fits, delays_fit, flow_fits, address_fits, analog_fits, discharge_fits, settings_fit, settings_of, open_of}
use Rattle.outline.specs.Weight.{raw_of, weigh_of, steadied_of}
use Rattle.outline.specs.DayBook.{limit_of, booked_of, later_good, book_of, closed_of}
use Rattle.outline.specs.Zero.{tracked_of}
use Rattle.outline.specs.Setpoints.{setpoints_fit, near_of, full_of}
use Rattle.outline.specs.Stages.{facts_of, wait_of, first_flow, after_start, judged_of, move_of, stop_sequence, land_of, advance_of, gates_of}
use Rattle.outline.specs.Totals.{booked_totals, booked_sequence, taken_back}
use Rattle.outline.specs.Requests.{ruling_of, granted_of, decided_of}
use Rattle.outline.specs.Analog.{between_of, clip_of, analog_of}
use Rattle.outline.specs.Tick.{open_state, entered_of, weights_of, settled_of, served_of, with_tracking, finished_of, stepped_of, ended_of, next_of, outputs_of, tick_of, count_in}
use Rattle.outline.specs.Figures.{Starred, Runs, Table}
use Rattle.outline.proofs.FigureRuns.{falls, batch}

pub starred : Starred
unfolding of_int sub mul div add lt nearest_n nearest_of limit_to counts_fit capacity_fits division_fits zero_range_fits tracking_fits stability_fits mode_fits delays_fit flow_fits address_fits analog_fits discharge_fits settings_fit settings_of open_of raw_of weigh_of steadied_of limit_of booked_of later_good book_of closed_of tracked_of setpoints_fit near_of full_of facts_of wait_of first_flow after_start judged_of move_of stop_sequence land_of advance_of gates_of booked_totals booked_sequence taken_back ruling_of granted_of decided_of between_of clip_of analog_of open_state entered_of weights_of settled_of served_of with_tracking finished_of stepped_of ended_of next_of outputs_of tick_of count_in
starred = record {
  s_100000 = refl;
  opened = refl;
  s_99999 = refl;
  count_44 = refl;
  count_45 = refl;
  count_minus_45 = refl;
  count_45_with_d_5 = refl;
  count_100084 = refl;
  count_100084_fits = refl;
  count_100085 = refl;
  zero_at_2000 = refl;
  zero_at_2001 = refl;
  p_at_ff = refl;
  op_without_p = refl;
  one_batch_lem = (ap (λ x. x.total) batch, ap (λ x. x.count) batch);
  undo_once = ap (λ x. x.undo) batch;
  undo_twice = ap (λ x. x.undo_again) batch;
  volts_at_low_end = refl;
}

pub runs : Runs
unfolding nearest_n nearest_of limit_to settings_of raw_of weigh_of steadied_of limit_of booked_of later_good book_of closed_of tracked_of near_of full_of facts_of advance_of gates_of ruling_of granted_of decided_of analog_of open_state entered_of weights_of settled_of served_of with_tracking finished_of stepped_of ended_of next_of outputs_of tick_of count_in
runs = record {
  zero_after_falls = ap (λ x. x.zero) falls;
  gross_after_falls = ap (λ x. x.gross) falls;
  used_after_falls = ap (λ x. x.used) falls;
  ticket = refl;
}

pub table : Table
unfolding counts_fit capacity_fits division_fits zero_range_fits tracking_fits stability_fits mode_fits delays_fit flow_fits address_fits analog_fits discharge_fits settings_fit
table = record { ranges = refl; high_end_below = refl; equal_ends = refl; divisions = refl }
