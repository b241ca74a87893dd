-- Each line is read, and each ticket printed, as was worked by hand. Assumes nothing.
use mathlib.Core.Path.{refl, ap}
use Rattle.whole.specs.Nearest.{nearest_n, nearest_of}
use Rattle.whole.specs.Limit.{limit_to}
use Rattle.outline.specs.Settings.{settings_of}
use Rattle.outline.specs.Weight.{raw_of, weigh_of, steadied_of}
use Rattle.outline.specs.DayBook.{limit_of, booked_of, later_good, book_of, closed_of}
use Rattle.outline.specs.Zero.{tracked_of}
use Rattle.outline.specs.Setpoints.{setpoints_fit, near_of, full_of}
use Rattle.outline.specs.Stages.{facts_of, wait_of, first_flow, after_start, judged_of, move_of, stop_sequence, land_of, advance_of, gates_of}
use Rattle.outline.specs.Totals.{booked_totals, booked_sequence, taken_back}
use Rattle.outline.specs.Requests.{ruling_of, granted_of, decided_of}
use Rattle.outline.specs.Analog.{between_of, clip_of, analog_of}
use Rattle.outline.specs.Tick.{open_state, entered_of, weights_of, settled_of, served_of, with_tracking, finished_of, stepped_of, ended_of, next_of, outputs_of, tick_of, count_in}
use Rattle.outline.specs.Log.{number_at, log_line_of, is_none, next_lf, line_at, line_behind, next_line, kept_in}
use Rattle.outline.specs.Ticket.{decimal_in, decimal_text, pair_text, day_text, left_text, ticket_text, refused_text}
use Rattle.outline.specs.LogFigures.{Logs, Inputs, Tickets}
use Rattle.outline.proofs.FigureRuns.{falls, batch}

pub logs : Logs
unfolding number_at log_line_of is_none
logs = record {
  first = refl;
  minus = refl;
  closed = refl;
  close = refl;
  minus_zero_lem = refl;
  zeros = refl;
  nine_digits = refl;
  two_spaces_behind = refl;
  request_100 = refl;
  empty = refl;
  no_request = refl;
  no_byte = refl;
  leading_space = refl;
  two_spaces = refl;
  plus = refl;
  sign_alone = refl;
  ten_digits = refl;
  contact_2 = refl;
  request_101 = refl;
  none = refl;
  three_minuses = refl;
  minuses_cr = refl;
  one_minus = refl;
}

pub inputs : Inputs
unfolding number_at log_line_of next_lf line_at line_behind next_line kept_in
inputs = record {
  at_1 = refl;
  behind_1 = refl;
  behind_2 = refl;
  behind_3 = refl;
  behind_4 = refl;
  last_lf = refl;
  empty_line = refl;
  part_held = refl;
  read-on = refl;
  last_number_lem = refl;
  kept = refl;
  kept_none = refl;
}

pub tickets : Tickets
unfolding nearest_n nearest_of limit_to settings_of raw_of weigh_of steadied_of limit_of booked_of later_good book_of closed_of tracked_of setpoints_fit near_of full_of facts_of wait_of first_flow after_start judged_of move_of stop_sequence land_of advance_of gates_of booked_totals booked_sequence taken_back ruling_of granted_of decided_of between_of clip_of analog_of open_state entered_of weights_of settled_of served_of with_tracking finished_of stepped_of ended_of next_of outputs_of tick_of count_in decimal_in decimal_text pair_text day_text left_text ticket_text refused_text
tickets = record {
  worked = refl;
  falls = ap (λ x. x.ticket) falls;
  one_batch_lem = ap (λ x. x.ticket) batch;
  none = refl;
  left = refl;
  refused = refl;
  nought = refl;
  nine = refl;
  ten = refl;
  noughts = refl;
  greatest = refl;
}
