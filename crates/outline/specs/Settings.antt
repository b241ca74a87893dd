-- The outline's section "Settings, checked once at opening": each row of its table, those of a discharge (A1), and what is made of accepted
-- settings.
use Rattle.std.specs.Prelude.{ℕ, Bool, cond, not, ◌&&◌, ◌||◌, leb, ℤ, pos, nat_abs, ◌-ℤ◌, ◌*ℤ◌, Option, None, Some}
use Rattle.std.specs.Int.Signed.{le_z}
use Rattle.whole.specs.Ints.{eq_z}
use Rattle.types.specs.declared.settings.Given.{Given}
use Rattle.types.specs.declared.settings.Mode.{Mode}
use Rattle.types.specs.declared.settings.Mode.TheVariants as mode
use Rattle.types.specs.declared.settings.Settings.{Settings}
use Rattle.types.specs.declared.analog.Board.{Board}
use Rattle.types.specs.declared.analog.Board.TheVariants as board
use Rattle.outline.specs.Limits.{count_limit, capacity_limit, zero_range_limit, track_time_limit, track_width_limit, allowance_limit}
use Rattle.outline.specs.Limits.{stable_time_least, stable_time_limit, stable_width_limit, delay_limit, flow_limit, discharge_limit}
use Rattle.outline.specs.Limits.{address_limit, end_limit}
use Rattle.outline.specs.Analog.{scale_of}

-- from a to b, both taken in
abbrev pub from_to : ℕ → ℕ → ℤ → Bool
from_to a b x = le_z (pos a) x && le_z x (pos b)

-- from -n to n
abbrev pub within : ℕ → ℤ → Bool
within n x = leb (nat_abs x) n

-- "| zero count Z, span count S | -2,000,000..2,000,000, S - Z at least 10·W |"
unfoldable pub counts_fit : Given → Bool
counts_fit g = within count_limit g.zero && within count_limit g.span && le_z (g.weight *ℤ pos 10) (g.span -ℤ g.zero)

-- "| capacity C; span weight W (divisions) | 1..16,000; 1..C |"
unfoldable pub capacity_fits : Given → Bool
capacity_fits g = from_to 1 capacity_limit g.capacity && le_z (pos 1) g.weight && le_z g.weight g.capacity

-- "| division d | 1, 2, 5, 10, 20, 50 |"
unfoldable pub division_fits : Given → Bool
division_fits g =
    eq_z g.division (pos 1) || eq_z g.division (pos 2) || eq_z g.division (pos 5)
    || eq_z g.division (pos 10) || eq_z g.division (pos 20) || eq_z g.division (pos 50)

-- "| zero range p | 1..30 % of C |"
unfoldable pub zero_range_fits : Given → Bool
zero_range_fits g = from_to 1 zero_range_limit g.zeroing

-- "| tracking time q, width w, allowance L | 0..500 ticks; 0..45 tenths; 0..10,000 tenths |"
unfoldable pub tracking_fits : Given → Bool
tracking_fits g =
    from_to 0 track_time_limit g.tracktime && from_to 0 track_width_limit g.trackwidth && from_to 0 allowance_limit g.allowance

-- "| stability time k, width s | 10..500 ticks; 0..9 divisions |"
unfoldable pub stability_fits : Given → Bool
stability_fits g = from_to stable_time_least stable_time_limit g.stabletime && from_to 0 stable_width_limit g.stablewidth

-- "| mode | 1 normal, 2 loss-in-weight |"
unfoldable pub mode_fits : Given → Bool
mode_fits g = from_to 1 2 g.mode

-- "| start delay; large, medium, small comparison disable; judge delay | 0..9,999 ticks each |"
unfoldable pub delays_fit : Given → Bool
delays_fit g =
    from_to 0 delay_limit g.start && from_to 0 delay_limit g.large && from_to 0 delay_limit g.medium
    && from_to 0 delay_limit g.small && from_to 0 delay_limit g.judge

-- "| flow limit Q | 1..60,000 ticks |"
unfoldable pub flow_fits : Given → Bool
flow_fits g = from_to 1 flow_limit g.flow

-- "| address | 0..99 |"
unfoldable pub address_fits : Given → Bool
address_fits g = from_to 0 address_limit g.address

-- "| analog board; low and high end | none, current, voltage; -999,999..999,999, not equal |"
unfoldable pub analog_fits : Given → Bool
analog_fits g = from_to 0 2 g.board && within end_limit g.low && within end_limit g.high && not (eq_z g.low g.high)

-- A1: "Both delays are 0..9,999 ticks."; "its own limit (1..60,000 ticks)". In mode 2 too (D11).
unfoldable pub discharge_fits : Given → Bool
discharge_fits g =
    from_to 0 delay_limit g.dischargestart && from_to 0 delay_limit g.dischargeend && from_to 1 discharge_limit g.dischargelimit

unfoldable pub settings_fit : Given → Bool
settings_fit g =
    counts_fit g && capacity_fits g && division_fits g && zero_range_fits g && tracking_fits g && stability_fits g
    && mode_fits g && delays_fit g && flow_fits g && address_fits g && analog_fits g && discharge_fits g

-- ---- accepted settings: the numbers as they were given, in types as narrow as their ranges
abbrev pub mode_of : ℤ → Mode
mode_of m = cond (eq_z m (pos 1)) mode.Normal mode.Loss

abbrev pub board_of : ℤ → Option Board
board_of b = cond (eq_z b (pos 1)) (Some board.Current) (cond (eq_z b (pos 2)) (Some board.Voltage) None)

unfoldable pub settings_of : Given → Settings
settings_of g = record {
  calibration = record { zero = g.zero; counts = nat_abs (g.span -ℤ g.zero); weight = nat_abs g.weight };
  range = record { capacity = nat_abs g.capacity; division = nat_abs g.division; zeroing = nat_abs g.zeroing };
  tracking = record { time = nat_abs g.tracktime; width = nat_abs g.trackwidth; allowance = nat_abs g.allowance };
  steadiness = record { time = nat_abs g.stabletime; width = nat_abs g.stablewidth };
  batching = record {
    mode = mode_of g.mode;
    start = nat_abs g.start;
    large = nat_abs g.large;
    medium = nat_abs g.medium;
    small = nat_abs g.small;
    judge = nat_abs g.judge;
    flow = nat_abs g.flow;
    discharge = record { start = nat_abs g.dischargestart; end = nat_abs g.dischargeend; limit = nat_abs g.dischargelimit };
  };
  address = nat_abs g.address;
  board = board_of g.board;
  scale = scale_of g.low g.high;
}

-- "Any value outside its range gives answer 10 and no state."
unfoldable pub open_of : Given → Option Settings
open_of g = cond (settings_fit g) (Some (settings_of g)) None
