-- What the definitions of the analog value owe a plant, for every pair of ends that settings may have. Statements only.
-- A float is exactly a number where it is equal to `f64` of it. Order of floats is `le`, as a machine compares them. Assumes nothing.
use Rattle.std.specs.Prelude.{◌≡◌, Bool, true, false, not, cond, ℕ, ◌*◌, ◌≤◌, T, ℤ, pos, nat_abs, ◌-ℤ◌, Float, Some}
use Rattle.std.specs.Int.Signed.{le_z, lt_z}
use Rattle.std.specs.Float.{fin, binary64}
use Rattle.std.specs.Float.Ieee.{round, add, le}
use Rattle.types.specs.declared.settings.Given.{Given}
use Rattle.types.specs.declared.settings.Settings.{Settings}
use Rattle.types.specs.declared.analog.Board.TheVariants as board
use Rattle.types.specs.declared.analog.Analog.TheVariants as analog
use Rattle.outline.specs.Limits.{end_limit, display_limit}
use Rattle.outline.specs.Settings.{open_of}
use Rattle.outline.specs.Analog.{f64, scale_of, distance_of, current_of, voltage_of, analog_of}

-- ends that settings may have, the low one above the high one too
pub record Ends (low high : ℤ) : Type 0 where
  pub low_in : nat_abs low ≤ end_limit
  pub high_in : nat_abs high ≤ end_limit
  pub apart : low ≡ high → ⊥

-- the two floats that zero has
abbrev pub plus_zero : Float
plus_zero = fin false 0 (pos 0)

abbrev pub minus_zero : Float
minus_zero = fin true 0 (pos 0)

-- At the low end 4 mA and 0 V, at the high end 20 mA and 10 V, to the last bit.
pub record ExactEnds (low high : ℤ) : Type 0 where
  pub four : analog_of (Some board.Current) (scale_of low high) low true ≡ Some (analog.Current (f64 (pos 4)))
  pub twenty : analog_of (Some board.Current) (scale_of low high) high true ≡ Some (analog.Current (f64 (pos 20)))
  pub nought : analog_of (Some board.Voltage) (scale_of low high) low true ≡ Some (analog.Voltage plus_zero)
  pub ten : analog_of (Some board.Voltage) (scale_of low high) high true ≡ Some (analog.Voltage (f64 (pos 10)))

-- w is at `end`, or on the side of it that is away from `other`
abbrev pub past : ℤ → ℤ → ℤ → Bool
past end other w = cond (lt_z end other) (le_z w end) (le_z end w)

-- Beyond an end the value is that end's.
pub record BeyondEnds (low high w : ℤ) : Type 0 where
  pub four : T (past low high w) → analog_of (Some board.Current) (scale_of low high) w true ≡ Some (analog.Current (f64 (pos 4)))
  pub twenty : T (past high low w) → analog_of (Some board.Current) (scale_of low high) w true ≡ Some (analog.Current (f64 (pos 20)))
  pub nought : T (past low high w) → analog_of (Some board.Voltage) (scale_of low high) w true ≡ Some (analog.Voltage plus_zero)
  pub ten : T (past high low w) → analog_of (Some board.Voltage) (scale_of low high) w true ≡ Some (analog.Voltage (f64 (pos 10)))

-- mA and V of the displayed weight w
abbrev pub current_at : ℤ → ℤ → ℤ → Float
current_at low high w = current_of (distance_of (scale_of low high) w) (scale_of low high).span

abbrev pub voltage_at : ℤ → ℤ → ℤ → Float
voltage_at low high w = voltage_of (distance_of (scale_of low high) w) (scale_of low high).span

-- These are what a board is given, they never leave 4 to 20 mA and 0 to 10 V, and no voltage is -0.0.
pub record InRange (low high w : ℤ) : Type 0 where
  pub current : analog_of (Some board.Current) (scale_of low high) w true ≡ Some (analog.Current (current_at low high w))
  pub voltage : analog_of (Some board.Voltage) (scale_of low high) w true ≡ Some (analog.Voltage (voltage_at low high w))
  pub from_four : T (le (f64 (pos 4)) (current_at low high w))
  pub to_twenty : T (le (current_at low high w) (f64 (pos 20)))
  pub from_nought : T (le (f64 (pos 0)) (voltage_at low high w))
  pub to_ten : T (le (voltage_at low high w) (f64 (pos 10)))
  pub no_minus_zero : voltage_at low high w ≡ minus_zero → ⊥

-- k times the distance from the low end, over D: whole numbers, and the float nearest to their quotient
abbrev pub share_of : ℕ → ℤ → ℤ → ℤ → Float
share_of k low high w = round binary64 false (k * nat_abs (w -ℤ low)) (nat_abs (high -ℤ low))

-- Between the ends two roundings make the value, that of the quotient and that of the sum. Nothing is lost before.
pub record BetweenEnds (low high w : ℤ) : Type 0 where
  pub current : T (not (past low high w)) → T (not (past high low w))
      → current_at low high w ≡ add binary64 (share_of 16 low high w) (f64 (pos 4))
  pub voltage : T (not (past low high w)) → T (not (past high low w))
      → voltage_at low high w ≡ add binary64 (share_of 10 low high w) (f64 (pos 0))

-- The ends of accepted settings are such ends, and the two floats kept are made of them.
pub record Kept (g : Given) (s : Settings) : Type 0 where
  pub ends : Ends g.low g.high
  pub scale : s.scale ≡ scale_of g.low g.high

abbrev pub ScaleLaw : Type 0
ScaleLaw = (g : Given) (s : Settings) → open_of g ≡ Some s → Kept g s

abbrev pub AnalogLaws : Type 0
AnalogLaws =
    (low high : ℤ) → Ends low high
    → ExactEnds low high × ((w : ℤ) → nat_abs w ≤ display_limit → InRange low high w × BeyondEnds low high w × BetweenEnds low high w)
