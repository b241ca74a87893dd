-- The outline's section "Analog value".
use Rattle.std.specs.Prelude.{Bool, cond, ℤ, pos, Float, Option, None, Some}
use Rattle.std.specs.Float.{binary64}
use Rattle.std.specs.Float.Ieee.{of_int, add, sub, mul, div, lt}
use Rattle.types.specs.declared.analog.Scale.{Scale}
use Rattle.types.specs.declared.analog.Board.{Board}
use Rattle.types.specs.declared.analog.Board.TheVariants as board
use Rattle.types.specs.declared.analog.Analog.{Analog}
use Rattle.types.specs.declared.analog.Analog.TheVariants as analog

-- a whole number as an f64
abbrev pub f64 : ℤ → Float
f64 z = of_int binary64 z

-- "Low end and D are kept as f64 values made once at opening", D = high - low.
abbrev pub scale_of : ℤ → ℤ → Scale
scale_of low high = record { low = f64 low; span = sub binary64 (f64 high) (f64 low) }

-- x, or the end that it lies beyond
unfoldable pub between_of : Float → Float → Float → Float
between_of least most x = cond (lt x least) least (cond (lt most x) most x)

-- "clipped to lie between 0 and D", which lies below 0 where high is below low
unfoldable pub clip_of : Float → Float → Float
clip_of x d = cond (lt d (f64 (pos 0))) (between_of d (f64 (pos 0)) x) (between_of (f64 (pos 0)) d x)

-- "x = displayed weight - low end, clipped to lie between 0 and D = high - low."
abbrev pub distance_of : Scale → ℤ → Float
distance_of scale displayed = clip_of (sub binary64 (f64 displayed) scale.low) scale.span

-- "Current in mA is 16·x/D + 4", "each operation rounded once in that order".
abbrev pub current_of : Float → Float → Float
current_of x d = add binary64 (div binary64 (mul binary64 (f64 (pos 16)) x) d) (f64 (pos 4))

-- "volts are 10·x/D + 0"
abbrev pub voltage_of : Float → Float → Float
voltage_of x d = add binary64 (div binary64 (mul binary64 (f64 (pos 10)) x) d) (f64 (pos 0))

abbrev pub on_board : Option Board → Float → Float → Option Analog
on_board None x d = None
on_board (Some board.Current) x d = Some (analog.Current (current_of x d))
on_board (Some board.Voltage) x d = Some (analog.Voltage (voltage_of x d))

-- "The answer is a current, a voltage or no value; no value in a bad or overloaded tick or without a board."
-- `fit` is a good tick without overload.
unfoldable pub analog_of : Option Board → Scale → ℤ → Bool → Option Analog
analog_of b scale displayed fit = cond fit (on_board b (distance_of scale displayed) scale.span) None
