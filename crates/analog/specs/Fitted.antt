-- Whether there is an analog board: asked first, so that without one nothing is worked out.
use Rattle.std.specs.Prelude.{Bool, true, false, ◌≡◌, refl, T, Float, Option, None, Some}
use Rattle.std.proofs.Common.{subst}
use Rattle.types.specs.declared.analog.Board.{Board}
use Rattle.types.specs.declared.analog.Board.TheVariants as board
use Rattle.outline.specs.Analog.{on_board}

abbrev pub fitted : Option Board → Bool
fitted None = false
fitted (Some board.Current) = true
fitted (Some board.Voltage) = true

-- without one there is no value
pub no_value : (b : Option Board) (x d : Float) → fitted b ≡ false → on_board b x d ≡ None
no_value None x d e = refl
no_value (Some board.Current) x d e = absurd (subst T e tt)
no_value (Some board.Voltage) x d e = absurd (subst T e tt)
