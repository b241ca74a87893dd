-- A float that is equal to itself has bits of its own.
use mathlib.Core.Path.{◌≡◌, subst}
use mathlib.Core.Bool.{false, not}
use lib.Dec.{T}
use lib.Ieee.{Float, nan, inf, fin, ne, eq, is_nan}
use Rattle.board.specs.AnswerImage.{float_bits}
use Rattle.board.proofs.answer.float_bits.Goals as goal

-- a float that is equal to itself is no NaN
no_nan : (x : Float) → ne x x ≡ false → T (not (is_nan x))
unfolding ne eq is_nan
no_nan nan e = subst T e tt
no_nan (inf s) e = tt
no_nan (fin s m d) e = tt

pub returns-then-x : goal.returns-then-x
unfolding float_bits
returns-then-x c = simp c.if-x.true

pub float_to_bits-result : goal.float_to_bits-result
float_to_bits-result c = no_nan _ c.if-x.false

pub returns : goal.returns
unfolding float_bits
returns c = simp c.if-x.false
