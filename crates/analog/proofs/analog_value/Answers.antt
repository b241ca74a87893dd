-- Each way out has its value (`value-..`); the value's number and the values beside it follow from that.
use Rattle.std.proofs.Common.{◌≡◌, ◌∙◌, ap, Bool, true, Some, Option}
use Rattle.std.specs.Prelude.{ℤ}
use mir.Facts.{to_z-of_z}
use lib.Ieee.{Float, binary64, sub}
use Rattle.types.specs.declared.analog.Scale.{Scale}
use Rattle.types.specs.declared.analog.Board.{Board}
use Rattle.types.specs.declared.analog.Board.TheVariants.{Current, Voltage}
use Rattle.outline.specs.Analog.{f64, clip_of, distance_of, on_board, analog_of}
use Rattle.outline.specs.Numbers.{analog_number, analog_values}
use Rattle.outline.proofs.AnswerLaws.{analog_number_lem, analog_values_lem}
use Rattle.analog.proofs.Literals.{is_0, is_4, is_10, is_16}
use Rattle.analog.proofs.analog_value.Goals as goal

-- the clipped x, where the tick is fit
picked : (board : Option Board) (s : Scale) (w : ℤ) (fit : Bool) (b : Board) (x : Float) → fit ≡ true → board ≡ Some b
    → x ≡ distance_of s w → on_board (Some b) x s.span ≡ analog_of board s w fit
unfolding analog_of
picked board s w fit b x g e h = simp (g, e, h)

-- not fit
value-not-fit : goal.returns-then-not-fit-clause-value
unfolding analog_of
value-not-fit c = simp c.if-not-fit.true

pub returns-then-not-fit-clause-value : goal.returns-then-not-fit-clause-value
returns-then-not-fit-clause-value c = value-not-fit c

pub returns-then-not-fit-clause-number : goal.returns-then-not-fit-clause-number
returns-then-not-fit-clause-number c = ap analog_number (value-not-fit c) ∙ analog_number_lem c.args.board c.args.scale c.args.displayed c.args.fit

pub returns-then-not-fit-clause-values : goal.returns-then-not-fit-clause-values
returns-then-not-fit-clause-values c = ap analog_values (value-not-fit c) ∙ analog_values_lem c.args.board c.args.scale c.args.displayed c.args.fit

-- no board
value-without-board : goal.returns-in_err-board-clause-value
unfolding analog_of
value-without-board c = simp (c.from_residual.ensures, c.if-not-fit.false, c.in_err-board.was)

pub returns-in_err-board-clause-value : goal.returns-in_err-board-clause-value
returns-in_err-board-clause-value c = value-without-board c

pub returns-in_err-board-clause-number : goal.returns-in_err-board-clause-number
returns-in_err-board-clause-number c = ap analog_number (value-without-board c) ∙ analog_number_lem c.args.board c.args.scale c.args.displayed c.args.fit

pub returns-in_err-board-clause-values : goal.returns-in_err-board-clause-values
returns-in_err-board-clause-values c = ap analog_values (value-without-board c) ∙ analog_values_lem c.args.board c.args.scale c.args.displayed c.args.fit

-- a current
value-in-Current : goal.returns-in-Current-clause-value
value-in-Current c =
    let a = c.args in
    simp (is_16, is_4)
    (picked a.board a.scale a.displayed a.fit Current c.clipped-x.result c.if-not-fit.false (c.in_ok-board.was ∙ ap Some c.in-Current.is)
    (c.clipped-x.ensures ∙ ap (λ (z : ℤ). clip_of (sub binary64 (f64 z) a.scale.low) a.scale.span) (to_z-of_z c.ranges.displayed)))

pub returns-in-Current-clause-value : goal.returns-in-Current-clause-value
returns-in-Current-clause-value c = value-in-Current c

pub returns-in-Current-clause-number : goal.returns-in-Current-clause-number
returns-in-Current-clause-number c = ap analog_number (value-in-Current c) ∙ analog_number_lem c.args.board c.args.scale c.args.displayed c.args.fit

pub returns-in-Current-clause-values : goal.returns-in-Current-clause-values
returns-in-Current-clause-values c = ap analog_values (value-in-Current c) ∙ analog_values_lem c.args.board c.args.scale c.args.displayed c.args.fit

-- a voltage
value-in-Voltage : goal.returns-in-Voltage-clause-value
value-in-Voltage c =
    let a = c.args in
    simp (is_10, is_0)
    (picked a.board a.scale a.displayed a.fit Voltage c.clipped-x.result c.if-not-fit.false (c.in_ok-board.was ∙ ap Some c.in-Voltage.is)
    (c.clipped-x.ensures ∙ ap (λ (z : ℤ). clip_of (sub binary64 (f64 z) a.scale.low) a.scale.span) (to_z-of_z c.ranges.displayed)))

pub returns-in-Voltage-clause-value : goal.returns-in-Voltage-clause-value
returns-in-Voltage-clause-value c = value-in-Voltage c

pub returns-in-Voltage-clause-number : goal.returns-in-Voltage-clause-number
returns-in-Voltage-clause-number c = ap analog_number (value-in-Voltage c) ∙ analog_number_lem c.args.board c.args.scale c.args.displayed c.args.fit

pub returns-in-Voltage-clause-values : goal.returns-in-Voltage-clause-values
returns-in-Voltage-clause-values c = ap analog_values (value-in-Voltage c) ∙ analog_values_lem c.args.board c.args.scale c.args.displayed c.args.fit
