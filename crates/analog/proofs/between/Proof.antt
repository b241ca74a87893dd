-- Each arm returns what `cond` picks where the tests are as the arm found them.
use Rattle.outline.specs.Analog.{between_of}
use Rattle.analog.proofs.between.Statement.{statement}
use Rattle.analog.proofs.between.Tie as tie

returns-then-x-least : tie.Need-returns-then-x-least
unfolding between_of
returns-then-x-least c = simp c.if-x-least.true

returns-then-most-x : tie.Need-returns-then-most-x
unfolding between_of
returns-then-most-x c = simp (c.if-x-least.false, c.if-most-x.true)

returns : tie.Need-returns
unfolding between_of
returns c = simp (c.if-x-least.false, c.if-most-x.false)

pub between_spec : {M : Type 1} → statement M
between_spec = tie.close (tie.spec returns-then-x-least returns-then-most-x returns)
