-- Below 0 or not, `between` is given the lesser end first.
use borrow.Author.Rules.{rules}
use Rattle.outline.specs.Analog.{clip_of}
use Rattle.analog.proofs.Literals.{is_0}
use Rattle.analog.proofs.clipped.Statement.{statement}
use Rattle.analog.proofs.clipped.Tie as tie

between-requires : tie.Need-between-requires
between-requires c κs = search rules

returns-then-d : tie.Need-returns-then-d
unfolding clip_of
returns-then-d c = simp (← is_0, c.if-d.true) c.between.ensures

between-requires-2 : tie.Need-between-requires-2
between-requires-2 c κs = search rules

returns : tie.Need-returns
unfolding clip_of
returns c = simp (← is_0, c.if-d.false) c.between-2.ensures

pub clipped_spec : {M : Type 1} → statement M
clipped_spec = tie.close (tie.spec between-requires returns-then-d between-requires-2 returns)
