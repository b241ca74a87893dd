-- F of 0 is answered first, then a weight that is reached already; else the first flow stage, and the clock is 0.
use borrow.Author.Tests.{eq-eqb, ne_eqb}
use borrow.Author.Rules.{rules}
use mir.Facts.{to_z-of_z}
use Rattle.outline.specs.Stages.{after_start, land_of}
use Rattle.batch.proofs.stages.after_start.Statement.{statement}
use Rattle.batch.proofs.stages.after_start.Tie as tie

fail-requires : tie.Need-fail-requires
fail-requires c κs = search rules

returns-then-p-eq0 : tie.Need-returns-then-p-eq0
unfolding after_start land_of
returns-then-p-eq0 c = λ s x. simp (c.fail.ensures, eq-eqb _ _ c.if-p-eq0.true)

is_reached-requires : tie.Need-is_reached-requires
is_reached-requires c κs = search rules

fail-requires-then-is_reached : tie.Need-fail-requires-then-is_reached
fail-requires-then-is_reached c κs = search rules

returns-then-is_reached : tie.Need-returns-then-is_reached
unfolding after_start land_of
returns-then-is_reached c = λ s x.
    let e = simp (to_z-of_z c.ranges.v) at c.is_reached.ensures in
    simp (c.fail-then-is_reached.ensures, c.if-is_reached.true, ← e, ne_eqb _ _ c.if-p-eq0.false)

first_flow-requires : tie.Need-first_flow-requires
first_flow-requires c κs = search rules

to-requires : tie.Need-to-requires
to-requires c κs = search rules

returns : tie.Need-returns
unfolding after_start land_of
returns c = λ s x.
    let a = c.before.before.before.before.before.before in
    let e = simp (to_z-of_z a.ranges.v) at c.is_reached.ensures in
    simp (c.to.ensures, c.first_flow.ensures, c.if-is_reached.false, ← e, ne_eqb _ _ c.if-p-eq0.false, a.requires)

pub after_start_spec : {M : Type 1} → statement M
after_start_spec =
    tie.close
    (tie.spec
    fail-requires
    returns-then-p-eq0
    is_reached-requires
    fail-requires-then-is_reached
    returns-then-is_reached
    first_flow-requires
    to-requires
    returns)
