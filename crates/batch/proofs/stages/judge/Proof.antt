-- Over is tested before under.
use borrow.Author.Rules.{rules}
use Rattle.outline.specs.Stages.{judged_of}
use mir.Facts.{to_z-of_z}
use Rattle.batch.proofs.stages.judge.Statement.{statement}
use Rattle.batch.proofs.stages.judge.Tie as tie

is_over-requires : tie.Need-is_over-requires
is_over-requires c κs = search rules

returns-then-is_over : tie.Need-returns-then-is_over
unfolding judged_of
returns-then-is_over c = λ s x.
    let e = simp (to_z-of_z c.ranges.v) at c.is_over.ensures in
    simp (c.if-is_over.true, ← e)

is_under-requires : tie.Need-is_under-requires
is_under-requires c κs = search rules

returns-then-is_under : tie.Need-returns-then-is_under
unfolding judged_of
returns-then-is_under c = λ s x.
    let e = simp (to_z-of_z c.ranges.v) at c.is_under.ensures in
    let d = simp (to_z-of_z c.ranges.v) at c.is_over.ensures in
    simp (c.if-is_under.true, ← e, c.if-is_over.false, ← d)

returns : tie.Need-returns
unfolding judged_of
returns c = λ s x.
    let e = simp (to_z-of_z c.ranges.v) at c.is_under.ensures in
    let d = simp (to_z-of_z c.ranges.v) at c.is_over.ensures in
    simp (c.if-is_under.false, ← e, c.if-is_over.false, ← d)

pub judge_spec : {M : Type 1} → statement M
judge_spec = tie.close (tie.spec is_over-requires returns-then-is_over is_under-requires returns-then-is_under returns)
