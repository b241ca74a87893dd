-- The answer of `has_no_large` picks the stage.
use borrow.Author.Rules.{rules}
use Rattle.outline.specs.Stages.{first_flow}
use Rattle.batch.proofs.stages.first_flow.Statement.{statement}
use Rattle.batch.proofs.stages.first_flow.Tie as tie

has_no_large-requires : tie.Need-has_no_large-requires
has_no_large-requires c κs = search rules

after_large-requires : tie.Need-after_large-requires
after_large-requires c κs = search rules

returns-then-has_no_large : tie.Need-returns-then-has_no_large
unfolding first_flow
returns-then-has_no_large c = simp (c.after_large.ensures, c.if-has_no_large.true, ← c.has_no_large.ensures)

returns-else-has_no_large : tie.Need-returns-else-has_no_large
unfolding first_flow
returns-else-has_no_large c = simp (c.if-has_no_large.false, ← c.has_no_large.ensures)

pub first_flow_spec : {M : Type 1} → statement M
first_flow_spec = tie.close (tie.spec has_no_large-requires after_large-requires returns-then-has_no_large returns-else-has_no_large)
