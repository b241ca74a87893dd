use Rattle.outline.specs.Totals.{taken_back}
use Rattle.totals.proofs.take_back.Goals as goal

pub returns-in-None : goal.returns-in-None
unfolding taken_back
returns-in-None c = simp c.in-None.is

pub returns-in-Some : goal.returns-in-Some
unfolding taken_back
returns-in-Some c = simp (c.in-Some.is, c.saturating_sub.ensures, c.saturating_sub-in-Some.ensures)
