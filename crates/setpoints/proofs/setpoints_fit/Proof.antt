-- Each rule that is broken answers no; past all of them the last decides.
use borrow.Author.Rules.{rules}
use borrow.Author.Tests.{le-leb, lt-leb}
use Rattle.outline.specs.Setpoints.{setpoints_fit}
use Rattle.setpoints.proofs.setpoints_fit.Statement.{statement}
use Rattle.setpoints.proofs.setpoints_fit.Tie as tie

is_seven-requires : tie.Need-is_seven-requires
is_seven-requires c κs = search rules

preliminary_fits-requires : tie.Need-preliminary_fits-requires
preliminary_fits-requires c κs = search rules

optional_fits-requires : tie.Need-optional_fits-requires
optional_fits-requires c κs = search rules

returns-then-not-is_seven : tie.Need-returns-then-not-is_seven
unfolding setpoints_fit
returns-then-not-is_seven c = simp (c.if-not-is_seven.true, ← c.is_seven.ensures)

returns-then-p : tie.Need-returns-then-p
unfolding setpoints_fit
returns-then-p c = simp (lt-leb _ _ c.if-p.true, c.if-not-is_seven.false, ← c.is_seven.ensures)

returns-then-not-preliminary_fits : tie.Need-returns-then-not-preliminary_fits
unfolding setpoints_fit
returns-then-not-preliminary_fits c = simp (c.if-not-preliminary_fits.true, ← c.preliminary_fits.ensures, le-leb _ _ c.if-p.false, c.if-not-is_seven.false, ← c.is_seven.ensures)

returns : tie.Need-returns
unfolding setpoints_fit
returns c = simp (c.optional_fits.ensures, c.if-not-preliminary_fits.false, ← c.preliminary_fits.ensures, le-leb _ _ c.if-p.false, c.if-not-is_seven.false, ← c.is_seven.ensures)

pub setpoints_fit_spec : {M : Type 1} → statement M
setpoints_fit_spec =
    tie.close
    (tie.spec
    is_seven-requires
    returns-then-not-is_seven
    returns-then-p
    preliminary_fits-requires
    returns-then-not-preliminary_fits
    optional_fits-requires
    returns)
