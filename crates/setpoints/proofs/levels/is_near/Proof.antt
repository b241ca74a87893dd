-- Off in an unfit tick; else gross against near zero.
use borrow.Author.Rules.{rules}
use mir.Facts.{to_z-of_z}
use mir.Syntax.{w32}
use mir.Val.{SFits}
use Rattle.whole.specs.Machine.{sfits_of}
use Rattle.outline.specs.Setpoints.{near_of}
use Rattle.setpoints.proofs.levels.is_near.Statement.{statement}
use Rattle.setpoints.proofs.levels.is_near.Tie as tie

gross : (s : tie.Start) → SFits w32 s.args.x.gross
gross s = search sfits_of

is_fit-requires : tie.Need-is_fit-requires
is_fit-requires c κs = search rules

returns-then-not-is_fit : tie.Need-returns-then-not-is_fit
unfolding near_of
returns-then-not-is_fit c = simp (c.if-not-is_fit.true, ← c.is_fit.ensures)

is_at_near-requires : tie.Need-is_at_near-requires
is_at_near-requires c κs = search rules

returns : tie.Need-returns
unfolding near_of
returns c =
    simp (
      c.is_at_near.ensures,
      to_z-of_z (gross c.before.before.before.before),
      c.if-not-is_fit.false,
      ← c.is_fit.ensures,
    )

pub is_near_spec : {M : Type 1} → statement M
is_near_spec = tie.close (tie.spec is_fit-requires returns-then-not-is_fit is_at_near-requires returns)
