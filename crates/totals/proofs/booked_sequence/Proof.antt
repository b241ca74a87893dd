-- The answer of `is_bookable` picks the sequence.
use mathlib.Core.Path.{◌≡◌, sym, ap, ◌∙◌}
use borrow.Author.Rules.{rules}
use mir.Facts.{to_z-of_z}
use mir.Syntax.{w64}
use Rattle.outline.specs.Totals.{bookable, booked_sequence}
use Rattle.totals.proofs.booked_sequence.Statement.{statement}
use Rattle.totals.proofs.booked_sequence.Tie as tie

-- the answer that was given is that of v
asked : (c : tie.After-is_bookable) → bookable c.args.t c.args.v ≡ c.is_bookable.result
asked c = sym (c.is_bookable.ensures ∙ ap (bookable c.args.t) (to_z-of_z {w = w64} c.ranges.v))

is_bookable-requires : tie.Need-is_bookable-requires
is_bookable-requires c κs = search rules

returns-then-is_bookable : tie.Need-returns-then-is_bookable
unfolding booked_sequence
returns-then-is_bookable c = simp (asked c.before ∙ c.if-is_bookable.true)

returns : tie.Need-returns
unfolding booked_sequence
returns c = simp (asked c.before ∙ c.if-is_bookable.false)

pub booked_sequence_spec : {M : Type 1} → statement M
booked_sequence_spec = tie.close (tie.spec is_bookable-requires returns-then-is_bookable returns)
