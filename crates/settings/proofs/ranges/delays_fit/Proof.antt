-- Each test is asked of its number as it was given.
use borrow.Author.Rules.{rules}
use mir.Facts.{to_z-of_z}
use Rattle.outline.specs.Settings.{delays_fit}
use Rattle.whole.specs.Machine.{sfits_of}
use Rattle.settings.specs.Held.{Held}
use Rattle.settings.proofs.ranges.delays_fit.Statement.{statement}
use Rattle.settings.proofs.ranges.delays_fit.Tie as tie

held : (s : tie.Start) → Held s.args.g
held s = search sfits_of

is_from_to-requires : tie.Need-is_from_to-requires
is_from_to-requires c κs = search rules

is_from_to-requires-2 : tie.Need-is_from_to-requires-2
is_from_to-requires-2 c κs = search rules

is_from_to-requires-3 : tie.Need-is_from_to-requires-3
is_from_to-requires-3 c κs = search rules

is_from_to-requires-4 : tie.Need-is_from_to-requires-4
is_from_to-requires-4 c κs = search rules

is_from_to-requires-5 : tie.Need-is_from_to-requires-5
is_from_to-requires-5 c κs = search rules

returns : tie.Need-returns
unfolding delays_fit
returns c =
    let h = held c.before.before.before.before.before.before.before.before.before.before in
    simp (
      c.is_from_to.ensures,
      c.is_from_to-2.ensures,
      c.is_from_to-3.ensures,
      c.is_from_to-4.ensures,
      c.is_from_to-5.ensures,
      to_z-of_z h.start,
      to_z-of_z h.large,
      to_z-of_z h.medium,
      to_z-of_z h.small,
      to_z-of_z h.judge,
    )

pub delays_fit_spec : {M : Type 1} → statement M
delays_fit_spec =
    tie.close
    (tie.spec
    is_from_to-requires
    is_from_to-requires-2
    is_from_to-requires-3
    is_from_to-requires-4
    is_from_to-requires-5
    returns)
