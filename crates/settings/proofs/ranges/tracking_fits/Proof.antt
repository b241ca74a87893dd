-- Each test is asked of its number as it was given.
use borrow.Author.Rules.{rules}
use mir.Facts.{to_z-of_z}
use Rattle.outline.specs.Settings.{tracking_fits}
use Rattle.whole.specs.Machine.{sfits_of}
use Rattle.settings.specs.Held.{Held}
use Rattle.settings.proofs.ranges.tracking_fits.Statement.{statement}
use Rattle.settings.proofs.ranges.tracking_fits.Tie as tie

held : (s : tie.Start) → Held s.args.g
held s = search sfits_of

is_from_to-requires : tie.Need-is_from_to-requires
is_from_to-requires c κs = search rules

is_from_to-requires-2 : tie.Need-is_from_to-requires-2
is_from_to-requires-2 c κs = search rules

is_from_to-requires-3 : tie.Need-is_from_to-requires-3
is_from_to-requires-3 c κs = search rules

returns : tie.Need-returns
unfolding tracking_fits
returns c =
    let h = held c.before.before.before.before.before.before in
    simp (
      c.is_from_to.ensures,
      c.is_from_to-2.ensures,
      c.is_from_to-3.ensures,
      to_z-of_z h.tracktime,
      to_z-of_z h.trackwidth,
      to_z-of_z h.allowance,
    )

pub tracking_fits_spec : {M : Type 1} → statement M
tracking_fits_spec =
    tie.close (tie.spec is_from_to-requires is_from_to-requires-2 is_from_to-requires-3 returns)
