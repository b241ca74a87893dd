-- Each test is asked of its number as it was given; the bits of the ends are equal where the ends are.
use borrow.Author.Rules.{rules}
use mir.Facts.{to_z-of_z}
use Rattle.outline.specs.Settings.{analog_fits}
use Rattle.whole.specs.Machine.{sfits_of}
use Rattle.whole.specs.Bits.{eqb_is}
use Rattle.settings.specs.Held.{Held}
use Rattle.settings.proofs.ranges.analog_fits.Statement.{statement}
use Rattle.settings.proofs.ranges.analog_fits.Tie as tie

held : (s : tie.Start) → Held s.args.g
held s = search sfits_of

is_from_to-requires : tie.Need-is_from_to-requires
is_from_to-requires c κs = search rules

is_within-requires : tie.Need-is_within-requires
is_within-requires c κs = search rules

is_within-requires-2 : tie.Need-is_within-requires-2
is_within-requires-2 c κs = search rules

returns : tie.Need-returns
unfolding analog_fits
returns c =
    let h = held c.before.before.before.before.before.before in
    simp (
      c.is_from_to.ensures,
      c.is_within.ensures,
      c.is_within-2.ensures,
      to_z-of_z h.board,
      to_z-of_z h.low,
      to_z-of_z h.high,
      eqb_is h.low h.high,
    )

pub analog_fits_spec : {M : Type 1} → statement M
analog_fits_spec =
    tie.close (tie.spec is_from_to-requires is_within-requires is_within-requires-2 returns)
