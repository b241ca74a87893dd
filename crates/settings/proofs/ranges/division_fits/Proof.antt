-- `==` compares the bits, which are equal where the numbers are.
use lib.IntN.{pos}
use mir.Facts.{sfits_lit}
use Rattle.outline.specs.Settings.{division_fits}
use Rattle.whole.specs.Machine.{sfits_of}
use Rattle.whole.specs.Bits.{eqb_is}
use Rattle.settings.specs.Held.{Held}
use Rattle.settings.proofs.ranges.division_fits.Statement.{statement}
use Rattle.settings.proofs.ranges.division_fits.Tie as tie

held : (s : tie.Start) → Held s.args.g
held s = search sfits_of

returns : tie.Need-returns
unfolding division_fits
returns c =
    let d = (held c.before).division in
    simp (
      eqb_is d (sfits_lit {z = pos 1} tt),
      eqb_is d (sfits_lit {z = pos 2} tt),
      eqb_is d (sfits_lit {z = pos 5} tt),
      eqb_is d (sfits_lit {z = pos 10} tt),
      eqb_is d (sfits_lit {z = pos 20} tt),
      eqb_is d (sfits_lit {z = pos 50} tt),
    )

pub division_fits_spec : {M : Type 1} → statement M
division_fits_spec = tie.close (tie.spec returns)
