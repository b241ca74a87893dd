-- Accepted numbers fit the types that they are cast to.
use borrow.Author.Rules.{rules}
use lib.IntN.{◌-ℤ◌}
use mir.Syntax.{w64}
use mir.Val.{of_z}
use mir.Facts.{to_z-of_z}
use Rattle.outline.specs.Settings.{settings_of}
use Rattle.whole.specs.Machine.{sfits_of}
use Rattle.whole.specs.Bits.{Read, got, be, drop_need}
use Rattle.settings.specs.Held.{Held}
use Rattle.settings.proofs.Laws.{Narrow, narrow}
use Rattle.settings.proofs.calibration_of.Statement.{statement}
use Rattle.settings.proofs.calibration_of.Tie as tie

held : (s : tie.Start) → Held s.args.g
held s = search sfits_of

fits : (s : tie.Start) → Narrow s.args.g
fits s = narrow s.args.g (held s) s.requires

counts : (c : tie.After-difference-counts) → Read w64 (of_z w64 c.difference-counts.result) (c.args.g.span -ℤ c.args.g.zero)
counts c =
    let h = held c.before.before.before in
    be (got c.difference-counts.result c.difference-counts.type_inv) (simp (c.difference-counts.ensures, to_z-of_z h.span, to_z-of_z h.zero))

difference-counts-requires : tie.Need-difference-counts-requires
difference-counts-requires c κs = search rules

overflow_cast-result : tie.Need-overflow_cast-result
overflow_cast-result c = let f = (fits c.before.before.before).counts in drop_need (counts c) f.0 f.1

overflow_cast-result-2 : tie.Need-overflow_cast-result-2
overflow_cast-result-2 c = let n = fits c.before.before.before.before.before in search rules

returns : tie.Need-returns
unfolding settings_of
returns c =
    let h = held c.before.before.before.before.before in
    simp ((counts c.before.before).read, to_z-of_z h.zero, to_z-of_z h.weight)

pub calibration_of_spec : {M : Type 1} → statement M
calibration_of_spec = tie.close (tie.spec difference-counts-requires overflow_cast-result overflow_cast-result-2 returns)
