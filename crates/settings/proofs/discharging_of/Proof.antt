-- Accepted numbers fit the types that they are cast to.
use borrow.Author.Rules.{rules}
use mir.Facts.{to_z-of_z}
use Rattle.outline.specs.Settings.{settings_of}
use Rattle.whole.specs.Machine.{sfits_of}
use Rattle.settings.specs.Held.{Held}
use Rattle.settings.proofs.Laws.{Narrow, narrow}
use Rattle.settings.proofs.discharging_of.Statement.{statement}
use Rattle.settings.proofs.discharging_of.Tie as tie

held : (s : tie.Start) → Held s.args.g
held s = search sfits_of

fits : (s : tie.Start) → Narrow s.args.g
fits s = narrow s.args.g (held s) s.requires

overflow_cast-result : tie.Need-overflow_cast-result
overflow_cast-result c = let n = fits c.before.before in search rules

overflow_cast-result-2 : tie.Need-overflow_cast-result-2
overflow_cast-result-2 c = let n = fits c.before.before.before.before in search rules

overflow_cast-result-3 : tie.Need-overflow_cast-result-3
overflow_cast-result-3 c = let n = fits c.before.before.before.before.before.before in search rules

returns : tie.Need-returns
unfolding settings_of
returns c =
    let h = held c.before.before.before.before.before.before in
    simp (
      to_z-of_z h.dischargestart,
      to_z-of_z h.dischargeend,
      to_z-of_z h.dischargelimit,
    )

pub discharging_of_spec : {M : Type 1} → statement M
discharging_of_spec = tie.close (tie.spec overflow_cast-result overflow_cast-result-2 overflow_cast-result-3 returns)
