-- Accepted numbers fit the types that they are cast to.
use borrow.Author.Rules.{rules}
use mir.Facts.{to_z-of_z}
use Rattle.outline.specs.Settings.{settings_of}
use Rattle.whole.specs.Machine.{sfits_of}
use Rattle.settings.specs.Held.{Held}
use Rattle.settings.proofs.Laws.{Narrow, narrow}
use Rattle.settings.proofs.batching_of.Statement.{statement}
use Rattle.settings.proofs.batching_of.Tie as tie

held : (s : tie.Start) → Held s.args.g
held s = search sfits_of

fits : (s : tie.Start) → Narrow s.args.g
fits s = narrow s.args.g (held s) s.requires

mode_of-requires : tie.Need-mode_of-requires
mode_of-requires c κs = search rules

overflow_cast-result : tie.Need-overflow_cast-result
overflow_cast-result c = let n = fits c.before.before.before.before in search rules

overflow_cast-result-2 : tie.Need-overflow_cast-result-2
overflow_cast-result-2 c = let n = fits c.before.before.before.before.before.before in search rules

overflow_cast-result-3 : tie.Need-overflow_cast-result-3
overflow_cast-result-3 c = let n = fits c.before.before.before.before.before.before.before.before in search rules

overflow_cast-result-4 : tie.Need-overflow_cast-result-4
overflow_cast-result-4 c = let n = fits c.before.before.before.before.before.before.before.before.before.before in search rules

overflow_cast-result-5 : tie.Need-overflow_cast-result-5
overflow_cast-result-5 c = let n = fits c.before.before.before.before.before.before.before.before.before.before.before.before in search rules

overflow_cast-result-6 : tie.Need-overflow_cast-result-6
overflow_cast-result-6 c = let n = fits c.before.before.before.before.before.before.before.before.before.before.before.before.before.before in search rules

discharging_of-requires : tie.Need-discharging_of-requires
discharging_of-requires c κs = c.requires

returns : tie.Need-returns
unfolding settings_of
returns c =
    let casts = c.before in
    let h = held casts.before.before.before.before.before.before.before.before.before.before.before.before.before.before in
    simp (
      casts.mode_of.ensures,
      c.discharging_of.ensures,
      to_z-of_z h.mode,
      to_z-of_z h.start,
      to_z-of_z h.large,
      to_z-of_z h.medium,
      to_z-of_z h.small,
      to_z-of_z h.judge,
      to_z-of_z h.flow,
    )

pub batching_of_spec : {M : Type 1} → statement M
batching_of_spec =
    tie.close (tie.spec mode_of-requires overflow_cast-result overflow_cast-result-2 overflow_cast-result-3 overflow_cast-result-4 overflow_cast-result-5 overflow_cast-result-6 discharging_of-requires returns)
