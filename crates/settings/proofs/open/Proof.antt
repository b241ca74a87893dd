-- The settings made are those of the definition, where the check passed.
use borrow.Author.Rules.{rules}
use mathlib.Core.Path.{sym, ◌∙◌}
use Rattle.outline.specs.Settings.{open_of}
use Rattle.settings.proofs.open.Statement.{statement}
use Rattle.settings.proofs.open.Tie as tie

settings_fit-requires : tie.Need-settings_fit-requires
settings_fit-requires c κs = search rules

returns-then-not-settings_fit : tie.Need-returns-then-not-settings_fit
unfolding open_of
returns-then-not-settings_fit c = simp (sym c.settings_fit.ensures ∙ c.if-not-settings_fit.true)

made-requires : tie.Need-made-requires
made-requires c κs = sym c.settings_fit.ensures ∙ c.if-not-settings_fit.false

returns : tie.Need-returns
unfolding open_of
returns c = simp (sym c.settings_fit.ensures ∙ c.if-not-settings_fit.false, c.made.ensures)

pub open_spec : {M : Type 1} → statement M
open_spec = tie.close (tie.spec settings_fit-requires returns-then-not-settings_fit made-requires returns)
