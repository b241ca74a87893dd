-- No gate is open while a sequence error stands, in every answer of every run. Assumes nothing.
use mathlib.Core.Path.{◌≡◌, refl}
use mathlib.Core.Bool.{true}
use Rattle.types.specs.declared.settings.Settings.{Settings}
use Rattle.types.specs.declared.machine.Input.{Input}
use Rattle.outline.specs.Tick.{open_state}
use Rattle.outline.specs.Run.{History, start, ◌▷◌, run_of}
use Rattle.outline.specs.StaysTrue.{GatesShut}
use Rattle.outline.proofs.QuietStep.{quiet_of, quiet_tick, quiet_gates}

quiet_run : (s : Settings) (h : History Input) → quiet_of (run_of s h).sequence ≡ true
unfolding run_of open_state
quiet_run s start = refl
quiet_run s (h ▷ i) = quiet_tick s (run_of s h) i (quiet_run s h)

pub gates_shut : GatesShut
gates_shut s ok h i = quiet_gates s (run_of s h) i (quiet_tick s (run_of s h) i (quiet_run s h))
