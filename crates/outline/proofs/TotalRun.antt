-- The total and the count of any run are those of its ledger. Assumes nothing.
use mathlib.Core.Path.{refl}
use native.Mathlib.Omega.{arith}
use Rattle.types.specs.declared.settings.Settings.{Settings}
use Rattle.types.specs.declared.machine.Input.{Input}
use Rattle.outline.specs.Tick.{open_state}
use Rattle.outline.specs.Run.{History, start, ◌▷◌, run_of}
use Rattle.outline.specs.Ledger.{event_run, ledger_of}
use Rattle.outline.specs.StaysTrue.{TotalOfBatches}
use Rattle.outline.proofs.TotalStep.{Totalled, tick_totals}

total_run : (s : Settings) (h : History Input) → Totalled (run_of s h).totals (ledger_of (event_run s h))
unfolding run_of open_state
total_run s start = record { total = refl; count = refl; back = refl; undoable = tt; total_limit_lem = omega arith; count_limit_lem = omega arith }
total_run s (h ▷ i) = tick_totals s (run_of s h) i (ledger_of (event_run s h)) (total_run s h)

pub total_of_batches : TotalOfBatches
total_of_batches s ok h =
    let t = total_run s h in
    record { total = t.total; count = t.count; total_limit_lem = t.total_limit_lem; count_limit_lem = t.count_limit_lem }
