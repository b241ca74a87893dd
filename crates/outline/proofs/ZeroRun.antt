-- The zero in force of any run is the one last keyed plus the tracking moves since, within the allowance. Assumes nothing.
use mathlib.Core.Path.{refl, subst}
use Prim.Native.Nat.{◌≤◌}
use native.Mathlib.Omega.{arith}
use lib.IntN.{ℤ, nat_abs}
use Rattle.types.specs.declared.settings.Settings.{Settings}
use Rattle.types.specs.declared.machine.Input.{Input}
use Rattle.outline.specs.Tick.{open_state}
use Rattle.outline.specs.Run.{History, start, ◌▷◌, run_of}
use Rattle.outline.specs.Zeroing.{seen_run, zeroing_of}
use Rattle.outline.specs.StaysTrue.{ZeroInForce}
use Rattle.outline.proofs.ZeroStep.{zeros_of, Zeroed, nought_mod, tick_zeros}

zero_run : (s : Settings) (h : History Input) → Zeroed s (zeros_of (run_of s h).weighing) (zeroing_of s (seen_run s h))
unfolding run_of open_state
zero_run s start = record { zero = refl; tracked = refl; counter = nought_mod s; allowed = omega arith; each = tt }
zero_run s (h ▷ i) = tick_zeros s (run_of s h) i (zeroing_of s (seen_run s h)) (zero_run s h)

pub zero_in_force : ZeroInForce
zero_in_force s ok h =
    let z = zero_run s h in
    record {
      zero = z.zero;
      tracked = z.tracked;
      allowance = subst (λ (x : ℤ). nat_abs x ≤ s.tracking.allowance) z.tracked z.allowed;
      at_each_move = z.each;
    }
