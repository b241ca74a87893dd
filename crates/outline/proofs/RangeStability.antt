-- Stability stays in its range: the run stops at k. Assumes nothing.
use Rattle.std.specs.Prelude.{Option, None, Some, ℤ, ℕ}
use Prim.Native.Nat.{ℕ, ◌*◌, ◌≤◌}
use native.Mathlib.Omega.{arith}
use mathlib.Core.Path.{◌≡◌, refl}
use mathlib.Core.Bool.{◌&&◌}
use lib.IntN.{ℤ, ◌-ℤ◌}
use Rattle.types.specs.declared.settings.Steadiness.{Steadiness}
use Rattle.types.specs.declared.settings.Settings.{Settings}
use Rattle.types.specs.declared.weight.Stability.{Stability}
use Rattle.types.specs.declared.weight.Weights.{Weights}
use Rattle.types.specs.declared.requests.Request.{Request}
use Rattle.types.specs.declared.requests.Request.TheVariants as request
use Rattle.types.specs.declared.machine.State.{State}
use Rattle.types.specs.declared.machine.Input.{Input}
use Rattle.types.specs.declared.machine.Settled.{Settled}
use Rattle.outline.specs.Settings.{within}
use Rattle.outline.specs.Weight.{raw_of, steadied_of}
use Rattle.outline.specs.Requests.{granted_of, decided_of}
use Rattle.outline.specs.Tick.{entered_of, settled_of, served_of, with_tracking, finished_of, stepped_of, ended_of, next_of}
use Rattle.outline.specs.Ranges.{StabilityRange}
use Rattle.outline.proofs.Parts.{cond_same, cond_in, clash}

-- step 3; the run before does not matter
steadied_in : (rule : Steadiness) (q : Stability) (last : ℤ) (raw : Option ℤ) → StabilityRange rule (steadied_of rule q last raw)
unfolding steadied_of
steadied_in rule q last None = record { run = omega arith; broken = λ e. refl }
steadied_in rule q last (Some raw) = record {
  run = cond_in (λ (n : ℕ). n ≤ rule.time) (q.good && within (10 * rule.width) (raw -ℤ last)) (λ e. omega arith) (λ e. omega arith);
  broken = λ e. absurd (clash refl e);
}

-- the other steps leave it
granted_stability : (st : State) (x : Weights) (r : Option Request) → (granted_of st x r).state.stability ≡ st.stability
unfolding granted_of
granted_stability st x None = refl
granted_stability st x (Some request.Zero) = refl
granted_stability st x (Some request.Tare) = refl
granted_stability st x (Some request.TareClear) = refl
granted_stability st x (Some request.Start) = refl
granted_stability st x (Some request.Stop) = refl
granted_stability st x (Some (request.Set p)) = refl
granted_stability st x (Some request.TotalClear) = refl
granted_stability st x (Some request.Undo) = refl
granted_stability st x (Some request.ShowGross) = refl
granted_stability st x (Some request.ShowNet) = refl
granted_stability st x (Some request.DayClose) = refl
granted_stability st x (Some request.Discharge) = refl

pub settled_stability : (s : Settings) (st : State) (x : Weights) (r : Option Request) → (decided_of s st x r).state.stability ≡ st.stability
unfolding decided_of
settled_stability s st x r = simp (granted_stability st x r, cond_same)

pub ended_stability : (s : Settings) (a : Settled) (x : Weights) → (ended_of s a x).stability ≡ a.state.stability
unfolding ended_of stepped_of finished_of with_tracking
ended_stability s a x = simp cond_same

pub tick_stability : (s : Settings) (st : State) (i : Input) → StabilityRange s.steadiness (next_of s st i).stability
unfolding next_of settled_of entered_of
tick_stability s st i =
    rw (ended_stability s (settled_of s st i) (served_of s st i), settled_stability)
    (steadied_in s.steadiness st.stability st.book.last (raw_of s.calibration i.count))
