-- The setpoints in use keep the rules, and so do those waiting: an accepted SS alone writes them. Assumes nothing.
use Rattle.std.specs.Prelude.{Option, None, Some}
use mathlib.Core.Path.{◌≡◌, refl}
use mathlib.Core.Bool.{true, not}
use borrow.Author.Tests.{not-false}
use Rattle.types.specs.declared.settings.Mode.{Mode}
use Rattle.types.specs.declared.settings.Mode.TheVariants as mode
use Rattle.types.specs.declared.settings.Settings.{Settings}
use Rattle.types.specs.declared.weight.Weights.{Weights}
use Rattle.types.specs.declared.requests.Request.{Request}
use Rattle.types.specs.declared.requests.Request.TheVariants as request
use Rattle.types.specs.declared.stages.Setpoints.{Setpoints}
use Rattle.types.specs.declared.machine.State.{State}
use Rattle.types.specs.declared.machine.Input.{Input}
use Rattle.outline.specs.Setpoints.{open_setpoints, setpoints_fit, written_else}
use Rattle.outline.specs.Requests.{idle_now, rows_to, done_of, ruling_of, granted_of, decided_of}
use Rattle.outline.specs.Tick.{entered_of, settled_of, served_of, next_of}
use Rattle.outline.specs.Ranges.{write_fits}
use Rattle.outline.proofs.Parts.{cond_in, none_applies}
use Rattle.outline.proofs.SetpointStep.{returned, ended_setpoints, ended_waiting}

pub open_fits : (m : Mode) → setpoints_fit m open_setpoints ≡ true
unfolding setpoints_fit
open_fits mode.Normal = refl
open_fits mode.Loss = refl

module _ (m : Mode) where
  abbrev Fits : Setpoints → Type 0
  Fits p = setpoints_fit m p ≡ true

  abbrev Waits : Option Setpoints → Type 0
  Waits w = write_fits m w ≡ true

  written_fits : (w : Option Setpoints) (p : Setpoints) → write_fits m w ≡ true → Fits p → Fits (written_else w p)
  written_fits None p k h = h
  written_fits (Some n) p k h = k

-- both sets, of what a step leaves
pub record Fitting (m : Mode) (st : State) : Type 0 where
  pub used : Fits m st.setpoints
  pub waits : Waits m st.waiting

module _ (s : Settings) (st : State) (x : Weights) (h : Fitting s.batching.mode st) where
  granted_fits : (r : Option Request) → done_of (ruling_of s st x r) ≡ true → Fitting s.batching.mode (granted_of st x r).state
  unfolding granted_of ruling_of
  granted_fits None e = h
  granted_fits (Some request.Zero) e = record { used = h.used; waits = h.waits }
  granted_fits (Some request.Tare) e = record { used = h.used; waits = h.waits }
  granted_fits (Some request.TareClear) e = record { used = h.used; waits = h.waits }
  granted_fits (Some request.Start) e = record { used = h.used; waits = h.waits }
  granted_fits (Some request.Stop) e = record {
    used =
        cond_in (Fits s.batching.mode) (not (idle_now st))
        (λ k. written_fits s.batching.mode st.waiting st.setpoints h.waits h.used) (λ k. h.used);
    waits = cond_in (Waits s.batching.mode) (not (idle_now st)) (λ k. refl) (λ k. h.waits);
  }
  granted_fits (Some (request.Set p)) e =
      let kept = not-false _ (none_applies (rows_to s.range s.batching.mode st.sequence st.totals x (Some (request.Set p))) e).0 in
      record {
        used = cond_in (Fits s.batching.mode) (idle_now st) (λ k. kept) (λ k. h.used);
        waits = cond_in (Waits s.batching.mode) (idle_now st) (λ k. h.waits) (λ k. kept);
      }
  granted_fits (Some request.TotalClear) e = record { used = h.used; waits = h.waits }
  granted_fits (Some request.Undo) e = record { used = h.used; waits = h.waits }
  granted_fits (Some request.ShowGross) e = record { used = h.used; waits = h.waits }
  granted_fits (Some request.ShowNet) e = record { used = h.used; waits = h.waits }
  granted_fits (Some request.DayClose) e = record { used = h.used; waits = h.waits }
  granted_fits (Some request.Discharge) e = record { used = h.used; waits = h.waits }

  settled_fits : (r : Option Request) → Fitting s.batching.mode (decided_of s st x r).state
  unfolding decided_of
  settled_fits r = record {
    used = cond_in (Fits s.batching.mode) (done_of (ruling_of s st x r)) (λ e. (granted_fits r e).used) (λ e. h.used);
    waits = cond_in (Waits s.batching.mode) (done_of (ruling_of s st x r)) (λ e. (granted_fits r e).waits) (λ e. h.waits);
  }

settled_in : (s : Settings) (st : State) (i : Input) → Fitting s.batching.mode st → Fitting s.batching.mode (settled_of s st i).state
unfolding settled_of entered_of
settled_in s st i h = settled_fits s _ _ (record { used = h.used; waits = h.waits }) i.request

pub tick_fits : (s : Settings) (st : State) (i : Input) → Fitting s.batching.mode st → Fitting s.batching.mode (next_of s st i)
unfolding next_of
tick_fits s st i h =
    let a = settled_of s st i in
    let x = served_of s st i in
    let m = s.batching.mode in
    let k = settled_in s st i h in
    record {
      used =
          rw (ended_setpoints s a x)
          (cond_in (Fits m) a.held (λ e. k.used)
          (λ e. cond_in (Fits m) (returned s a x)
          (λ b. written_fits m a.state.waiting a.state.setpoints k.waits k.used) (λ b. k.used)));
      waits =
          rw (ended_waiting s a x)
          (cond_in (Waits m) a.held (λ e. k.waits) (λ e. cond_in (Waits m) (returned s a x) (λ b. refl) (λ b. k.waits)));
    }
