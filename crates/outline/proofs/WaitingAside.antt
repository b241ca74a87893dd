-- What waits changes no part of the state but the two sets, and a write outside 00 does no more than none. Assumes nothing.
use Rattle.std.specs.Prelude.{Option, None, Result, Ok, Err, Some}
use mathlib.Core.Path.{◌≡◌, refl, sym, ap, ◌∙◌}
use mathlib.Core.Bool.{Bool, true, false, cond}
use Rattle.types.specs.declared.requests.Refusal.{Refusal}
use Rattle.types.specs.declared.settings.Settings.{Settings}
use Rattle.types.specs.declared.weight.Weights.{Weights}
use Rattle.types.specs.declared.requests.Request.{Request}
use Rattle.types.specs.declared.requests.Request.TheVariants as request
use Rattle.types.specs.declared.stages.Setpoints.{Setpoints}
use Rattle.types.specs.declared.machine.State.{State}
use Rattle.types.specs.declared.machine.Input.{Input}
use Rattle.types.specs.declared.machine.Settled.{Settled}
use Rattle.outline.specs.Weight.{raw_of}
use Rattle.outline.specs.Parts.{with_setpoints, with_waiting}
use Rattle.outline.specs.Requests.{idle_now, ruling_of, unless_refused, granted_of, decided_of}
use Rattle.outline.specs.Tick.{entered_of, weights_of, settled_of, served_of, with_tracking, finished_of, stepped_of, ended_of, next_of}
use Rattle.outline.specs.Run.{without_request}
use Rattle.outline.specs.StaysTrue.{beside_sets, WaitingAside, WriteAside}
use Rattle.outline.proofs.Parts.{clash}

-- what two ways through step 4 have in common: all but the two sets, and the set in use too where step 6 follows
record Alike (a b : Settled) : Type 0 where
  held : a.held ≡ b.held
  keyed : a.keyed ≡ b.keyed
  rest : beside_sets a.state ≡ beside_sets b.state
  used : b.held ≡ false → a.state.setpoints ≡ b.state.setpoints

-- ---- steps 5 and 6 ask for no more than that
end_of : Settings → Bool → Bool → State → Setpoints → Weights → State
end_of s held keyed st p x =
    beside_sets (ended_of s (record { outcome = Ok tt; state = with_setpoints st p; held = held; keyed = keyed; closed = None }) x)

ended_by : (s : Settings) (a : Settled) (x : Weights)
    → beside_sets (ended_of s a x) ≡ end_of s a.held a.keyed (beside_sets a.state) a.state.setpoints x
unfolding ended_of with_tracking stepped_of finished_of end_of
ended_by s a x = refl

end_used : (s : Settings) (held keyed : Bool) (st : State) (p q : Setpoints) (x : Weights) → (held ≡ false → p ≡ q)
    → end_of s held keyed st p x ≡ end_of s held keyed st q x
unfolding ended_of with_tracking end_of
end_used s true keyed st p q x e = refl
end_used s false keyed st p q x e = ap (λ (r : Setpoints). end_of s false keyed st r x) (e refl)

ended_alike : (s : Settings) (a b : Settled) (x y : Weights) → Alike a b → x ≡ y → beside_sets (ended_of s a x) ≡ beside_sets (ended_of s b y)
ended_alike s a b x y e ex =
    ended_by s a x
    ∙ (λ j. end_of s (e.held j) (e.keyed j) (e.rest j) a.state.setpoints (ex j))
    ∙ end_used s b.held b.keyed (beside_sets b.state) a.state.setpoints b.state.setpoints y e.used
    ∙ sym (ended_by s b y)

-- the weights ask for the zero and the tare that step 4 leaves
served_alike : (s : Settings) (st st' : State) (i j : Input) → i.count ≡ j.count → i.contact ≡ j.contact
    → Alike (settled_of s st i) (settled_of s st' j) → served_of s st i ≡ served_of s st' j
unfolding served_of weights_of
served_alike s st st' i j en ec e = λ k. weights_of s (e.rest k) (raw_of s.calibration (en k)) (ec k)

-- ---- whatever waits
granted_alike : (st : State) (w : Option Setpoints) (x : Weights) (r : Option Request) → Alike (granted_of (with_waiting st w) x r) (granted_of st x r)
unfolding granted_of
granted_alike st w x None = record { held = refl; keyed = refl; rest = refl; used = λ e. refl }
granted_alike st w x (Some request.Zero) = record { held = refl; keyed = refl; rest = refl; used = λ e. refl }
granted_alike st w x (Some request.Tare) = record { held = refl; keyed = refl; rest = refl; used = λ e. refl }
granted_alike st w x (Some request.TareClear) = record { held = refl; keyed = refl; rest = refl; used = λ e. refl }
granted_alike st w x (Some request.Start) = record { held = refl; keyed = refl; rest = refl; used = λ e. refl }
granted_alike st w x (Some request.Stop) = record { held = refl; keyed = refl; rest = refl; used = λ e. absurd (clash refl e) }
granted_alike st w x (Some (request.Set p)) = record { held = refl; keyed = refl; rest = refl; used = λ e. refl }
granted_alike st w x (Some request.TotalClear) = record { held = refl; keyed = refl; rest = refl; used = λ e. refl }
granted_alike st w x (Some request.Undo) = record { held = refl; keyed = refl; rest = refl; used = λ e. refl }
granted_alike st w x (Some request.ShowGross) = record { held = refl; keyed = refl; rest = refl; used = λ e. refl }
granted_alike st w x (Some request.ShowNet) = record { held = refl; keyed = refl; rest = refl; used = λ e. refl }
granted_alike st w x (Some request.DayClose) = record { held = refl; keyed = refl; rest = refl; used = λ e. refl }
granted_alike st w x (Some request.Discharge) = record { held = refl; keyed = refl; rest = refl; used = λ e. refl }

decided_alike : (s : Settings) (st : State) (w : Option Setpoints) (x : Weights) (r : Option Request)
    → Alike (decided_of s (with_waiting st w) x r) (decided_of s st x r)
unfolding decided_of ruling_of
decided_alike s st w x r = go (ruling_of s st x r)
  where
    go : (o : Result (Unit {0}) Refusal) → Alike (unless_refused o (with_waiting st w) (granted_of (with_waiting st w) x r)) (unless_refused o st (granted_of st x r))
    go (Ok tt) = record { held = e.held; keyed = e.keyed; rest = e.rest; used = e.used }
      where
        e : Alike (granted_of (with_waiting st w) x r) (granted_of st x r)
        e = granted_alike st w x r
    go (Err n) = record { held = refl; keyed = refl; rest = refl; used = λ e. refl }

settled_alike : (s : Settings) (st : State) (w : Option Setpoints) (i : Input) → Alike (settled_of s (with_waiting st w) i) (settled_of s st i)
unfolding settled_of entered_of weights_of
settled_alike s st w i = decided_alike s _ w _ i.request

pub waiting_aside : WaitingAside
unfolding next_of
waiting_aside s st w i =
    ended_alike s _ _ _ _ (settled_alike s st w i) (served_alike s (with_waiting st w) st i i refl refl (settled_alike s st w i))

-- ---- a write outside 00
stored_alike : (s : Settings) (st : State) (x : Weights) (p : Setpoints) (o : Result (Unit {0}) Refusal) → idle_now st ≡ false
    → Alike (unless_refused o st (granted_of st x (Some (request.Set p)))) (unless_refused (Ok tt) st (granted_of st x None))
unfolding granted_of
stored_alike s st x p (Ok tt) e = record { held = refl; keyed = refl; rest = refl; used = λ h. ap (λ (t : Bool). cond t p st.setpoints) e }
stored_alike s st x p (Err n) e = record { held = refl; keyed = refl; rest = refl; used = λ h. refl }

written_alike : (s : Settings) (st : State) (i : Input) (p : Setpoints) → idle_now st ≡ false → i.request ≡ Some (request.Set p)
    → Alike (settled_of s st i) (settled_of s st (without_request i))
unfolding settled_of entered_of decided_of ruling_of
written_alike s st i p e er = rw er (stored_alike s _ _ p _ e)

pub write_aside : WriteAside
unfolding next_of
write_aside s st i p e er =
    ended_alike s _ _ _ _ (written_alike s st i p e er) (served_alike s st st i (without_request i) refl refl (written_alike s st i p e er))
