-- The setpoints in use and those waiting, tick by tick: an accepted SS writes them, and nothing else does; what RS reads stays when what
-- waited comes into use. Assumes nothing.
use Rattle.std.specs.Prelude.{Option, Ok, None, Some}
use mathlib.Core.Path.{◌≡◌, refl, sym, ap, ◌∙◌}
use mathlib.Core.Bool.{Bool, true, false, cond, not, ◌&&◌}
use Rattle.types.specs.declared.settings.Settings.{Settings}
use Rattle.types.specs.declared.weight.Weights.{Weights}
use Rattle.types.specs.declared.requests.Request.{Request}
use Rattle.types.specs.declared.requests.Request.TheVariants as request
use Rattle.types.specs.declared.stages.Setpoints.{Setpoints}
use Rattle.types.specs.declared.machine.State.{State}
use Rattle.types.specs.declared.machine.Input.{Input}
use Rattle.types.specs.declared.machine.Settled.{Settled}
use Rattle.outline.specs.Setpoints.{none_waiting, waiting_for, latest_of}
use Rattle.outline.specs.Stages.{idle_of, facts_of, advance_of}
use Rattle.outline.specs.Requests.{idle_now, ruling_of, done_of, granted_of, decided_of}
use Rattle.outline.specs.Tick.{entered_of, settled_of, served_of, stepped_of, finished_of, with_tracking, ended_of, next_of, outputs_of, tick_of}
use Rattle.outline.specs.Kinds.{request_kind, is_write}
use Rattle.outline.specs.StaysTrue.{sets_at}
use Rattle.outline.proofs.Parts.{cond_same, and_yes, clash}

-- what RS reads of a state
abbrev pub read_of : State → Setpoints
read_of st = latest_of st.setpoints st.waiting

-- it stays where what waits comes into use
in_latest : (t : Bool) (p : Setpoints) (w : Option Setpoints) → latest_of (cond t (latest_of p w) p) (cond t none_waiting w) ≡ latest_of p w
in_latest true p w = refl
in_latest false p w = refl

-- step 4
pub granted_latest : (st : State) (x : Weights) (r : Option Request) → is_write (request_kind r).writes ≡ false → read_of (granted_of st x r).state ≡ read_of st
unfolding granted_of
granted_latest st x None e = refl
granted_latest st x (Some request.Zero) e = refl
granted_latest st x (Some request.Tare) e = refl
granted_latest st x (Some request.TareClear) e = refl
granted_latest st x (Some request.Start) e = refl
granted_latest st x (Some request.Stop) e = in_latest (not (idle_now st)) st.setpoints st.waiting
granted_latest st x (Some (request.Set p)) e = absurd (clash refl e)
granted_latest st x (Some request.TotalClear) e = refl
granted_latest st x (Some request.Undo) e = refl
granted_latest st x (Some request.ShowGross) e = refl
granted_latest st x (Some request.ShowNet) e = refl
granted_latest st x (Some request.DayClose) e = refl
granted_latest st x (Some request.Discharge) e = refl

-- a write that is refused is none
unless_written : (done : Bool) (st : State) (x : Weights) (r : Option Request) → is_write (request_kind r).writes && done ≡ false
    → latest_of (cond done (granted_of st x r).state.setpoints st.setpoints) (cond done (granted_of st x r).state.waiting st.waiting) ≡ read_of st
unless_written true st x r e = granted_latest st x r (sym (and_yes (is_write (request_kind r).writes)) ∙ e)
unless_written false st x r e = refl

by_kept : (s : Settings) (st : State) (x : Weights) (r : Option Request) → is_write (request_kind r).writes && done_of (decided_of s st x r).outcome ≡ false
    → read_of (decided_of s st x r).state ≡ read_of st
unfolding decided_of
by_kept s st x r e = unless_written (done_of (ruling_of s st x r)) st x r e

-- a write in 00, where nothing waits, and in any other stage
pub stored : (idle : Bool) (p q : Setpoints) (w : Option Setpoints) → (idle ≡ true → w ≡ none_waiting) → latest_of (cond idle q p) (cond idle w (waiting_for q)) ≡ q
stored true p q w h = ap (latest_of q) (h refl)
stored false p q w h = refl

by_set : (s : Settings) (st : State) (x : Weights) (r : Option Request) (p : Setpoints) → (idle_now st ≡ true → st.waiting ≡ none_waiting)
    → r ≡ Some (request.Set p) → (decided_of s st x r).outcome ≡ Ok tt → read_of (decided_of s st x r).state ≡ p
unfolding decided_of granted_of
by_set s st x r p h e d = rw d (rw e (stored (idle_now st) st.setpoints p st.waiting h))

pub settled_kept : (s : Settings) (st : State) (i : Input) → sets_at s st i ≡ false → read_of (settled_of s st i).state ≡ read_of st
unfolding settled_of entered_of tick_of outputs_of
settled_kept s st i e = by_kept s _ _ i.request e

settled_set : (s : Settings) (st : State) (i : Input) (p : Setpoints) → (idle_now st ≡ true → st.waiting ≡ none_waiting)
    → i.request ≡ Some (request.Set p) → (settled_of s st i).outcome ≡ Ok tt → read_of (settled_of s st i).state ≡ p
unfolding settled_of entered_of
settled_set s st i p h e d = by_set s _ _ i.request p h e d

-- steps 5 and 6: whether step 6 returns to 00
abbrev pub returned : Settings → Settled → Weights → Bool
returned s a x =
    not (idle_now a.state)
    && idle_of (advance_of s.batching a.state.setpoints a.state.sequence (facts_of s.batching.mode a.state.setpoints x)).sequence.stage

pub ended_setpoints : (s : Settings) (a : Settled) (x : Weights)
    → (ended_of s a x).setpoints ≡ cond a.held a.state.setpoints (cond (returned s a x) (read_of a.state) a.state.setpoints)
unfolding ended_of stepped_of finished_of with_tracking
ended_setpoints s a x = simp cond_same

pub ended_waiting : (s : Settings) (a : Settled) (x : Weights)
    → (ended_of s a x).waiting ≡ cond a.held a.state.waiting (cond (returned s a x) none_waiting a.state.waiting)
unfolding ended_of stepped_of finished_of with_tracking
ended_waiting s a x = simp cond_same

-- what RS reads stays
in_both : (held back : Bool) (p : Setpoints) (w : Option Setpoints)
    → latest_of (cond held p (cond back (latest_of p w) p)) (cond held w (cond back none_waiting w)) ≡ latest_of p w
in_both true back p w = refl
in_both false back p w = in_latest back p w

pub ended_latest : (s : Settings) (a : Settled) (x : Weights) → read_of (ended_of s a x) ≡ read_of a.state
ended_latest s a x =
    (λ j. latest_of (ended_setpoints s a x j) (ended_waiting s a x j)) ∙ in_both a.held (returned s a x) a.state.setpoints a.state.waiting

-- a whole tick
pub tick_kept : (s : Settings) (st : State) (i : Input) → sets_at s st i ≡ false → read_of (next_of s st i) ≡ read_of st
unfolding next_of
tick_kept s st i e = ended_latest s (settled_of s st i) (served_of s st i) ∙ settled_kept s st i e

pub tick_set : (s : Settings) (st : State) (i : Input) (p : Setpoints) → (idle_now st ≡ true → st.waiting ≡ none_waiting)
    → i.request ≡ Some (request.Set p) → (settled_of s st i).outcome ≡ Ok tt → read_of (next_of s st i) ≡ p
unfolding next_of
tick_set s st i p h e d = ended_latest s (settled_of s st i) (served_of s st i) ∙ settled_set s st i p h e d
