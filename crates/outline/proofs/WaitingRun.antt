-- What waits is the last accepted write since the stage was last 00, the set in use stays while it is not 00, and what RS reads is the last
-- accepted write of all. Assumes nothing.
use Rattle.std.specs.Prelude.{Option, None, Some, Result, Ok, Err}
use mathlib.Core.Path.{◌≡◌, refl, sym, ap, ◌∙◌}
use mathlib.Core.Bool.{Bool, true, false, cond}
use Rattle.types.specs.declared.requests.Refusal.{Refusal}
use Rattle.types.specs.declared.settings.Settings.{Settings}
use Rattle.types.specs.declared.weight.Weights.{Weights}
use Rattle.types.specs.declared.requests.Request.{Request}
use Rattle.types.specs.declared.requests.Request.TheVariants as request
use Rattle.types.specs.declared.stages.Setpoints.{Setpoints}
use Rattle.types.specs.declared.machine.State.{State}
use Rattle.types.specs.declared.machine.Input.{Input}
use Rattle.outline.specs.Setpoints.{none_waiting, written_else, latest_of}
use Rattle.outline.specs.Stages.{idle_of}
use Rattle.outline.specs.Requests.{idle_now, done_of, grant_of, ruling_of, granted_of, decided_of}
use Rattle.outline.specs.Tick.{open_state, entered_of, settled_of, served_of, next_of, outputs_of, tick_of}
use Rattle.outline.specs.Kinds.{request_kind}
use Rattle.outline.specs.Run.{History, start, ◌▷◌, run_of}
use Rattle.outline.specs.Writes.{points_seen, points_run, replaces, written_last}
use Rattle.outline.specs.StaysTrue.{WaitingOfWrites, InUseStays, LatestOfWrites}
use Rattle.outline.proofs.Parts.{clash}
use Rattle.outline.proofs.RangeTogether.{stop_idle, rest_stays, ended_runs}
use Rattle.outline.proofs.SetpointStep.{read_of, granted_latest, stored, ended_latest}
use Rattle.outline.proofs.RangeRun.{run_in}

-- ---- step 4, where the stage is not 00 after it: what is done of a request
module _ (st : State) (x : Weights) where
  -- the set in use stays
  granted_used : (r : Option Request) → idle_now (granted_of st x r).state ≡ false → (granted_of st x r).state.setpoints ≡ st.setpoints
  unfolding granted_of
  granted_used None e = refl
  granted_used (Some request.Zero) e = refl
  granted_used (Some request.Tare) e = refl
  granted_used (Some request.TareClear) e = refl
  granted_used (Some request.Start) e = refl
  granted_used (Some request.Stop) e = absurd (clash (stop_idle st.sequence) e)
  granted_used (Some (request.Set p)) e = rw e
  granted_used (Some request.TotalClear) e = refl
  granted_used (Some request.Undo) e = refl
  granted_used (Some request.ShowGross) e = refl
  granted_used (Some request.ShowNet) e = refl
  granted_used (Some request.DayClose) e = refl
  granted_used (Some request.Discharge) e = refl

  -- what waits is what is written, if anything is
  granted_waits : (r : Option Request) → idle_now (granted_of st x r).state ≡ false
      → (granted_of st x r).state.waiting ≡ replaces (request_kind r).writes st.waiting
  unfolding granted_of
  granted_waits None e = refl
  granted_waits (Some request.Zero) e = refl
  granted_waits (Some request.Tare) e = refl
  granted_waits (Some request.TareClear) e = refl
  granted_waits (Some request.Start) e = refl
  granted_waits (Some request.Stop) e = absurd (clash (stop_idle st.sequence) e)
  granted_waits (Some (request.Set p)) e = rw e
  granted_waits (Some request.TotalClear) e = refl
  granted_waits (Some request.Undo) e = refl
  granted_waits (Some request.ShowGross) e = refl
  granted_waits (Some request.ShowNet) e = refl
  granted_waits (Some request.DayClose) e = refl
  granted_waits (Some request.Discharge) e = refl

module _ (s : Settings) (st : State) (x : Weights) (r : Option Request) where
  decided_used : idle_now (decided_of s st x r).state ≡ false → (decided_of s st x r).state.setpoints ≡ st.setpoints
  unfolding decided_of
  decided_used = go (ruling_of s st x r)
    where
      go : (o : Result (Unit {0}) Refusal) → idle_of (cond (done_of o) (granted_of st x r).state.sequence st.sequence).stage ≡ false
          → cond (done_of o) (granted_of st x r).state.setpoints st.setpoints ≡ st.setpoints
      go (Ok tt) e = granted_used st x r e
      go (Err n) e = refl

  decided_waits : idle_now (decided_of s st x r).state ≡ false
      → (decided_of s st x r).state.waiting ≡ replaces (request_kind (grant_of (decided_of s st x r).outcome r)).writes st.waiting
  unfolding decided_of
  decided_waits = go (ruling_of s st x r)
    where
      go : (o : Result (Unit {0}) Refusal) → idle_of (cond (done_of o) (granted_of st x r).state.sequence st.sequence).stage ≡ false
          → cond (done_of o) (granted_of st x r).state.waiting st.waiting ≡ replaces (request_kind (grant_of o r)).writes st.waiting
      go (Ok tt) e = granted_waits st x r e
      go (Err n) e = refl

-- ---- a whole tick
module _ (s : Settings) (st : State) (i : Input) where
  settled_used : idle_now (settled_of s st i).state ≡ false → (settled_of s st i).state.setpoints ≡ st.setpoints
  unfolding settled_of entered_of
  settled_used = decided_used s _ _ i.request

  settled_waits : idle_now (settled_of s st i).state ≡ false
      → (settled_of s st i).state.waiting ≡ replaces (request_kind (grant_of (settled_of s st i).outcome i.request)).writes st.waiting
  unfolding settled_of entered_of
  settled_waits = decided_waits s _ _ i.request

  -- 00 after step 4 is 00 after step 6
  still_runs : idle_now (next_of s st i) ≡ false → idle_now (settled_of s st i).state ≡ false
  unfolding next_of
  still_runs e = go (idle_now (settled_of s st i).state) refl
    where
      go : (t : Bool) → idle_now (settled_of s st i).state ≡ t → idle_now (settled_of s st i).state ≡ false
      go true p = absurd (clash (rest_stays s (settled_of s st i) (served_of s st i) p) e)
      go false p = p

  tick_used : idle_now (next_of s st i) ≡ false → (next_of s st i).setpoints ≡ st.setpoints
  unfolding next_of
  tick_used e = (ended_runs s (settled_of s st i) (served_of s st i) e).0 ∙ settled_used (still_runs e)

  tick_waits : idle_now (next_of s st i) ≡ false
      → (next_of s st i).waiting ≡ replaces (request_kind (grant_of (settled_of s st i).outcome i.request)).writes st.waiting
  unfolding next_of
  tick_waits e =
      (ended_runs s (settled_of s st i) (served_of s st i) e).1 ∙ settled_waits (still_runs e)

pub in_use_stays : InUseStays
unfolding tick_of outputs_of
in_use_stays s st i e = tick_used s st i e

-- ---- a whole run
by_stage : (t : Bool) (a b n : Option Setpoints) → (t ≡ true → a ≡ n) → (t ≡ false → a ≡ b) → a ≡ cond t n b
by_stage true a b n p q = p refl
by_stage false a b n p q = q refl

seen : (s : Settings) (st : State) (i : Input) → (idle_now (next_of s st i) ≡ true → (next_of s st i).waiting ≡ none_waiting) →
    let t = points_seen s st i in
    (next_of s st i).waiting ≡ cond t.idle None (replaces t.write st.waiting)
unfolding points_seen tick_of outputs_of
seen s st i n =
    by_stage (idle_now (next_of s st i)) _ _ _ (λ e. (n e)) (tick_waits s st i)

pub waiting_of_writes : WaitingOfWrites
unfolding run_of open_state
waiting_of_writes s a start = refl
waiting_of_writes s a (h ▷ i) =
    seen s (run_of s h) i (run_in s (h ▷ i)).together.none_waits
    ∙ ap (λ (w : Option Setpoints). let t = points_seen s (run_of s h) i in cond t.idle None (replaces t.write w)) (waiting_of_writes s a h)

-- ---- the set written last: what RS reads
granted_reads : (st : State) (x : Weights) (r : Option Request) → (idle_now st ≡ true → st.waiting ≡ none_waiting)
    → read_of (granted_of st x r).state ≡ written_else (request_kind r).writes (read_of st)
unfolding granted_of
granted_reads st x None n = granted_latest st x None refl
granted_reads st x (Some request.Zero) n = granted_latest st x (Some request.Zero) refl
granted_reads st x (Some request.Tare) n = granted_latest st x (Some request.Tare) refl
granted_reads st x (Some request.TareClear) n = granted_latest st x (Some request.TareClear) refl
granted_reads st x (Some request.Start) n = granted_latest st x (Some request.Start) refl
granted_reads st x (Some request.Stop) n = granted_latest st x (Some request.Stop) refl
granted_reads st x (Some (request.Set p)) n = stored (idle_now st) st.setpoints p st.waiting n
granted_reads st x (Some request.TotalClear) n = granted_latest st x (Some request.TotalClear) refl
granted_reads st x (Some request.Undo) n = granted_latest st x (Some request.Undo) refl
granted_reads st x (Some request.ShowGross) n = granted_latest st x (Some request.ShowGross) refl
granted_reads st x (Some request.ShowNet) n = granted_latest st x (Some request.ShowNet) refl
granted_reads st x (Some request.DayClose) n = granted_latest st x (Some request.DayClose) refl
granted_reads st x (Some request.Discharge) n = granted_latest st x (Some request.Discharge) refl

module _ (s : Settings) where
  decided_reads : (st : State) (x : Weights) (r : Option Request) → (idle_now st ≡ true → st.waiting ≡ none_waiting)
      → read_of (decided_of s st x r).state ≡ written_else (request_kind (grant_of (decided_of s st x r).outcome r)).writes (read_of st)
  unfolding decided_of
  decided_reads st x r n = go (ruling_of s st x r)
    where
      go : (o : Result (Unit {0}) Refusal) → latest_of (cond (done_of o) (granted_of st x r).state.setpoints st.setpoints) (cond (done_of o) (granted_of st x r).state.waiting st.waiting)
          ≡ written_else (request_kind (grant_of o r)).writes (read_of st)
      go (Ok tt) = granted_reads st x r n
      go (Err k) = refl

  settled_reads : (st : State) (i : Input) → (idle_now st ≡ true → st.waiting ≡ none_waiting)
      → read_of (settled_of s st i).state ≡ written_else (request_kind (grant_of (settled_of s st i).outcome i.request)).writes (read_of st)
  unfolding settled_of entered_of
  settled_reads st i n = decided_reads _ _ i.request n

  tick_reads : (st : State) (i : Input) → (idle_now st ≡ true → st.waiting ≡ none_waiting)
      → read_of (next_of s st i) ≡ written_else (points_seen s st i).write (read_of st)
  unfolding next_of points_seen tick_of outputs_of
  tick_reads st i n = ended_latest s (settled_of s st i) (served_of s st i) ∙ settled_reads st i n

-- the history's own words for a write that replaces what was read
replaced : (w : Option Setpoints) (p : Setpoints) → Some (written_else w p) ≡ replaces w (Some p)
replaced None p = refl
replaced (Some n) p = refl

reads_last : (s : Settings) (h : History Input) → Some (read_of (run_of s h)) ≡ written_last (points_run s h)
unfolding run_of open_state
reads_last s start = refl
reads_last s (h ▷ i) =
    ap Some (tick_reads s (run_of s h) i (run_in s h).together.none_waits)
    ∙ replaced (points_seen s (run_of s h) i).write (read_of (run_of s h))
    ∙ ap (replaces (points_seen s (run_of s h) i).write) (reads_last s h)

pub latest_of_writes : LatestOfWrites
latest_of_writes s a h = record {
  read = reads_last s h;
  in_use = λ e. sym (ap (λ (w : Option Setpoints). Some (latest_of (run_of s h).setpoints w)) ((run_in s h).together.none_waits e)) ∙ reads_last s h;
}
