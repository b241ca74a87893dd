-- How the parts of a state go together, tick by tick: a good tick begins the book, a bad one ends in stage 00, the tracking counter counts in
-- stage 00 alone, and a batch goes through the flow stages that its setpoints have. Assumes nothing.
use Rattle.std.specs.Prelude.{Option, None, Some, ℤ, ℕ}
use Prim.Native.Nat.{ℕ, suc}
use mathlib.Core.Path.{◌≡◌, refl, sym, ap, ◌∙◌}
use mathlib.Core.Bool.{Bool, true, false, cond, not, ◌&&◌}
use lib.Dec.{leb, eqb}
use lib.IntN.{ℤ}
use borrow.Author.Tests.{not-false}
use Rattle.types.specs.declared.settings.Mode.{Mode}
use Rattle.types.specs.declared.settings.Steadiness.{Steadiness}
use Rattle.types.specs.declared.settings.Batching.{Batching}
use Rattle.types.specs.declared.settings.Settings.{Settings}
use Rattle.types.specs.declared.weight.Stability.{Stability}
use Rattle.types.specs.declared.weight.Weighing.{Weighing}
use Rattle.types.specs.declared.weight.Weights.{Weights}
use Rattle.types.specs.declared.daybook.Book.{Book}
use Rattle.types.specs.declared.requests.Request.{Request}
use Rattle.types.specs.declared.requests.Request.TheVariants as request
use Rattle.types.specs.declared.stages.Setpoints.{Setpoints}
use Rattle.types.specs.declared.stages.Stage.{Stage}
use Rattle.types.specs.declared.stages.Stage.TheVariants.{Idle, StartDelay, LargeDisable, LargeFlow, MediumDisable, MediumFlow, SmallDisable, SmallFlow, JudgeDelay, JudgeWait, DischargeStart, Discharge, DischargeEnd}
use Rattle.types.specs.declared.stages.Sequence.{Sequence}
use Rattle.types.specs.declared.stages.Facts.{Facts}
use Rattle.types.specs.declared.stages.Move.{Move}
use Rattle.types.specs.declared.stages.Move.TheVariants.{To, Fail, Finish, Emptied}
use Rattle.types.specs.declared.stages.Advanced.{Advanced}
use Rattle.types.specs.declared.machine.State.{State}
use Rattle.types.specs.declared.machine.Input.{Input}
use Rattle.types.specs.declared.machine.Settled.{Settled}
use Rattle.outline.specs.Weight.{raw_of, weigh_of, steadied_of}
use Rattle.outline.specs.DayBook.{later_good, book_of, closed_of}
use Rattle.outline.specs.Zero.{tracking_on, calm_of, tracked_of}
use Rattle.outline.specs.Setpoints.{none_waiting, no_large_flow}
use Rattle.outline.specs.Stages.{compared_of, facts_of, wait_of, timed, until, after_large, first_flow, after_start, judged_of, move_of, idle_of, late_of, slow_of, stop_sequence, land_of, advance_of}
use Rattle.outline.specs.Totals.{bookable, booked_sequence}
use Rattle.outline.specs.Requests.{idle_now, rows_to, done_of, ruling_of, granted_of, decided_of}
use Rattle.outline.specs.Tick.{entered_of, weights_of, settled_of, served_of, with_tracking, finished_of, stepped_of, ended_of, next_of}
use Rattle.outline.specs.Ranges.{flow_fits, TogetherRange}
use Rattle.whole.specs.Chains.{and_left, and_both}
use Rattle.outline.proofs.Parts.{cond_same, cond_in, clash, none_applies}
use Rattle.outline.proofs.Steps.{booked_stage, step_runs}
use Rattle.outline.proofs.RangeBook.{settled_book, ended_book}
use Rattle.outline.proofs.RangeStability.{settled_stability, ended_stability}
use Rattle.outline.proofs.RangeWeighing.{Counts, counts, ended_weighing}

-- ---- steps 2 and 3: the tick is good to the book, to stability and to the weights, or to none of them
begun_in : (b : Book) (rule : Steadiness) (q : Stability) (last : ℤ) (raw : Option ℤ) (contact : Bool) → (steadied_of rule q last raw).good ≡ true → (book_of b raw contact).begun ≡ true
unfolding steadied_of book_of later_good
begun_in b rule q last None contact e = absurd (clash e refl)
begun_in b rule q last (Some raw) contact e = cond_in (λ (c : Book). c.begun ≡ true) b.begun (λ k. refl) (λ k. refl)

weigh_good : (s : Settings) (q v : Stability) (last : ℤ) (w : Weighing) (raw : Option ℤ) (contact : Bool) → (weigh_of s v w raw contact).good ≡ (steadied_of s.steadiness q last raw).good
unfolding weigh_of steadied_of
weigh_good s q v last w None contact = refl
weigh_good s q v last w (Some raw) contact = refl

-- ---- step 4
idle_fits : (m : Mode) (p : Setpoints) (g : Stage) → idle_of g ≡ true → flow_fits m p g ≡ true
idle_fits m p Idle e = refl
idle_fits m p (StartDelay t) e = refl
idle_fits m p (LargeDisable t) e = absurd (clash e refl)
idle_fits m p LargeFlow e = absurd (clash e refl)
idle_fits m p (MediumDisable t) e = absurd (clash e refl)
idle_fits m p MediumFlow e = absurd (clash e refl)
idle_fits m p (SmallDisable t) e = absurd (clash e refl)
idle_fits m p SmallFlow e = absurd (clash e refl)
idle_fits m p (JudgeDelay t) e = absurd (clash e refl)
idle_fits m p JudgeWait e = absurd (clash e refl)
idle_fits m p (DischargeStart t) e = refl
idle_fits m p Discharge e = refl
idle_fits m p (DischargeEnd t) e = refl

pub stop_idle : (q : Sequence) → idle_of (stop_sequence q).stage ≡ true
unfolding stop_sequence
stop_idle q = cond_in (λ (r : Sequence). idle_of r.stage ≡ true) (idle_of q.stage) (λ e. e) (λ e. refl)

closed_begun : (b : Book) → b.begun ≡ true → (closed_of b).begun ≡ true
unfolding closed_of
closed_begun b e = e

settled_good : (s : Settings) (st : State) (x : Weights) (r : Option Request) → (decided_of s st x r).state.stability.good ≡ st.stability.good
settled_good s st x r = ap (λ (q : Stability). q.good) (settled_stability s st x r)

-- what step 4 leaves; in a bad tick, a request that passes step 6 over goes to stage 00 or stays there
record Stands (s : Settings) (a : Settled) : Type 0 where
  begun : a.state.stability.good ≡ true → a.state.book.begun ≡ true
  held : a.held ≡ true → a.state.stability.good ≡ false → idle_now a.state ≡ true
  flow : flow_fits s.batching.mode a.state.setpoints a.state.sequence.stage ≡ true
  waits : idle_now a.state ≡ true → a.state.waiting ≡ none_waiting

module _ (s : Settings) (st : State) (x : Weights) where
  granted_held : (r : Option Request) → done_of (ruling_of s st x r) ≡ true → (granted_of st x r).held ≡ true → x.good ≡ false → idle_now (granted_of st x r).state ≡ true
  unfolding granted_of ruling_of
  granted_held None d e b = absurd (clash e refl)
  granted_held (Some request.Zero) d e b = absurd (clash e refl)
  granted_held (Some request.Tare) d e b = absurd (clash e refl)
  granted_held (Some request.TareClear) d e b = absurd (clash e refl)
  granted_held (Some request.Start) d e b = absurd (clash (not-false _ (none_applies (rows_to s.range s.batching.mode st.sequence st.totals x (Some request.Start)) d).0) b)
  granted_held (Some request.Stop) d e b = stop_idle st.sequence
  granted_held (Some (request.Set p)) d e b = absurd (clash e refl)
  granted_held (Some request.TotalClear) d e b = absurd (clash e refl)
  granted_held (Some request.Undo) d e b = absurd (clash e refl)
  granted_held (Some request.ShowGross) d e b = absurd (clash e refl)
  granted_held (Some request.ShowNet) d e b = absurd (clash e refl)
  granted_held (Some request.DayClose) d e b = absurd (clash e refl)
  granted_held (Some request.Discharge) d e b = absurd (clash (not-false _ (none_applies (rows_to s.range s.batching.mode st.sequence st.totals x (Some request.Discharge)) d).0) b)

  settled_held : (r : Option Request) → (decided_of s st x r).held ≡ true → x.good ≡ false → idle_now (decided_of s st x r).state ≡ true
  unfolding decided_of
  settled_held r = go (done_of (ruling_of s st x r)) refl
    where
      go : (t : Bool) → done_of (ruling_of s st x r) ≡ t → t && (granted_of st x r).held ≡ true → x.good ≡ false → idle_of (cond t (granted_of st x r).state.sequence st.sequence).stage ≡ true
      go true d = granted_held r d
      go false d = λ e b. absurd (clash e refl)

  module _ (h : flow_fits s.batching.mode st.setpoints st.sequence.stage ≡ true) where
    granted-flow : (r : Option Request) → done_of (ruling_of s st x r) ≡ true → flow_fits s.batching.mode (granted_of st x r).state.setpoints (granted_of st x r).state.sequence.stage ≡ true
    unfolding granted_of ruling_of
    granted-flow None d = h
    granted-flow (Some request.Zero) d = h
    granted-flow (Some request.Tare) d = h
    granted-flow (Some request.TareClear) d = h
    granted-flow (Some request.Start) d = refl
    granted-flow (Some request.Stop) d = idle_fits s.batching.mode _ (stop_sequence st.sequence).stage (stop_idle st.sequence)
    granted-flow (Some (request.Set p)) d =
        cond_in (λ (q : Setpoints). flow_fits s.batching.mode q st.sequence.stage ≡ true) (idle_now st)
        (λ e. idle_fits s.batching.mode p st.sequence.stage e) (λ e. h)
    granted-flow (Some request.TotalClear) d = h
    granted-flow (Some request.Undo) d = h
    granted-flow (Some request.ShowGross) d = h
    granted-flow (Some request.ShowNet) d = h
    granted-flow (Some request.DayClose) d = h
    granted-flow (Some request.Discharge) d = refl

    settled-flow : (r : Option Request) → flow_fits s.batching.mode (decided_of s st x r).state.setpoints (decided_of s st x r).state.sequence.stage ≡ true
    unfolding decided_of
    settled-flow r = go (done_of (ruling_of s st x r)) refl
      where
        go : (t : Bool) → done_of (ruling_of s st x r) ≡ t →
            flow_fits s.batching.mode (cond t (granted_of st x r).state.setpoints st.setpoints) (cond t (granted_of st x r).state.sequence st.sequence).stage ≡ true
        go true d = granted-flow r d
        go false d = h

    module _ (n : idle_now st ≡ true → st.waiting ≡ none_waiting) where
      granted_waits : (r : Option Request) → idle_now (granted_of st x r).state ≡ true → (granted_of st x r).state.waiting ≡ none_waiting
      unfolding granted_of
      granted_waits None e = n e
      granted_waits (Some request.Zero) e = n e
      granted_waits (Some request.Tare) e = n e
      granted_waits (Some request.TareClear) e = n e
      granted_waits (Some request.Start) e = absurd (clash e refl)
      granted_waits (Some request.Stop) e = cond_in (λ (w : Option Setpoints). w ≡ none_waiting) (not (idle_now st)) (λ k. refl) (λ k. n (not-false _ k))
      granted_waits (Some (request.Set p)) e = rw e (n e)
      granted_waits (Some request.TotalClear) e = n e
      granted_waits (Some request.Undo) e = n e
      granted_waits (Some request.ShowGross) e = n e
      granted_waits (Some request.ShowNet) e = n e
      granted_waits (Some request.DayClose) e = n e
      granted_waits (Some request.Discharge) e = absurd (clash e refl)

      settled_waits : (r : Option Request) → idle_now (decided_of s st x r).state ≡ true → (decided_of s st x r).state.waiting ≡ none_waiting
      unfolding decided_of
      settled_waits r = go (done_of (ruling_of s st x r))
        where
          go : (t : Bool) → idle_of (cond t (granted_of st x r).state.sequence st.sequence).stage ≡ true
              → cond t (granted_of st x r).state.waiting st.waiting ≡ none_waiting
          go true = granted_waits r
          go false = n

    settled-stands : (idle_now st ≡ true → st.waiting ≡ none_waiting) → x.good ≡ st.stability.good → (st.stability.good ≡ true → st.book.begun ≡ true) → (r : Option Request) → Stands s (decided_of s st x r)
    settled-stands n g k r =
        let same = settled_good s st x r in
        record {
          begun = λ e. settled_book (λ (b : Book). b.begun ≡ true) closed_begun s st x r (k (sym same ∙ e));
          held = λ e b. settled_held r e (g ∙ sym same ∙ b);
          flow = settled-flow r;
          waits = settled_waits n r;
        }

-- ---- step 5: the counter is 0 but in a good tick in stage 00
uncounted : (s : Settings) (idle keyed : Bool) (x : Weights) (w : Weighing) → (Counts s.tracking idle x → ⊥) → (tracked_of s idle keyed x w).counter ≡ 0
unfolding tracked_of
uncounted s idle keyed x w n =
    cond_in (λ (v : Weighing). v.counter ≡ 0) (tracking_on s.tracking && calm_of s.tracking idle keyed x)
    (λ e. absurd (n (counts s.tracking idle keyed x e))) (λ e. refl)

-- ---- step 6: where a move leads, and what holds of it
abbrev Leads : (Stage → Type 0) → Move → Type 0
Leads P (To g) = P g
Leads P (Fail e) = P Idle
Leads P (Finish j) = P Idle
Leads P Emptied = P Idle

module _ (P : Stage → Type 0) where
  timed_leads : (n t : ℕ) (stay : ℕ → Stage) (move : Move) → P (stay (suc t)) → Leads P move → Leads P (timed (wait_of n t) stay move)
  unfolding wait_of
  timed_leads n t stay move k m = go (leb n (suc t))
    where
      go : (ends : Bool) → Leads P (timed (cond ends None (Some (suc t))) stay move)
      go true = m
      go false = k

  until_leads : (reached : Bool) (stay : Stage) (move : Move) → P stay → Leads P move → Leads P (until reached stay move)
  until_leads reached stay move k m = cond_in (Leads P) reached (λ e. m) (λ e. k)

  land_stage : (q : Sequence) (m : Move) → Leads P m → P (land_of q m).sequence.stage
  unfolding land_of
  land_stage q (To g) h = h
  land_stage q (Fail e) h = h
  land_stage q (Finish j) h = h
  land_stage q Emptied h = h

  -- stage 00 stays; any other fails into it, or moves in a fit tick
  advance_stage : (b : Batching) (p : Setpoints) (q : Sequence) (f : Facts) → (idle_of q.stage ≡ true → P q.stage) → P Idle
      → (idle_of q.stage ≡ false → f.unfit ≡ false → Leads P (move_of b p q.stage f)) → P (advance_of b p q f).sequence.stage
  unfolding advance_of
  advance_stage b p q f stays fails moves =
      let Q : Advanced → Type 0 = λ (a : Advanced). P a.sequence.stage in
      cond_in Q (idle_of q.stage) stays
      (λ e. cond_in Q f.unfit (λ k. fails)
      (λ k. cond_in Q (late_of b q) (λ l. fails)
      (λ l. cond_in Q (slow_of b q) (λ o. fails) (λ o. land_stage q (move_of b p q.stage f) (moves e k)))))

  -- booking leaves the stage
  finished_stage : (s : Settings) (st : State) (x : Weights) (a : Advanced) → P a.sequence.stage → P (finished_of s st x a).sequence.stage
  unfolding finished_of booked_sequence
  finished_stage s st x a h =
      let Q : Sequence → Type 0 = λ (q : Sequence). P q.stage in
      cond_in Q a.finished (λ e. cond_in Q (bookable st.totals (compared_of s.batching.mode x)) (λ k. h) (λ k. h)) (λ e. h)

  ended_stage : (s : Settings) (a : Settled) (x : Weights) → (a.held ≡ true → P a.state.sequence.stage)
      → P (advance_of s.batching a.state.setpoints a.state.sequence (facts_of s.batching.mode a.state.setpoints x)).sequence.stage
      → P (ended_of s a x).sequence.stage
  unfolding ended_of stepped_of with_tracking
  ended_stage s a x kept h = cond_in (λ (q : Sequence). P q.stage) a.held kept (λ e. finished_stage s _ x _ h)

-- ---- the flow stages
module _ (m : Mode) (p : Setpoints) where
  abbrev Fits : Stage → Type 0
  Fits g = flow_fits m p g ≡ true

  after_large_lem : not (eqb p.target 0) ≡ true → Fits (after_large p)
  after_large_lem h = cond_in Fits (eqb p.preliminary 0) (λ e. h) (λ e. and_both h (rw e))

  first_flow_lem : not (eqb p.target 0) ≡ true → Fits (first_flow m p)
  unfolding first_flow
  first_flow_lem h = cond_in Fits (no_large_flow m p) (λ e. after_large_lem h) (λ e. and_both h (rw e))

  after_start_lem : (f : Facts) → Leads Fits (after_start m p f)
  unfolding after_start
  after_start_lem f =
      cond_in (Leads Fits) (eqb p.target 0) (λ e. refl) (λ e. cond_in (Leads Fits) f.small (λ k. refl) (λ k. first_flow_lem (rw e)))

move_flow : (b : Batching) (p : Setpoints) (g : Stage) (f : Facts) → Fits b.mode p g → Leads (Fits b.mode p) (move_of b p g f)
unfolding move_of
move_flow b p Idle f h = refl
move_flow b p (StartDelay t) f h = timed_leads (Fits b.mode p) b.start t StartDelay (after_start b.mode p f) refl (after_start_lem b.mode p f)
move_flow b p (LargeDisable t) f h = timed_leads (Fits b.mode p) b.large t LargeDisable (To LargeFlow) h h
move_flow b p LargeFlow f h = until_leads (Fits b.mode p) f.large LargeFlow (To (after_large p)) h (after_large_lem b.mode p (and_left _ _ h))
move_flow b p (MediumDisable t) f h = timed_leads (Fits b.mode p) b.medium t MediumDisable (To MediumFlow) h h
move_flow b p MediumFlow f h = until_leads (Fits b.mode p) f.medium MediumFlow (To (SmallDisable 0)) h (and_left _ _ h)
move_flow b p (SmallDisable t) f h = timed_leads (Fits b.mode p) b.small t SmallDisable (To SmallFlow) h h
move_flow b p SmallFlow f h = until_leads (Fits b.mode p) f.small SmallFlow (To (JudgeDelay 0)) h h
move_flow b p (JudgeDelay t) f h = timed_leads (Fits b.mode p) b.judge t JudgeDelay (To JudgeWait) h h
move_flow b p JudgeWait f h = until_leads (Fits b.mode p) f.stable JudgeWait (Finish (judged_of f)) h refl
move_flow b p (DischargeStart t) f h = timed_leads (Fits b.mode p) b.discharge.start t DischargeStart (To Discharge) refl refl
move_flow b p Discharge f h = until_leads (Fits b.mode p) f.empty Discharge (To (DischargeEnd 0)) refl refl
move_flow b p (DischargeEnd t) f h = timed_leads (Fits b.mode p) b.discharge.end t DischargeEnd Emptied refl refl

-- ---- what waits comes into use where the stage returns to 00
step_waits : (s : Settings) (st : State) (x : Weights) → (idle_now st ≡ true → st.waiting ≡ none_waiting)
    → idle_of (stepped_of s st x).sequence.stage ≡ true → (stepped_of s st x).waiting ≡ none_waiting
unfolding stepped_of finished_of
step_waits s st x n e = simp (cond_same, go (idle_now st) refl)
  where
    a : Advanced
    a = advance_of s.batching st.setpoints st.sequence (facts_of s.batching.mode st.setpoints x)

    go : (t : Bool) → idle_now st ≡ t → cond (not (idle_now st) && idle_of a.sequence.stage) none_waiting st.waiting ≡ none_waiting
    go true p = rw p (n p)
    go false p = rw (p, sym (ap idle_of (booked_stage s st x a)) ∙ e)

-- ---- steps 5 and 6 together
unfit : (m : Mode) (p : Setpoints) (x : Weights) → x.good ≡ false → (facts_of m p x).unfit ≡ true
unfolding facts_of
unfit m p x e = rw e

is_true : (t : Bool) → (t ≡ false → ⊥) → t ≡ true
is_true true n = refl
is_true false n = absurd (n refl)

module _ (s : Settings) (a : Settled) (x : Weights) where
  -- 00 stays 00
  pub rest_stays : idle_now a.state ≡ true → idle_now (ended_of s a x) ≡ true
  rest_stays e =
      ended_stage (λ (o : Stage). idle_of o ≡ true) s a x (λ k. e)
      (advance_stage (λ (o : Stage). idle_of o ≡ true) s.batching a.state.setpoints a.state.sequence _ (λ k. k) refl (λ k f. absurd (clash e k)))

  -- outside 00 both sets stay as step 4 leaves them
  pub ended_runs : idle_now (ended_of s a x) ≡ false → ((ended_of s a x).setpoints ≡ a.state.setpoints) × ((ended_of s a x).waiting ≡ a.state.waiting)
  unfolding ended_of with_tracking
  ended_runs = go a.held
    where
      go : (t : Bool) → let b = stepped_of s (with_tracking s a x) x in
          idle_of (cond t a.state.sequence b.sequence).stage ≡ false
          → (cond t a.state.setpoints b.setpoints ≡ a.state.setpoints) × (cond t a.state.waiting b.waiting ≡ a.state.waiting)
      go true e = (refl, refl)
      go false e = let r = step_runs s _ x e in (r.1, r.2)

module _ (s : Settings) (a : Settled) (x : Weights) (g : x.good ≡ a.state.stability.good) (h : Stands s a) where
  -- a bad tick ends in stage 00
  bad_rests : x.good ≡ false → idle_now (ended_of s a x) ≡ true
  bad_rests e =
      ended_stage (λ (o : Stage). idle_of o ≡ true) s a x (λ k. h.held k (sym g ∙ e))
      (advance_stage (λ (o : Stage). idle_of o ≡ true) s.batching a.state.setpoints a.state.sequence _ (λ k. k) refl
      (λ k f. absurd (clash (unfit s.batching.mode a.state.setpoints x e) f)))

  -- stage 00 after step 4 stays so
  ended_good : (ended_of s a x).stability.good ≡ x.good
  ended_good = ap (λ (q : Stability). q.good) (ended_stability s a x) ∙ sym g

  ended_flow : flow_fits s.batching.mode a.state.setpoints (ended_of s a x).sequence.stage ≡ true
  ended_flow =
      ended_stage (Fits s.batching.mode a.state.setpoints) s a x (λ k. h.flow)
      (advance_stage (Fits s.batching.mode a.state.setpoints) s.batching a.state.setpoints a.state.sequence _ (λ k. h.flow) refl
      (λ k f. move_flow s.batching a.state.setpoints a.state.sequence.stage _ h.flow))

  -- in 00 every set fits
  ended_fits : flow_fits s.batching.mode (ended_of s a x).setpoints (ended_of s a x).sequence.stage ≡ true
  ended_fits = go (idle_now (ended_of s a x)) refl
    where
      go : (t : Bool) → idle_now (ended_of s a x) ≡ t → flow_fits s.batching.mode (ended_of s a x).setpoints (ended_of s a x).sequence.stage ≡ true
      go true e = idle_fits s.batching.mode (ended_of s a x).setpoints (ended_of s a x).sequence.stage e
      go false e = rw (ended_runs s a x e).0 ended_flow

  ended_waits : idle_now (ended_of s a x) ≡ true → (ended_of s a x).waiting ≡ none_waiting
  unfolding ended_of with_tracking
  ended_waits = go a.held
    where
      go : (t : Bool) → let b = stepped_of s (with_tracking s a x) x in
          idle_of (cond t a.state.sequence b.sequence).stage ≡ true → cond t a.state.waiting b.waiting ≡ none_waiting
      go true e = h.waits e
      go false e = step_waits s _ x h.waits e

  ended_together : TogetherRange s (ended_of s a x)
  ended_together = record {
    begun = λ e. rw (ended_book s a x) (h.begun (sym g ∙ sym ended_good ∙ e));
    under_way = λ e. ended_good ∙ is_true x.good (λ k. clash (bad_rests k) e);
    resting = λ e. rw (ended_weighing s a x) (uncounted s _ _ x _ (λ c. clash (rest_stays s a x c.rests) e));
    unbroken = λ e. rw (ended_weighing s a x) (uncounted s _ _ x _ (λ c. clash c.good (sym ended_good ∙ e)));
    flow = ended_fits;
    none_waits = ended_waits;
  }

-- ---- a whole tick
module _ (s : Settings) (st : State) (i : Input) where
  served_good : (served_of s st i).good ≡ (settled_of s st i).state.stability.good
  unfolding served_of weights_of settled_of entered_of
  served_good =
      weigh_good s st.stability _ st.book.last _ (raw_of s.calibration i.count) i.contact
      ∙ sym (settled_good s _ _ i.request)

  settled_in : TogetherRange s st → Stands s (settled_of s st i)
  unfolding settled_of entered_of weights_of
  settled_in h =
      settled-stands s _ _ h.flow h.none_waits (weigh_good s st.stability _ st.book.last st.weighing (raw_of s.calibration i.count) i.contact)
      (begun_in st.book s.steadiness st.stability st.book.last (raw_of s.calibration i.count) i.contact) i.request

  pub tick_together : TogetherRange s st → TogetherRange s (next_of s st i)
  unfolding next_of
  tick_together h = ended_together s (settled_of s st i) (served_of s st i) served_good (settled_in h)
