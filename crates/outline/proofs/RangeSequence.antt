-- The sequence stays in its range: no stage outlasts its time, neither clock stands above its limit, no error stands outside stage 00 and
-- no judgement in a batch, and mode 2 has no discharge and no error of one. Assumes nothing.
use Rattle.std.specs.Prelude.{None, Some, ℤ, ℕ, Option}
use Prim.Native.Nat.{ℕ, suc, ◌<◌, ◌≤◌, max}
use native.Mathlib.Omega.{arith}
use mathlib.Core.Path.{◌≡◌, refl, sym, ◌∙◌}
use mathlib.Core.Bool.{Bool, true, false, cond, ◌&&◌, ◌||◌}
use lib.Dec.{leb, ltb, eqb}
use lib.IntN.{ℤ}
use borrow.Author.Tests.{leb-false, ltb-false}
use Rattle.types.specs.declared.settings.Mode.{Mode}
use Rattle.types.specs.declared.settings.Mode.TheVariants as mode
use Rattle.types.specs.declared.settings.Batching.{Batching}
use Rattle.types.specs.declared.settings.Settings.{Settings}
use Rattle.types.specs.declared.weight.Weights.{Weights}
use Rattle.types.specs.declared.requests.Request.{Request}
use Rattle.types.specs.declared.requests.Request.TheVariants as request
use Rattle.types.specs.declared.stages.Setpoints.{Setpoints}
use Rattle.types.specs.declared.stages.Stage.{Stage}
use Rattle.types.specs.declared.stages.Stage.TheVariants.{Idle, StartDelay, LargeDisable, LargeFlow, MediumDisable, MediumFlow, SmallDisable, SmallFlow, JudgeDelay, JudgeWait, DischargeStart, Discharge, DischargeEnd}
use Rattle.types.specs.declared.stages.Judgement.{Judgement}
use Rattle.types.specs.declared.stages.SequenceError.{SequenceError}
use Rattle.types.specs.declared.stages.SequenceError.TheVariants as error
use Rattle.types.specs.declared.stages.Sequence.{Sequence}
use Rattle.types.specs.declared.stages.Facts.{Facts}
use Rattle.types.specs.declared.stages.Move.{Move}
use Rattle.types.specs.declared.stages.Move.TheVariants.{To, Fail, Finish, Emptied}
use Rattle.types.specs.declared.stages.Advanced.{Advanced}
use Rattle.types.specs.declared.stages.Totals.{Totals}
use Rattle.types.specs.declared.machine.State.{State}
use Rattle.types.specs.declared.machine.Input.{Input}
use Rattle.types.specs.declared.machine.Settled.{Settled}
use Rattle.outline.specs.Setpoints.{no_large_flow}
use Rattle.outline.specs.Stages.{compared_of, facts_of, wait_of, timed, until, after_large, first_flow, after_start, judged_of, move_of, idle_of, flowing_of, emptying_of, discharging_of, clock_of, late_of, slow_of, start_sequence, discharge_sequence, stop_error, stop_sequence, land_of, advance_of}
use Rattle.outline.specs.Totals.{bookable, booked_sequence}
use Rattle.outline.specs.Requests.{loss_mode, rows_to, done_of, ruling_of, granted_of, decided_of}
use Rattle.outline.specs.Tick.{entered_of, settled_of, with_tracking, finished_of, stepped_of, ended_of, next_of}
use Rattle.outline.specs.Ranges.{of_discharge, TimerRange, SequenceRange}
use Rattle.whole.specs.Chains.{and_left}
use Rattle.outline.proofs.Parts.{none_applies, cond_in, clash}

-- ---- the clocks' stages: those of a batch are none of a discharge's
not_flowing : (g : Stage) → discharging_of g ≡ true → flowing_of g ≡ false
not_flowing Idle e = refl
not_flowing (StartDelay t) e = refl
not_flowing (LargeDisable t) e = absurd (clash e refl)
not_flowing LargeFlow e = absurd (clash e refl)
not_flowing (MediumDisable t) e = absurd (clash e refl)
not_flowing MediumFlow e = absurd (clash e refl)
not_flowing (SmallDisable t) e = absurd (clash e refl)
not_flowing SmallFlow e = absurd (clash e refl)
not_flowing (JudgeDelay t) e = absurd (clash e refl)
not_flowing JudgeWait e = absurd (clash e refl)
not_flowing (DischargeStart t) e = refl
not_flowing Discharge e = refl
not_flowing (DischargeEnd t) e = refl

not_emptying : (g : Stage) → discharging_of g ≡ false → emptying_of g ≡ false
not_emptying Idle e = refl
not_emptying (StartDelay t) e = refl
not_emptying (LargeDisable t) e = refl
not_emptying LargeFlow e = refl
not_emptying (MediumDisable t) e = refl
not_emptying MediumFlow e = refl
not_emptying (SmallDisable t) e = refl
not_emptying SmallFlow e = refl
not_emptying (JudgeDelay t) e = refl
not_emptying JudgeWait e = refl
not_emptying (DischargeStart t) e = refl
not_emptying Discharge e = absurd (clash refl e)
not_emptying (DischargeEnd t) e = absurd (clash refl e)

of_batch_lem : (g : Stage) → flowing_of g ≡ true → discharging_of g ≡ false
of_batch_lem g e = go (discharging_of g) refl
  where
    go : (t : Bool) → discharging_of g ≡ t → discharging_of g ≡ false
    go true k = absurd (clash e (not_flowing g k))
    go false k = k

of_discharge_lem : (g : Stage) → emptying_of g ≡ true → discharging_of g ≡ true
of_discharge_lem g e = go (discharging_of g) refl
  where
    go : (t : Bool) → discharging_of g ≡ t → discharging_of g ≡ true
    go true k = k
    go false k = absurd (clash e (not_emptying g k))

-- ---- to stage 00, with whatever judgement, and with an error that the mode has
rest_in : (b : Batching) (e : SequenceError) (j : Judgement) → (of_discharge e ≡ true → b.mode ≡ mode.Normal)
    → SequenceRange b (record { stage = Idle; clock = 0; error = e; judgement = j })
rest_in b e j n = record {
  timer = tt;
  flow_clock = λ k. omega arith;
  discharge_clock = λ k. omega arith;
  unclocked = λ k. refl;
  no_error_lem = λ k. absurd (clash refl k);
  no_judgement = λ k. absurd (clash refl k);
  normal = λ k. absurd (clash k refl);
  normal_error = n;
}

-- an error that no discharge gives
common : (b : Batching) (e : SequenceError) → of_discharge e ≡ false → of_discharge e ≡ true → b.mode ≡ mode.Normal
common b e n k = absurd (clash k n)

-- ---- step 4: start, discharge and stop
start_in : (b : Batching) → SequenceRange b start_sequence
start_in b = record {
  timer = omega arith;
  flow_clock = λ k. omega arith;
  discharge_clock = λ k. omega arith;
  unclocked = λ k. refl;
  no_error_lem = λ k. refl;
  no_judgement = λ k. refl;
  normal = λ k. absurd (clash k refl);
  normal_error = λ k. absurd (clash k refl);
}

-- a discharge is accepted in mode 1 alone
is_normal_lem : (m : Mode) → loss_mode m ≡ false → m ≡ mode.Normal
is_normal_lem mode.Normal e = refl
is_normal_lem mode.Loss e = absurd (clash refl e)

discharge_in : (b : Batching) (q : Sequence) → loss_mode b.mode ≡ false → SequenceRange b (discharge_sequence q)
discharge_in b q e = record {
  timer = omega arith;
  flow_clock = λ k. omega arith;
  discharge_clock = λ k. omega arith;
  unclocked = λ k. refl;
  no_error_lem = λ k. refl;
  no_judgement = λ k. absurd (clash refl k);
  normal = λ k. is_normal_lem b.mode e;
  normal_error = λ k. is_normal_lem b.mode e;
}

stop_error_lem : (g : Stage) → of_discharge (stop_error g) ≡ true → discharging_of g ≡ true
stop_error_lem g = go (discharging_of g)
  where
    go : (t : Bool) → of_discharge (cond t error.DischargeStopped error.Stopped) ≡ true → t ≡ true
    go true e = refl
    go false e = absurd (clash e refl)

stop_in : (b : Batching) (q : Sequence) → SequenceRange b q → SequenceRange b (stop_sequence q)
unfolding stop_sequence
stop_in b q h = cond_in (SequenceRange b) (idle_of q.stage) (λ e. h) (λ e. rest_in b (stop_error q.stage) q.judgement (λ k. h.normal (stop_error_lem q.stage k)))

module _ (s : Settings) (st : State) (x : Weights) (h : SequenceRange s.batching st.sequence) where
  granted_sequence : (r : Option Request) → done_of (ruling_of s st x r) ≡ true → SequenceRange s.batching (granted_of st x r).state.sequence
  unfolding granted_of ruling_of
  granted_sequence None e = h
  granted_sequence (Some request.Zero) e = h
  granted_sequence (Some request.Tare) e = h
  granted_sequence (Some request.TareClear) e = h
  granted_sequence (Some request.Start) e = start_in s.batching
  granted_sequence (Some request.Stop) e = stop_in s.batching st.sequence h
  granted_sequence (Some (request.Set p)) e = h
  granted_sequence (Some request.TotalClear) e = h
  granted_sequence (Some request.Undo) e = h
  granted_sequence (Some request.ShowGross) e = h
  granted_sequence (Some request.ShowNet) e = h
  granted_sequence (Some request.DayClose) e = h
  granted_sequence (Some request.Discharge) e =
      discharge_in s.batching st.sequence
      (none_applies (rows_to s.range s.batching.mode st.sequence st.totals x (Some request.Discharge)) e).1.1.1.0

  settled_sequence : (r : Option Request) → SequenceRange s.batching (decided_of s st x r).state.sequence
  unfolding decided_of
  settled_sequence r = cond_in (SequenceRange s.batching) (done_of (ruling_of s st x r)) (granted_sequence r) (λ e. h)

-- ---- the moves of step 6: to a stage whose time has just begun, or that stays within it; a batch stays one and a discharge too; and from a
-- stage whose clock runs to another one alone
record StageIn (b : Batching) (from to : Stage) : Type 0 where
  timer : TimerRange b to
  same : discharging_of to ≡ discharging_of from
  runs : flowing_of to || emptying_of to ≡ false → flowing_of from || emptying_of from ≡ false

abbrev MoveIn : Batching → Stage → Move → Type 0
MoveIn b from (To to) = StageIn b from to
MoveIn b from (Fail e) = of_discharge e ≡ false
MoveIn b from (Finish j) = Unit {0}
MoveIn b from Emptied = Unit {0}

-- to a stage whose clock runs
run_in : (b : Batching) (from to : Stage) → discharging_of to ≡ discharging_of from → flowing_of to || emptying_of to ≡ true → TimerRange b to → StageIn b from to
run_in b from to d e t = record { timer = t; same = d; runs = λ k. absurd (clash e k) }

module _ (b : Batching) (from : Stage) where
  -- a timed stage of n
  timed_in : (n t : ℕ) (stay : ℕ → Stage) (move : Move) → (suc t < max n 1 → StageIn b from (stay (suc t))) → MoveIn b from move → MoveIn b from (timed (wait_of n t) stay move)
  unfolding wait_of
  timed_in n t stay move k m = go (leb n (suc t)) refl
    where
      go : (ends : Bool) → leb n (suc t) ≡ ends → MoveIn b from (timed (cond ends None (Some (suc t))) stay move)
      go true e = m
      go false e = k (omega (arith, leb-false n (suc t) e))

  until_in : (reached : Bool) (stay : Stage) (move : Move) → StageIn b from stay → MoveIn b from move → MoveIn b from (until reached stay move)
  until_in true stay move k m = m
  until_in false stay move k m = k

  module _ (d : false ≡ discharging_of from) where
    -- the first stage without large flow, or the one after it
    after_large_lem : (p : Setpoints) → StageIn b from (after_large p)
    after_large_lem p =
        cond_in (StageIn b from) (eqb p.preliminary 0) (λ e. run_in b from (SmallDisable 0) d refl (omega arith))
        (λ e. run_in b from (MediumDisable 0) d refl (omega arith))

    first_flow_lem : (m : Mode) (p : Setpoints) → StageIn b from (first_flow m p)
    unfolding first_flow
    first_flow_lem m p =
        cond_in (StageIn b from) (no_large_flow m p) (λ e. after_large_lem p) (λ e. run_in b from (LargeDisable 0) d refl (omega arith))

    after_start_lem : (m : Mode) (p : Setpoints) (f : Facts) → MoveIn b from (after_start m p f)
    unfolding after_start
    after_start_lem m p f =
        cond_in (MoveIn b from) (eqb p.target 0) (λ e. refl) (λ e. cond_in (MoveIn b from) f.small (λ k. refl) (λ k. first_flow_lem m p))

move_in : (b : Batching) (p : Setpoints) (g : Stage) (f : Facts) → idle_of g ≡ false → MoveIn b g (move_of b p g f)
unfolding move_of
move_in b p Idle f e = absurd (clash refl e)
move_in b p (StartDelay t) f e =
    timed_in b (StartDelay t) b.start t StartDelay (after_start b.mode p f) (λ k. record { timer = k; same = refl; runs = λ q. refl }) (after_start_lem b (StartDelay t) refl b.mode p f)
move_in b p (LargeDisable t) f e =
    timed_in b (LargeDisable t) b.large t LargeDisable (To LargeFlow) (run_in b (LargeDisable t) (LargeDisable (suc t)) refl refl) (run_in b (LargeDisable t) LargeFlow refl refl tt)
move_in b p LargeFlow f e = until_in b LargeFlow f.large LargeFlow (To (after_large p)) (run_in b LargeFlow LargeFlow refl refl tt) (after_large_lem b LargeFlow refl p)
move_in b p (MediumDisable t) f e =
    timed_in b (MediumDisable t) b.medium t MediumDisable (To MediumFlow) (run_in b (MediumDisable t) (MediumDisable (suc t)) refl refl) (run_in b (MediumDisable t) MediumFlow refl refl tt)
move_in b p MediumFlow f e = until_in b MediumFlow f.medium MediumFlow (To (SmallDisable 0)) (run_in b MediumFlow MediumFlow refl refl tt) (run_in b MediumFlow (SmallDisable 0) refl refl (omega arith))
move_in b p (SmallDisable t) f e =
    timed_in b (SmallDisable t) b.small t SmallDisable (To SmallFlow) (run_in b (SmallDisable t) (SmallDisable (suc t)) refl refl) (run_in b (SmallDisable t) SmallFlow refl refl tt)
move_in b p SmallFlow f e = until_in b SmallFlow f.small SmallFlow (To (JudgeDelay 0)) (run_in b SmallFlow SmallFlow refl refl tt) (run_in b SmallFlow (JudgeDelay 0) refl refl (omega arith))
move_in b p (JudgeDelay t) f e =
    timed_in b (JudgeDelay t) b.judge t JudgeDelay (To JudgeWait) (run_in b (JudgeDelay t) (JudgeDelay (suc t)) refl refl) (run_in b (JudgeDelay t) JudgeWait refl refl tt)
move_in b p JudgeWait f e = until_in b JudgeWait f.stable JudgeWait (Finish (judged_of f)) (run_in b JudgeWait JudgeWait refl refl tt) tt
move_in b p (DischargeStart t) f e =
    timed_in b (DischargeStart t) b.discharge.start t DischargeStart (To Discharge) (λ k. record { timer = k; same = refl; runs = λ q. refl })
    (run_in b (DischargeStart t) Discharge refl refl tt)
move_in b p Discharge f e = until_in b Discharge f.empty Discharge (To (DischargeEnd 0)) (run_in b Discharge Discharge refl refl tt) (run_in b Discharge (DischargeEnd 0) refl refl (omega arith))
move_in b p (DischargeEnd t) f e =
    timed_in b (DischargeEnd t) b.discharge.end t DischargeEnd Emptied (run_in b (DischargeEnd t) (DischargeEnd (suc t)) refl refl) tt

-- ---- the sequence after step 6: in range, and in stage 00 where a batch finished
record AdvancedIn (b : Batching) (a : Advanced) : Type 0 where
  sequence : SequenceRange b a.sequence
  finished : a.finished ≡ true → idle_of a.sequence.stage ≡ true

-- a clock that runs, and is not past its limit n; `f` where it is this one, `e` where it is the other
clock_in : (f e : Bool) (n c : ℕ) → f && ltb n (suc c) ≡ false → e ≡ false → cond (f || e) (suc c) 0 ≤ n
clock_in true e n c k h = ltb-false n (suc c) k
clock_in false true n c k h = absurd (clash refl h)
clock_in false false n c k h = omega arith

or_turned : (a b : Bool) → a || b ≡ b || a
or_turned true true = refl
or_turned true false = refl
or_turned false true = refl
or_turned false false = refl

or_right : (a b : Bool) → a || b ≡ false → b ≡ false
or_right true b e = absurd (clash refl e)
or_right false b e = e

stands : (q : Sequence) → flowing_of q.stage || emptying_of q.stage ≡ false → clock_of q ≡ 0
stands q e = rw e

module _ (b : Batching) (q : Sequence) (g : Stage) (m : StageIn b q.stage g) where
  flow_clock : late_of b q ≡ false → flowing_of g ≡ true → clock_of q ≤ b.flow
  flow_clock late e =
      clock_in (flowing_of q.stage) (emptying_of q.stage) b.flow q.clock late
      (not_emptying q.stage (sym m.same ∙ of_batch_lem g e))

  discharge_clock : slow_of b q ≡ false → emptying_of g ≡ true → clock_of q ≤ b.discharge.limit
  discharge_clock slow e =
      rw (or_turned (flowing_of q.stage) (emptying_of q.stage))
      (clock_in (emptying_of q.stage) (flowing_of q.stage) b.discharge.limit q.clock slow
      (not_flowing q.stage (sym m.same ∙ of_discharge_lem g e)))

land_in : (b : Batching) (q : Sequence) (m : Move) → idle_of q.stage ≡ false → late_of b q ≡ false → slow_of b q ≡ false → SequenceRange b q
    → MoveIn b q.stage m → AdvancedIn b (land_of q m)
unfolding land_of
land_in b q (To g) idle late slow h m = record {
  sequence = record {
    timer = m.timer;
    flow_clock = flow_clock b q g m late;
    discharge_clock = discharge_clock b q g m slow;
    unclocked = λ e. stands q (m.runs e);
    no_error_lem = λ e. h.no_error_lem idle;
    no_judgement = λ e. h.no_judgement (rw (idle, sym m.same ∙ or_right (idle_of g) (discharging_of g) e));
    normal = λ e. h.normal (sym m.same ∙ e);
    normal_error = h.normal_error;
  };
  finished = λ e. absurd (clash e refl);
}
land_in b q (Fail e) idle late slow h m = record { sequence = rest_in b e q.judgement (common b e m); finished = λ k. refl }
land_in b q (Finish j) idle late slow h m = record { sequence = rest_in b q.error j h.normal_error; finished = λ k. refl }
land_in b q Emptied idle late slow h m = record { sequence = rest_in b q.error q.judgement h.normal_error; finished = λ k. refl }

advance_in : (b : Batching) (p : Setpoints) (q : Sequence) (f : Facts) → SequenceRange b q → AdvancedIn b (advance_of b p q f)
unfolding advance_of
advance_in b p q f h =
    cond_in (AdvancedIn b) (idle_of q.stage) (λ e. record { sequence = h; finished = λ k. e })
    (λ idle. cond_in (AdvancedIn b) f.unfit (λ e. record { sequence = rest_in b error.BadWeight q.judgement (common b error.BadWeight refl); finished = λ k. refl })
    (λ fit. cond_in (AdvancedIn b) (late_of b q) (λ e. record { sequence = rest_in b error.FlowTime q.judgement (common b error.FlowTime refl); finished = λ k. refl })
    (λ late. cond_in (AdvancedIn b) (slow_of b q) (λ e. record { sequence = rest_in b error.DischargeTime q.judgement (λ k. h.normal (of_discharge_lem q.stage (and_left (emptying_of q.stage) _ e))); finished = λ k. refl })
    (λ slow. land_in b q (move_of b p q.stage f) idle late slow h (move_in b p q.stage f idle)))))

-- a batch that cannot be booked makes an error, in stage 00
booked_in : (b : Batching) (t : Totals) (v : ℤ) (q : Sequence) → SequenceRange b q → idle_of q.stage ≡ true → SequenceRange b (booked_sequence t v q)
unfolding booked_sequence
booked_in b t v q h idle = cond_in (SequenceRange b) (bookable t v) (λ e. h) (λ e. record {
  timer = h.timer;
  flow_clock = h.flow_clock;
  discharge_clock = h.discharge_clock;
  unclocked = h.unclocked;
  no_error_lem = λ k. absurd (clash idle k);
  no_judgement = h.no_judgement;
  normal = h.normal;
  normal_error = common b error.NotBooked refl;
})

finished_sequence : (s : Settings) (st : State) (x : Weights) (a : Advanced) → AdvancedIn s.batching a → SequenceRange s.batching (finished_of s st x a).sequence
unfolding finished_of
finished_sequence s st x a h =
    cond_in (SequenceRange s.batching) a.finished
    (λ e. booked_in s.batching st.totals (compared_of s.batching.mode x) a.sequence h.sequence (h.finished e)) (λ e. h.sequence)

ended_sequence : (s : Settings) (a : Settled) (x : Weights) → SequenceRange s.batching a.state.sequence → SequenceRange s.batching (ended_of s a x).sequence
unfolding ended_of stepped_of with_tracking
ended_sequence s a x h =
    cond_in (SequenceRange s.batching) a.held (λ e. h)
    (λ e. finished_sequence s _ x _ (advance_in s.batching a.state.setpoints a.state.sequence (facts_of s.batching.mode a.state.setpoints x) h))

pub tick_sequence : (s : Settings) (st : State) (i : Input) → SequenceRange s.batching st.sequence → SequenceRange s.batching (next_of s st i).sequence
unfolding next_of settled_of entered_of
tick_sequence s st i h = ended_sequence s _ _ (settled_sequence s _ _ h i.request)
