-- When a batch finishes: step 6 finishes one in exactly the ticks of which the ledger says so, and with the weight that it says.
-- Assumes nothing.
use Rattle.std.specs.Prelude.{Option, None, Some, ℕ}
use mathlib.Core.Path.{◌≡◌, refl, ◌∙◌}
use mathlib.Core.Bool.{Bool, true, false, cond, not, ◌&&◌}
use Prim.Native.Nat.{ℕ, suc}
use lib.Dec.{ltb, eqb}
use Rattle.types.specs.declared.settings.Mode.{Mode}
use Rattle.types.specs.declared.settings.Mode.TheVariants as mode
use Rattle.types.specs.declared.settings.Batching.{Batching}
use Rattle.types.specs.declared.settings.Settings.{Settings}
use Rattle.types.specs.declared.weight.Weights.{Weights}
use Rattle.types.specs.declared.requests.Request.{Request}
use Rattle.types.specs.declared.requests.Request.TheVariants as request
use Rattle.types.specs.declared.stages.Setpoints.{Setpoints}
use Rattle.types.specs.declared.stages.Stage.{Stage}
use Rattle.types.specs.declared.stages.Stage.TheVariants.{Idle, StartDelay, LargeDisable, LargeFlow, MediumDisable, MediumFlow, SmallDisable, SmallFlow, JudgeDelay, JudgeWait, DischargeStart, Discharge, DischargeEnd}
use Rattle.types.specs.declared.stages.SequenceError.TheVariants as error
use Rattle.types.specs.declared.stages.Sequence.{Sequence}
use Rattle.types.specs.declared.stages.Facts.{Facts}
use Rattle.types.specs.declared.stages.Move.{Move}
use Rattle.types.specs.declared.stages.Move.TheVariants.{To, Fail, Finish, Emptied}
use Rattle.types.specs.declared.stages.Advanced.{Advanced}
use Rattle.types.specs.declared.machine.State.{State}
use Rattle.types.specs.declared.machine.Input.{Input}
use Rattle.outline.specs.Stages.{compared_of, facts_of, wait_of, timed, until, first_flow, after_start, move_of, idle_of, flowing_of, emptying_of, late_of, slow_of, land_of, advance_of}
use Rattle.outline.specs.Requests.{ruling_of, done_of, granted_of, decided_of}
use Rattle.outline.specs.Tick.{entered_of, settled_of, served_of}
use Rattle.outline.specs.Numbers.{stage_number}
use Rattle.outline.specs.Kinds.{request_kind}
use Rattle.outline.specs.Ledger.{passed_over, clock_passed, finishes, batch_weight}
use Rattle.outline.proofs.Parts.{and_no, and_yes, clash}

-- ---- step 4: which requests pass step 6 over; the others leave the sequence
granted_held : (st : State) (x : Weights) (r : Option Request) → (granted_of st x r).held ≡ (request_kind r).skips
unfolding granted_of
granted_held st x None = refl
granted_held st x (Some request.Zero) = refl
granted_held st x (Some request.Tare) = refl
granted_held st x (Some request.TareClear) = refl
granted_held st x (Some request.Start) = refl
granted_held st x (Some request.Stop) = refl
granted_held st x (Some (request.Set p)) = refl
granted_held st x (Some request.TotalClear) = refl
granted_held st x (Some request.Undo) = refl
granted_held st x (Some request.ShowGross) = refl
granted_held st x (Some request.ShowNet) = refl
granted_held st x (Some request.DayClose) = refl
granted_held st x (Some request.Discharge) = refl

granted_sequence : (st : State) (x : Weights) (r : Option Request) → (request_kind r).skips ≡ false
    → (granted_of st x r).state.sequence ≡ st.sequence
unfolding granted_of
granted_sequence st x None e = refl
granted_sequence st x (Some request.Zero) e = refl
granted_sequence st x (Some request.Tare) e = refl
granted_sequence st x (Some request.TareClear) e = refl
granted_sequence st x (Some request.Start) e = absurd (clash refl e)
granted_sequence st x (Some request.Stop) e = absurd (clash refl e)
granted_sequence st x (Some (request.Set p)) e = refl
granted_sequence st x (Some request.TotalClear) e = refl
granted_sequence st x (Some request.Undo) e = refl
granted_sequence st x (Some request.ShowGross) e = refl
granted_sequence st x (Some request.ShowNet) e = refl
granted_sequence st x (Some request.DayClose) e = refl
granted_sequence st x (Some request.Discharge) e = absurd (clash refl e)

settled_held : (s : Settings) (st : State) (i : Input) → (settled_of s st i).held ≡ passed_over s st i
unfolding settled_of decided_of
settled_held s st i = rw granted_held

unless_skipped : (done : Bool) (st : State) (x : Weights) (r : Option Request) → done && (request_kind r).skips ≡ false
    → cond done (granted_of st x r).state.sequence st.sequence ≡ st.sequence
unless_skipped true st x r e = granted_sequence st x r e
unless_skipped false st x r e = refl

decided_sequence : (s : Settings) (st : State) (x : Weights) (r : Option Request)
    → done_of (decided_of s st x r).outcome && (request_kind r).skips ≡ false
    → (decided_of s st x r).state.sequence ≡ st.sequence
unfolding decided_of
decided_sequence s st x r e = unless_skipped (done_of (ruling_of s st x r)) st x r e

settled_sequence : (s : Settings) (st : State) (i : Input) → passed_over s st i ≡ false → (settled_of s st i).state.sequence ≡ st.sequence
unfolding settled_of entered_of
settled_sequence s st i e = decided_sequence s _ _ i.request e

-- ---- step 6: which moves finish a batch
abbrev is_finish : Move → Bool
is_finish (To stage) = false
is_finish (Fail e) = false
is_finish (Finish j) = true
is_finish Emptied = false

landed : (q : Sequence) (m : Move) → (land_of q m).finished ≡ is_finish m
unfolding land_of
landed q (To stage) = refl
landed q (Fail e) = refl
landed q (Finish j) = refl
landed q Emptied = refl

after_timed : (t : Option ℕ) (stay : ℕ → Stage) (m : Move) → is_finish m ≡ false → is_finish (timed t stay m) ≡ false
after_timed None stay m e = e
after_timed (Some t) stay m e = refl

after_until : (t : Bool) (stay : Stage) (m : Move) → is_finish (until t stay m) ≡ t && is_finish m
after_until true stay m = refl
after_until false stay m = refl

after_start_lem : (m : Mode) (p : Setpoints) (f : Facts) → is_finish (after_start m p f) ≡ false
unfolding after_start
after_start_lem m p f = go (eqb p.target 0) f.small
  where
    go : (none reached : Bool) → is_finish (cond none (Fail error.NoFinal) (cond reached (Fail error.Reached) (To (first_flow m p)))) ≡ false
    go true reached = refl
    go false true = refl
    go false false = refl

-- that of stage 11, when stable
moved : (b : Batching) (p : Setpoints) (stage : Stage) (f : Facts) → is_finish (move_of b p stage f) ≡ eqb (stage_number stage) 11 && f.stable
unfolding move_of
moved b p Idle f = refl
moved b p (StartDelay t) f = after_timed (wait_of b.start t) _ _ (after_start_lem b.mode p f)
moved b p (LargeDisable t) f = after_timed (wait_of b.large t) _ _ refl
moved b p LargeFlow f = after_until f.large _ _ ∙ and_no f.large
moved b p (MediumDisable t) f = after_timed (wait_of b.medium t) _ _ refl
moved b p MediumFlow f = after_until f.medium _ _ ∙ and_no f.medium
moved b p (SmallDisable t) f = after_timed (wait_of b.small t) _ _ refl
moved b p SmallFlow f = after_until f.small _ _ ∙ and_no f.small
moved b p (JudgeDelay t) f = after_timed (wait_of b.judge t) _ _ refl
moved b p JudgeWait f = after_until f.stable _ _ ∙ and_yes f.stable
moved b p (DischargeStart t) f = after_timed (wait_of b.discharge.start t) _ _ refl
moved b p Discharge f = after_until f.empty _ _ ∙ and_no f.empty
moved b p (DischargeEnd t) f = after_timed (wait_of b.discharge.end t) _ _ refl

-- in a chain of tests the last alone finishes one
chained : (idle unfit late slow : Bool) (q q₉ q₆ q₈ : Sequence) (a : Advanced) →
    (cond idle (record { sequence = q; finished = false })
    (cond unfit (record { sequence = q₉; finished = false })
    (cond late (record { sequence = q₆; finished = false }) (cond slow (record { sequence = q₈; finished = false }) a)))).finished
    ≡ not idle && not unfit && not late && not slow && a.finished
chained true unfit late slow q q₉ q₆ q₈ a = refl
chained false true late slow q q₉ q₆ q₈ a = refl
chained false false true slow q q₉ q₆ q₈ a = refl
chained false false false true q q₉ q₆ q₈ a = refl
chained false false false false q q₉ q₆ q₈ a = refl

-- in 11 the flow clock runs and no other, and 11 is not 00
in_eleven : (stage : Stage) (unfit late slow stable : Bool) →
    not (idle_of stage) && not unfit && not (flowing_of stage && late) && not (emptying_of stage && slow) && (eqb (stage_number stage) 11 && stable)
    ≡ eqb (stage_number stage) 11 && not unfit && not late && stable
in_eleven Idle unfit late slow stable = refl
in_eleven (StartDelay t) unfit late slow stable = simp and_no
in_eleven (LargeDisable t) unfit late slow stable = simp and_no
in_eleven LargeFlow unfit late slow stable = simp and_no
in_eleven (MediumDisable t) unfit late slow stable = simp and_no
in_eleven MediumFlow unfit late slow stable = simp and_no
in_eleven (SmallDisable t) unfit late slow stable = simp and_no
in_eleven SmallFlow unfit late slow stable = simp and_no
in_eleven (JudgeDelay t) unfit late slow stable = simp and_no
in_eleven JudgeWait unfit late slow stable = simp and_yes
in_eleven (DischargeStart t) unfit late slow stable = simp and_no
in_eleven Discharge unfit late slow stable = simp and_no
in_eleven (DischargeEnd t) unfit late slow stable = simp and_no

advanced : (b : Batching) (p : Setpoints) (q : Sequence) (f : Facts)
    → (advance_of b p q f).finished ≡ eqb (stage_number q.stage) 11 && not f.unfit && not (ltb b.flow (suc q.clock)) && f.stable
unfolding advance_of
advanced b p q f =
    chained (idle_of q.stage) f.unfit (late_of b q) (slow_of b q) _ _ _ _ (land_of q (move_of b p q.stage f))
    ∙ rw (landed, moved) (in_eleven q.stage f.unfit (ltb b.flow (suc q.clock)) (ltb b.discharge.limit (suc q.clock)) f.stable)

-- ---- the whole tick
fit_and : (t good overload : Bool) → t && not (not (good && not overload)) ≡ t && good && not overload
fit_and true true true = refl
fit_and true true false = refl
fit_and true false overload = refl
fit_and false good overload = refl

module _ (s : Settings) (st : State) (i : Input) where
  -- step 6 as it runs on what step 4 leaves
  abbrev stepFinished : Bool
  stepFinished =
      let left = (settled_of s st i).state in
      (advance_of s.batching left.setpoints left.sequence (facts_of s.batching.mode left.setpoints (served_of s st i))).finished

  pub tick_finish : not (settled_of s st i).held && stepFinished ≡ finishes s st i
  unfolding facts_of
  tick_finish = rw settled_held (go (passed_over s st i) refl)
    where
      go : (passed : Bool) → passed_over s st i ≡ passed →
          let x = served_of s st i in
          not passed && stepFinished
          ≡ not passed && eqb (stage_number st.sequence.stage) 11 && x.good && not x.overload && not (clock_passed s st) && x.stable
      go true e = refl
      go false e = advanced _ _ _ _ ∙ rw (settled_sequence s st i e, fit_and)

  pub tick_weight : compared_of s.batching.mode (served_of s st i) ≡ batch_weight s.batching.mode (served_of s st i).net
  tick_weight = go s.batching.mode
    where
      go : (m : Mode) → compared_of m (served_of s st i) ≡ batch_weight m (served_of s st i).net
      go mode.Normal = refl
      go mode.Loss = refl
