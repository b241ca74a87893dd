-- A tick leaves no error, or stage 00; and what it then answers of the gates. Assumes nothing.
use Rattle.std.specs.Prelude.{Option, None, Some}
use mathlib.Core.Path.{◌≡◌, refl, sym, ◌∙◌, subst}
use mathlib.Core.Bool.{Bool, true, false, cond, ◌||◌}
use lib.Dec.{T}
use lib.IntN.{ℤ}
use Rattle.types.specs.declared.settings.Settings.{Settings}
use Rattle.types.specs.declared.settings.Batching.{Batching}
use Rattle.types.specs.declared.weight.Weights.{Weights}
use Rattle.types.specs.declared.requests.Request.{Request}
use Rattle.types.specs.declared.requests.Request.TheVariants as request
use Rattle.types.specs.declared.stages.Setpoints.{Setpoints}
use Rattle.types.specs.declared.stages.Stage.{Stage}
use Rattle.types.specs.declared.stages.Stage.TheVariants.{Idle, StartDelay, LargeDisable, LargeFlow, MediumDisable, MediumFlow, SmallDisable, SmallFlow, JudgeDelay, JudgeWait, DischargeStart, Discharge, DischargeEnd}
use Rattle.types.specs.declared.stages.SequenceError.{SequenceError}
use Rattle.types.specs.declared.stages.SequenceError.TheVariants as error
use Rattle.types.specs.declared.stages.Sequence.{Sequence}
use Rattle.types.specs.declared.stages.Facts.{Facts}
use Rattle.types.specs.declared.stages.Move.{Move}
use Rattle.types.specs.declared.stages.Move.TheVariants.{To, Fail, Finish, Emptied}
use Rattle.types.specs.declared.stages.Advanced.{Advanced}
use Rattle.types.specs.declared.stages.Totals.{Totals}
use Rattle.types.specs.declared.machine.State.{State}
use Rattle.types.specs.declared.machine.Input.{Input}
use Rattle.types.specs.declared.machine.Settled.{Settled}
use Rattle.outline.specs.Stages.{facts_of, move_of, idle_of, late_of, slow_of, failed_of, stop_error, stop_sequence, land_of, advance_of, shut, gates_of}
use Rattle.outline.specs.Totals.{bookable, booked_sequence}
use Rattle.outline.specs.Requests.{ruling_of, done_of, granted_of, decided_of}
use Rattle.outline.specs.Tick.{entered_of, settled_of, served_of, with_tracking, finished_of, stepped_of, ended_of, next_of, outputs_of, tick_of}
use Rattle.whole.specs.Chains.{or_second}

abbrev pub no_error : SequenceError → Bool
no_error error.None = true
no_error error.NoFinal = false
no_error error.Reached = false
no_error error.Stopped = false
no_error error.FlowTime = false
no_error error.BadWeight = false
no_error error.NotBooked = false
no_error error.DischargeStopped = false
no_error error.DischargeTime = false

-- no error, or stage 00
abbrev pub quiet_of : Sequence → Bool
quiet_of q = no_error q.error || idle_of q.stage

or_false : (t : Bool) → t || false ≡ t
or_false true = refl
or_false false = refl

cond_quiet : (t : Bool) (a b : Sequence) → quiet_of a ≡ true → quiet_of b ≡ true → quiet_of (cond t a b) ≡ true
cond_quiet true a b p q = p
cond_quiet false a b p q = q

failed_quiet : (q : Sequence) (e : SequenceError) → quiet_of (failed_of q e) ≡ true
failed_quiet q e = or_second (no_error e) true refl

-- ---- step 4
granted_quiet : (st : State) (x : Weights) (r : Option Request) → quiet_of st.sequence ≡ true → quiet_of (granted_of st x r).state.sequence ≡ true
unfolding granted_of stop_sequence
granted_quiet st x None h = h
granted_quiet st x (Some request.Zero) h = h
granted_quiet st x (Some request.Tare) h = h
granted_quiet st x (Some request.TareClear) h = h
granted_quiet st x (Some request.Start) h = refl
granted_quiet st x (Some request.Stop) h = cond_quiet (idle_of st.sequence.stage) _ _ h (failed_quiet st.sequence (stop_error st.sequence.stage))
granted_quiet st x (Some (request.Set p)) h = h
granted_quiet st x (Some request.TotalClear) h = h
granted_quiet st x (Some request.Undo) h = h
granted_quiet st x (Some request.ShowGross) h = h
granted_quiet st x (Some request.ShowNet) h = h
granted_quiet st x (Some request.DayClose) h = h
granted_quiet st x (Some request.Discharge) h = refl

quiet_settled : (s : Settings) (st : State) (x : Weights) (r : Option Request) → quiet_of st.sequence ≡ true → quiet_of (decided_of s st x r).state.sequence ≡ true
unfolding decided_of
quiet_settled s st x r h = cond_quiet (done_of (ruling_of s st x r)) _ _ (granted_quiet st x r h) h

-- ---- step 6: it is quiet, and a batch finishes into stage 00
pub record Advances (a : Advanced) : Type 0 where
  pub quiet : quiet_of a.sequence ≡ true
  pub finish : a.finished ≡ true → idle_of a.sequence.stage ≡ true

-- nothing finished
unfinished : (q : Sequence) → quiet_of q ≡ true → Advances (record { sequence = q; finished = false })
unfinished q h = record { quiet = h; finish = λ k. absurd (subst T (sym k) tt) }

land_advances : (q : Sequence) (m : Move) → no_error q.error ≡ true → Advances (land_of q m)
unfolding land_of
land_advances q (To stage) h = unfinished _ (rw h)
land_advances q (Fail e) h = unfinished _ (failed_quiet q e)
land_advances q (Finish j) h = record { quiet = rw h; finish = λ k. refl }
land_advances q Emptied h = unfinished _ (rw h)

advances : (b : Batching) (p : Setpoints) (q : Sequence) (f : Facts) → quiet_of q ≡ true → Advances (advance_of b p q f)
unfolding advance_of
advances b p q f h = go (idle_of q.stage) f.unfit (late_of b q) (slow_of b q) h
  where
    go : (idle unfit late slow : Bool) → no_error q.error || idle ≡ true →
        Advances
        (cond idle (record { sequence = q; finished = false })
        (cond unfit (record { sequence = failed_of q error.BadWeight; finished = false })
        (cond late (record { sequence = failed_of q error.FlowTime; finished = false })
        (cond slow (record { sequence = failed_of q error.DischargeTime; finished = false }) (land_of q (move_of b p q.stage f))))))
    go true unfit late slow k = unfinished q h
    go false true late slow k = unfinished _ (failed_quiet q error.BadWeight)
    go false false true slow k = unfinished _ (failed_quiet q error.FlowTime)
    go false false false true k = unfinished _ (failed_quiet q error.DischargeTime)
    go false false false false k = land_advances q (move_of b p q.stage f) (sym (or_false (no_error q.error)) ∙ k)

-- error 10 stands in stage 00
quiet_finish : (t : Totals) (v : ℤ) (a : Advanced) → Advances a → quiet_of (cond a.finished (booked_sequence t v a.sequence) a.sequence) ≡ true
unfolding booked_sequence
quiet_finish t v a h = go a.finished (bookable t v) refl
  where
    go : (f b : Bool) → a.finished ≡ f →
        quiet_of (cond f (cond b a.sequence (record { stage = a.sequence.stage; clock = a.sequence.clock; error = error.NotBooked; judgement = a.sequence.judgement })) a.sequence) ≡ true
    go true true e = h.quiet
    go true false e = h.finish e
    go false b e = h.quiet

quiet_ended : (s : Settings) (a : Settled) (x : Weights) → quiet_of a.state.sequence ≡ true → quiet_of (ended_of s a x).sequence ≡ true
unfolding ended_of with_tracking stepped_of finished_of
quiet_ended s a x h =
    cond_quiet a.held _ _ h
    (quiet_finish _ _ _ (advances s.batching a.state.setpoints a.state.sequence (facts_of s.batching.mode a.state.setpoints x) h))

-- ---- the whole tick
pub quiet_tick : (s : Settings) (st : State) (i : Input) → quiet_of st.sequence ≡ true → quiet_of (next_of s st i).sequence ≡ true
unfolding next_of settled_of entered_of
quiet_tick s st i h = quiet_ended s (settled_of s st i) (served_of s st i) (quiet_settled s _ _ i.request h)

-- ---- the gates that a tick answers
idle_shut : (p : Setpoints) (g : Stage) → idle_of g ≡ true → gates_of p g ≡ shut
unfolding gates_of
idle_shut p Idle h = refl
idle_shut p (StartDelay t) h = refl
idle_shut p (LargeDisable t) h = absurd (subst T (sym h) tt)
idle_shut p LargeFlow h = absurd (subst T (sym h) tt)
idle_shut p (MediumDisable t) h = absurd (subst T (sym h) tt)
idle_shut p MediumFlow h = absurd (subst T (sym h) tt)
idle_shut p (SmallDisable t) h = absurd (subst T (sym h) tt)
idle_shut p SmallFlow h = absurd (subst T (sym h) tt)
idle_shut p (JudgeDelay t) h = refl
idle_shut p JudgeWait h = refl
idle_shut p (DischargeStart t) h = refl
idle_shut p Discharge h = absurd (subst T (sym h) tt)
idle_shut p (DischargeEnd t) h = absurd (subst T (sym h) tt)

error_shut : (p : Setpoints) (g : Stage) (e : SequenceError) → no_error e || idle_of g ≡ true → (e ≡ error.None → ⊥) → gates_of p g ≡ shut
error_shut p g error.None h n = absurd (n refl)
error_shut p g error.NoFinal h n = idle_shut p g h
error_shut p g error.Reached h n = idle_shut p g h
error_shut p g error.Stopped h n = idle_shut p g h
error_shut p g error.FlowTime h n = idle_shut p g h
error_shut p g error.BadWeight h n = idle_shut p g h
error_shut p g error.NotBooked h n = idle_shut p g h
error_shut p g error.DischargeStopped h n = idle_shut p g h
error_shut p g error.DischargeTime h n = idle_shut p g h

pub quiet_gates : (s : Settings) (st : State) (i : Input) → quiet_of (next_of s st i).sequence ≡ true →
    let a = (tick_of s st i).answer in
    (a.error ≡ error.None → ⊥) → a.gates ≡ shut
unfolding tick_of outputs_of
quiet_gates s st i = error_shut (next_of s st i).setpoints (next_of s st i).sequence.stage (next_of s st i).sequence.error
