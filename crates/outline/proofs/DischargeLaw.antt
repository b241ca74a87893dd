-- A discharge and the feed: never open together, in any state; and a discharge is no batch: it leaves the totals and the judgement.
-- Assumes nothing.
use Rattle.std.specs.Prelude.{Option, None, Some, Result, Ok, ℤ, ℕ}
use Prim.Native.Nat.{ℕ}
use mathlib.Core.Path.{◌≡◌, refl, ap, ◌∙◌}
use mathlib.Core.Bool.{Bool, true, false, cond, not, ◌&&◌, ◌||◌}
use lib.Dec.{leb, eqb}
use lib.ListN.{length}
use lib.IntN.{ℤ}
use borrow.Author.Tests.{not-false}
use Rattle.types.specs.declared.requests.Refusal.{Refusal}
use Rattle.types.specs.declared.settings.Batching.{Batching}
use Rattle.types.specs.declared.settings.Settings.{Settings}
use Rattle.types.specs.declared.weight.Weights.{Weights}
use Rattle.types.specs.declared.requests.Request.{Request}
use Rattle.types.specs.declared.requests.Request.TheVariants as request
use Rattle.types.specs.declared.stages.Setpoints.{Setpoints}
use Rattle.types.specs.declared.stages.Stage.{Stage}
use Rattle.types.specs.declared.stages.Stage.TheVariants.{Idle, StartDelay, LargeDisable, LargeFlow, MediumDisable, MediumFlow, SmallDisable, SmallFlow, JudgeDelay, JudgeWait, DischargeStart, Discharge, DischargeEnd}
use Rattle.types.specs.declared.stages.Judgement.{Judgement}
use Rattle.types.specs.declared.stages.Sequence.{Sequence}
use Rattle.types.specs.declared.stages.Facts.{Facts}
use Rattle.types.specs.declared.stages.Move.{Move}
use Rattle.types.specs.declared.stages.Move.TheVariants.{To, Fail, Finish, Emptied}
use Rattle.types.specs.declared.stages.Advanced.{Advanced}
use Rattle.types.specs.declared.stages.Totals.{Totals}
use Rattle.types.specs.declared.machine.State.{State}
use Rattle.types.specs.declared.machine.Input.{Input}
use Rattle.types.specs.declared.machine.Settled.{Settled}
use Rattle.types.specs.declared.lines.LineTick.{LineTick}
use Rattle.outline.specs.Stages.{compared_of, facts_of, wait_of, timed, until, move_of, idle_of, discharging_of, late_of, slow_of, stop_sequence, land_of, advance_of, medium_of, gates_of}
use Rattle.outline.specs.Totals.{bookable, booked_sequence}
use Rattle.outline.specs.Requests.{rows_to, done_of, ruling_of, granted_of, decided_of}
use Rattle.outline.specs.Numbers.{stage_number}
use Rattle.outline.specs.Kinds.{request_kind}
use Rattle.outline.specs.Tick.{entered_of, settled_of, served_of, with_tracking, finished_of, stepped_of, ended_of, next_of, outputs_of, tick_of, unasked_of}
use Rattle.outline.specs.Replies.{asked_of, due_text, line_tick_of}
use Rattle.outline.specs.Ledger.{finishes, event_of}
use Rattle.outline.specs.StaysTrue.{both_open, NeverTogether, totals_asked, Kept, DischargeIsNoBatch}
use Rattle.outline.specs.EveryLine.{NeverTogetherOnLine}
use Rattle.outline.proofs.Parts.{cond_in, and_no, clash, none_applies}
use Rattle.outline.proofs.TotalStep.{finish_totals, next_totals}

-- ---- the gates of each stage
apart : (p : Setpoints) (g : Stage) → both_open (gates_of p g) ≡ false
unfolding gates_of
apart p Idle = refl
apart p (StartDelay t) = refl
apart p (LargeDisable t) = refl
apart p LargeFlow = refl
apart p (MediumDisable t) = and_no (medium_of p || true)
apart p MediumFlow = and_no (medium_of p || true)
apart p (SmallDisable t) = refl
apart p SmallFlow = refl
apart p (JudgeDelay t) = refl
apart p JudgeWait = refl
apart p (DischargeStart t) = refl
apart p Discharge = refl
apart p (DischargeEnd t) = refl

pub never_together : NeverTogether
unfolding tick_of outputs_of
never_together s st i = apart (next_of s st i).setpoints (next_of s st i).sequence.stage

pub together_on_line : NeverTogether → NeverTogetherOnLine
unfolding line_tick_of
together_on_line law s st count contact receive buffer =
    cond_in (λ (t : LineTick). both_open t.answer.gates ≡ false) (leb (length (due_text s st count contact receive)) (length buffer))
    (λ e. law s st (asked_of s count contact receive)) (λ e. law s st (unasked_of count contact))

-- ---- the totals: no batch finishes in 14 to 16, nor in a tick that passes step 6 over
not_eleven : (g : Stage) → discharging_of g ≡ true → eqb (stage_number g) 11 ≡ false
not_eleven Idle e = refl
not_eleven (StartDelay t) e = refl
not_eleven (LargeDisable t) e = refl
not_eleven LargeFlow e = refl
not_eleven (MediumDisable t) e = refl
not_eleven MediumFlow e = refl
not_eleven (SmallDisable t) e = refl
not_eleven SmallFlow e = refl
not_eleven (JudgeDelay t) e = refl
not_eleven JudgeWait e = absurd (clash e refl)
not_eleven (DischargeStart t) e = refl
not_eleven Discharge e = refl
not_eleven (DischargeEnd t) e = refl

unfinished_totals : (s : Settings) (st : State) (i : Input) → finishes s st i ≡ false
    → (next_of s st i).totals ≡ totals_asked (request_kind i.request).ledger st.totals
unfolding event_of
unfinished_totals s st i e =
    next_totals s st i
    ∙ ap (λ (f : Bool). finish_totals f (event_of s st i).weight (totals_asked (request_kind i.request).ledger st.totals)) e

-- ---- the judgement: step 6 makes one where a batch finishes, and nowhere else
abbrev Unjudged : Move → Type 0
Unjudged (To g) = Unit {0}
Unjudged (Fail e) = Unit {0}
Unjudged (Finish j) = ⊥
Unjudged Emptied = Unit {0}

timed_unjudged : (t : Option ℕ) (stay : ℕ → Stage) (m : Move) → Unjudged m → Unjudged (timed t stay m)
timed_unjudged None stay m u = u
timed_unjudged (Some t) stay m u = tt

until_unjudged : (t : Bool) (stay : Stage) (m : Move) → Unjudged m → Unjudged (until t stay m)
until_unjudged true stay m u = u
until_unjudged false stay m u = tt

move_unjudged : (b : Batching) (p : Setpoints) (g : Stage) (f : Facts) → discharging_of g ≡ true → Unjudged (move_of b p g f)
unfolding move_of
move_unjudged b p Idle f e = tt
move_unjudged b p (StartDelay t) f e = absurd (clash e refl)
move_unjudged b p (LargeDisable t) f e = absurd (clash e refl)
move_unjudged b p LargeFlow f e = absurd (clash e refl)
move_unjudged b p (MediumDisable t) f e = absurd (clash e refl)
move_unjudged b p MediumFlow f e = absurd (clash e refl)
move_unjudged b p (SmallDisable t) f e = absurd (clash e refl)
move_unjudged b p SmallFlow f e = absurd (clash e refl)
move_unjudged b p (JudgeDelay t) f e = absurd (clash e refl)
move_unjudged b p JudgeWait f e = absurd (clash e refl)
move_unjudged b p (DischargeStart t) f e = timed_unjudged (wait_of b.discharge.start t) _ _ tt
move_unjudged b p Discharge f e = until_unjudged f.empty _ _ tt
move_unjudged b p (DischargeEnd t) f e = timed_unjudged (wait_of b.discharge.end t) _ _ tt

abbrev Keeps : Sequence → Advanced → Type 0
Keeps q a = a.sequence.judgement ≡ q.judgement

land_keeps : (q : Sequence) (m : Move) → Unjudged m → Keeps q (land_of q m)
unfolding land_of
land_keeps q (To g) u = refl
land_keeps q (Fail e) u = refl
land_keeps q (Finish j) u = absurd u
land_keeps q Emptied u = refl

advance_keeps : (b : Batching) (p : Setpoints) (q : Sequence) (f : Facts) → discharging_of q.stage ≡ true → Keeps q (advance_of b p q f)
unfolding advance_of
advance_keeps b p q f e =
    cond_in (Keeps q) (idle_of q.stage) (λ k. refl)
    (λ k. cond_in (Keeps q) f.unfit (λ k. refl)
    (λ k. cond_in (Keeps q) (late_of b q) (λ k. refl)
    (λ k. cond_in (Keeps q) (slow_of b q) (λ k. refl) (λ k. land_keeps q (move_of b p q.stage f) (move_unjudged b p q.stage f e)))))

booked_keeps : (t : Totals) (v : ℤ) (q : Sequence) → (booked_sequence t v q).judgement ≡ q.judgement
unfolding booked_sequence
booked_keeps t v q = cond_in (λ (r : Sequence). r.judgement ≡ q.judgement) (bookable t v) (λ e. refl) (λ e. refl)

finish_keeps : (t : Totals) (v : ℤ) (a : Advanced) (j : Judgement) → a.sequence.judgement ≡ j
    → (cond a.finished (booked_sequence t v a.sequence) a.sequence).judgement ≡ j
finish_keeps t v a j h = cond_in (λ (r : Sequence). r.judgement ≡ j) a.finished (λ e. booked_keeps t v a.sequence ∙ h) (λ e. h)

-- steps 5 and 6, where step 4 leaves the judgement, and the discharge unless step 6 is passed over
ended_keeps : (s : Settings) (a : Settled) (x : Weights) (j : Judgement) → a.state.sequence.judgement ≡ j
    → (a.held ≡ false → discharging_of a.state.sequence.stage ≡ true) → (ended_of s a x).sequence.judgement ≡ j
unfolding ended_of with_tracking stepped_of finished_of
ended_keeps s a x j h d =
    cond_in (λ (r : Sequence). r.judgement ≡ j) a.held (λ e. h)
    (λ e. finish_keeps a.state.totals (compared_of s.batching.mode x) (advance_of s.batching a.state.setpoints a.state.sequence (facts_of s.batching.mode a.state.setpoints x)) j
    (advance_keeps s.batching a.state.setpoints a.state.sequence (facts_of s.batching.mode a.state.setpoints x) (d e) ∙ h))

-- ---- step 4 of a discharge under way: a start and another discharge are refused, a stop leaves the judgement
not_idle : (g : Stage) → discharging_of g ≡ true → idle_of g ≡ false
not_idle Idle e = absurd (clash e refl)
not_idle (StartDelay t) e = refl
not_idle (LargeDisable t) e = refl
not_idle LargeFlow e = refl
not_idle (MediumDisable t) e = refl
not_idle MediumFlow e = refl
not_idle (SmallDisable t) e = refl
not_idle SmallFlow e = refl
not_idle (JudgeDelay t) e = refl
not_idle JudgeWait e = refl
not_idle (DischargeStart t) e = refl
not_idle Discharge e = refl
not_idle (DischargeEnd t) e = refl

record Left (q : Sequence) (held : Bool) (left : Sequence) : Type 0 where
  judgement : left.judgement ≡ q.judgement
  under_way : held ≡ false → discharging_of left.stage ≡ true

stop_keeps : (q : Sequence) → (stop_sequence q).judgement ≡ q.judgement
unfolding stop_sequence
stop_keeps q = cond_in (λ (r : Sequence). r.judgement ≡ q.judgement) (idle_of q.stage) (λ e. refl) (λ e. refl)

module _ (s : Settings) (st : State) (x : Weights) (d : discharging_of st.sequence.stage ≡ true) where
  stays : Left st.sequence false st.sequence
  stays = record { judgement = refl; under_way = λ e. d }

  -- row 3 applies
  refused : (r : Option Request) → not (idle_of st.sequence.stage) ≡ false → ⊥
  refused r e = clash (not-false _ e) (not_idle st.sequence.stage d)

  granted_left : (r : Option Request) → done_of (ruling_of s st x r) ≡ true → Left st.sequence (granted_of st x r).held (granted_of st x r).state.sequence
  unfolding granted_of ruling_of
  granted_left None e = stays
  granted_left (Some request.Zero) e = stays
  granted_left (Some request.Tare) e = stays
  granted_left (Some request.TareClear) e = stays
  granted_left (Some request.Start) e =
      absurd (refused (Some request.Start) (none_applies (rows_to s.range s.batching.mode st.sequence st.totals x (Some request.Start)) e).1.1.0)
  granted_left (Some request.Stop) e = record { judgement = stop_keeps st.sequence; under_way = λ k. absurd (clash refl k) }
  granted_left (Some (request.Set p)) e = stays
  granted_left (Some request.TotalClear) e = stays
  granted_left (Some request.Undo) e = stays
  granted_left (Some request.ShowGross) e = stays
  granted_left (Some request.ShowNet) e = stays
  granted_left (Some request.DayClose) e = stays
  granted_left (Some request.Discharge) e =
      absurd (refused (Some request.Discharge) (none_applies (rows_to s.range s.batching.mode st.sequence st.totals x (Some request.Discharge)) e).1.1.0)

  decided_left : (r : Option Request) → Left st.sequence (decided_of s st x r).held (decided_of s st x r).state.sequence
  unfolding decided_of
  decided_left r = go (done_of (ruling_of s st x r)) refl
    where
      go : (t : Bool) → done_of (ruling_of s st x r) ≡ t → Left st.sequence (t && (granted_of st x r).held) (cond t (granted_of st x r).state.sequence st.sequence)
      go true e = granted_left r e
      go false e = stays

settled_left : (s : Settings) (st : State) (i : Input) → discharging_of st.sequence.stage ≡ true
    → Left st.sequence (settled_of s st i).held (settled_of s st i).state.sequence
unfolding settled_of entered_of
settled_left s st i d = decided_left s _ _ d i.request

-- ---- the whole tick
goes_on : (s : Settings) (st : State) (i : Input) → discharging_of st.sequence.stage ≡ true → Kept s st i
unfolding next_of
goes_on s st i d =
    let left = settled_left s st i d in
    record {
      totals = unfinished_totals s st i (simp (not_eleven st.sequence.stage d, and_no));
      judgement = ended_keeps s (settled_of s st i) (served_of s st i) st.sequence.judgement left.judgement left.under_way;
    }

-- the tick that begins it, settled
begun : (st : State) (x : Weights) (r : Option Request) → r ≡ Some request.Discharge → (o : Result (Unit {0}) Refusal) → o ≡ Ok tt
    → Left st.sequence (done_of o && (granted_of st x r).held) (cond (done_of o) (granted_of st x r).state.sequence st.sequence)
unfolding granted_of
begun st x r er o eo = rw (er, eo) (record { judgement = refl; under_way = λ e. absurd (clash refl e) })

settled_begun : (s : Settings) (st : State) (i : Input) → i.request ≡ Some request.Discharge → (settled_of s st i).outcome ≡ Ok tt
    → Left st.sequence (settled_of s st i).held (settled_of s st i).state.sequence
unfolding settled_of decided_of entered_of
settled_begun s st i er eo = begun _ _ i.request er _ eo

begins : (s : Settings) (st : State) (i : Input) → i.request ≡ Some request.Discharge → (settled_of s st i).outcome ≡ Ok tt → Kept s st i
unfolding next_of
begins s st i er eo =
    let left = settled_begun s st i er eo in
    record {
      totals = unfinished_totals s st i (simp (er, eo));
      judgement = ended_keeps s (settled_of s st i) (served_of s st i) st.sequence.judgement left.judgement left.under_way;
    }

pub discharge_is_no_batch : DischargeIsNoBatch
unfolding tick_of outputs_of
discharge_is_no_batch s st i = record { begins = begins s st i; goes_on = goes_on s st i }
