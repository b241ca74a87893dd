-- A tick put together from the parts of the state that the code assigns, step by step. These are laws over plain variables, which the
-- proofs of functions that assign parts of a state cite: one law that the tick is what is left to do with those parts, and one law for each
-- way that step 6 can go. Assumes nothing.
use Rattle.std.specs.Prelude.{◌≡◌, refl, Bool, true, cond, not, ◌&&◌, ℤ, pos, Option, None, Some, Result, Ok, Err}
use Rattle.std.proofs.Common.{sym, ◌∙◌}
use Rattle.std.proofs.Math.Path.{ap}
use Rattle.std.proofs.Math.Bool.{false}
use Rattle.types.specs.declared.requests.Refusal.{Refusal}
use Rattle.types.specs.declared.settings.Settings.{Settings}
use Rattle.types.specs.declared.weight.Weights.{Weights}
use Rattle.types.specs.declared.weight.Stability.{Stability}
use Rattle.types.specs.declared.weight.Weighing.{Weighing}
use Rattle.types.specs.declared.weight.Display.TheVariants as display
use Rattle.types.specs.declared.daybook.Book.{Book}
use Rattle.types.specs.declared.stages.Advanced.{Advanced}
use Rattle.types.specs.declared.stages.Sequence.{Sequence}
use Rattle.types.specs.declared.stages.Totals.{Totals}
use Rattle.types.specs.declared.stages.Setpoints.{Setpoints}
use Rattle.types.specs.declared.stages.Facts.{Facts}
use Rattle.types.specs.declared.stages.Move.{Move}
use Rattle.types.specs.declared.stages.Move.TheVariants as move
use Rattle.types.specs.declared.settings.Batching.{Batching}
use Rattle.types.specs.declared.requests.Request.{Request}
use Rattle.types.specs.declared.requests.Request.TheVariants as request
use Rattle.types.specs.declared.machine.State.{State}
use Rattle.types.specs.declared.machine.Input.{Input}
use Rattle.types.specs.declared.machine.Settled.{Settled}
use Rattle.types.specs.declared.machine.Answer.{Answer}
use Rattle.types.specs.declared.machine.Ticked.{Ticked}
use Rattle.outline.specs.Weight.{fit_of}
use Rattle.outline.specs.DayBook.{closed_of}
use Rattle.outline.specs.Zero.{zeroed_of, tared_of}
use Rattle.outline.specs.Stages.{idle_of, start_sequence, stop_sequence, discharge_sequence, compared_of, facts_at, facts_of}
use Rattle.outline.specs.Stages.{move_of, land_of, late_of, slow_of, advance_of}
use Rattle.outline.specs.Setpoints.{none_waiting, waiting_for, latest_of}
use Rattle.outline.specs.Totals.{clear_totals, taken_back, bookable, booked_totals, booked_sequence}
use Rattle.outline.specs.Parts.{with_book, with_weighing, with_display, with_setpoints, with_waiting, with_sequence, with_totals, pick_state}
use Rattle.outline.specs.Requests.{idle_now, comes_in, stopped_of, stored_of, plainly}
use Rattle.outline.specs.Requests.{grant_of, unless_refused, decided_of, granted_of, ruling_of}
use Rattle.outline.specs.Tick.{entered_of, weights_of, settled_of, served_of, with_tracking, finished_of, stepped_of, ended_of, next_of}
use Rattle.outline.specs.Tick.{outputs_of, tick_of, unasked_of}
use Rattle.outline.specs.Steps.{parts_of, Parts, answered_of, left_of, Asked}

cond_same : {A : Type 0} (t : Bool) (a : A) → cond t a a ≡ a
cond_same true a = refl
cond_same false a = refl

and_no : (t : Bool) → t && false ≡ false
and_no true = refl
and_no false = refl

-- ---- a tick that is asked nothing: steps 1 to 5, call by call
module _ {s : Settings} {contact : Bool} {st : State} {count : ℤ} {raw : Option ℤ} {q : Stability} {b : Book} {x : Weights}
    {idle : Bool} {w : Weighing} (p : Parts s contact st count raw q b x idle w) where
  -- with no request the next state is step 6 on those parts
  pub parts_next : stepped_of s (parts_of st b q w) x ≡ next_of s st (unasked_of count contact)
  unfolding next_of settled_of served_of decided_of granted_of ruling_of entered_of weights_of with_tracking ended_of
  parts_next = simp (p.tracked, p.idles, p.weighed, p.booked, p.steadied, p.raws)

  parts_settled : plainly (parts_of st b q st.weighing) ≡ settled_of s st (unasked_of count contact)
  unfolding settled_of decided_of granted_of ruling_of entered_of
  parts_settled = simp (p.booked, p.steadied, p.raws)

  parts_served : x ≡ served_of s st (unasked_of count contact)
  unfolding served_of settled_of decided_of granted_of ruling_of entered_of weights_of
  parts_served = simp (p.weighed, p.steadied, p.raws)

-- ---- step 6
-- a batch that finishes is in 00: a stage that is not 00 after step 6 has finished none
abbrev StillUnfinished : Advanced → Type 0
StillUnfinished a = idle_of a.sequence.stage ≡ false → a.finished ≡ false

either_way : {A : Type 0} (P : A → Type 0) (t : Bool) {a b : A} → P a → P b → P (cond t a b)
either_way P true p q = p
either_way P false p q = q

land_unfinished : (q : Sequence) (m : Move) → StillUnfinished (land_of q m)
unfolding land_of
land_unfinished q (move.To g) e = refl
land_unfinished q (move.Fail k) e = refl
land_unfinished q (move.Finish j) e = e
land_unfinished q move.Emptied e = refl

pub unfinished : (b : Batching) (p : Setpoints) (q : Sequence) (f : Facts) → StillUnfinished (advance_of b p q f)
unfolding advance_of
unfinished b p q f =
    either_way StillUnfinished (idle_of q.stage) (λ e. refl)
    (either_way StillUnfinished f.unfit (λ e. refl)
    (either_way StillUnfinished (late_of b q) (λ e. refl)
    (either_way StillUnfinished (slow_of b q) (λ e. refl) (land_unfinished q (move_of b p q.stage f)))))

module _ (s : Settings) (st : State) (x : Weights) where
  pub step_idle : idle_of st.sequence.stage ≡ true → st ≡ stepped_of s st x
  unfolding stepped_of finished_of advance_of
  step_idle e = simp e

  -- `n` is the setpoints, or a copy of them
  module _ (n : Setpoints) (fit : Bool) (v : ℤ) (a : Advanced) (en : n ≡ st.setpoints) (ef : fit ≡ fit_of x)
      (ev : v ≡ compared_of s.batching.mode x)
      (ea : a ≡ advance_of s.batching n st.sequence (facts_at n (not fit) x.stable v x.gross)) where
    -- the stage is not 00 after it
    pub step-on : idle_of a.sequence.stage ≡ false → with_sequence st a.sequence ≡ stepped_of s st x
    unfolding stepped_of finished_of facts_of
    step-on e =
        let on : a.finished ≡ false
        = ap (λ (r : Advanced). r.finished) ea ∙ unfinished _ n _ _ (sym (ap (λ (r : Advanced). idle_of r.sequence.stage) ea) ∙ e) in
        simp (← en, ← ef, ← ev, ← ea, e, on, and_no)

    -- the stage returns to 00: what waited is in use
    module _ (p : Setpoints) (w : Option Setpoints) (runs : idle_of st.sequence.stage ≡ false) (back : idle_of a.sequence.stage ≡ true)
        (ep : p ≡ latest_of st.setpoints st.waiting) (ew : w ≡ none_waiting) where
      pub step_back : a.finished ≡ false → with_waiting (with_setpoints (with_sequence st a.sequence) p) w ≡ stepped_of s st x
      unfolding stepped_of finished_of facts_of
      step_back e = simp (← en, ← ef, ← ev, ← ea, runs, back, e, ep, ew)

      pub step-finished : (sq : Sequence) (t : Totals) → a.finished ≡ true → sq ≡ booked_sequence st.totals v a.sequence
          → t ≡ booked_totals st.totals v
          → with_waiting (with_setpoints (with_totals (with_sequence st sq) t) p) w ≡ stepped_of s st x
      unfolding stepped_of finished_of facts_of
      step-finished sq t e es et = simp (← en, ← ef, ← ev, ← ea, runs, back, e, es, et, ep, ew)

-- ---- the outputs: no step after the request changes the panel
step_panel : (s : Settings) (st : State) (x : Weights) → (stepped_of s st x).panel ≡ st.panel
unfolding stepped_of finished_of
step_panel s st x = simp cond_same

-- booking leaves the stage
pub booked_stage : (s : Settings) (st : State) (x : Weights) (a : Advanced) → (finished_of s st x a).sequence.stage ≡ a.sequence.stage
unfolding finished_of booked_sequence
booked_stage s st x a =
    let Kept : Sequence → Type 0 = λ (q : Sequence). q.stage ≡ a.sequence.stage in
    either_way Kept a.finished (either_way Kept (bookable st.totals (compared_of s.batching.mode x)) refl refl) refl

-- where the stage is not 00 after step 6 it was not 00 before, and both sets of setpoints stay
pub step_runs : (s : Settings) (st : State) (x : Weights) → idle_of (stepped_of s st x).sequence.stage ≡ false
    → (idle_of st.sequence.stage ≡ false) × ((stepped_of s st x).setpoints ≡ st.setpoints) × ((stepped_of s st x).waiting ≡ st.waiting)
unfolding stepped_of finished_of
step_runs s st x e = (
  go (idle_of st.sequence.stage) refl,
  ap (λ (t : Bool). (comes_in t (finished_of s st x a)).setpoints) on ∙ cond_same a.finished st.setpoints,
  ap (λ (t : Bool). (comes_in t (finished_of s st x a)).waiting) on ∙ cond_same a.finished st.waiting,
)
  where
    a : Advanced
    a = advance_of s.batching st.setpoints st.sequence (facts_of s.batching.mode st.setpoints x)

    on : not (idle_now st) && idle_of a.sequence.stage ≡ false
    on = ap (λ (t : Bool). not (idle_now st) && t) (sym (ap idle_of (booked_stage s st x a)) ∙ e) ∙ and_no (not (idle_now st))

    go : (t : Bool) → idle_of st.sequence.stage ≡ t → idle_of st.sequence.stage ≡ false
    go true p = ap (λ (r : State). idle_of r.sequence.stage) (step_idle s st x p) ∙ e
    go false p = p

end_panel : (s : Settings) (a : Settled) (x : Weights) → (ended_of s a x).panel ≡ a.state.panel
unfolding ended_of with_tracking
end_panel s a x = simp (step_panel, cond_same)

shown : (s : Settings) (a : Settled) (x : Weights) (r : State) → r.panel ≡ a.state.panel
    → outputs_of s (answered_of a.outcome a.closed r) x r ≡ outputs_of s a x r
unfolding outputs_of
shown s a x r e = simp e

-- the tick of the parts
pub parts_tick : {s : Settings} {contact : Bool} {st : State} {count : ℤ} {raw : Option ℤ} {q : Stability} {b : Book} {x : Weights}
    {idle : Bool} {w : Weighing} → Parts s contact st count raw q b x idle w → (r : State) (o : Answer)
    → r ≡ stepped_of s (parts_of st b q w) x
    → o ≡ outputs_of s (plainly r) x r
    → ◌≡◌ {A = Ticked} (record { state = r; answer = o }) (tick_of s st (unasked_of count contact))
unfolding tick_of
parts_tick {s} {contact} {st} {count} {q = q} {b = b} {x = x} p r o er eo =
    let next : r ≡ next_of s st (unasked_of count contact) = er ∙ parts_next p in
    let same = shown s (plainly (parts_of st b q st.weighing)) x r (ap (λ (t : State). t.panel) er ∙ step_panel s _ x) in
    λ i. record {
      state = next i;
      answer = (eo ∙ same ∙ (λ j. outputs_of s (parts_settled p j) (parts_served p j) (next j))) i;
    }

next_panel : (s : Settings) (st : State) (i : Input) → (next_of s st i).panel ≡ (settled_of s st i).state.panel
unfolding next_of
next_panel s st i = end_panel s (settled_of s st i) (served_of s st i)

-- ---- a tick with a request
-- where the ways of step 4 meet
pub left_by : {a : Settled} {st st' : State} {held held' keyed keyed' : Bool} {day day' : Option Book}
    → st' ≡ st → held' ≡ held → keyed' ≡ keyed → day' ≡ day → left_of (Ok tt) st held keyed day ≡ a
    → left_of (Ok tt) st' held' keyed' day' ≡ a
left_by es eh ek ed e = (λ i. left_of (Ok tt) (es i) (eh i) (ek i) (ed i)) ∙ e

-- ---- the two requests that ask for the stage
module _ (st : State) where
  -- a stop in 00 changes nothing
  pub stopped_idle : idle_of st.sequence.stage ≡ true → st ≡ stopped_of st
  unfolding stop_sequence
  stopped_idle i = simp i

  pub stopped_runs : idle_of st.sequence.stage ≡ false → (q : Sequence) (p : Setpoints) (w : Option Setpoints)
      → q ≡ stop_sequence st.sequence → p ≡ latest_of st.setpoints st.waiting → w ≡ none_waiting
      → with_waiting (with_setpoints (with_sequence st q) p) w ≡ stopped_of st
  stopped_runs i q p w eq ep ew = simp (i, eq, ep, ew)

  -- a write is in use at once in 00; in any other stage it waits
  pub stored_idle : (p : Setpoints) → idle_of st.sequence.stage ≡ true → with_setpoints st p ≡ stored_of st p
  stored_idle p i = simp i

  pub stored_runs : (p : Setpoints) → idle_of st.sequence.stage ≡ false → (w : Option Setpoints) → w ≡ waiting_for p
      → with_waiting st w ≡ stored_of st p
  stored_runs p i w ew = simp (i, ew)

-- each way: the part that the request changes
module _ (st : State) (x : Weights) (d : Option Request) where
  pub left_nothing : d ≡ None → left_of (Ok tt) st false false None ≡ granted_of st x d
  unfolding granted_of
  left_nothing e = simp e

  pub left_zero : d ≡ Some request.Zero → (w : Weighing) → w ≡ zeroed_of st.weighing x.raw
      → left_of (Ok tt) (with_weighing st w) false true None ≡ granted_of st x d
  unfolding granted_of
  left_zero e w ew = simp (e, ew)

  pub left_tare : d ≡ Some request.Tare → (w : Weighing) → w ≡ tared_of st.weighing x.gross
      → left_of (Ok tt) (with_weighing st w) false false None ≡ granted_of st x d
  unfolding granted_of
  left_tare e w ew = simp (e, ew)

  pub left_tare_clear : d ≡ Some request.TareClear → (w : Weighing) → w ≡ tared_of st.weighing (pos 0)
      → left_of (Ok tt) (with_weighing st w) false false None ≡ granted_of st x d
  unfolding granted_of
  left_tare_clear e w ew = simp (e, ew)

  pub left_start : d ≡ Some request.Start → (q : Sequence) → q ≡ start_sequence
      → left_of (Ok tt) (with_sequence st q) true false None ≡ granted_of st x d
  unfolding granted_of
  left_start e q eq = simp (e, eq)

  pub left_stop : d ≡ Some request.Stop → (r : State) → r ≡ stopped_of st → left_of (Ok tt) r true false None ≡ granted_of st x d
  unfolding granted_of
  left_stop e r er = simp (e, er)

  pub left_set : (p : Setpoints) → d ≡ Some (request.Set p) → (r : State) → r ≡ stored_of st p
      → left_of (Ok tt) r false false None ≡ granted_of st x d
  unfolding granted_of
  left_set p e r er = simp (e, er)

  pub left_total_clear : d ≡ Some request.TotalClear → (t : Totals) → t ≡ clear_totals
      → left_of (Ok tt) (with_totals st t) false false None ≡ granted_of st x d
  unfolding granted_of
  left_total_clear e t et = simp (e, et)

  pub left_undo : d ≡ Some request.Undo → (t : Totals) → t ≡ taken_back st.totals
      → left_of (Ok tt) (with_totals st t) false false None ≡ granted_of st x d
  unfolding granted_of
  left_undo e t et = simp (e, et)

  pub left_gross : d ≡ Some request.ShowGross → left_of (Ok tt) (with_display st display.Gross) false false None ≡ granted_of st x d
  unfolding granted_of
  left_gross e = simp e

  pub left_net : d ≡ Some request.ShowNet → left_of (Ok tt) (with_display st display.Net) false false None ≡ granted_of st x d
  unfolding granted_of
  left_net e = simp e

  pub left_close : d ≡ Some request.DayClose → (b : Book) → b ≡ closed_of st.book
      → left_of (Ok tt) (with_book st b) false false (Some st.book) ≡ granted_of st x d
  unfolding granted_of
  left_close e b eb = simp (e, eb)

  pub left_discharge : d ≡ Some request.Discharge → (q : Sequence) → q ≡ discharge_sequence st.sequence
      → left_of (Ok tt) (with_sequence st q) true false None ≡ granted_of st x d
  unfolding granted_of
  left_discharge e q eq = simp (e, eq)

-- what is done of a request is what step 4 leaves
granted_left : (st : State) (x : Weights) (o : Result (Unit {0}) Refusal) (r : Option Request) →
    let g = granted_of st x (grant_of o r) in
    left_of o g.state g.held g.keyed g.closed ≡ unless_refused o st (granted_of st x r)
unfolding granted_of
granted_left st x (Ok tt) r = refl
granted_left st x (Err n) r = refl

module _ {s : Settings} {st : State} {i : Input} {raw : Option ℤ} {q : Stability} {b : Book} {x : Weights} {o : Result (Unit {0}) Refusal} {d : Option Request}
    {st' : State} {held keyed : Bool} {day : Option Book} {x' : Weights} {idle : Bool} {w : Weighing}
    (p : Asked s st i raw q b x o d st' held keyed day x' idle w) where
  left_settled : left_of o st' held keyed day ≡ settled_of s st i
  unfolding settled_of decided_of ruling_of entered_of weights_of
  left_settled =
      (λ j. let g = p.left j in left_of o g.state g.held g.keyed g.closed)
      ∙ ap (λ (r : Option Request).
      let g = granted_of (parts_of st b q st.weighing) x r in
      left_of o g.state g.held g.keyed g.closed) p.done
      ∙ granted_left (parts_of st b q st.weighing) x o i.request
      ∙ simp (p.ruled, p.weighed, p.booked, p.steadied, p.raws)

  left_served : x' ≡ served_of s st i
  unfolding served_of weights_of
  left_served = simp (p.served, p.raws, ← left_settled)

  -- the next state is step 6 on those parts, unless it is passed over
  pub asked_next : pick_state held (with_weighing st' w) (stepped_of s (with_weighing st' w) x') ≡ next_of s st i
  unfolding next_of ended_of with_tracking
  asked_next = simp (← left_settled, ← left_served, p.tracked, p.idles)

  pub asked_held : held ≡ true → with_weighing st' w ≡ next_of s st i
  asked_held e = ap (λ (t : Bool). pick_state t (with_weighing st' w) (stepped_of s (with_weighing st' w) x')) (sym e) ∙ asked_next

  pub asked_stepped : held ≡ false → (r : State) → r ≡ stepped_of s (with_weighing st' w) x' → r ≡ next_of s st i
  asked_stepped e r er = er ∙ ap (λ (t : Bool). pick_state t (with_weighing st' w) (stepped_of s (with_weighing st' w) x')) (sym e) ∙ asked_next

  -- the tick of the parts
  pub asked_tick : (r : State) (a : Answer) → r ≡ next_of s st i → a ≡ outputs_of s (answered_of o day r) x' r
      → ◌≡◌ {A = Ticked} (record { state = r; answer = a }) (tick_of s st i)
  unfolding tick_of
  asked_tick r a er ea =
      let left = ap (λ (t : Settled). t.state.panel) (sym left_settled) in
      let last : r.panel ≡ st'.panel = ap (λ (t : State). t.panel) er ∙ next_panel s st i ∙ left in
      let same = shown s (left_of o st' held keyed day) x' r last in
      λ j. record {
        state = er j;
        answer = (ea ∙ same ∙ (λ k. outputs_of s (left_settled k) (left_served k) (er k))) j;
      }
