-- What is read from a buffer that holds a state is the state's. Assumes nothing.
use Rattle.std.specs.Prelude.{Option, None, Some, Result, ℤ, ℕ}
use Prim.Native.Nat.{ℕ}
use mathlib.Core.Path.{◌≡◌, sym, ap, subst, ◌∙◌}
use mathlib.Core.Bool.{Bool, true, false}
use mathlib.Core.List.{List}
use lib.IntN.{ℤ}
use lib.ListN.{length}
use Rattle.types.specs.declared.requests.Refusal.{Refusal}
use Rattle.types.specs.declared.daybook.Book.{Book}
use Rattle.types.specs.declared.settings.Settings.{Settings}
use Rattle.types.specs.declared.weight.Weights.{Weights}
use Rattle.types.specs.declared.settings.Batching.{Batching}
use Rattle.types.specs.declared.stages.Setpoints.{Setpoints}
use Rattle.types.specs.declared.stages.Sequence.{Sequence}
use Rattle.types.specs.declared.stages.Totals.{Totals}
use Rattle.types.specs.declared.stages.Facts.{Facts}
use Rattle.types.specs.declared.stages.Advanced.{Advanced}
use Rattle.types.specs.declared.machine.State.{State}
use Rattle.outline.specs.Stages.{advance_of}
use Rattle.outline.specs.Totals.{booked_totals, booked_sequence}
use Rattle.outline.specs.Zero.{tracked_of}
use Rattle.outline.specs.Requests.{idle_now, comes_in}
use Rattle.outline.specs.Parts.{with_weighing, with_setpoints, with_waiting, pick_state}
use Rattle.outline.specs.Tick.{stepped_of, outputs_of}
use Rattle.outline.specs.Steps.{answered_of}
use native.Mathlib.Omega.{arith}
use Rattle.outline.specs.Setpoints.{none_waiting, written_else}
use Rattle.images.specs.Images.{earlier_refusal}
use Rattle.images.proofs.Alike.{none_behind}
use Rattle.images.proofs.Earlier.{passes}
use Rattle.images.specs.StateImage.{state_length, earlier_length, state_at, image_of, grown_of}
use Rattle.images.specs.Holds.{Holds}
use Rattle.images.specs.Buffers.{bytes_of, bytes_from, is_image}
use Rattle.images.proofs.Buffers.{part_here, waiting_here}
use Rattle.images.proofs.InPlace.{holds_length, holds_state}

here : {l : List ℕ} {st : State} → Holds l st → is_image (length l) ≡ true
here h = ap is_image (holds_length h)

pub read_part : {A : Type 0} (f : State → A) {l : List ℕ} {st : State} {r : A} → r ≡ f (state_at (bytes_from l)) → Holds l st → r ≡ f st
read_part f e h = part_here _ (here h) f e ∙ ap f (holds_state h)

pub read_waiting : {l : List ℕ} {st : State} {r : Option Setpoints} → r ≡ (state_at (bytes_of state_length l)).waiting → Holds l st → r ≡ st.waiting
read_waiting e h = waiting_here _ (here h) e ∙ ap (λ (t : State). t.waiting) (holds_state h)

-- what is read from an earlier image
pub read_earlier : {A : Type 0} (f : State → A) (l : List ℕ) {r : A} → r ≡ f (state_at (bytes_from l)) → length l ≡ earlier_length → r ≡ f (state_at l)
read_earlier f l e n = part_here l (ap is_image n) f e

-- a buffer with the state of an earlier image that is not refused has the bytes that it grows to
pub grown_bytes : (e : List ℕ) {l : List ℕ} → earlier_refusal e ≡ 0 → Holds l (with_waiting (state_at e) none_waiting) → l ≡ grown_of e
grown_bytes e z h =
    let k = passes e z in
    sym h.image ∙ ap (λ (w : Option Setpoints). image_of (with_waiting (state_at e) w)) (sym (none_behind e (omega (arith, k.0)))) ∙ k.1

-- the same state by another name, and the same bytes
pub held_as_bytes : {l m : List ℕ} {st : State} → l ≡ m → Holds m st → Holds l st
held_as_bytes {st = st} e h = subst (λ (l : List ℕ). Holds l st) (sym e) h

pub held_as : {l : List ℕ} {a b : State} → a ≡ b → Holds l a → Holds l b
held_as {l} e h = subst (Holds l) e h

-- the outputs ask for three parts of a state
pub shown_by : (s : Settings) (o : Result (Unit {0}) Refusal) (d : Option Book) (x : Weights) (a b : State) → a.panel ≡ b.panel → a.setpoints ≡ b.setpoints → a.sequence ≡ b.sequence
    → outputs_of s (answered_of o d a) x a ≡ outputs_of s (answered_of o d b) x b
unfolding outputs_of
shown_by s o d x a b ep en eq = simp (ep, en, eq)

-- what comes into use where the stage returns to 00: nothing, or what waits
module _ (st : State) where
  pub came_none : st.waiting ≡ None → st ≡ comes_in true st
  came_none e = λ i. with_waiting (with_setpoints st (written_else (sym e i) st.setpoints)) (e i)

  pub came_points : (p : Setpoints) → st.waiting ≡ Some p → with_waiting (with_setpoints st p) none_waiting ≡ comes_in true st
  came_points p e = simp e

-- step 6 and its booking, of parts that are read
pub by_sequence : (b : Batching) (n : Setpoints) (f : Facts) {q q' : Sequence} (a : Advanced) → q ≡ q' → a ≡ advance_of b n q f → a ≡ advance_of b n q' f
by_sequence b n f a e h = h ∙ ap (λ (x : Sequence). advance_of b n x f) e

pub by_totals : (v : ℤ) (q : Sequence) {t t' : Totals} (r : Sequence) → t ≡ t' → r ≡ booked_sequence t v q → r ≡ booked_sequence t' v q
by_totals v q r e h = h ∙ ap (λ (x : Totals). booked_sequence x v q) e

pub booked_by : (v : ℤ) {t t' : Totals} (r : Totals) → t ≡ t' → r ≡ booked_totals t v → r ≡ booked_totals t' v
booked_by v r e h = h ∙ ap (λ (x : Totals). booked_totals x v) e

pub stepped_on : (s : Settings) (st : State) (x : Weights) (held : Bool) (r : State) → held ≡ false → r ≡ stepped_of s st x → r ≡ pick_state held st (stepped_of s st x)
stepped_on s st x held r e h = h ∙ (λ i. pick_state (sym e i) st (stepped_of s st x))

-- steps 5 and 6, by what the request that is done tells
module _ (s : Settings) (st : State) (x : Weights) where
  pub keyed_as : {l : List ℕ} {k k' : Bool} → k ≡ k'
      → Holds l (with_weighing st (tracked_of s (idle_now st) k x st.weighing)) → Holds l (with_weighing st (tracked_of s (idle_now st) k' x st.weighing))
  keyed_as e h = held_as (λ i. with_weighing st (tracked_of s (idle_now st) (e i) x st.weighing)) h

  pub held_on : {l : List ℕ} {k k' : Bool} → k ≡ k' → Holds l (pick_state k st (stepped_of s st x)) → Holds l (pick_state k' st (stepped_of s st x))
  held_on e h = held_as (λ i. pick_state (e i) st (stepped_of s st x)) h
