-- A6: while the refill contact is closed the zero in force stays, and to all requests but a zero the contact makes no difference. Assumes
-- nothing.
use Rattle.std.specs.Prelude.{Option, None, Some, Result, Ok, Err, ℤ}
use mathlib.Core.Path.{◌≡◌, refl, sym, ap, ◌∙◌}
use mathlib.Core.Bool.{Bool, true, false, cond, not, ◌&&◌}
use mathlib.Core.List.{[], ◌∷◌}
use Prim.Native.Nat.{suc}
use lib.Dec.{leb}
use lib.ListN.{length}
use lib.IntN.{ℤ, pos}
use Rattle.types.specs.declared.requests.Refusal.{Refusal}
use Rattle.types.specs.declared.settings.Mode.{Mode}
use Rattle.types.specs.declared.settings.Mode.TheVariants as mode
use Rattle.types.specs.declared.settings.Settings.{Settings}
use Rattle.types.specs.declared.weight.Stability.{Stability}
use Rattle.types.specs.declared.weight.Weighing.{Weighing}
use Rattle.types.specs.declared.weight.Weights.{Weights}
use Rattle.types.specs.declared.weight.Display.{Display}
use Rattle.types.specs.declared.weight.Display.TheVariants as display
use Rattle.types.specs.declared.daybook.Book.{Book}
use Rattle.types.specs.declared.requests.Request.{Request}
use Rattle.types.specs.declared.requests.Request.TheVariants as request
use Rattle.types.specs.declared.requests.Refusal.TheVariants as refusal
use Rattle.types.specs.declared.machine.State.{State}
use Rattle.types.specs.declared.machine.Input.{Input}
use Rattle.types.specs.declared.machine.Settled.{Settled}
use Rattle.outline.specs.Weight.{raw_of, weigh_of, steadied_of, fit_of, displayed_of}
use Rattle.outline.specs.DayBook.{open_book, book_of}
use Rattle.outline.specs.Zero.{tracking_on, calm_of, may_move, with_counter, moved_of, tracked_of}
use Rattle.outline.specs.Setpoints.{near_of, full_of}
use Rattle.outline.specs.Stages.{facts_of, gates_of}
use Rattle.outline.specs.Parts.{with_book, with_stability, with_weighing, pick_state}
use Rattle.outline.specs.Requests.{idle_now, rows_to, ruling_of, done_of, unless_refused, granted_of, decided_of}
use Rattle.outline.specs.Tick.{entered_of, weights_of, settled_of, served_of, with_tracking, finished_of, stepped_of, ended_of, next_of, reading_of, outputs_of, tick_of, unasked_of}
use Rattle.outline.specs.Analog.{analog_of}
use Rattle.outline.specs.Replies.{asked_of, due_text, line_tick_of}
use Rattle.outline.specs.Run.{run_from}
use Rattle.outline.specs.StaysTrue.{Connected, ZeroWhileConnected, ZeroThroughRefill, beside_day, beside_zero, ToZeroOnly}
use Rattle.outline.specs.EveryLine.{ConnectedLine, ZeroWhileConnectedOnLine}
use Rattle.whole.specs.Chains.{and_left, and_right}
use Rattle.outline.proofs.Parts.{none_applies, cond_in, and_no, clash}
use Rattle.outline.proofs.RangeWeighing.{ended_weighing}
use Rattle.outline.proofs.ZeroStep.{Zeros, zeros_of, keyed_zeros, settled_zeros, none_keyed}

weigh_contact : (s : Settings) (q : Stability) (w : Weighing) (raw : Option ℤ) (contact : Bool) → (weigh_of s q w raw contact).contact ≡ contact
unfolding weigh_of
weigh_contact s q w None contact = refl
weigh_contact s q w (Some x) contact = refl

-- ---- a closed tick
closed_refused : (s : Settings) (st : State) (x : Weights) → x.contact ≡ true → done_of (ruling_of s st x (Some request.Zero)) ≡ false
unfolding ruling_of
closed_refused s st x h = go (done_of (ruling_of s st x (Some request.Zero))) refl
  where
    go : (t : Bool) → done_of (ruling_of s st x (Some request.Zero)) ≡ t → t ≡ false
    go true e = absurd (clash h (none_applies (rows_to s.range s.batching.mode st.sequence st.totals x (Some request.Zero)) e).1.1.1.0)
    go false e = refl

closed_eight : (s : Settings) (st : State) (x : Weights) → x.contact ≡ true → fit_of x ≡ true → idle_now st ≡ true
    → ruling_of s st x (Some request.Zero) ≡ Err refusal.ContactClosed
unfolding ruling_of
closed_eight s st x c f i =
    let good = and_left x.good (not x.overload) f in
    let light = not_yes x.overload (and_right x.good (not x.overload) f) in
    simp (good, light, i, c)
  where
    not_yes : (t : Bool) → not t ≡ true → t ≡ false
    not_yes true e = sym e
    not_yes false e = refl

tracked_closed : (s : Settings) (idle keyed : Bool) (x : Weights) (w : Weighing) → x.contact ≡ true → tracked_of s idle keyed x w ≡ with_counter w 0
unfolding tracked_of
tracked_closed s idle keyed x w h = simp (h, and_no)

module _ (s : Settings) (st : State) (i : Input) (shut : i.contact ≡ true) where
  abbrev raw₁ : Option ℤ
  raw₁ = raw_of s.calibration i.count

  abbrev st₂ : State
  st₂ = entered_of s st raw₁ i.contact

  abbrev x₃ : Weights
  x₃ = weights_of s st₂ raw₁ i.contact

  abbrev a₄ : Settled
  a₄ = settled_of s st i

  x_closed : x₃.contact ≡ true
  unfolding weights_of
  x_closed = weigh_contact s st₂.stability st₂.weighing raw₁ i.contact ∙ shut

  barred : done_of (ruling_of s st₂ x₃ (Some request.Zero)) ≡ false
  barred = closed_refused s st₂ x₃ x_closed

  closed_zeros : zeros_of (next_of s st i).weighing ≡ record { zero = st.weighing.zero; tracked = st.weighing.tracked; counter = 0 }
  unfolding next_of served_of settled_of weights_of entered_of
  closed_zeros =
      ap zeros_of (ended_weighing s a₄ (served_of s st i)
      ∙ tracked_closed s (idle_now a₄.state) a₄.keyed (served_of s st i) a₄.state.weighing
      (weigh_contact s a₄.state.stability a₄.state.weighing raw₁ i.contact ∙ shut))
      ∙ ap (λ (z : Zeros). record { zero = z.zero; tracked = z.tracked; counter = 0 })
      (settled_zeros s st₂ x₃ i.request
      ∙ ap (λ (k : Bool). keyed_zeros k x₃.raw (zeros_of st.weighing)) (none_keyed s st₂ x₃ barred i.request))

  -- a refused zero leaves step 3's weights
  same_weights : i.request ≡ Some request.Zero → served_of s st i ≡ x₃
  unfolding served_of settled_of decided_of
  same_weights e = simp (e, barred)

  connected : Connected s st i
  unfolding tick_of outputs_of settled_of decided_of entered_of
  connected = record {
    zero = ap (λ (z : Zeros). z.zero) closed_zeros;
    tracked = ap (λ (z : Zeros). z.tracked) closed_zeros;
    counter = ap (λ (z : Zeros). z.counter) closed_zeros;
    refused = λ e. ap (λ (r : Option Request). done_of (ruling_of s st₂ x₃ r)) e ∙ barred;
    number = λ e f d. ap (ruling_of s st₂ x₃) e ∙ closed_eight s st₂ x₃ x_closed (ap fit_of (sym (same_weights e)) ∙ f) d;
  }

pub zero_while_connected : ZeroWhileConnected
zero_while_connected s st i shut = connected s st i shut

pub zero_through_refill : ZeroThroughRefill
unfolding run_from
zero_through_refill s st [] e = record { zero = refl; tracked = refl }
zero_through_refill s st (i ∷ is) e =
    let first = zero_while_connected s st i e.0 in
    let rest = zero_through_refill s (next_of s st i) is e.1 in
    record { zero = rest.zero ∙ first.zero; tracked = rest.tracked ∙ first.tracked }

pub connected_on_line : ZeroWhileConnectedOnLine
unfolding line_tick_of tick_of
connected_on_line s st count receive buffer =
    let asked = zero_while_connected s st (asked_of s count true receive) refl in
    let unasked = zero_while_connected s st (unasked_of count true) refl in
    cond_in (ConnectedLine st) (leb (length (due_text s st count true receive)) (length buffer))
    (λ e. record { zero = asked.zero; tracked = asked.tracked; counter = asked.counter })
    (λ e. record { zero = unasked.zero; tracked = unasked.tracked; counter = unasked.counter })

-- ---- all other requests
-- weights as with the contact open: nothing but a zero and tracking asks for it
abbrev openly : Weights → Weights
openly x = record {
  good = x.good;
  contact = false;
  raw = x.raw;
  fine = x.fine;
  divisions = x.divisions;
  gross = x.gross;
  net = x.net;
  overload = x.overload;
  stable = x.stable;
}

weigh_openly : (s : Settings) (q : Stability) (w : Weighing) (raw : Option ℤ) (contact : Bool)
    → openly (weigh_of s q w raw contact) ≡ weigh_of s q w raw false
unfolding weigh_of
weigh_openly s q w None contact = refl
weigh_openly s q w (Some x) contact = refl

ruled_openly : (s : Settings) (st : State) (b : Book) (x : Weights) (r : Option Request) → (r ≡ Some request.Zero → ⊥)
    → ruling_of s (with_book st b) x r ≡ ruling_of s st (openly x) r
unfolding ruling_of
ruled_openly s st b x None n = refl
ruled_openly s st b x (Some request.Zero) n = absurd (n refl)
ruled_openly s st b x (Some request.Tare) n = refl
ruled_openly s st b x (Some request.TareClear) n = refl
ruled_openly s st b x (Some request.Start) n = refl
ruled_openly s st b x (Some request.Stop) n = refl
ruled_openly s st b x (Some (request.Set p)) n = refl
ruled_openly s st b x (Some request.TotalClear) n = refl
ruled_openly s st b x (Some request.Undo) n = refl
ruled_openly s st b x (Some request.ShowGross) n = refl
ruled_openly s st b x (Some request.ShowNet) n = refl
ruled_openly s st b x (Some request.DayClose) n = refl
ruled_openly s st b x (Some request.Discharge) n = refl

-- what step 4 leaves beside the book and the day that it closed
abbrev beside_book : Settled → Settled
beside_book a = record {
  outcome = a.outcome;
  state = with_book a.state open_book;
  held = a.held;
  keyed = a.keyed;
  closed = None;
}

granted_openly : (st : State) (b : Book) (x : Weights) (r : Option Request)
    → beside_book (granted_of (with_book st b) x r) ≡ beside_book (granted_of st (openly x) r)
unfolding granted_of
granted_openly st b x None = refl
granted_openly st b x (Some request.Zero) = refl
granted_openly st b x (Some request.Tare) = refl
granted_openly st b x (Some request.TareClear) = refl
granted_openly st b x (Some request.Start) = refl
granted_openly st b x (Some request.Stop) = refl
granted_openly st b x (Some (request.Set p)) = refl
granted_openly st b x (Some request.TotalClear) = refl
granted_openly st b x (Some request.Undo) = refl
granted_openly st b x (Some request.ShowGross) = refl
granted_openly st b x (Some request.ShowNet) = refl
granted_openly st b x (Some request.DayClose) = refl
granted_openly st b x (Some request.Discharge) = refl

decided_openly : (s : Settings) (st : State) (b : Book) (x : Weights) (r : Option Request) → (r ≡ Some request.Zero → ⊥)
    → beside_book (decided_of s (with_book st b) x r) ≡ beside_book (decided_of s st (openly x) r)
unfolding decided_of
decided_openly s st b x r n =
    ap (λ (o : Result (Unit {0}) Refusal). beside_book (unless_refused o (with_book st b) (granted_of (with_book st b) x r))) (ruled_openly s st b x r n)
    ∙ go (ruling_of s st (openly x) r)
  where
    go : (o : Result (Unit {0}) Refusal)
        → beside_book (unless_refused o (with_book st b) (granted_of (with_book st b) x r)) ≡ beside_book (unless_refused o st (granted_of st (openly x) r))
    go (Ok tt) = ap (λ (a : Settled). beside_book (unless_refused (Ok tt) st a)) (granted_openly st b x r)
    go (Err m) = refl

-- steps 5 and 6: the contact alters what tracking leaves of the zero, and no more
erase : State → ℤ → State
erase st tare = with_weighing (with_book st open_book) (record { zero = pos 0; tracked = pos 0; tare = tare; counter = 0 })

tracked_tare : (s : Settings) (idle keyed : Bool) (x : Weights) (w : Weighing) → (tracked_of s idle keyed x w).tare ≡ w.tare
unfolding tracked_of
tracked_tare s idle keyed x w =
    go (tracking_on s.tracking && calm_of s.tracking idle keyed x) (leb s.tracking.time (suc w.counter)) (may_move s w x)
  where
    go : (t u v : Bool)
        → (cond t (cond u (cond v (moved_of w x) (with_counter w 0)) (with_counter w (suc w.counter))) (with_counter w 0)).tare ≡ w.tare
    go true true true = refl
    go true true false = refl
    go true false v = refl
    go false u v = refl

ends_of : Settings → Settled → Weights → State
ends_of s a x = erase (ended_of s a x) a.state.weighing.tare

stepped_openly : (s : Settings) (st : State) (x : Weights) → stepped_of s st x ≡ stepped_of s st (openly x)
unfolding stepped_of finished_of facts_of
stepped_openly s st x = go s.batching.mode refl
  where
    go : (m : Mode) → s.batching.mode ≡ m → stepped_of s st x ≡ stepped_of s st (openly x)
    go mode.Normal e = simp e
    go mode.Loss e = simp e

ended_openly : (s : Settings) (a : Settled) (x : Weights) → beside_zero (ended_of s a x) ≡ ends_of s (beside_book a) (openly x)
unfolding erase ends_of ended_of with_tracking stepped_of finished_of
ended_openly s a x =
    ap (erase (ended_of s a x))
    (ap (λ (w : Weighing). w.tare) (ended_weighing s a x) ∙ tracked_tare s (idle_now a.state) a.keyed x a.state.weighing)
    ∙ ap (λ (st : State). erase (pick_state a.held (with_tracking s a x) st) a.state.weighing.tare)
    (stepped_openly s (with_tracking s a x) x)

displayed_openly : (d : Display) (x : Weights) → displayed_of d x ≡ displayed_of d (openly x)
displayed_openly display.Gross x = refl
displayed_openly display.Net x = refl

told_openly : (s : Settings) (a : Settled) (x : Weights) (st : State)
    → beside_day (outputs_of s a x st) ≡ beside_day (outputs_of s (beside_book a) (openly x) (beside_zero st))
unfolding outputs_of near_of full_of
told_openly s a x st = λ j. record {
  outcome = a.outcome;
  reading = reading_of x;
  stage = st.sequence.stage;
  gates = gates_of st.setpoints st.sequence.stage;
  judgement = st.sequence.judgement;
  error = st.sequence.error;
  near = near_of st.setpoints x;
  full = full_of s.batching.mode st.setpoints x;
  analog = analog_of s.board s.scale (displayed_openly a.state.panel.display x j) (fit_of x);
  closed = None;
}

module _ (s : Settings) (st : State) (count : ℤ) (r : Option Request) (n : r ≡ Some request.Zero → ⊥) where
  abbrev raw_at : Option ℤ
  raw_at = raw_of s.calibration count

  abbrev at : Bool → Input
  at contact = record { count = count; contact = contact; request = r }

  steadied : State
  steadied = with_stability st (steadied_of s.steadiness st.stability st.book.last raw_at)

  -- what both contacts have in common: step 4, the weights after it, and the end of the tick
  common : Settled
  common = beside_book (decided_of s steadied (weigh_of s steadied.stability st.weighing raw_at false) r)

  settled_as : (contact : Bool) → beside_book (settled_of s st (at contact)) ≡ common
  unfolding settled_of entered_of weights_of steadied common
  settled_as contact =
      decided_openly s steadied (book_of st.book raw_at contact) (weigh_of s steadied.stability st.weighing raw_at contact) r n
      ∙ ap (λ (x : Weights). beside_book (decided_of s steadied x r)) (weigh_openly s steadied.stability st.weighing raw_at contact)

  commonly : Weights
  commonly = weigh_of s common.state.stability common.state.weighing raw_at false

  served_as : (contact : Bool) → openly (served_of s st (at contact)) ≡ commonly
  unfolding served_of weights_of commonly
  served_as contact =
      let a = settled_of s st (at contact) in
      weigh_openly s a.state.stability a.state.weighing raw_at contact
      ∙ ap (λ (b : Settled). weigh_of s b.state.stability b.state.weighing raw_at false) (settled_as contact)

  next_as : (contact : Bool) → beside_zero (next_of s st (at contact)) ≡ ends_of s common commonly
  unfolding next_of
  next_as contact =
      ended_openly s (settled_of s st (at contact)) (served_of s st (at contact))
      ∙ (λ j. ends_of s (settled_as contact j) (served_as contact j))

  answer_as : (contact : Bool) → beside_day (tick_of s st (at contact)).answer ≡ beside_day (outputs_of s common commonly (ends_of s common commonly))
  unfolding tick_of
  answer_as contact =
      told_openly s (settled_of s st (at contact)) (served_of s st (at contact)) (next_of s st (at contact))
      ∙ (λ j. beside_day (outputs_of s (settled_as contact j) (served_as contact j) (next_as contact j)))

pub to_zero_only : ToZeroOnly
to_zero_only s st i n = record {
  answer = answer_as s st i.count i.request n i.contact ∙ sym (answer_as s st i.count i.request n false);
  state = next_as s st i.count i.request n i.contact ∙ sym (next_as s st i.count i.request n false);
}
