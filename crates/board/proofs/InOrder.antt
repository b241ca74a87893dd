-- A tick in the outline's order, each step done to the state that the one before left: together they are the tick. Assumes nothing.
use Rattle.std.specs.Prelude.{Option, None, Some, Result, Ok, ℤ, ℕ}
use mathlib.Core.Path.{◌≡◌, refl, sym, ap, ◌∙◌}
use mathlib.Core.Bool.{Bool, false}
use mathlib.Core.List.{List}
use Prim.Native.Nat.{ℕ}
use lib.IntN.{ℤ}
use Rattle.types.specs.declared.requests.Refusal.{Refusal}
use Rattle.types.specs.declared.settings.Settings.{Settings}
use Rattle.types.specs.declared.weight.Weights.{Weights}
use Rattle.types.specs.declared.weight.Stability.{Stability}
use Rattle.types.specs.declared.weight.Weighing.{Weighing}
use Rattle.types.specs.declared.requests.Request.{Request}
use Rattle.types.specs.declared.requests.Request.TheVariants as request
use Rattle.types.specs.declared.machine.State.{State}
use Rattle.types.specs.declared.machine.Input.{Input}
use Rattle.types.specs.declared.machine.Ticked.{Ticked}
use Rattle.outline.specs.Weight.{raw_of, weigh_of, steadied_of}
use Rattle.outline.specs.DayBook.{book_of}
use Rattle.outline.specs.Zero.{tracked_of}
use Rattle.outline.specs.Stages.{idle_of}
use Rattle.outline.specs.Parts.{with_weighing, pick_state}
use Rattle.outline.specs.Requests.{idle_now, grant_of, granted_of, ruling_of}
use Rattle.outline.specs.Tick.{entered_of, weights_of, stepped_of, next_of, outputs_of, tick_of, unasked_of}
use Rattle.outline.specs.Steps.{answered_of, left_of, Asked}
use Rattle.outline.proofs.Steps.{asked_next, asked_tick}
use Rattle.board.specs.InPlace.{closed_put, outputs_put, raw_in, held_by, keyed_by, beside_batch, batch_done}
use Rattle.images.specs.StateImage.{image_of}
use Rattle.images.specs.Holds.{Holds}
use Rattle.board.specs.AnswerImage.{answer_buffer}
use Rattle.board.proofs.InTwo.{with_closed, in_two}

-- ---- what the request that is done tells
pub granted_by : (st : State) (x : Weights) (d : Option Request) → left_of (Ok tt) (granted_of st x d).state (held_by d) (keyed_by d) (granted_of st x d).closed ≡ granted_of st x d
unfolding granted_of
granted_by st x None = refl
granted_by st x (Some request.Zero) = refl
granted_by st x (Some request.Tare) = refl
granted_by st x (Some request.TareClear) = refl
granted_by st x (Some request.Start) = refl
granted_by st x (Some request.Stop) = refl
granted_by st x (Some (request.Set p)) = refl
granted_by st x (Some request.TotalClear) = refl
granted_by st x (Some request.Undo) = refl
granted_by st x (Some request.ShowGross) = refl
granted_by st x (Some request.ShowNet) = refl
granted_by st x (Some request.DayClose) = refl
granted_by st x (Some request.Discharge) = refl

-- ---- a request is done in two: settled, and turned
pub batch_granted : (st : State) (x : Weights) (d : Option Request) → batch_done (granted_of st x (beside_batch d)).state d ≡ (granted_of st x d).state
unfolding granted_of
batch_granted st x None = refl
batch_granted st x (Some request.Zero) = refl
batch_granted st x (Some request.Tare) = refl
batch_granted st x (Some request.TareClear) = refl
batch_granted st x (Some request.Start) = refl
batch_granted st x (Some request.Stop) = refl
batch_granted st x (Some (request.Set p)) = refl
batch_granted st x (Some request.TotalClear) = refl
batch_granted st x (Some request.Undo) = refl
batch_granted st x (Some request.ShowGross) = refl
batch_granted st x (Some request.ShowNet) = refl
batch_granted st x (Some request.DayClose) = refl
batch_granted st x (Some request.Discharge) = refl

pub batch_closed : (st : State) (x : Weights) (d : Option Request) → (granted_of st x (beside_batch d)).closed ≡ (granted_of st x d).closed
unfolding granted_of
batch_closed st x None = refl
batch_closed st x (Some request.Zero) = refl
batch_closed st x (Some request.Tare) = refl
batch_closed st x (Some request.TareClear) = refl
batch_closed st x (Some request.Start) = refl
batch_closed st x (Some request.Stop) = refl
batch_closed st x (Some (request.Set p)) = refl
batch_closed st x (Some request.TotalClear) = refl
batch_closed st x (Some request.Undo) = refl
batch_closed st x (Some request.ShowGross) = refl
batch_closed st x (Some request.ShowNet) = refl
batch_closed st x (Some request.DayClose) = refl
batch_closed st x (Some request.Discharge) = refl

-- ---- what the weights tell of the count that they were made from
pub raw_again : (s : Settings) (q : Stability) (w : Weighing) (r : Option ℤ) (contact : Bool) → raw_in (weigh_of s q w r contact) ≡ r
unfolding raw_in weigh_of
raw_again s q w None contact = refl
raw_again s q w (Some t) contact = refl

pub contact_again : (s : Settings) (q : Stability) (w : Weighing) (r : Option ℤ) (contact : Bool) → (weigh_of s q w r contact).contact ≡ contact
unfolding weigh_of
contact_again s q w None contact = refl
contact_again s q w (Some t) contact = refl

-- ---- the tick: x are the weights of steps 1 to 3, o the ruling, d the request that is done, x' the weights again
module _ (s : Settings) (st : State) (i : Input) (x : Weights) (o : Result (Unit {0}) Refusal) (d : Option Request) (x' : Weights) where
  abbrev raws : Option ℤ
  raws = raw_of s.calibration i.count

  abbrev entered : State
  entered = entered_of s st raws i.contact

  abbrev after : State
  after = (granted_of entered x d).state

  abbrev tracked : State
  tracked = with_weighing after (tracked_of s (idle_now after) (keyed_by d) x' after.weighing)

  -- the state after step 6
  abbrev pub last : State
  last = pick_state (held_by d) tracked (stepped_of s tracked x')

  module _ (ex : x ≡ weights_of s entered raws i.contact) (eo : o ≡ ruling_of s entered x i.request) (ed : d ≡ grant_of o i.request)
      (es : x' ≡ weights_of s after (raw_in x) x.contact) where
    served : x' ≡ weights_of s after raws i.contact
    unfolding weights_of
    served =
        es
        ∙ (λ k. weigh_of s after.stability after.weighing ((ap raw_in ex ∙ raw_again s entered.stability entered.weighing raws i.contact) k) ((ap (λ (y : Weights). y.contact) ex ∙ contact_again s entered.stability entered.weighing raws i.contact) k))

    asked : Asked s st i raws (steadied_of s.steadiness st.stability st.book.last raws) (book_of st.book raws i.contact) x o d after (held_by d) (keyed_by d) (granted_of entered x d).closed x'
        (idle_of after.sequence.stage) (tracked_of s (idle_of after.sequence.stage) (keyed_by d) x' after.weighing)
    unfolding entered_of weights_of ruling_of
    asked = record {
      raws = refl;
      steadied = refl;
      booked = refl;
      weighed = ex;
      ruled = eo;
      done = ed;
      left = granted_by entered x d;
      served = served;
      idles = refl;
      tracked = refl;
    }

    pub ran-next : last ≡ next_of s st i
    ran-next = asked_next asked

    -- and every output, with the day that was closed
    pub ran : ◌≡◌ {A = Ticked} (record { state = last; answer = with_closed (outputs_of s (answered_of o None last) x' last) (granted_of entered x d).closed }) (tick_of s st i)
    unfolding outputs_of
    ran = asked_tick asked last _ ran-next refl

-- ---- what the tick leaves in its two buffers: `image` and `answer` are theirs, `told` and `length` what stands in the answer, `blank` its bytes before
pub record Ran (s : Settings) (st : State) (i : Input) (o : Result (Unit {0}) Refusal) (told length : ℕ) (blank image answer : List ℕ) : Type 0 where
  pub outcome : (tick_of s st i).answer.outcome ≡ o
  pub next : image ≡ image_of (tick_of s st i).state
  pub shown : answer ≡ answer_buffer told length (tick_of s st i).answer blank

module _ (s : Settings) (st : State) (i : Input) (x : Weights) (o : Result (Unit {0}) Refusal) (d : Option Request) (x' : Weights) (told length : ℕ) (blank image day answer : List ℕ) where
  pub leaves : x ≡ weights_of s (entered_of s st (raw_of s.calibration i.count) i.contact) (raw_of s.calibration i.count) i.contact
      → o ≡ ruling_of s (entered_of s st (raw_of s.calibration i.count) i.contact) x i.request
      → d ≡ grant_of o i.request
      → x' ≡ weights_of s (granted_of (entered_of s st (raw_of s.calibration i.count) i.contact) x d).state (raw_in x) x.contact
      → Holds image (last s st i x o d x')
      → day ≡ closed_put (granted_of (entered_of s st (raw_of s.calibration i.count) i.contact) x d).closed blank
      → answer ≡ outputs_put told length (outputs_of s (answered_of o None (last s st i x o d x')) x' (last s st i x o d x')) day
      → Ran s st i o told length blank image answer
  unfolding outputs_of
  leaves ex eo ed es h eb ea =
      let t = ran s st i x o d x' ex eo ed es in
      record {
        outcome = sym (λ k. (t k).answer.outcome);
        next = sym h.image ∙ (λ k. image_of (t k).state);
        shown =
            ea ∙ ap (outputs_put told length (outputs_of s (answered_of o None (last s st i x o d x')) x' (last s st i x o d x'))) eb
            ∙ in_two told length (outputs_of s (answered_of o None (last s st i x o d x')) x' (last s st i x o d x')) (granted_of (entered_of s st (raw_of s.calibration i.count) i.contact) x d).closed blank
            ∙ (λ k. answer_buffer told length (t k).answer blank);
      }

-- ---- the tick that is asked nothing: the weights are not made again
module _ (s : Settings) (st : State) (count : ℤ) (contact : Bool) (x : Weights) where
  abbrev begun : State
  begun = entered_of s st (raw_of s.calibration count) contact

  abbrev moved : State
  moved = with_weighing begun (tracked_of s (idle_now begun) false x begun.weighing)

  abbrev pub askedNothing : State
  askedNothing = pick_state false moved (stepped_of s moved x)

  module _ (ex : x ≡ weights_of s begun (raw_of s.calibration count) contact) where
    done : (Ok tt) ≡ ruling_of s begun x None
    unfolding ruling_of
    done = refl

    again : x ≡ weights_of s begun (raw_in x) x.contact
    unfolding weights_of
    again =
        ex
        ∙ sym (λ k. weigh_of s begun.stability begun.weighing ((ap raw_in ex ∙ raw_again s begun.stability begun.weighing (raw_of s.calibration count) contact) k) ((ap (λ (y : Weights). y.contact) ex ∙ contact_again s begun.stability begun.weighing (raw_of s.calibration count) contact) k))

    pub unasked-next : askedNothing ≡ next_of s st (unasked_of count contact)
    unfolding granted_of
    unasked-next = ran-next s st (unasked_of count contact) x (Ok tt) None x ex done refl again

    pub unasked-leaves : (told length : ℕ) (blank image day answer : List ℕ) → Holds image askedNothing → day ≡ closed_put None blank
        → answer ≡ outputs_put told length (outputs_of s (answered_of (Ok tt) None askedNothing) x askedNothing) day
        → Ran s st (unasked_of count contact) (Ok tt) told length blank image answer
    unfolding granted_of
    unasked-leaves told length blank image day answer h eb ea =
        leaves s st (unasked_of count contact) x (Ok tt) None x told length blank image day answer ex done refl again h eb ea
