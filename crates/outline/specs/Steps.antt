-- A tick put together from the parts of the state that the code assigns, step by step: the states that the code has on its way, and a
-- record with an equation for each call. proofs/Steps.antt has the laws. Assumes nothing.
use Rattle.std.specs.Prelude.{◌≡◌, Bool, false, ℤ, Option, Result, Ok}
use Rattle.types.specs.declared.requests.Refusal.{Refusal}
use Rattle.types.specs.declared.settings.Settings.{Settings}
use Rattle.types.specs.declared.weight.Weights.{Weights}
use Rattle.types.specs.declared.weight.Stability.{Stability}
use Rattle.types.specs.declared.weight.Weighing.{Weighing}
use Rattle.types.specs.declared.daybook.Book.{Book}
use Rattle.types.specs.declared.requests.Request.{Request}
use Rattle.types.specs.declared.machine.State.{State}
use Rattle.types.specs.declared.machine.Input.{Input}
use Rattle.types.specs.declared.machine.Settled.{Settled}
use Rattle.outline.specs.Weight.{raw_of, weigh_of, steadied_of}
use Rattle.outline.specs.DayBook.{book_of}
use Rattle.outline.specs.Zero.{tracked_of}
use Rattle.outline.specs.Stages.{idle_of}
use Rattle.outline.specs.Requests.{rows_to, first_of, grant_of, granted_of}

-- the state with what steps 1 to 5 of a tick without a request make anew
abbrev pub parts_of : State → Book → Stability → Weighing → State
parts_of st b q w = record {
  book = b;
  stability = q;
  weighing = w;
  panel = st.panel;
  setpoints = st.setpoints;
  waiting = st.waiting;
  sequence = st.sequence;
  totals = st.totals;
}

-- steps 1 to 5 of a tick that is asked nothing, call by call
pub record Parts (s : Settings) (contact : Bool) (st : State) (count : ℤ) (raw : Option ℤ) (q : Stability) (b : Book) (x : Weights)
    (idle : Bool) (w : Weighing) : Type 0 where
  pub raws : raw ≡ raw_of s.calibration count
  pub steadied : q ≡ steadied_of s.steadiness st.stability st.book.last raw
  pub booked : b ≡ book_of st.book raw contact
  pub weighed : x ≡ weigh_of s q st.weighing raw contact
  pub idles : idle ≡ idle_of st.sequence.stage
  pub tracked : w ≡ tracked_of s idle false x st.weighing

-- what they ask of step 4: its answer, with the state after step 6 in place of its own
abbrev pub answered_of : Result (Unit {0}) Refusal → Option Book → State → Settled
answered_of o d st = record { outcome = o; state = st; held = false; keyed = false; closed = d }

-- what step 4 leaves, as the code has it: the state, whether step 6 is passed over, whether a zero was keyed, the day that was closed
abbrev pub left_of : Result (Unit {0}) Refusal → State → Bool → Bool → Option Book → Settled
left_of o st held keyed day = record { outcome = o; state = st; held = held; keyed = keyed; closed = day }

-- steps 1 to 5 of a tick with a request, call by call
pub record Asked (s : Settings) (st : State) (i : Input) (raw : Option ℤ) (q : Stability) (b : Book) (x : Weights)
    (o : Result (Unit {0}) Refusal) (d : Option Request)
    (st' : State) (held keyed : Bool) (day : Option Book) (x' : Weights) (idle : Bool) (w : Weighing) : Type 0 where
  pub raws : raw ≡ raw_of s.calibration i.count
  pub steadied : q ≡ steadied_of s.steadiness st.stability st.book.last raw
  pub booked : b ≡ book_of st.book raw i.contact
  pub weighed : x ≡ weigh_of s q st.weighing raw i.contact
  pub ruled : o ≡ first_of (rows_to s.range s.batching.mode st.sequence st.totals x i.request)
  pub done : d ≡ grant_of o i.request
  pub left : left_of (Ok tt) st' held keyed day ≡ granted_of (parts_of st b q st.weighing) x d
  pub served : x' ≡ weigh_of s st'.stability st'.weighing raw i.contact
  pub idles : idle ≡ idle_of st'.sequence.stage
  pub tracked : w ≡ tracked_of s idle keyed x' st'.weighing
