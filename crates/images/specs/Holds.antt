-- A buffer that holds a state: its bytes are the state's image, and every number of the state fits its type. A part that is written in
-- its place leaves a buffer that holds the state with this part made anew: so a tick is done in the buffer itself, and nowhere else is
-- there a state.
use Rattle.std.specs.Prelude.{ℕ, ◌^◌, ◌<◌, ◌≡◌, List}
use Rattle.std.specs.Int.{w32, w64}
use Rattle.std.proofs.Common.{SFits}
use Rattle.types.specs.declared.daybook.Book.{Book}
use Rattle.types.specs.declared.weight.Weighing.{Weighing}
use Rattle.types.specs.declared.weight.Panel.{Panel}
use Rattle.types.specs.declared.stages.Setpoints.{Setpoints}
use Rattle.types.specs.declared.stages.Sequence.{Sequence}
use Rattle.types.specs.declared.stages.Totals.{Totals}
use Rattle.types.specs.declared.machine.State.{State}
use Rattle.images.specs.StateImage.{stage_timer, back_weight, write_points, image_of}

-- ---- what the machine holds of a state: each number fits its type
pub record HeldBook (b : Book) : Type 0 where
  pub opening : SFits w32 b.opening
  pub last : SFits w32 b.last
  pub refilled : SFits w64 b.refilled
  pub used : SFits w64 b.used
  pub unbooked : SFits w64 b.unbooked
  pub ticks : b.ticks < 2 ^ 32

pub record HeldWeighing (w : Weighing) : Type 0 where
  pub zero : SFits w32 w.zero
  pub tracked : SFits w32 w.tracked
  pub tare : SFits w32 w.tare
  pub counter : w.counter < 2 ^ 16

pub record HeldSetpoints (p : Setpoints) : Type 0 where
  pub target : p.target < 2 ^ 32
  pub fall : p.fall < 2 ^ 32
  pub preliminary : p.preliminary < 2 ^ 32
  pub optional : p.optional < 2 ^ 32
  pub over : p.over < 2 ^ 32
  pub under : p.under < 2 ^ 32
  pub near : p.near < 2 ^ 32

pub record HeldSequence (q : Sequence) : Type 0 where
  pub timer : stage_timer q.stage < 2 ^ 16
  pub clock : q.clock < 2 ^ 16

pub record HeldTotals (t : Totals) : Type 0 where
  pub total : t.total < 2 ^ 64
  pub count : t.count < 2 ^ 32
  pub weight : back_weight t.back < 2 ^ 64

pub record HeldState (st : State) : Type 0 where
  pub book : HeldBook st.book
  pub run : st.stability.run < 2 ^ 16
  pub weighing : HeldWeighing st.weighing
  pub setpoints : HeldSetpoints st.setpoints
  pub waiting : HeldSetpoints (write_points st.waiting)
  pub sequence : HeldSequence st.sequence
  pub totals : HeldTotals st.totals

-- the state with the panel made anew; of the other parts the outline's definitions have it
abbrev pub with_panel : State → Panel → State
with_panel st x = record {
  book = st.book;
  stability = st.stability;
  weighing = st.weighing;
  panel = x;
  setpoints = st.setpoints;
  waiting = st.waiting;
  sequence = st.sequence;
  totals = st.totals;
}

-- ---- the buffer
pub record Holds (l : List ℕ) (st : State) : Type 0 where
  pub image : image_of st ≡ l
  pub held : HeldState st

-- what is said of a buffer is so of the state that it holds: it holds at most one, since an image has one state, and of a buffer that holds
-- none nothing is said
abbrev pub Tells : List ℕ → (State → Type 0) → Type 0
Tells l f = (st : State) → Holds l st → f st

-- what was done turned a buffer that held a state into one that holds what f makes of it
abbrev pub Turns : List ℕ → List ℕ → (State → State) → Type 0
Turns before after f = (st : State) → Holds before st → Holds after (f st)
