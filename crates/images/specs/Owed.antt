-- What images owe, as statements: each state has one image, what passes 21 is what the outline's ranges and the balance say, and what stays
-- true from every image that passes. They are proved in proofs/, and `every_image` has them as its `ensures`.
use Rattle.std.specs.Prelude.{ℕ, ◌≡◌, true, T, get_or, take, Some}
use mathlib.Core.List.{List, foldl}
use Rattle.places.specs.Places.{unused}
use Rattle.types.specs.declared.settings.Given.{Given}
use Rattle.types.specs.declared.settings.Settings.{Settings}
use Rattle.types.specs.declared.machine.State.{State}
use Rattle.types.specs.declared.machine.Input.{Input}
use Rattle.settings.specs.Held.{Held}
use Rattle.outline.specs.Settings.{settings_of, open_of}
use Rattle.outline.specs.Setpoints.{none_waiting}
use Rattle.outline.specs.Tick.{open_state}
use Rattle.outline.specs.Run.{History, run_of, run_from}
use Rattle.outline.specs.Ranges.{Balanced, StateRange}
use Rattle.outline.specs.StaysTrue.{Keeps, earlier_tick}
use Rattle.images.specs.StateImage.{earlier_length, state_rows, image_of, state_at, grown_of}
use Rattle.images.specs.GivenImage.{GivenRead, given_rows, given_image, given_in}
use Rattle.images.specs.Possible.{possible}
use Rattle.images.specs.Images.{earlier_refusal, StateRead, state_in}

-- read, and not refused
abbrev pub good : State → StateRead
good st = record { refusal = 0; state = st }

abbrev pub good_given : Given → GivenRead
good_given g = record { refusal = 0; given = g }

-- ---- "Image to state and back is exact both ways, one image for each state."
-- every possible state is read back, under the settings that it is possible under
abbrev pub ReadBack : Type 0
ReadBack =
    (g : Given) (s : Settings) → open_of g ≡ Some s → (st : State) → possible s st ≡ true → state_in g (image_of st) ≡ good st

-- and an image that is not refused is that of its state
abbrev pub OneImage : Type 0
OneImage = (g : Given) (l : List ℕ) → (state_in g l).refusal ≡ 0 → image_of (state_in g l).state ≡ l

-- so a byte that no row has is 0
abbrev pub UnusedZero : Type 0
UnusedZero = (g : Given) (l : List ℕ) (i : ℕ) → (state_in g l).refusal ≡ 0 → T (unused state_rows i) → get_or l i 0 ≡ 0

-- settings likewise; every number that a Given can hold is read back
abbrev pub GivenBack : Type 0
GivenBack = (g : Given) → Held g → given_in (given_image g) ≡ good_given g

abbrev pub OneGiven : Type 0
OneGiven = (l : List ℕ) → (given_in l).refusal ≡ 0 → given_image (given_in l).given ≡ l

abbrev pub UnusedGiven : Type 0
UnusedGiven = (l : List ℕ) (i : ℕ) → (given_in l).refusal ≡ 0 → T (unused given_rows i) → get_or l i 0 ≡ 0

-- ---- "An image is refused .. when a field is out of its range .. the day book does not balance, or the tracked sum passes the
-- allowance.": the Boolean is the decision of the ranges and the balance
pub record Decided (s : Settings) (st : State) : Type 0 where
  pub passes : StateRange s st → Balanced st.book → possible s st ≡ true
  pub range : possible s st ≡ true → StateRange s st
  pub balance : possible s st ≡ true → Balanced st.book

abbrev pub Decides : Type 0
Decides = (s : Settings) (st : State) → Decided s st

-- ---- 1. no image that this controller wrote is refused under its settings
abbrev pub RunsPass : Type 0
RunsPass =
    (g : Given) (s : Settings) → open_of g ≡ Some s → (h : History Input) → state_in g (image_of (run_of s h)) ≡ good (run_of s h)

-- A6: nor is one that the program before that request wrote, which counted for tracking, and took a zero, while the contact was closed
abbrev pub EarlierPass : Type 0
EarlierPass = (g : Given) (s : Settings) → open_of g ≡ Some s → (is : List Input) →
    let st = foldl (earlier_tick s) open_state is in
    state_in g (image_of st) ≡ good st

-- ---- 2. from every image that passes, whoever wrote it: after any ticks and requests the state is in range, the day balances, the
-- tracked sum keeps the allowance, no gate is open while an error stands; and its image passes again
pub record Goes (g : Given) (s : Settings) (st : State) : Type 0 where
  pub keeps : Keeps s st
  pub image : state_in g (image_of st) ≡ good st

abbrev pub FromImages : Type 0
FromImages = (g : Given) (s : Settings) → open_of g ≡ Some s → (l : List ℕ) → (state_in g l).refusal ≡ 0 → (is : List Input)
    → Goes g s (run_from s (state_in g l).state is)

-- ---- A5: "The image carries both, and an old image opens with none waiting."
-- an earlier image that is not refused grows to the image of its state, in which nothing waits
pub record Grown (g : Given) (e : List ℕ) : Type 0 where
  pub image : state_in g (grown_of e) ≡ good (state_at e)
  pub none : (state_at e).waiting ≡ none_waiting

abbrev pub Grows : Type 0
Grows = (g : Given) (e : List ℕ) → earlier_refusal e ≡ 0 → possible (settings_of g) (state_at e) ≡ true → Grown g e

-- and no image that an earlier program wrote is refused: a possible state in which nothing waits has an earlier image, today's without its
-- last 32 bytes
pub record Earlier (st : State) : Type 0 where
  pub refusal : earlier_refusal (take earlier_length (image_of st)) ≡ 0
  pub state : state_at (take earlier_length (image_of st)) ≡ st
  pub grown : grown_of (take earlier_length (image_of st)) ≡ image_of st

abbrev pub EarlierRead : Type 0
EarlierRead =
    (g : Given) (s : Settings) → open_of g ≡ Some s → (st : State) → possible s st ≡ true → st.waiting ≡ none_waiting
    → Earlier st
