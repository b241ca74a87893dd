-- Demand 3 for images: "its history is that which led to the image". Statements on any calls, proved in proofs/; `every_call` has them as
-- its `ensures`.
use Rattle.std.specs.Prelude.{ℕ, ◌≡◌, Bool, cond, leb, length, take, ℤ, Some}
use mathlib.Core.List.{List, [], ◌∷◌, foldl}
use Rattle.types.specs.declared.settings.Given.{Given}
use Rattle.types.specs.declared.settings.Settings.{Settings}
use Rattle.types.specs.declared.machine.State.{State}
use Rattle.types.specs.declared.machine.Input.{Input}
use Rattle.settings.specs.Held.{Held}
use Rattle.outline.specs.Limits.{block_limit}
use Rattle.outline.specs.Settings.{open_of}
use Rattle.outline.specs.Setpoints.{none_waiting}
use Rattle.outline.specs.Tick.{open_state}
use Rattle.outline.specs.Replies.{line_tick_of}
use Rattle.outline.specs.Run.{History, start, run_of, run_from, then_all, block_inputs, line_input}
use Rattle.outline.specs.StaysTrue.{earlier_tick}
use Rattle.images.specs.StateImage.{state_length, earlier_length, image_of, state_at}
use Rattle.images.specs.GivenImage.{given_image}
use Rattle.board.specs.AnswerImage.{length_byte}
use Rattle.board.specs.Board.{settings_by, state_by, refusal_by, open_image, grow_answer, grow_image, if_room, input_by}
use Rattle.board.specs.Board.{tick_image, line_image, block_image}

-- a call: a tick has its count, contact, request, points and answer buffer; a line its count, contact, receive, reply and answer buffer;
-- a block its counts and contact
pub data Call : Type 0 where
  tick : ℤ → Bool → ℕ → List ℕ → List ℕ → Call
  line : ℤ → Bool → List ℕ → List ℕ → List ℕ → Call
  block : List ℤ → Bool → Call

-- the state image after it; l is the settings image
unfoldable pub image_after : List ℕ → List ℕ → Call → List ℕ
image_after l t (tick count contact n points answer) = tick_image l t count contact n points answer
image_after l t (line count contact receive reply answer) = line_image l t count contact receive reply answer
image_after l t (block counts contact) = block_image l t counts contact

unfoldable pub image_run : List ℕ → List ℕ → List Call → List ℕ
image_run l t [] = t
image_run l t (c ∷ cs) = image_run l (image_after l t c) cs

-- the ticks that a call runs: none where it has no room for its answer, or too many counts
unfoldable pub ticks_of : Settings → State → Call → List Input
ticks_of s st (tick count contact n points answer) = if_room answer (input_by count contact n points ∷ []) []
ticks_of s st (line count contact receive reply answer) = if_room answer (line_input s st count contact receive reply ∷ []) []
ticks_of s st (block counts contact) = cond (leb (length counts) block_limit) (block_inputs counts contact) []

-- the state after calls, and a history and then the ticks of calls
unfoldable pub state_run : Settings → State → List Call → State
state_run s st [] = st
state_run s st (c ∷ cs) = state_run s (run_from s st (ticks_of s st c)) cs

unfoldable pub history_of : Settings → History Input → List Call → History Input
history_of s h [] = h
history_of s h (c ∷ cs) = history_of s (then_all h (ticks_of s (run_of s h) c)) cs

-- ---- from every image that is not refused, whoever wrote it: calls leave the image of the state after their ticks, which is not refused
-- either
pub record Called (l t : List ℕ) (cs : List Call) : Type 0 where
  pub image : image_run l t cs ≡ image_of (state_run (settings_by l) (state_by l t) cs)
  pub passes : refusal_by l (image_run l t cs) ≡ 0

abbrev pub CallsAreTicks : Type 0
CallsAreTicks = (l t : List ℕ) → refusal_by l t ≡ 0 → (cs : List Call) → Called l t cs

-- ---- 3. an open leaves the image of the run that begins, and calls after it that of the run's state, whose history is their ticks
abbrev pub OpensARun : Type 0
OpensARun = (g : Given) (s : Settings) → Held g → open_of g ≡ Some s → (t : List ℕ) → length t ≡ state_length
    → open_image (given_image g) t ≡ image_of (run_of s start)

-- from the image of any history on: "Putting an older one back goes back to its history"
abbrev pub CallsAreRuns : Type 0
CallsAreRuns = (g : Given) (s : Settings) → Held g → open_of g ≡ Some s → (h : History Input) (cs : List Call)
    → image_run (given_image g) (image_of (run_of s h)) cs ≡ image_of (run_of s (history_of s h cs))

-- ---- A5: what an earlier image grows to is not refused, and holds its state, in which nothing waits; so CallsAreTicks speaks of it
pub record GrownTo (l e t : List ℕ) : Type 0 where
  pub passes : refusal_by l (grow_image l e t) ≡ 0
  pub state : state_by l (grow_image l e t) ≡ state_at e
  pub none : (state_at e).waiting ≡ none_waiting

abbrev pub GrowsPass : Type 0
GrowsPass = (l e t : List ℕ) → grow_answer l e (length t) ≡ 0 → GrownTo l e t

-- and no image that an earlier program kept is refused. That program refused writes outside 00 with 3; its run is one without those
-- writes, in which nothing waits. Today's image of it, without its last 32 bytes, is the one that was kept, and grows to the whole.
pub record GrownBack (l e t : List ℕ) (st : State) : Type 0 where
  pub told : grow_answer l e (length t) ≡ 0
  pub image : grow_image l e t ≡ image_of st

abbrev pub GrowsARun : Type 0
GrowsARun = (g : Given) (s : Settings) → Held g → open_of g ≡ Some s → (h : History Input) → (run_of s h).waiting ≡ none_waiting
    → (t : List ℕ) → length t ≡ state_length
    → GrownBack (given_image g) (take earlier_length (image_of (run_of s h))) t (run_of s h)

-- the same of a run of the program before A6
abbrev pub GrowsEarlier : Type 0
GrowsEarlier = (g : Given) (s : Settings) → Held g → open_of g ≡ Some s → (is : List Input) →
    let st = foldl (earlier_tick s) open_state is in
    st.waiting ≡ none_waiting → (t : List ℕ) → length t ≡ state_length → GrownBack (given_image g) (take earlier_length (image_of st)) t st

-- ---- the byte for a reply's length holds all of it
abbrev pub LengthTold : Type 0
LengthTold = (s : Settings) (st : State) (count : ℤ) (contact : Bool) (receive reply : List ℕ)
    → length_byte (line_tick_of s st count contact receive reply).length ≡ (line_tick_of s st count contact receive reply).length
