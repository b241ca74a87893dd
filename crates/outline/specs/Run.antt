-- A run: the state after an opening and then any ticks, each with its count, its contact and its request.
use Rattle.std.specs.Prelude.{Bool, false, cond, leb, length, ℤ, ℕ}
use mathlib.Core.List.{List, [], ◌∷◌, foldl}
use Rattle.types.specs.declared.settings.Settings.{Settings}
use Rattle.types.specs.declared.machine.State.{State}
use Rattle.types.specs.declared.machine.Input.{Input}
use Rattle.outline.specs.Tick.{open_state, next_of, unasked_of}
use Rattle.outline.specs.Replies.{asked_of, due_text}
use Rattle.outline.specs.Log.{is_none, received_of}

-- what came, in the order of time: `h ▷ i` is h and then i
infixl 40 ◌▷◌
pub data History (A : Type 0) : Type 0 where
  start : History A
  ◌▷◌ : History A → A → History A

unfoldable pub run_of : Settings → History Input → State
run_of s start = open_state
run_of s (h ▷ i) = next_of s (run_of s h) i

-- the state after the ticks of a list, from whatever state
unfoldable pub run_from : Settings → State → List Input → State
run_from s st is = foldl (next_of s) st is

-- a history and then the inputs of a list, the first one first
unfoldable pub then_all : {A : Type 0} → History A → List A → History A
then_all h is = foldl ◌▷◌ h is

-- the ticks of a block: its counts, with its contact and no request
unfoldable pub block_inputs : List ℤ → Bool → List Input
block_inputs [] contact = []
block_inputs (count ∷ counts) contact = unasked_of count contact ∷ block_inputs counts contact

-- the tick that a line makes: with the line's request, or with none where the reply due does not fit
unfoldable pub line_input : Settings → State → ℤ → Bool → List ℕ → List ℕ → Input
line_input s st count contact receive buffer =
    cond (leb (length (due_text s st count contact receive)) (length buffer)) (asked_of s count contact receive) (unasked_of count contact)

-- the tick that a line of a log makes: that of its command, or one asked nothing where it has none
unfoldable pub log_input : Settings → State → ℤ → Bool → List ℕ → List ℕ → Input
log_input s st count contact request buffer =
    cond (is_none request) (unasked_of count contact) (line_input s st count contact (received_of request) buffer)

-- the same tick, asked nothing
abbrev pub without_request : Input → Input
without_request i = unasked_of i.count i.contact

-- the same tick, with the refill contact open
abbrev pub contact_open : Input → Input
contact_open i = record { count = i.count; contact = false; request = i.request }
