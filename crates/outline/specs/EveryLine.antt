-- What holds of every tick with a line, whatever the two buffers: the outline's section "Serial lines" as named statements, for whatever
-- settings and state, or for every run (4 and 5). They are proved in proofs/, and `every_line` has them as its `ensures`.
use Rattle.std.specs.Prelude.{ℕ, ◌≤◌, ◌≡◌, Bool, true, false, ◌&&◌, ◌||◌, List, ◌++◌, leb, length, drop, ℤ, Some, Ok, Err}
use Rattle.types.specs.declared.settings.Settings.{Settings}
use Rattle.types.specs.declared.stages.Setpoints.{Setpoints}
use Rattle.types.specs.declared.machine.State.{State}
use Rattle.types.specs.declared.machine.Input.{Input}
use Rattle.types.specs.declared.lines.LineKind.{LineKind}
use Rattle.types.specs.declared.lines.LineTick.{LineTick}
use Rattle.types.specs.declared.lines.LineKind.TheVariants as kind
use Rattle.types.specs.declared.lines.Word.{Word}
use Rattle.types.specs.declared.lines.Word.TheVariants as word
use Rattle.types.specs.declared.lines.Order.TheVariants as order
use Rattle.types.specs.declared.lines.LineFault.TheVariants as fault
use Rattle.types.specs.declared.lines.LineRefusal.TheVariants as told
use Rattle.outline.specs.Limits.{line_limit}
use Rattle.outline.specs.Stages.{shut}
use Rattle.outline.specs.Tick.{settled_of, next_of, tick_of, unasked_of}
use Rattle.outline.specs.Lines.{line_of, kind_of, prefix_length, is_prefixed, body_of, command_of}
use Rattle.outline.specs.Numbers.{told_number}
use Rattle.outline.specs.Replies.{framed, outcome_told, asked_of, due_text, line_tick_of, reply_buffer}
use Rattle.outline.specs.Owed.{Accepted}
use Rattle.outline.specs.Run.{History, ◌▷◌, run_of, then_all, line_input}
use Rattle.outline.specs.StaysTrue.{NoneSet, figures_of, both_open}
use Rattle.types.specs.declared.stages.SequenceError.TheVariants as error

-- ---- 1. a reply has at most 64 bytes, prefix and CR LF among them, and never more than its buffer
pub record Bounded (s : Settings) (st : State) (count : ℤ) (contact : Bool) (receive buffer : List ℕ) : Type 0 where
  pub line : (line_tick_of s st count contact receive buffer).length ≤ line_limit
  pub room : (line_tick_of s st count contact receive buffer).length ≤ length buffer

abbrev pub ReplyBounded : Type 0
ReplyBounded = (s : Settings) (st : State) (count : ℤ) (contact : Bool) (receive buffer : List ℕ)
    → Bounded s st count contact receive buffer

-- ---- 2. an empty reply leaves every byte of the buffer
pub record Empty (s : Settings) (st : State) (count : ℤ) (contact : Bool) (receive buffer : List ℕ) : Type 0 where
  pub none : (line_tick_of s st count contact receive buffer).length ≡ 0
  pub bytes : reply_buffer s st count contact receive buffer ≡ buffer

-- "A 12, no line and a line over 64 bytes have an empty reply"; "14 reply buffer shorter than the reply due, every byte of it
-- unchanged"; "Bytes past the reply stay."
pub record Untouched (s : Settings) (st : State) (count : ℤ) (contact : Bool) (receive buffer : List ℕ) : Type 0 where
  pub no_line : kind_of receive ≡ kind.NoLine → Empty s st count contact receive buffer
  pub long_line : kind_of receive ≡ kind.Long → Empty s st count contact receive buffer
  pub other_address :
      (line_tick_of s st count contact receive buffer).told ≡ Err told.OtherAddress → Empty s st count contact receive buffer
  pub short_buffer : (line_tick_of s st count contact receive buffer).told ≡ Err told.ShortBuffer → Empty s st count contact receive buffer
  pub past :
      let n = (line_tick_of s st count contact receive buffer).length in
      drop n (reply_buffer s st count contact receive buffer) ≡ drop n buffer
  pub size : length (reply_buffer s st count contact receive buffer) ≡ length buffer

abbrev pub BytesStay : Type 0
BytesStay = (s : Settings) (st : State) (count : ℤ) (contact : Bool) (receive buffer : List ℕ)
    → Untouched s st count contact receive buffer

-- ---- 3. what a line is answered
-- 0, a request's refusal 1 to 9, or a line's 11 to 14
abbrev pub is_answer : ℕ → Bool
is_answer n = leb n 9 || (leb 11 n && leb n 14)

-- an empty line is one too
abbrev pub is_line : LineKind → Bool
is_line kind.NoLine = false
is_line kind.Long = false
is_line kind.Empty = true
is_line kind.Text = true

abbrev pub is_fitting : Settings → State → ℤ → Bool → List ℕ → List ℕ → Bool
is_fitting s st count contact receive buffer = leb (length (due_text s st count contact receive)) (length buffer)

-- "Refusals in order: 12 prefix missing or of another address; 11 ..; 13 unknown command; 14 reply buffer shorter than the reply due
-- .. It replaces a number whose NG does not fit. The tests for no line and for 64 bytes come before 12."
pub record Answered (s : Settings) (st : State) (count : ℤ) (contact : Bool) (receive buffer : List ℕ) : Type 0 where
  pub number : is_answer (told_number (line_tick_of s st count contact receive buffer).told) ≡ true
  -- no line, and a line over 64 bytes: 11, also in a buffer without a byte
  pub no_line : is_line (kind_of receive) ≡ false → (line_tick_of s st count contact receive buffer).told ≡ Err told.Malformed
  -- else a prefix missing or of another address: 12, likewise
  pub other_address : is_line (kind_of receive) ≡ true → is_prefixed (line_of receive) s.address ≡ false
      → (line_tick_of s st count contact receive buffer).told ≡ Err told.OtherAddress
  -- 14 stands for every answer whose reply has no room; the two above have an empty reply, which always has
  pub short_buffer : is_fitting s st count contact receive buffer ≡ false
      → (line_tick_of s st count contact receive buffer).told ≡ Err told.ShortBuffer
  -- else 11 or 13, by what stands after the prefix
  pub malformed : is_line (kind_of receive) ≡ true → is_prefixed (line_of receive) s.address ≡ true
      → body_of (line_of receive) (prefix_length s.address) ≡ Err fault.Malformed → is_fitting s st count contact receive buffer ≡ true
      → (line_tick_of s st count contact receive buffer).told ≡ Err told.Malformed
  pub unknown : is_line (kind_of receive) ≡ true → is_prefixed (line_of receive) s.address ≡ true
      → body_of (line_of receive) (prefix_length s.address) ≡ Err fault.Unknown → is_fitting s st count contact receive buffer ≡ true
      → (line_tick_of s st count contact receive buffer).told ≡ Err told.Unknown
  -- else the tick's own outcome: a read, or a request by its letters
  pub word : (w : Word) → command_of receive s.address ≡ Ok (order.Do w) → is_fitting s st count contact receive buffer ≡ true
      → (line_tick_of s st count contact receive buffer).told ≡ outcome_told (settled_of s st (asked_of s count contact receive)).outcome
  pub set : (p : Setpoints) → command_of receive s.address ≡ Ok (order.Set p) → is_fitting s st count contact receive buffer ≡ true
      → (line_tick_of s st count contact receive buffer).told ≡ outcome_told (settled_of s st (asked_of s count contact receive)).outcome

abbrev pub AnsweredInOrder : Type 0
AnsweredInOrder = (s : Settings) (st : State) (count : ℤ) (contact : Bool) (receive buffer : List ℕ)
    → Answered s st count contact receive buffer

-- "After any of 11 to 14 the request is not done and the tick runs as if it had none."
pub record AsWithout (s : Settings) (st : State) (count : ℤ) (contact : Bool) (receive buffer : List ℕ) : Type 0 where
  pub answer : (line_tick_of s st count contact receive buffer).answer ≡ (tick_of s st (unasked_of count contact)).answer
  pub state : (line_tick_of s st count contact receive buffer).state ≡ (tick_of s st (unasked_of count contact)).state

abbrev pub RefusedLines : Type 0
RefusedLines = (s : Settings) (st : State) (count : ℤ) (contact : Bool) (receive buffer : List ℕ)
    → 11 ≤ told_number (line_tick_of s st count contact receive buffer).told → AsWithout s st count contact receive buffer

-- ---- 4. "Setpoints written on the line read back as the same figures"
-- the tick with a line is told 0 and replies with the text, at the buffer's start
pub record Replied (s : Settings) (st : State) (count : ℤ) (contact : Bool) (receive buffer text : List ℕ) : Type 0 where
  pub done : (line_tick_of s st count contact receive buffer).told ≡ Ok tt
  pub long : (line_tick_of s st count contact receive buffer).length ≡ length text
  pub bytes : reply_buffer s st count contact receive buffer ≡ text ++ drop (length text) buffer

-- an accepted SS, then any ticks of which none writes setpoints, then RS with room for its reply: the figures of SS stand in the buffer
abbrev pub ReadBackOnLine : Type 0
ReadBackOnLine = (s : Settings) → Accepted s → (h : History Input) (count : ℤ) (contact : Bool) (receive buffer : List ℕ) (p : Setpoints)
    → command_of receive s.address ≡ Ok (order.Set p)
    → (line_tick_of s (run_of s h) count contact receive buffer).told ≡ Ok tt
    → let after = h ▷ line_input s (run_of s h) count contact receive buffer in
    (later : List Input) → NoneSet s (run_of s after) later
    → (count' : ℤ) (contact' : Bool) (receive' buffer' : List ℕ) → command_of receive' s.address ≡ Ok (order.Do word.ReadSetpoints)
    → length (framed s.address (figures_of s receive)) ≤ length buffer'
    → Replied s (run_of s (then_all after later)) count' contact' receive' buffer' (framed s.address (figures_of s receive))

-- ---- 5. "no gate is open while a sequence error stands", four with the discharge gate (A1): in the answer of every tick with a line
abbrev pub GatesShutOnLine : Type 0
GatesShutOnLine = (s : Settings) → Accepted s → (h : History Input) (count : ℤ) (contact : Bool) (receive buffer : List ℕ) →
    let a = (line_tick_of s (run_of s h) count contact receive buffer).answer in
    (a.error ≡ error.None → ⊥) → a.gates ≡ shut

-- ---- 6. a DC that is told 0 answers the book that the same tick without it would have left
abbrev pub TicketOnLine : Type 0
TicketOnLine = (s : Settings) (st : State) (count : ℤ) (contact : Bool) (receive buffer : List ℕ)
    → command_of receive s.address ≡ Ok (order.Do word.DayClose)
    → (line_tick_of s st count contact receive buffer).told ≡ Ok tt
    → (line_tick_of s st count contact receive buffer).answer.closed ≡ Some (next_of s st (unasked_of count contact)).book

-- ---- 7. A1: "Feed and discharge are never open together.": in the answer of a tick with a line, of whatever state
abbrev pub NeverTogetherOnLine : Type 0
NeverTogetherOnLine = (s : Settings) (st : State) (count : ℤ) (contact : Bool) (receive buffer : List ℕ)
    → both_open (line_tick_of s st count contact receive buffer).answer.gates ≡ false

-- ---- 8. A6: a tick with a line and the refill contact closed, in whatever state, leaves the zero in force and the sum of the tracking
-- moves as they were, and makes the tracking counter 0
pub record ConnectedLine (st : State) (t : LineTick) : Type 0 where
  pub zero : t.state.weighing.zero ≡ st.weighing.zero
  pub tracked : t.state.weighing.tracked ≡ st.weighing.tracked
  pub counter : t.state.weighing.counter ≡ 0

abbrev pub ZeroWhileConnectedOnLine : Type 0
ZeroWhileConnectedOnLine = (s : Settings) (st : State) (count : ℤ) (receive buffer : List ℕ)
    → ConnectedLine st (line_tick_of s st count true receive buffer)
