-- What stays true after any ticks and requests from an accepted opening: demand 3, as named statements. They are proved in proofs/,
-- and `every_run` has them as its `ensures`. Histories stand in Run, Day, Zeroing, Ledger and Writes, ranges in
-- Ranges.
use Rattle.std.specs.Prelude.{ℕ, ◌+◌, ◌≤◌, ◌≡◌, Bool, true, false, ◌&&◌, ◌||◌, length, take, drop, ℤ, pos, nat_abs, ◌+ℤ◌, ◌-ℤ◌, Option}
use Rattle.std.specs.Prelude.{None, Some, Ok, Err}
use mathlib.Core.List.{List, [], ◌∷◌, foldl}
use Rattle.types.specs.declared.settings.Settings.{Settings}
use Rattle.types.specs.declared.requests.Request.TheVariants as request
use Rattle.types.specs.declared.requests.Refusal.TheVariants as refusal
use Rattle.types.specs.declared.stages.Setpoints.{Setpoints}
use Rattle.types.specs.declared.stages.Gates.{Gates}
use Rattle.types.specs.declared.stages.Totals.{Totals}
use Rattle.types.specs.declared.machine.State.{State}
use Rattle.types.specs.declared.machine.Input.{Input}
use Rattle.types.specs.declared.machine.Answer.{Answer}
use Rattle.types.specs.declared.lines.Order.TheVariants as order
use Rattle.types.specs.declared.lines.LineTick.{LineTick}
use Rattle.types.specs.declared.lines.Word.TheVariants as word
use Rattle.outline.specs.Limits.{block_limit, total_limit, batch_limit}
use Rattle.outline.specs.Weight.{fit_of}
use Rattle.outline.specs.DayBook.{open_book}
use Rattle.outline.specs.Setpoints.{open_setpoints, none_waiting, latest_of}
use Rattle.outline.specs.Stages.{shut, idle_of, discharging_of}
use Rattle.outline.specs.Totals.{clear_totals, taken_back}
use Rattle.outline.specs.Parts.{with_book, with_weighing, with_setpoints, with_waiting}
use Rattle.outline.specs.Requests.{idle_now, done_of}
use Rattle.outline.specs.Tick.{open_state, settled_of, served_of, next_of, tick_of, block_of}
use Rattle.outline.specs.Lines.{line_of, prefix_length, command_of}
use Rattle.outline.specs.Replies.{framed, due_text, line_tick_of}
use Rattle.outline.specs.Log.{request_tick}
use Rattle.outline.specs.Owed.{Accepted}
use Rattle.outline.specs.Kinds.{Asked, nothing, undo, clear, request_kind, is_write}
use Rattle.outline.specs.Run.{History, ◌▷◌, run_of, run_from, then_all, block_inputs, line_input, log_input, without_request, contact_open}
use Rattle.outline.specs.Day.{tape_of, book_history}
use Rattle.outline.specs.Zeroing.{seen_run, zeroing_of, sum_of, AllWithin}
use Rattle.outline.specs.Ledger.{event_run, ledger_of, sum_n}
use Rattle.outline.specs.Writes.{points_run, written_since, written_last}
use Rattle.outline.specs.Ranges.{Balanced, StateRange, WeightsRange, Unstopped}
use Rattle.types.specs.declared.stages.SequenceError.TheVariants as error

-- ---- 1. "the day balances (opening + refilled - used - unbooked is the last good raw)"
abbrev pub Balance : Type 0
Balance = (s : Settings) → Accepted s → (h : History Input) →
    let b = (run_of s h).book in
    b.opening +ℤ b.refilled -ℤ b.used -ℤ b.unbooked ≡ b.last

-- ---- 2. "the sums are those of the tick history, from counts and the refill contact alone"; exactly, so the guard on
-- the sums acts in no run. The tape has the accepted day closes too.
abbrev pub SumsOfHistory : Type 0
SumsOfHistory = (s : Settings) → Accepted s → (h : History Input) → (run_of s h).book ≡ book_history s.calibration (tape_of h)

-- ---- 3. "whatever else is asked or set": two runs with the same calibration, counts, contacts and accepted closes have the same book
abbrev pub NothingElse : Type 0
NothingElse = (s s' : Settings) → Accepted s → Accepted s' → (h h' : History Input)
    → s.calibration ≡ s'.calibration → tape_of h ≡ tape_of h' → (run_of s h).book ≡ (run_of s' h').book

-- ---- 4. "the zero in force is the last keyed one plus the tracking moves since, whose sum never passes the allowance"
pub record ZeroOf (s : Settings) (h : History Input) : Type 0 where
  pub zero :
      let z = zeroing_of s (seen_run s h) in
      (run_of s h).weighing.zero ≡ z.keyed +ℤ sum_of z.moves
  pub tracked : (run_of s h).weighing.tracked ≡ sum_of (zeroing_of s (seen_run s h)).moves
  pub allowance : nat_abs (sum_of (zeroing_of s (seen_run s h)).moves) ≤ s.tracking.allowance
  pub at_each_move : AllWithin s.tracking.allowance (zeroing_of s (seen_run s h)).moves

abbrev pub ZeroInForce : Type 0
ZeroInForce = (s : Settings) → Accepted s → (h : History Input) → ZeroOf s h

-- ---- 5. "the total is the batches booked since the last clear less those taken back"
pub record TotalsOf (s : Settings) (h : History Input) : Type 0 where
  pub total :
      let l = ledger_of (event_run s h) in
      (run_of s h).totals.total + sum_n l.taken ≡ sum_n l.booked
  pub count :
      let l = ledger_of (event_run s h) in
      (run_of s h).totals.count + length l.taken ≡ length l.booked
  pub total_limit_lem : (run_of s h).totals.total ≤ total_limit
  pub count_limit_lem : (run_of s h).totals.count ≤ batch_limit

abbrev pub TotalOfBatches : Type 0
TotalOfBatches = (s : Settings) → Accepted s → (h : History Input) → TotalsOf s h

-- ---- 6. "no gate is open while a sequence error stands": in every answer of every tick; A1: "Demand 3 now speaks of four gates."
abbrev pub GatesShut : Type 0
GatesShut = (s : Settings) → Accepted s → (h : History Input) (i : Input) →
    let a = (tick_of s (run_of s h) i).answer in
    (a.error ≡ error.None → ⊥) → a.gates ≡ shut

-- ---- 7. every state reached is in range, and the weights of its next tick are
pub record Within (s : Settings) (h : History Input) : Type 0 where
  pub state : StateRange s (run_of s h)
  pub weights : (i : Input) → WeightsRange s.range (served_of s (run_of s h) i)
  pub unstopped : (i : Input) → Unstopped s.range (settled_of s (run_of s h) i).state.weighing (served_of s (run_of s h) i)

abbrev pub InRange : Type 0
InRange = (s : Settings) → Accepted s → (h : History Input) → Within s h

-- ---- 8. a refused request leaves every part of the state, and every output, as the tick without it does
pub record AsUnasked (s : Settings) (st : State) (i : Input) : Type 0 where
  pub state : (tick_of s st i).state ≡ (tick_of s st (without_request i)).state
  pub reading : (tick_of s st i).answer.reading ≡ (tick_of s st (without_request i)).answer.reading
  pub stage : (tick_of s st i).answer.stage ≡ (tick_of s st (without_request i)).answer.stage
  pub gates : (tick_of s st i).answer.gates ≡ (tick_of s st (without_request i)).answer.gates
  pub judgement : (tick_of s st i).answer.judgement ≡ (tick_of s st (without_request i)).answer.judgement
  pub error : (tick_of s st i).answer.error ≡ (tick_of s st (without_request i)).answer.error
  pub near : (tick_of s st i).answer.near ≡ (tick_of s st (without_request i)).answer.near
  pub full : (tick_of s st i).answer.full ≡ (tick_of s st (without_request i)).answer.full
  pub analog : (tick_of s st i).answer.analog ≡ (tick_of s st (without_request i)).answer.analog
  pub closed : (tick_of s st i).answer.closed ≡ None

abbrev pub Refusals : Type 0
Refusals = (s : Settings) (st : State) (i : Input) → done_of (tick_of s st i).answer.outcome ≡ false → AsUnasked s st i

-- ---- 9. "Setpoints written on the line read back as the same figures"
-- the tick writes setpoints: it is asked to, and accepts
abbrev pub sets_at : Settings → State → Input → Bool
sets_at s st i = is_write (request_kind i.request).writes && done_of (tick_of s st i).answer.outcome

-- none of the ticks does, from a state on; writes that are refused may be among them
abbrev pub NoneSet : Settings → State → List Input → Type 0
NoneSet s st [] = Unit {0}
NoneSet s st (i ∷ is) = (sets_at s st i ≡ false) × NoneSet s (next_of s st i) is

-- the 42 bytes after SS
abbrev pub figures_of : Settings → List ℕ → List ℕ
figures_of s receive = take 42 (drop (prefix_length s.address + 2) (line_of receive))

-- an accepted SS, then any ticks of which none writes setpoints, then RS: the reply due to it is the figures of SS, with prefix and CR LF
abbrev pub ReadBack : Type 0
ReadBack = (s : Settings) → Accepted s → (h : History Input) (count : ℤ) (contact : Bool) (receive buffer : List ℕ) (p : Setpoints)
    → command_of receive s.address ≡ Ok (order.Set p)
    → (line_tick_of s (run_of s h) count contact receive buffer).told ≡ Ok tt
    → let after = h ▷ line_input s (run_of s h) count contact receive buffer in
    (later : List Input) → NoneSet s (run_of s after) later
    → (count' : ℤ) (contact' : Bool) (receive' : List ℕ) → command_of receive' s.address ≡ Ok (order.Do word.ReadSetpoints)
    → due_text s (run_of s (then_all after later)) count' contact' receive' ≡ framed s.address (figures_of s receive)

-- ---- 10. what a day close answers is the book that the same tick without the close would have left
abbrev pub Ticket : Type 0
Ticket = (s : Settings) (st : State) (i : Input) → i.request ≡ Some request.DayClose → (tick_of s st i).answer.outcome ≡ Ok tt
    → (tick_of s st i).answer.closed ≡ Some (next_of s st (without_request i)).book

-- ---- 11. blocks, ticks with lines and ticks of a log are runs
abbrev pub BlocksAreRuns : Type 0
BlocksAreRuns = (s : Settings) (h : History Input) (counts : List ℤ) (contact : Bool) → length counts ≤ block_limit
    → (block_of s (run_of s h) counts contact).state ≡ run_of s (then_all h (block_inputs counts contact))

-- the run's tick of this input, in the state and in the answer, so that all that is said of either holds
pub record IsTick (s : Settings) (h : History Input) (i : Input) (t : LineTick) : Type 0 where
  pub state : t.state ≡ run_of s (h ▷ i)
  pub answer : t.answer ≡ (tick_of s (run_of s h) i).answer

abbrev pub LinesAreRuns : Type 0
LinesAreRuns = (s : Settings) (h : History Input) (count : ℤ) (contact : Bool) (receive buffer : List ℕ)
    → IsTick s h (line_input s (run_of s h) count contact receive buffer) (line_tick_of s (run_of s h) count contact receive buffer)

abbrev pub LogsAreRuns : Type 0
LogsAreRuns = (s : Settings) (h : History Input) (count : ℤ) (contact : Bool) (request buffer : List ℕ)
    → IsTick s h (log_input s (run_of s h) count contact request buffer) (request_tick s (run_of s h) count contact request buffer)

-- ---- 12. A1: "Feed and discharge are never open together.": in the answer of a tick of whatever state
abbrev pub both_open : Gates → Bool
both_open g = (g.large || g.medium || g.small) && g.discharge

abbrev pub NeverTogether : Type 0
NeverTogether = (s : Settings) (st : State) (i : Input) → both_open (tick_of s st i).answer.gates ≡ false

-- ---- 13. A1: a discharge is no batch: of itself it changes neither total nor count nor what can be taken back nor the judgement
-- what a request makes of the totals by itself; an undo that is refused has nothing to take back
abbrev pub totals_asked : Asked → Totals → Totals
totals_asked nothing t = t
totals_asked undo t = taken_back t
totals_asked clear t = clear_totals

pub record Kept (s : Settings) (st : State) (i : Input) : Type 0 where
  pub totals : (next_of s st i).totals ≡ totals_asked (request_kind i.request).ledger st.totals
  pub judgement : (next_of s st i).sequence.judgement ≡ st.sequence.judgement

-- in the tick that begins it, and in every tick that finds it under way, the one that ends it too, whether by near zero or by an error
pub record Discharges (s : Settings) (st : State) (i : Input) : Type 0 where
  pub begins : i.request ≡ Some request.Discharge → (tick_of s st i).answer.outcome ≡ Ok tt → Kept s st i
  pub goes_on : discharging_of st.sequence.stage ≡ true → Kept s st i

abbrev pub DischargeIsNoBatch : Type 0
DischargeIsNoBatch = (s : Settings) (st : State) (i : Input) → Discharges s st i

-- ---- 14. A3: what stays true from every state that is in range and whose day balances, whoever made it
pub record Keeps (s : Settings) (st : State) : Type 0 where
  -- the tracked sum keeps the allowance, as every field keeps its range
  pub range : StateRange s st
  pub balance : Balanced st.book
  pub gates : (i : Input) →
      let a = (tick_of s st i).answer in
      (a.error ≡ error.None → ⊥) → a.gates ≡ shut

abbrev pub FromRange : Type 0
FromRange = (s : Settings) (st : State) → StateRange s st → Balanced st.book → (is : List Input) → Keeps s (run_from s st is)

-- ---- 15. A5: the waiting set is the last accepted write since the stage was last 00, and there is none in 00
abbrev pub WaitingOfWrites : Type 0
WaitingOfWrites = (s : Settings) → Accepted s → (h : History Input) → (run_of s h).waiting ≡ written_since (points_run s h)

-- ---- 16. A5: the set in use never changes outside 00: a tick that changes it, in whatever state, answers stage 00
abbrev pub InUseStays : Type 0
InUseStays = (s : Settings) (st : State) (i : Input) → idle_of (tick_of s st i).answer.stage ≡ false
    → (next_of s st i).setpoints ≡ st.setpoints

-- ---- 17. A5: "It comes into use": the waiting set, or the set in use where none waits, is the last accepted write of the run; in 00 the
-- set in use is
pub record Latest (s : Settings) (h : History Input) : Type 0 where
  pub read : Some (latest_of (run_of s h).setpoints (run_of s h).waiting) ≡ written_last (points_run s h)
  pub in_use : idle_now (run_of s h) ≡ true → Some (run_of s h).setpoints ≡ written_last (points_run s h)

abbrev pub LatestOfWrites : Type 0
LatestOfWrites = (s : Settings) → Accepted s → (h : History Input) → Latest s h

-- ---- 18. A5: "after judgement and booking", which are by the set in use: whatever waits, a tick of whatever state leaves the same stage,
-- judgement, error and totals, and the same of every other part but the two sets
abbrev pub beside_sets : State → State
beside_sets st = with_waiting (with_setpoints st open_setpoints) none_waiting

abbrev pub WaitingAside : Type 0
WaitingAside = (s : Settings) (st : State) (w : Option Setpoints) (i : Input)
    → beside_sets (next_of s (with_waiting st w) i) ≡ beside_sets (next_of s st i)

-- ---- 19. A5: and a write outside 00, in the tick of a finish or an error too, does no more than none does to any part but the two sets
abbrev pub WriteAside : Type 0
WriteAside = (s : Settings) (st : State) (i : Input) (p : Setpoints) → idle_now st ≡ false → i.request ≡ Some (request.Set p)
    → beside_sets (next_of s st i) ≡ beside_sets (next_of s st (without_request i))

-- ---- 20. A6: in whatever state, a tick with the refill contact closed leaves the zero in force as it was, whatever is asked. It leaves
-- the sum of the tracking moves too, "the tracking counter returns to 0", and a zero is refused: with 8 where the tick is good, without
-- overload and in 00. (Statement 4 takes from the tick whether a zero was keyed; this one alone says that none is.)
pub record Connected (s : Settings) (st : State) (i : Input) : Type 0 where
  pub zero : (next_of s st i).weighing.zero ≡ st.weighing.zero
  pub tracked : (next_of s st i).weighing.tracked ≡ st.weighing.tracked
  pub counter : (next_of s st i).weighing.counter ≡ 0
  pub refused : i.request ≡ Some request.Zero → done_of (tick_of s st i).answer.outcome ≡ false
  pub number : i.request ≡ Some request.Zero → fit_of (served_of s st i) ≡ true → idle_now st ≡ true
      → (tick_of s st i).answer.outcome ≡ Err refusal.ContactClosed

abbrev pub ZeroWhileConnected : Type 0
ZeroWhileConnected = (s : Settings) (st : State) (i : Input) → i.contact ≡ true → Connected s st i

-- ---- 21. A6: so a whole refill does, however many ticks it has
abbrev pub AllClosed : List Input → Type 0
AllClosed [] = Unit {0}
AllClosed (i ∷ is) = (i.contact ≡ true) × AllClosed is

pub record Unmoved (st st' : State) : Type 0 where
  pub zero : st'.weighing.zero ≡ st.weighing.zero
  pub tracked : st'.weighing.tracked ≡ st.weighing.tracked

abbrev pub ZeroThroughRefill : Type 0
ZeroThroughRefill = (s : Settings) (st : State) (is : List Input) → AllClosed is → Unmoved st (run_from s st is)

-- ---- 22. A6: 8 is "to zero only": whatever else is asked, in whatever state, a tick answers the same with the contact closed and with it
-- open, but for the sums of a day that it closes, and leaves the same of all parts but the day book and the zero with its tracking
abbrev pub beside_day : Answer → Answer
beside_day a = record {
  outcome = a.outcome;
  reading = a.reading;
  stage = a.stage;
  gates = a.gates;
  judgement = a.judgement;
  error = a.error;
  near = a.near;
  full = a.full;
  analog = a.analog;
  closed = None;
}

-- without book, zero and tracking; the tare stays
abbrev pub beside_zero : State → State
beside_zero st = with_weighing (with_book st open_book) (record { zero = pos 0; tracked = pos 0; tare = st.weighing.tare; counter = 0 })

pub record AlikeOpen (s : Settings) (st : State) (i : Input) : Type 0 where
  pub answer : beside_day (tick_of s st i).answer ≡ beside_day (tick_of s st (contact_open i)).answer
  pub state : beside_zero (next_of s st i) ≡ beside_zero (next_of s st (contact_open i))

abbrev pub ToZeroOnly : Type 0
ToZeroOnly = (s : Settings) (st : State) (i : Input) → (i.request ≡ Some request.Zero → ⊥) → AlikeOpen s st i

-- ---- 23. A6 narrows no range: what the program before it could reach still keeps all that is asked of a state, so that its images pass.
-- To that program the contact was of the day book alone: its tick is today's with the contact open, with the book of today's.
abbrev pub earlier_tick : Settings → State → Input → State
earlier_tick s st i = with_book (next_of s st (contact_open i)) (next_of s st i).book

abbrev pub EarlierKeeps : Type 0
EarlierKeeps = (s : Settings) (is : List Input) → Keeps s (foldl (earlier_tick s) open_state is)
