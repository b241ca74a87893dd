-- The outline's section "One tick, in this order", the opening state, and blocks.
use Rattle.std.specs.Prelude.{Bool, false, cond, not, ◌&&◌, leb, length, ℤ, pos, Option, None, Some, Ok, Err}
use mathlib.Core.List.{List, [], ◌∷◌, foldl}
use Rattle.types.specs.declared.settings.Settings.{Settings}
use Rattle.types.specs.declared.weight.Weights.{Weights}
use Rattle.types.specs.declared.weight.Display.TheVariants as display
use Rattle.types.specs.declared.stages.Advanced.{Advanced}
use Rattle.types.specs.declared.machine.State.{State}
use Rattle.types.specs.declared.machine.Input.{Input}
use Rattle.types.specs.declared.machine.Settled.{Settled}
use Rattle.types.specs.declared.machine.Reading.{Reading}
use Rattle.types.specs.declared.machine.Answer.{Answer}
use Rattle.types.specs.declared.machine.Ticked.{Ticked}
use Rattle.types.specs.declared.machine.Blocked.{Blocked}
use Rattle.types.specs.declared.machine.BlockRefusal.TheVariants as block
use Rattle.outline.specs.Limits.{block_limit}
use Rattle.outline.specs.Weight.{raw_of, weigh_of, steadied_of, fit_of, displayed_of}
use Rattle.outline.specs.DayBook.{open_book, book_of}
use Rattle.outline.specs.Zero.{tracked_of}
use Rattle.outline.specs.Setpoints.{open_setpoints, none_waiting, near_of, full_of}
use Rattle.outline.specs.Stages.{open_sequence, compared_of, facts_of, advance_of, idle_of, gates_of}
use Rattle.outline.specs.Totals.{clear_totals, booked_totals, booked_sequence}
use Rattle.outline.specs.Parts.{with_book, with_stability, with_weighing, with_sequence, with_totals, pick_state}
use Rattle.outline.specs.Requests.{idle_now, comes_in, decided_of}
use Rattle.outline.specs.Analog.{analog_of}

-- "Opening: zero, tare, totals, setpoints and error 0, stage 00, display gross, no judgement, nothing to take back, no good tick yet.";
-- and no setpoints waiting (A5)
unfoldable pub open_state : State
open_state = record {
  book = open_book;
  stability = record { good = false; run = 0 };
  weighing = record { zero = pos 0; tracked = pos 0; tare = pos 0; counter = 0 };
  panel = record { display = display.Gross };
  setpoints = open_setpoints;
  waiting = none_waiting;
  sequence = open_sequence;
  totals = clear_totals;
}

-- the state that an opening gives: "answer 10 and no state", or the opening state
abbrev pub opened_of : Option Settings → List State
opened_of None = []
opened_of (Some s) = open_state ∷ []

-- "2. Day book.", and of step 3 the stability. The change of raw is from the last good raw as it was before this tick.
unfoldable pub entered_of : Settings → State → Option ℤ → Bool → State
entered_of s st raw contact =
    with_stability (with_book st (book_of st.book raw contact)) (steadied_of s.steadiness st.stability st.book.last raw)

-- "3. Gross, overload, stability.": the weights, with the zero and the tare of a state
unfoldable pub weights_of : Settings → State → Option ℤ → Bool → Weights
weights_of s st raw contact = weigh_of s st.stability st.weighing raw contact

-- "4. The tick's request (at most one)."
unfoldable pub settled_of : Settings → State → Input → Settled
settled_of s st i =
    let raw = raw_of s.calibration i.count in
    let entered = entered_of s st raw i.contact in
    decided_of s entered (weights_of s entered raw i.contact) i.request

-- "Step 4's weights serve steps 5, 6 and every output answered": worked out again with the zero and tare that step 4 leaves.
unfoldable pub served_of : Settings → State → Input → Weights
served_of s st i = weights_of s (settled_of s st i).state (raw_of s.calibration i.count) i.contact

-- "5. Tracking." The stage is that which step 4 leaves: step 6 has not run.
unfoldable pub with_tracking : Settings → Settled → Weights → State
with_tracking s a x = with_weighing a.state (tracked_of s (idle_now a.state) a.keyed x a.state.weighing)

-- a finished batch is booked
unfoldable pub finished_of : Settings → State → Weights → Advanced → State
finished_of s st x a =
    let v = compared_of s.batching.mode x in
    pick_state a.finished
    (with_totals (with_sequence st (booked_sequence st.totals v a.sequence)) (booked_totals st.totals v))
    (with_sequence st a.sequence)

-- A5: "It comes into use at the tick the stage returns to 00, by finish or error, after judgement and booking."
abbrev pub landed_of : Settings → State → Weights → Advanced → State
landed_of s st x a = comes_in (not (idle_now st) && idle_of a.sequence.stage) (finished_of s st x a)

-- "6. Sequence."
unfoldable pub stepped_of : Settings → State → Weights → State
stepped_of s st x =
    landed_of s st x (advance_of s.batching st.setpoints st.sequence (facts_of s.batching.mode st.setpoints x))

-- steps 5 and 6; "Step 6 is passed over in a tick with an accepted start, or a stop.", and with an accepted discharge
unfoldable pub ended_of : Settings → Settled → Weights → State
ended_of s a x = pick_state a.held (with_tracking s a x) (stepped_of s (with_tracking s a x) x)

-- the state after the tick
unfoldable pub next_of : Settings → State → Input → State
next_of s st i = ended_of s (settled_of s st i) (served_of s st i)

abbrev pub reading_of : Weights → Reading
reading_of x = record { good = x.good; overload = x.overload; stable = x.stable; gross = x.gross; net = x.net }

-- "stage, gates, judgement and the setpoints in use are those after step 6", and so is the error; `st` is the state after it
unfoldable pub outputs_of : Settings → Settled → Weights → State → Answer
outputs_of s a x st = record {
  outcome = a.outcome;
  reading = reading_of x;
  stage = st.sequence.stage;
  gates = gates_of st.setpoints st.sequence.stage;
  judgement = st.sequence.judgement;
  error = st.sequence.error;
  near = near_of st.setpoints x;
  full = full_of s.batching.mode st.setpoints x;
  analog = analog_of s.board s.scale (displayed_of a.state.panel.display x) (fit_of x);
  closed = a.closed;
}

unfoldable pub tick_of : Settings → State → Input → Ticked
tick_of s st i = record { state = next_of s st i; answer = outputs_of s (settled_of s st i) (served_of s st i) (next_of s st i) }

-- the input of a tick that is asked nothing
abbrev pub unasked_of : ℤ → Bool → Input
unasked_of count contact = record { count = count; contact = contact; request = None }

-- ---- blocks
-- one count of a block: a tick with the block's contact and no request
unfoldable pub count_in : Settings → Bool → State → ℤ → State
count_in s contact st count = next_of s st (unasked_of count contact)

-- "A block of up to 4,096 counts may be lent at once, with one refill contact value and no requests; it does exactly what those ticks
-- do one after another and answers 0 and the state, an empty one too. A longer block is refused with 15, state unchanged."
unfoldable pub block_of : Settings → State → List ℤ → Bool → Blocked
block_of s st counts contact =
    cond (leb (length counts) block_limit)
    (record { answer = Ok tt; state = foldl (count_in s contact) st counts })
    (record { answer = Err block.TooLong; state = st })
