-- The outline's section "Requests and their answers": step 4 of a tick.
use Rattle.std.specs.Prelude.{Bool, true, false, cond, not, ◌&&◌, List, [], ◌∷◌, pos, None, Some, Result, Ok, Err, Option}
use Rattle.types.specs.declared.settings.Range.{Range}
use Rattle.types.specs.declared.settings.Mode.{Mode}
use Rattle.types.specs.declared.settings.Mode.TheVariants as mode
use Rattle.types.specs.declared.settings.Settings.{Settings}
use Rattle.types.specs.declared.weight.Weights.{Weights}
use Rattle.types.specs.declared.weight.Display.TheVariants as display
use Rattle.types.specs.declared.requests.Request.{Request}
use Rattle.types.specs.declared.requests.Request.TheVariants as request
use Rattle.types.specs.declared.requests.Refusal.{Refusal}
use Rattle.types.specs.declared.requests.Refusal.TheVariants as refusal
use Rattle.types.specs.declared.stages.Setpoints.{Setpoints}
use Rattle.types.specs.declared.stages.Sequence.{Sequence}
use Rattle.types.specs.declared.stages.Totals.{Totals}
use Rattle.types.specs.declared.machine.State.{State}
use Rattle.types.specs.declared.machine.Settled.{Settled}
use Rattle.outline.specs.DayBook.{closed_of}
use Rattle.outline.specs.Zero.{in_zero_range, zeroed_of, in_tare_range, tared_of}
use Rattle.outline.specs.Setpoints.{setpoints_fit, none_waiting, waiting_for, latest_of}
use Rattle.outline.specs.Stages.{idle_of, start_sequence, stop_sequence, discharge_sequence}
use Rattle.outline.specs.Totals.{clear_totals, none_back, taken_back}
use Rattle.outline.specs.Parts.{with_book, with_weighing, with_display, with_setpoints, with_waiting, with_sequence, with_totals}
use Rattle.outline.specs.Parts.{pick_state}

-- stage 00
abbrev pub idle_now : State → Bool
idle_now st = idle_of st.sequence.stage

-- ---- the table of refusals: a number, and whether it is given now
pub record Row : Type 0 where
  pub number : Refusal
  pub applies : Bool

-- "| 1 | bad tick |"
abbrev pub row1 : Weights → Row
row1 x = record { number = refusal.BadTick; applies = not x.good }

-- "| 2 | overload |"
abbrev pub row2 : Weights → Row
row2 x = record { number = refusal.Overload; applies = x.overload }

-- "| 3 | stage is not 00 |"
abbrev pub row3 : Sequence → Row
row3 q = record { number = refusal.NotIdle; applies = not (idle_of q.stage) }

-- "| 4 | not stable |"
abbrev pub row4 : Weights → Row
row4 x = record { number = refusal.Unstable; applies = not x.stable }

-- "| 5 | outside the rules above |"
abbrev pub row5 : Bool → Row
row5 inside = record { number = refusal.OutsideRules; applies = not inside }

-- "| 6 | setpoint rules broken |"
abbrev pub row6 : Bool → Row
row6 kept = record { number = refusal.SetpointRules; applies = not kept }

-- "| 7 | nothing to take back |"
abbrev pub row7 : Totals → Row
row7 t = record { number = refusal.NothingToTakeBack; applies = none_back t.back }

-- A6: "8, contact closed, to zero only": the refill contact of this tick
abbrev pub row8 : Bool → Row
row8 contact = record { number = refusal.ContactClosed; applies = contact }

-- A1: "then 9 in mode 2"
abbrev pub loss_mode : Mode → Bool
loss_mode mode.Normal = false
loss_mode mode.Loss = true

abbrev pub row9 : Mode → Row
row9 m = record { number = refusal.LossInWeight; applies = loss_mode m }

-- The column "To", turned: the rows that each request can meet, in the order in which they are tested: the numerical order, except that 8
-- is "tested after 3 and before 4" (A6). "Stop, total clear, show gross and show net are never refused here."
abbrev pub rows_to : Range → Mode → Sequence → Totals → Weights → Option Request → List Row
rows_to range mode q t x None = []
rows_to range mode q t x (Some request.Zero) = row1 x ∷ row2 x ∷ row3 q ∷ row8 x.contact ∷ row4 x ∷ row5 (in_zero_range range x.raw) ∷ []
rows_to range mode q t x (Some request.Tare) = row1 x ∷ row2 x ∷ row3 q ∷ row4 x ∷ row5 (in_tare_range range x.divisions) ∷ []
rows_to range mode q t x (Some request.TareClear) = row3 q ∷ []
rows_to range mode q t x (Some request.Start) = row1 x ∷ row2 x ∷ row3 q ∷ []
rows_to range mode q t x (Some request.Stop) = []
-- A5: "setpoints no longer answer 3; 6 stands."
rows_to range mode q t x (Some (request.Set p)) = row6 (setpoints_fit mode p) ∷ []
rows_to range mode q t x (Some request.TotalClear) = []
rows_to range mode q t x (Some request.Undo) = row7 t ∷ []
rows_to range mode q t x (Some request.ShowGross) = []
rows_to range mode q t x (Some request.ShowNet) = []
rows_to range mode q t x (Some request.DayClose) = row1 x ∷ []
-- A1: "BD takes 1, 2, 3 as start does, then 9 in mode 2."
rows_to range mode q t x (Some request.Discharge) = row1 x ∷ row2 x ∷ row3 q ∷ row9 mode ∷ []

-- "0 is accepted or nothing asked. Otherwise the first that applies, in numerical order.": the first of those rows
abbrev pub first_of : List Row → Result (Unit {0}) Refusal
first_of [] = Ok tt
first_of (r ∷ rs) = cond r.applies (Err r.number) (first_of rs)

unfoldable pub ruling_of : Settings → State → Weights → Option Request → Result (Unit {0}) Refusal
ruling_of s st x r = first_of (rows_to s.range s.batching.mode st.sequence st.totals x r)

abbrev pub done_of : Result (Unit {0}) Refusal → Bool
done_of (Ok tt) = true
done_of (Err n) = false

-- ---- what an accepted request does
-- to the state, and nothing else
abbrev pub plainly : State → Settled
plainly st = record { outcome = Ok tt; state = st; held = false; keyed = false; closed = None }

-- "Step 6 is passed over in a tick with an accepted start, or a stop."; A1: "BD, like BB, .. passes step 6 over"
abbrev pub holding : State → Settled
holding st = record { outcome = Ok tt; state = st; held = true; keyed = false; closed = None }

-- a zero is keyed, which tracking asks for
abbrev pub keying : State → Settled
keying st = record { outcome = Ok tt; state = st; held = false; keyed = true; closed = None }

-- the day ends as step 2 left it, and the next begins
abbrev pub closing : State → Settled
closing st = record {
  outcome = Ok tt;
  state = with_book st (closed_of st.book);
  held = false;
  keyed = false;
  closed = Some st.book;
}

-- A5: "It comes into use at the tick the stage returns to 00". `returned`: the stage returns to 00 in this step; then the waiting set, if
-- there is one, is in use, and none waits
abbrev pub comes_in : Bool → State → State
comes_in returned st =
    with_waiting (with_setpoints st (cond returned (latest_of st.setpoints st.waiting) st.setpoints))
    (cond returned none_waiting st.waiting)

-- a stop outside 00 returns to 00 in step 4, and what waits comes into use there
abbrev pub stopped_of : State → State
stopped_of st = comes_in (not (idle_now st)) (with_sequence st (stop_sequence st.sequence))

-- A5: "A write in any stage but 00 goes to a waiting set beside the one in use"; in 00 it is in use at once
abbrev pub stored_of : State → Setpoints → State
stored_of st p =
    with_waiting (with_setpoints st (cond (idle_now st) p st.setpoints)) (cond (idle_now st) st.waiting (waiting_for p))

unfoldable pub granted_of : State → Weights → Option Request → Settled
granted_of st x None = plainly st
granted_of st x (Some request.Zero) = keying (with_weighing st (zeroed_of st.weighing x.raw))
granted_of st x (Some request.Tare) = plainly (with_weighing st (tared_of st.weighing x.gross))
-- "Tare clear makes tare 0; total clear makes total and count 0; show gross and show net choose the displayed weight."
granted_of st x (Some request.TareClear) = plainly (with_weighing st (tared_of st.weighing (pos 0)))
granted_of st x (Some request.Start) = holding (with_sequence st start_sequence)
granted_of st x (Some request.Stop) = holding (stopped_of st)
granted_of st x (Some (request.Set p)) = plainly (stored_of st p)
granted_of st x (Some request.TotalClear) = plainly (with_totals st clear_totals)
granted_of st x (Some request.Undo) = plainly (with_totals st (taken_back st.totals))
granted_of st x (Some request.ShowGross) = plainly (with_display st display.Gross)
granted_of st x (Some request.ShowNet) = plainly (with_display st display.Net)
granted_of st x (Some request.DayClose) = closing st
granted_of st x (Some request.Discharge) = holding (with_sequence st (discharge_sequence st.sequence))

-- "A refused request changes nothing; the rest of the tick goes on."
abbrev pub unless_refused : Result (Unit {0}) Refusal → State → Settled → Settled
unless_refused o st granted = record {
  outcome = o;
  state = pick_state (done_of o) granted.state st;
  held = done_of o && granted.held;
  keyed = done_of o && granted.keyed;
  closed = cond (done_of o) granted.closed None;
}

-- the request that is done: none where it is refused
abbrev pub grant_of : Result (Unit {0}) Refusal → Option Request → Option Request
grant_of (Ok tt) r = r
grant_of (Err n) r = None

-- step 4
unfoldable pub decided_of : Settings → State → Weights → Option Request → Settled
decided_of s st x r = unless_refused (ruling_of s st x r) st (granted_of st x r)
