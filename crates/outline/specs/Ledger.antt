-- The total and the count, made of the batches that finished, the undos and the clears of a run.
use Rattle.std.specs.Prelude.{ℕ, suc, ◌+◌, ◌-◌, Bool, true, false, cond, not, ◌&&◌, List, [], ◌∷◌, leb, ltb, eqb, length, ℤ, nat_abs}
use Rattle.std.specs.Prelude.{neg_ℤ, Option, None, Some}
use Rattle.std.specs.Int.Signed.{non_neg}
use Rattle.types.specs.declared.settings.Mode.{Mode}
use Rattle.types.specs.declared.settings.Mode.TheVariants as mode
use Rattle.types.specs.declared.settings.Settings.{Settings}
use Rattle.types.specs.declared.machine.State.{State}
use Rattle.types.specs.declared.machine.Input.{Input}
use Rattle.outline.specs.Limits.{total_limit, batch_limit}
use Rattle.outline.specs.Requests.{done_of}
use Rattle.outline.specs.Tick.{settled_of, served_of}
use Rattle.outline.specs.Numbers.{stage_number}
use Rattle.outline.specs.Kinds.{Asked, nothing, undo, clear, request_kind}
use Rattle.outline.specs.Run.{History, start, ◌▷◌, run_of}

-- ---- what a tick is to the totals
-- "Step 6 is passed over in a tick with an accepted start, or a stop."; A1: "BD, like BB, .. passes step 6 over"
abbrev pub passed_over : Settings → State → Input → Bool
passed_over s st i = done_of (settled_of s st i).outcome && (request_kind i.request).skips

-- "flow clock, .. one more each tick through 11, above Q, error 6": with this tick it is one more than the state before it has
abbrev pub clock_passed : Settings → State → Bool
clock_passed s st = ltb s.batching.flow (suc st.sequence.clock)

-- "11 until stable, then the batch finishes"; but a bad or overloaded tick is error 9, and one past the flow limit error 6
abbrev pub finishes : Settings → State → Input → Bool
finishes s st i =
    let x = served_of s st i in
    not (passed_over s st i) && eqb (stage_number st.sequence.stage) 11
    && x.good && not x.overload && not (clock_passed s st) && x.stable

-- "Compared weight v is net in mode 1, minus net in mode 2."
abbrev pub batch_weight : Mode → ℤ → ℤ
batch_weight mode.Normal net = net
batch_weight mode.Loss net = neg_ℤ net

-- a tick: what it asks, and whether a batch finishes at it, with which weight
pub record Event : Type 0 where
  pub asked : Asked
  pub finished : Bool
  pub weight : ℤ

-- the state is the one before the tick; of the tick itself it takes step 4's outcome and weights
unfoldable pub event_of : Settings → State → Input → Event
event_of s st i = record {
  asked = (request_kind i.request).ledger;
  finished = finishes s st i;
  weight = batch_weight s.batching.mode (served_of s st i).net;
}

abbrev pub event_run : Settings → History Input → History Event
event_run s start = start
event_run s (h ▷ i) = event_run s h ▷ event_of s (run_of s h) i

-- ---- the ledger
-- the batches booked since the last clear, those taken back since then, and the one that can still be taken back
pub record Ledger : Type 0 where
  pub booked : List ℕ
  pub taken : List ℕ
  pub back : Option ℕ

abbrev pub sum_n : List ℕ → ℕ
sum_n [] = 0
sum_n (x ∷ xs) = sum_n xs + x

abbrev pub total_of : Ledger → ℕ
total_of l = sum_n l.booked - sum_n l.taken

abbrev pub count_of : Ledger → ℕ
count_of l = length l.booked - length l.taken

abbrev pub take_back : Ledger → Option ℕ → Ledger
take_back l None = l
take_back l (Some v) = record { booked = l.booked; taken = v ∷ l.taken; back = None }

abbrev pub ask_step : Asked → Ledger → Ledger
ask_step nothing l = l
ask_step undo l = take_back l l.back
ask_step clear l = record { booked = []; taken = []; back = None }

-- a batch is booked if it is 0 or more and neither total nor count would pass its limit
abbrev pub can_book : Ledger → ℤ → Bool
can_book l v = non_neg v && leb (total_of l + nat_abs v) total_limit && leb (suc (count_of l)) batch_limit

abbrev pub finish_step : Bool → ℤ → Ledger → Ledger
finish_step false v l = l
finish_step true v l = cond (can_book l v) (record { booked = nat_abs v ∷ l.booked; taken = l.taken; back = Some (nat_abs v) }) l

abbrev pub ledger_of : History Event → Ledger
ledger_of start = record { booked = []; taken = []; back = None }
ledger_of (h ▷ t) = finish_step t.finished t.weight (ask_step t.asked (ledger_of h))
