-- The outline's section "Figures on both sides", as statements: `Starred` has a field for each starred row, named by its row. They are
-- proved in proofs/Figures.antt, by computing whole runs through the definitions.
use Rattle.std.specs.Prelude.{ℕ, zero, suc, ◌≡◌, Bool, true, false, not, ◌&&◌, replicate, get_or, set, ℤ, pos, neg_ℤ, ◌+ℤ◌, ◌-ℤ◌, Some}
use Rattle.std.specs.Prelude.{Option, None}
use mathlib.Core.List.{List, [], ◌∷◌, foldl}
use Rattle.std.specs.Float.{fin}
use Rattle.types.specs.declared.settings.Given.{Given}
use Rattle.types.specs.declared.settings.Settings.{Settings}
use Rattle.types.specs.declared.analog.Analog.TheVariants as analog
use Rattle.types.specs.declared.requests.Request.{Request}
use Rattle.types.specs.declared.requests.Request.TheVariants as request
use Rattle.types.specs.declared.stages.Setpoints.{Setpoints}
use Rattle.types.specs.declared.machine.State.{State}
use Rattle.types.specs.declared.machine.Answer.{Answer}
use Rattle.types.specs.declared.machine.Ticked.{Ticked}
use Rattle.outline.specs.Settings.{settings_fit, settings_of, open_of}
use Rattle.outline.specs.Tick.{open_state, opened_of, tick_of, count_in}
use Rattle.outline.specs.Numbers.{opening_number, outcome_number, closed_values}

-- a figure below zero, as an engineer writes it
abbrev pub minus : ℕ → ℤ
minus n = neg_ℤ (pos n)

-- ---- settings A
-- settings as a list, in the order of the outline's table; a discharge's follow
abbrev pub given_of : List ℤ → Given
given_of l = record {
  zero = get_or l 0 (pos 0);
  span = get_or l 1 (pos 0);
  capacity = get_or l 2 (pos 0);
  weight = get_or l 3 (pos 0);
  division = get_or l 4 (pos 0);
  zeroing = get_or l 5 (pos 0);
  tracktime = get_or l 6 (pos 0);
  trackwidth = get_or l 7 (pos 0);
  allowance = get_or l 8 (pos 0);
  stabletime = get_or l 9 (pos 0);
  stablewidth = get_or l 10 (pos 0);
  mode = get_or l 11 (pos 0);
  start = get_or l 12 (pos 0);
  large = get_or l 13 (pos 0);
  medium = get_or l 14 (pos 0);
  small = get_or l 15 (pos 0);
  judge = get_or l 16 (pos 0);
  flow = get_or l 17 (pos 0);
  address = get_or l 18 (pos 0);
  board = get_or l 19 (pos 0);
  low = get_or l 20 (pos 0);
  high = get_or l 21 (pos 0);
  dischargestart = get_or l 22 (pos 0);
  dischargeend = get_or l 23 (pos 0);
  dischargelimit = get_or l 24 (pos 0);
}

-- "Settings A: Z 0, S 100,000, W = C = 10,000, d 1, p 2, q 100, w 5, L 20, k 100, s 2, mode 1, delays 0, Q 6,000, address 0, no board,
-- ends 0 and 10,000."; a discharge with delays of 0 and a limit of 6,000
abbrev pub list_a : List ℤ
list_a =
    pos 0 ∷ pos 100000 ∷ pos 10000 ∷ pos 10000 ∷ pos 1 ∷ pos 2 ∷ pos 100 ∷ pos 5 ∷ pos 20 ∷ pos 100 ∷ pos 2 ∷ pos 1
    ∷ pos 0 ∷ pos 0 ∷ pos 0 ∷ pos 0 ∷ pos 0 ∷ pos 6000 ∷ pos 0 ∷ pos 0 ∷ pos 0 ∷ pos 10000
    ∷ pos 0 ∷ pos 0 ∷ pos 6000 ∷ []

abbrev pub settings_a : Settings
settings_a = settings_of (given_of list_a)

-- settings A with d 5
abbrev pub settings_d5 : Settings
settings_d5 = settings_of (given_of (set list_a 4 (pos 5)))

-- settings A with a voltage board and ends 100 and 0
abbrev pub settings_volts : Settings
settings_volts = settings_of (given_of (set (set (set list_a 19 (pos 2)) 20 (pos 100)) 21 (pos 0)))

-- ---- runs
-- a tick with the contact open, and what it answers
abbrev pub tick_at : Settings → State → ℤ → Option Request → Ticked
tick_at s st count r = tick_of s st (record { count = count; contact = false; request = r })

abbrev pub told : Settings → State → ℤ → Option Request → Answer
told s st count r = (tick_at s st count r).answer

abbrev pub next : State → ℤ → Option Request → State
next st count r = (tick_at settings_a st count r).state

-- a count held for n ticks
abbrev pub held : ℕ → State → ℤ → State
held n st count = foldl (count_in settings_a false) st (replicate n count)

-- stable in the next tick, at this count
abbrev pub steady : ℤ → State
steady count = held 100 open_state count

abbrev pub setpoints : ℕ → ℕ → ℕ → ℕ → Setpoints
setpoints f ff p op = record { target = f; fall = ff; preliminary = p; optional = op; over = 0; under = 0; near = 0 }

-- one batch of 10: started at 0 in stage 00, 10 reached, stable, finished
abbrev pub started : State
started = next (next open_state (pos 0) (Some (request.Set (setpoints 10 0 0 0)))) (pos 0) (Some request.Start)

abbrev pub one_batch : State
one_batch = held 103 (held 2 started (pos 0)) (pos 100)

-- ---- the starred rows
pub record Starred : Type 0 where
  -- "| S 99,999 * | 10 |", and settings A are accepted
  pub s_100000 : open_of (given_of list_a) ≡ Some settings_a
  pub opened : opened_of (open_of (given_of list_a)) ≡ open_state ∷ []
  pub s_99999 : opening_number (open_of (given_of (set list_a 1 (pos 99999)))) ≡ 10
  -- "| count 44; 45; -45 * | 4; 5; -5 |"
  pub count_44 : (told settings_a open_state (pos 44) None).reading.gross ≡ pos 4
  pub count_45 : (told settings_a open_state (pos 45) None).reading.gross ≡ pos 5
  pub count_minus_45 : (told settings_a open_state (minus 45) None).reading.gross ≡ minus 5
  -- "| 45 with d 5 * | 25 |"
  pub count_45_with_d_5 : (told settings_d5 open_state (pos 45) None).reading.gross ≡ pos 25
  -- "| 100,084; 100,085 * | 10,008; overload |"
  pub count_100084 : (told settings_a open_state (pos 100084) None).reading.gross ≡ pos 10008
  pub count_100084_fits : (told settings_a open_state (pos 100084) None).reading.overload ≡ false
  pub count_100085 : (told settings_a open_state (pos 100085) None).reading.overload ≡ true
  -- "| zero at 2,000; 2,001, stable * | 0; 5 |"
  pub zero_at_2000 : outcome_number (told settings_a (steady (pos 2000)) (pos 2000) (Some request.Zero)).outcome ≡ 0
  pub zero_at_2001 : outcome_number (told settings_a (steady (pos 2001)) (pos 2001) (Some request.Zero)).outcome ≡ 5
  -- "| F 1000, FF 20, P 20 * | 6 |"
  pub p_at_ff : outcome_number (told settings_a open_state (pos 0) (Some (request.Set (setpoints 1000 20 20 0)))).outcome ≡ 6
  -- "| F 1000, P 0, OP 300, FF 20 * | 0 |"
  pub op_without_p : outcome_number (told settings_a open_state (pos 0) (Some (request.Set (setpoints 1000 20 0 300)))).outcome ≡ 0
  -- "| undo twice after one batch * | 0, then 7 |"
  pub one_batch_lem : (one_batch.totals.total ≡ 10) × (one_batch.totals.count ≡ 1)
  pub undo_once : outcome_number (told settings_a one_batch (pos 100) (Some request.Undo)).outcome ≡ 0
  pub undo_twice : outcome_number (told settings_a (next one_batch (pos 100) (Some request.Undo)) (pos 100) (Some request.Undo)).outcome ≡ 7
  -- "| ends 100 and 0, weight 100, voltage * | +0.0, not -0.0 |"
  pub volts_at_low_end : (told settings_volts open_state (pos 1000) None).analog ≡ Some (analog.Voltage (fin false 0 (pos 0)))

-- ---- the rows that are run and compared, computed here as well
-- a fall of 5, held 100 ticks
abbrev pub fall_to : State → ℤ → State
fall_to st count = held 100 st count

abbrev pub four_falls : State
four_falls = fall_to (fall_to (fall_to (fall_to (next open_state (pos 0) None) (minus 5)) (minus 10)) (minus 15)) (minus 20)

-- the last tick of all, the 501st
abbrev pub last_of_falls : Ticked
last_of_falls = tick_at settings_a (held 99 four_falls (minus 25)) (minus 25) None

-- "Input `0 0 --`, `-30 0 --`, `100 1 --`, `60 0 DC`"
abbrev pub before_close : State
before_close =
    let two = next (next open_state (pos 0) None) (minus 30) None in
    (tick_of settings_a two (record { count = pos 100; contact = true; request = None })).state

pub record Runs : Type 0 where
  -- "| one tick at 0, five falls of 5, each held 100 ticks | zero -20, gross -1, used 25 |"
  pub zero_after_falls : last_of_falls.state.weighing.zero ≡ minus 20
  pub gross_after_falls : last_of_falls.answer.reading.gross ≡ minus 1
  pub used_after_falls : last_of_falls.state.book.used ≡ pos 25
  -- the ticket: opening 0, refilled 90, used 30 (A2), unbooked 0, closing 60
  pub ticket :
      closed_values (told settings_a before_close (pos 60) (Some request.DayClose)).closed ≡ pos 0 ∷ pos 90 ∷ pos 30 ∷ pos 0 ∷ pos 60 ∷ []

-- ---- both sides of each range of the settings' table
-- a place of the list, the least and the most that settings A allow there
pub record Ends : Type 0 where
  pub place : ℕ
  pub least : ℤ
  pub most : ℤ

abbrev pub ends : ℕ → ℤ → ℤ → Ends
ends n a b = record { place = n; least = a; most = b }

-- Z and S have one side each that hangs on S - Z; C and W one that hangs on each other, taken at settings A
abbrev pub table_ends : List Ends
table_ends =
    ends 0 (minus 2000000) (pos 0) ∷ ends 1 (pos 100000) (pos 2000000) ∷ ends 2 (pos 10000) (pos 16000) ∷ ends 3 (pos 1) (pos 10000)
    ∷ ends 5 (pos 1) (pos 30) ∷ ends 6 (pos 0) (pos 500) ∷ ends 7 (pos 0) (pos 45) ∷ ends 8 (pos 0) (pos 10000)
    ∷ ends 9 (pos 10) (pos 500) ∷ ends 10 (pos 0) (pos 9) ∷ ends 11 (pos 1) (pos 2) ∷ ends 12 (pos 0) (pos 9999)
    ∷ ends 13 (pos 0) (pos 9999) ∷ ends 14 (pos 0) (pos 9999) ∷ ends 15 (pos 0) (pos 9999) ∷ ends 16 (pos 0) (pos 9999)
    ∷ ends 17 (pos 1) (pos 60000) ∷ ends 18 (pos 0) (pos 99) ∷ ends 19 (pos 0) (pos 2) ∷ ends 20 (minus 999999) (pos 9999)
    ∷ ends 21 (pos 1) (pos 999999) ∷ ends 22 (pos 0) (pos 9999) ∷ ends 23 (pos 0) (pos 9999) ∷ ends 24 (pos 1) (pos 60000) ∷ []

abbrev pub fits : ℕ → ℤ → Bool
fits n x = settings_fit (given_of (set list_a n x))

-- taken in at both ends, refused one beyond either
abbrev pub on_both_sides : Ends → Bool
on_both_sides e =
    fits e.place e.least && fits e.place e.most && not (fits e.place (e.least -ℤ pos 1))
    && not (fits e.place (e.most +ℤ pos 1))

abbrev pub all : List Ends → Bool
all [] = true
all (e ∷ es) = on_both_sides e && all es

-- the divisions accepted, of the n from least on
abbrev pub divisions_from : ℕ → ℕ → List ℕ
divisions_from n zero = []
divisions_from n (suc k) = pick (fits 4 (pos n)) n (divisions_from (suc n) k)
  where
    pick : Bool → ℕ → List ℕ → List ℕ
    pick true d ds = d ∷ ds
    pick false d ds = ds

pub record Table : Type 0 where
  pub ranges : all table_ends ≡ true
  pub high_end_below : fits 21 (minus 999999) ≡ true
  pub equal_ends : fits 21 (pos 0) ≡ false
  pub divisions : divisions_from 0 60 ≡ 1 ∷ 2 ∷ 5 ∷ 10 ∷ 20 ∷ 50 ∷ []
