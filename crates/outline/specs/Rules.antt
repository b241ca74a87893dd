-- Worked by hand from the outline, rule by rule: a figure for each rule that the outline's own figures leave unseen. Statements; they
-- are computed in proofs/Rules.antt.
use Rattle.std.specs.Prelude.{ℕ, zero, suc, ◌≡◌, Bool, true, false, replicate, set, ℤ, pos, None, Some, Option}
use mathlib.Core.List.{List, [], ◌∷◌, ◌++◌, foldl}
use Rattle.types.specs.declared.settings.Settings.{Settings}
use Rattle.types.specs.declared.daybook.Book.{Book}
use Rattle.types.specs.declared.requests.Request.{Request}
use Rattle.types.specs.declared.requests.Request.TheVariants as request
use Rattle.types.specs.declared.stages.Setpoints.{Setpoints}
use Rattle.types.specs.declared.machine.State.{State}
use Rattle.types.specs.declared.machine.Answer.{Answer}
use Rattle.outline.specs.Limits.{block_limit, day_ticks}
use Rattle.outline.specs.Settings.{settings_of}
use Rattle.outline.specs.Weight.{raw_of}
use Rattle.outline.specs.DayBook.{open_book, book_of, closed_of}
use Rattle.outline.specs.Tick.{open_state, count_in, block_of}
use Rattle.outline.specs.Numbers.{outcome_number, error_number, judgement_number, block_number, told_number}
use Rattle.outline.specs.Figures.{minus, given_of, list_a, settings_a, settings_volts, tick_at, told, next, held, steady, setpoints}
use Rattle.outline.specs.Figures.{one_batch}
use Rattle.outline.specs.Worked.{leg, answers, stages_in, gates_in, shut, ascii, line, ask, reply, settings7}

-- ---- from count to weight
-- settings A with Z -1,000, and S - Z twice 10·W
abbrev pub settings_half : Settings
settings_half = settings_of (given_of (set (set list_a 0 (minus 1000)) 1 (pos 199000)))

-- a tare of 10, keyed at 100 when stable
abbrev pub tared : State
tared = (tick_at settings_a (steady (pos 100)) (pos 100) (Some request.Tare)).state

-- settings A without tracking, and stable in the next tick at this count
abbrev pub settings_still : Settings
settings_still = settings_of (given_of (set list_a 6 (pos 0)))

abbrev pub tare_at : ℤ → ℕ
tare_at count =
    outcome_number (told settings_still (foldl (count_in settings_still false) open_state (replicate 100 count)) count
    (Some request.Tare)).outcome

pub record Weighed : Type 0 where
  -- a half of a tenth on either side of Z goes away from zero
  pub raw_up : raw_of settings_half.calibration (minus 999) ≡ Some (pos 1)
  pub raw_down : raw_of settings_half.calibration (minus 1001) ≡ Some (minus 1)
  pub raw_at_z : raw_of settings_half.calibration (minus 1000) ≡ Some (pos 0)
  pub raw_bad : raw_of settings_half.calibration (minus 2000001) ≡ None
  -- a bad tick answers 0 and 0, no overload, no analog value
  pub bad_gross : (told settings_a tared (pos 2000001) None).reading.gross ≡ pos 0
  pub bad_net : (told settings_a tared (pos 2000001) None).reading.net ≡ pos 0
  pub bad_overload : (told settings_a tared (pos 2000001) None).reading.overload ≡ false
  -- an accepted tare answers net 0 in its own tick; then net is gross less the tare
  pub tare_own : (told settings_a (steady (pos 100)) (pos 100) (Some request.Tare)).reading.net ≡ pos 0
  pub tare_later : (told settings_a tared (pos 60) None).reading.net ≡ minus 4
  pub tare_cleared : (told settings_a tared (pos 60) (Some request.TareClear)).reading.net ≡ pos 6
  -- the tare's test is on divisions: -4 tenths are 0, -5 are -1; C + 1 is outside though no overload
  pub tare_minus_4 : tare_at (minus 4) ≡ 0
  pub tare_minus_5 : tare_at (minus 5) ≡ 5
  pub tare_at_c : tare_at (pos 100004) ≡ 0
  pub tare_past_c : tare_at (pos 100005) ≡ 5

-- ---- requests: the order of the refusals
abbrev pub running : State
running = next (next open_state (pos 0) (Some (request.Set (setpoints 10 0 0 0)))) (pos 0) (Some request.Start)

abbrev pub number : State → ℤ → Option Request → ℕ
number st count r = outcome_number (told settings_a st count r).outcome

pub record Refused : Type 0 where
  -- 1 before 2 and 3, 2 before 3, 3 before 4, 4 before 5; 8, which only a closed contact gives, is in ConnectedFigures
  pub bad : number running (pos 2000001) (Some request.Zero) ≡ 1
  pub overload : number running (pos 110000) (Some request.Zero) ≡ 2
  pub not_idle : number running (pos 0) (Some request.Zero) ≡ 3
  pub unstable : number open_state (pos 5000) (Some request.Zero) ≡ 4
  pub outside : number (steady (pos 5000)) (pos 5000) (Some request.Zero) ≡ 5
  pub start_bad : number open_state (pos 2000001) (Some request.Start) ≡ 1
  pub start_overload : number open_state (pos 110000) (Some request.Start) ≡ 2
  pub start_running : number running (pos 0) (Some request.Start) ≡ 3
  pub start_unstable : number open_state (pos 0) (Some request.Start) ≡ 0
  -- A1: "BD takes 1, 2, 3 as start does"
  pub discharge_bad : number open_state (pos 2000001) (Some request.Discharge) ≡ 1
  pub discharge_overload : number open_state (pos 110000) (Some request.Discharge) ≡ 2
  pub discharge_running : number running (pos 0) (Some request.Discharge) ≡ 3
  pub discharge_unstable : number open_state (pos 0) (Some request.Discharge) ≡ 0
  pub tare_clear_running : number running (pos 0) (Some request.TareClear) ≡ 3
  pub tare_clear_bad : number open_state (pos 2000001) (Some request.TareClear) ≡ 0
  -- A5: "setpoints no longer answer 3; 6 stands."
  pub set_running : number running (pos 0) (Some (request.Set (setpoints 1 2 0 0))) ≡ 6
  pub close_bad : number open_state (pos 2000001) (Some request.DayClose) ≡ 1
  pub close_overload : number running (pos 110000) (Some request.DayClose) ≡ 0
  pub undo_none : number running (pos 2000001) (Some request.Undo) ≡ 7
  -- never refused
  pub stop : number open_state (pos 2000001) (Some request.Stop) ≡ 0
  pub clear : number running (pos 2000001) (Some request.TotalClear) ≡ 0
  pub show : number running (pos 2000001) (Some request.ShowNet) ≡ 0

-- ---- stages: errors, gates, judgement, booking
-- a batch that aims at F with over and under, from 0, and reads v at the finish
abbrev pub judged : ℕ → ℕ → ℕ → ℤ → List Answer
judged f over under count =
    answers settings_a
    (leg 1 (pos 0) (Some (request.Set (record {
      target = f;
      fall = f;
      preliminary = 0;
      optional = 0;
      over = over;
      under = under;
      near = 0;
    })))
    ∷ leg 1 (minus 100) (Some request.Start) ∷ leg 2 (minus 100) None ∷ leg 103 count None ∷ [])
    open_state

abbrev pub last : List Answer → (Answer → ℕ) → ℕ
last [] f = 99
last (a ∷ []) f = f a
last (a ∷ b ∷ l) f = last (b ∷ l) f

abbrev pub judgement_of : Answer → ℕ
judgement_of a = judgement_number a.judgement

abbrev pub error_of : Answer → ℕ
error_of a = error_number a.error

abbrev pub start_with : Setpoints → ℤ → ℕ → List Answer
start_with p count n =
    answers settings_a (leg 1 count (Some (request.Set p)) ∷ leg 1 count (Some request.Start) ∷ leg n count None ∷ []) open_state

-- from -10 to F - FF = 0, and down again to -5 before the finish
abbrev pub unbooked : List Answer
unbooked =
    answers settings_a
    (leg 1 (pos 0) (Some (request.Set (setpoints 10 10 0 0))) ∷ leg 1 (minus 100) (Some request.Start) ∷ leg 2 (minus 100) None
    ∷ leg 1 (pos 0) None ∷ leg 102 (minus 50) None ∷ [])
    open_state

abbrev pub large_to_small : List Answer
large_to_small =
    answers settings_a
    (leg 1 (pos 0) (Some (request.Set (setpoints 100 0 0 50))) ∷ leg 1 (pos 0) (Some request.Start) ∷ leg 2 (pos 0) None
    ∷ leg 2 (pos 500) None ∷ [])
    open_state

-- loss-in-weight: settings A in mode 2; 100 divisions tared away, then the tank falls
abbrev pub settings_loss : Settings
settings_loss = settings_of (given_of (set list_a 11 (pos 2)))

abbrev pub loss : List Answer
loss =
    answers settings_loss
    (leg 1 (pos 0) (Some (request.Set (record { target = 50; fall = 0; preliminary = 20; optional = 90; over = 0; under = 0; near = 10 })))
    ∷ leg 101 (pos 1000) None ∷ leg 1 (pos 1000) (Some request.Tare) ∷ leg 1 (pos 1000) (Some request.Start) ∷ leg 2 (pos 1000) None
    ∷ leg 1 (pos 800) None ∷ leg 1 (pos 700) None ∷ leg 2 (pos 500) None ∷ [])
    open_state

abbrev pub fulls_in : List Answer → List Bool
fulls_in [] = []
fulls_in (a ∷ l) = a.full ∷ fulls_in l

abbrev pub after : ℕ → List Answer → List Answer
after zero l = l
after (suc n) [] = []
after (suc n) (a ∷ l) = after n l

pub record Staged : Type 0 where
  -- v is -10 at the start, so F - FF = 0 is not reached; then "over if v > F + over, under if v < F - under, else OK"
  pub ok_at_over : last (judged 10 2 2 (pos 120)) judgement_of ≡ 1
  pub over : last (judged 10 2 2 (pos 130)) judgement_of ≡ 2
  pub ok_at_under : last (judged 10 2 2 (pos 80)) judgement_of ≡ 1
  pub under : last (judged 10 2 2 (pos 70)) judgement_of ≡ 3
  -- error 1, error 2, error 4, error 9
  pub no_final : last (start_with (setpoints 0 0 0 0) (pos 0) 1) error_of ≡ 1
  pub reached : last (start_with (setpoints 10 5 0 0) (pos 50) 1) error_of ≡ 2
  pub not_reached : last (start_with (setpoints 10 5 0 0) (pos 44) 1) error_of ≡ 0
  pub stopped : error_of (told settings_a running (pos 2000001) (Some request.Stop)) ≡ 4
  pub stopped_idle : error_of (told settings_a open_state (pos 0) (Some request.Stop)) ≡ 0
  pub bad : error_of (told settings_a running (pos 2000001) None) ≡ 9
  pub overloaded : error_of (told settings_a running (pos 110000) None) ≡ 9
  -- a batch of less than 0 is judged and not booked: error 10
  pub not_booked : last unbooked error_of ≡ 10
  pub not_booked_judged : last unbooked judgement_of ≡ 3
  -- 05 goes to 08 where P is 0
  pub large_to_small_lem : stages_in large_to_small ≡ 0 ∷ 3 ∷ 4 ∷ 5 ∷ 8 ∷ 9 ∷ []
  -- with P 0 the medium gate never opens: large and small in 04
  pub no_medium : gates_in (start_with (setpoints 100 0 0 50) (pos 0) 1) ≡ replicate 2 shut ++ ((4 ∷ 0 ∷ 1 ∷ 0 ∷ []) ∷ [])
  -- mode 2: no large flow, v is what has gone; full while gross is above 90
  pub loss_stages : stages_in (after 103 loss) ≡ 3 ∷ 6 ∷ 7 ∷ 7 ∷ 8 ∷ 9 ∷ 10 ∷ []
  pub loss_full : fulls_in (after 103 loss) ≡ true ∷ true ∷ true ∷ false ∷ false ∷ false ∷ false ∷ []
  -- total and count go back
  pub undone :
      ((next one_batch (pos 100) (Some request.Undo)).totals.total ≡ 0) × ((next one_batch (pos 100) (Some request.Undo)).totals.count ≡ 0)
  -- a read in the finishing tick shows the total before the booking, one in the next tick the total after it
  pub read_before : reply settings_a (held 100 (held 2 running (pos 0)) (pos 100)) (pos 100) (line "RT") 19 ≡ line "00000000,00000000"
  pub read_after : reply settings_a (held 101 (held 2 running (pos 0)) (pos 100)) (pos 100) (line "RT") 19 ≡ line "00000010,00000001"

-- ---- day book, near zero, lines, blocks
-- a book with n ticks today, the contact open at its last good tick
abbrev pub late_book : ℕ → Book
late_book n = record {
  begun = true;
  contact = false;
  opening = pos 0;
  last = pos 100;
  refilled = pos 100;
  used = pos 0;
  unbooked = pos 0;
  ticks = n;
}

pub record Booked : Type 0 where
  pub first : (book_of open_book (Some (pos 70)) false).opening ≡ pos 70
  pub last_booked : (book_of (late_book 8639999) (Some (pos 90)) false).used ≡ pos 10
  pub not_booked : (book_of (late_book 8640000) (Some (pos 90)) false).used ≡ pos 0
  pub unbooked : (book_of (late_book 8640000) (Some (pos 90)) true).unbooked ≡ pos 10
  pub bad_counts : (book_of (late_book 8639999) None false).ticks ≡ day_ticks
  pub next_day : closed_of (late_book 5)
      ≡ record {
        begun = true;
        contact = false;
        opening = pos 100;
        last = pos 100;
        refilled = pos 0;
        used = pos 0;
        unbooked = pos 0;
        ticks = 0;
      }
  -- near zero of 0: on at 0, off above, off in a bad tick
  pub near : (told settings_a open_state (pos 4) None).near ≡ true
  pub near_above : (told settings_a open_state (pos 5) None).near ≡ false
  pub near_bad : (told settings_a open_state (pos 2000001) None).near ≡ false
  pub near_overload : (told settings_a open_state (minus 100085) None).near ≡ false
  -- full of 0 in mode 2: on above 0, off in a bad or overloaded tick
  pub full : (told settings_loss open_state (pos 5) None).full ≡ true
  pub full_bad : (told settings_loss open_state (pos 2000001) None).full ≡ false
  pub full_overload : (told settings_loss open_state (pos 110000) None).full ≡ false
  -- no analog value without a board, nor in a bad or overloaded tick with one
  pub no_value_bad : (told settings_volts open_state (pos 2000001) None).analog ≡ None
  pub no_value_overload : (told settings_volts open_state (pos 110000) None).analog ≡ None
  pub no_value : (told settings_a open_state (pos 0) None).analog ≡ None
  -- the tests for no line and for 64 bytes come before 12
  pub no_line_first : told_number (ask settings7 open_state (pos 0) (ascii "XX") 9).told ≡ 11
  pub long_first : told_number (ask settings7 open_state (pos 0) (replicate 65 88 ++ (13 ∷ 10 ∷ [])) 9).told ≡ 11
  pub empty_prefixed : told_number (ask settings7 open_state (pos 0) (line "") 9).told ≡ 12
  -- a block is its ticks; an empty one changes nothing; a longer one is refused
  pub block : (block_of settings_a open_state (pos 0 ∷ minus 30 ∷ []) false).state
      ≡ next (next open_state (pos 0) None) (minus 30) None
  pub block_empty :
      (block_number (block_of settings_a running [] true).answer ≡ 0) × ((block_of settings_a running [] true).state ≡ running)
  pub block_long_state : (block_of settings_a running (replicate (suc block_limit) (pos 0)) false).state ≡ running
  pub block_long : block_number (block_of settings_a open_state (replicate (suc block_limit) (pos 0)) false).answer ≡ 15
