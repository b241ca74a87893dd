-- Worked by hand from the outline, section "Serial lines": what each command asks, sent as a line: told, replied, and what its tick leaves.
-- Statements; they are computed in proofs/CommandFigures.antt.
use Rattle.std.specs.Prelude.{ℕ, ◌≡◌, true, false, List, [], ◌∷◌, set, ℤ, pos, None}
use Prim.Native.String.{String}
use Rattle.types.specs.declared.settings.Settings.{Settings}
use Rattle.types.specs.declared.machine.State.{State}
use Rattle.types.specs.declared.lines.LineTick.{LineTick}
use Rattle.outline.specs.Settings.{settings_of}
use Rattle.outline.specs.Tick.{open_state}
use Rattle.outline.specs.Numbers.{stage_number, error_number, closed_values}
use Rattle.outline.specs.Figures.{given_of, list_a, settings_a, before_close}
use Rattle.outline.specs.Worked.{line, ask}
use Rattle.outline.specs.Finishes.{held_for}
use Rattle.outline.specs.LineFigures.{heard, weightless}

-- ---- runs of settings A with k 10: stable from the eleventh tick on, while no change is above 20
abbrev pub settings_k10 : Settings
settings_k10 = settings_of (given_of (set list_a 9 (pos 10)))

-- a line at a count, with the contact open: its tick; what it is told and its reply; the state after it
abbrev pub tick_with : State → ℤ → String → LineTick
tick_with st count text = ask settings_k10 st count (line text) 64

abbrev pub said : State → ℤ → String → List ℕ
said st count text = heard settings_k10 st count (line text)

abbrev pub after : State → ℤ → String → State
after st count text = (tick_with st count text).state

-- a count held for n ticks
abbrev pub rest : ℕ → State → ℤ → State
rest n st count = held_for settings_k10 n count None st

-- stable in the next tick, at this count
abbrev pub still : ℤ → State
still count = rest 10 open_state count

-- what a state holds: zero in force and tare; total and count; stage and error
abbrev pub weights : State → List ℤ
weights st = st.weighing.zero ∷ st.weighing.tare ∷ []

abbrev pub booked : State → List ℕ
booked st = st.totals.total ∷ st.totals.count ∷ []

abbrev pub staged : State → List ℕ
staged st = stage_number st.sequence.stage ∷ error_number st.sequence.error ∷ []

-- a tare of 10; then net displayed
abbrev pub tared : State
tared = after (still (pos 100)) (pos 100) "MT"

abbrev pub net_shown : State
net_shown = after tared (pos 100) "MN"

-- F 10 and the rest 0; started
abbrev pub ten_set : State
ten_set = after open_state (pos 0) "SS000010000000000000000000000000000000000000"

abbrev pub running : State
running = after ten_set (pos 0) "BB"

-- F 1 and the rest 0. The first batch: start at 0, 08, 09; 1 is reached, 10, 11; stable in the eleventh tick of all, and 1 is booked.
abbrev pub one_booked : State
one_booked =
    let ready = after open_state (pos 0) "SS000001000000000000000000000000000000000000" in
    rest 7 (rest 2 (after ready (pos 0) "BB") (pos 0)) (pos 10)

-- The second, stable all the while: start at 0, 08, 09; 2 is reached, 10, 11, and 2 is booked.
abbrev pub two_booked : State
two_booked = rest 3 (rest 2 (after one_booked (pos 0) "BB") (pos 0)) (pos 20)

-- then a tare of 2
abbrev pub two_tared : State
two_tared = after two_booked (pos 20) "MT"

-- the last of the outline's four lines
abbrev pub day_close : LineTick
day_close = ask settings_a before_close (pos 60) (line "DC") 64

pub record Commanded : Type 0 where
  -- MZ: zero, at 1,000
  pub mz : said (still (pos 1000)) (pos 1000) "MZ" ≡ 0 ∷ line "MZ"
  pub mz_weights : weights (after (still (pos 1000)) (pos 1000) "MZ") ≡ pos 1000 ∷ pos 0 ∷ []
  -- MT: tare, at 100, where a zero would be accepted as well
  pub mt : said (still (pos 100)) (pos 100) "MT" ≡ 0 ∷ line "MT"
  pub mt_weights : weights tared ≡ pos 0 ∷ pos 10 ∷ []
  pub mt_net : (tick_with (still (pos 100)) (pos 100) "MT").answer.reading.net ≡ pos 0
  -- CT: tare clear; the totals stay
  pub ct : said tared (pos 60) "CT" ≡ 0 ∷ line "CT"
  pub ct_weights : weights (after tared (pos 60) "CT") ≡ pos 0 ∷ pos 0 ∷ []
  pub ct_net : (tick_with tared (pos 60) "CT").answer.reading.net ≡ pos 6
  pub ct_booked : booked (after two_tared (pos 20) "CT") ≡ 3 ∷ 2 ∷ []
  -- MN: show net, 6 less 10; 0 has a plus
  pub mn : said tared (pos 60) "MN" ≡ 0 ∷ line "MN"
  pub mn_zero : said net_shown (pos 100) "RW" ≡ 0 ∷ line "ST,NT,+0000000kg"
  pub mn_minus : said net_shown (pos 60) "RW" ≡ 0 ∷ line "US,NT,-0000004kg"
  -- MG: show gross, though a tare stands
  pub mg : said net_shown (pos 60) "MG" ≡ 0 ∷ line "MG"
  pub mg_shown : said (after net_shown (pos 60) "MG") (pos 60) "RW" ≡ 0 ∷ line "US,GS,+0000006kg"
  pub gross_shown : said tared (pos 100) "RW" ≡ 0 ∷ line "ST,GS,+0000010kg"
  -- BB: start, "enters 03"
  pub bb : said ten_set (pos 0) "BB" ≡ 0 ∷ line "BB"
  pub bb_stage : staged running ≡ 3 ∷ 0 ∷ []
  -- HB: stop, "stop in 03-11, error 4"
  pub hb : said running (pos 0) "HB" ≡ 0 ∷ line "HB"
  pub hb_stage : staged (after running (pos 0) "HB") ≡ 0 ∷ 4 ∷ []
  -- A1, BD: discharge, enters 14; a stop there is error 7
  pub bd : said ten_set (pos 0) "BD" ≡ 0 ∷ line "BD"
  pub bd_stage : staged (after ten_set (pos 0) "BD") ≡ 14 ∷ 0 ∷ []
  pub bd_then_hb : staged (after (after ten_set (pos 0) "BD") (pos 0) "HB") ≡ 0 ∷ 7 ∷ []
  -- a read asks for nothing: 03 ends and 08 is entered, as without a line
  pub rw : said running (pos 0) "RW" ≡ 0 ∷ weightless
  pub rt : said running (pos 0) "RT" ≡ 0 ∷ line "00000000,00000000"
  pub rs : said running (pos 0) "RS" ≡ 0 ∷ line "000010000000000000000000000000000000000000"
  pub rw_stage : staged (after running (pos 0) "RW") ≡ 8 ∷ 0 ∷ []
  pub rt_stage : staged (after running (pos 0) "RT") ≡ 8 ∷ 0 ∷ []
  pub rs_stage : staged (after running (pos 0) "RS") ≡ 8 ∷ 0 ∷ []
  -- two batches and a tare, all by lines
  pub two_booked_lem : booked two_tared ≡ 3 ∷ 2 ∷ []
  pub two_weights : weights two_tared ≡ pos 0 ∷ pos 2 ∷ []
  -- DT: total clear; the tare stays, and "after an undo or clear there is none to take back"
  pub dt : said two_tared (pos 20) "DT" ≡ 0 ∷ line "DT"
  pub dt_booked : booked (after two_tared (pos 20) "DT") ≡ 0 ∷ 0 ∷ []
  pub dt_weights : weights (after two_tared (pos 20) "DT") ≡ pos 0 ∷ pos 2 ∷ []
  pub dt_then_ca : said (after two_tared (pos 20) "DT") (pos 20) "CA" ≡ 7 ∷ line "NG07"
  -- CA: undo, "takes back the last booked batch, once"; the tare stays
  pub ca : said two_tared (pos 20) "CA" ≡ 0 ∷ line "CA"
  pub ca_booked : booked (after two_tared (pos 20) "CA") ≡ 1 ∷ 1 ∷ []
  pub ca_weights : weights (after two_tared (pos 20) "CA") ≡ pos 0 ∷ pos 2 ∷ []
  pub ca_twice : said (after two_tared (pos 20) "CA") (pos 20) "CA" ≡ 7 ∷ line "NG07"
  -- DC: day close: opening, refilled, used, unbooked, closing; the next day; the totals stay
  pub dc : heard settings_a before_close (pos 60) (line "DC") ≡ 0 ∷ line "DC"
  pub dc_day : closed_values day_close.answer.closed ≡ pos 0 ∷ pos 90 ∷ pos 30 ∷ pos 0 ∷ pos 60 ∷ []
  pub dc-next-day :
      day_close.state.book
      ≡ record {
        begun = true;
        contact = false;
        opening = pos 60;
        last = pos 60;
        refilled = pos 0;
        used = pos 0;
        unbooked = pos 0;
        ticks = 0;
      }
  pub dc_booked : booked (after two_booked (pos 20) "DC") ≡ 3 ∷ 2 ∷ []
  pub dc_then_ca : said (after two_booked (pos 20) "DC") (pos 20) "CA" ≡ 0 ∷ line "CA"
