-- Worked by hand from the outline: the answers to a tare, in order, and to requests that a bad tick, an overload or a stage does not bar.
-- Statements; they are computed in proofs/RequestFigures.antt.
use Rattle.std.specs.Prelude.{ℕ, ◌≡◌, List, [], ◌∷◌, set, ℤ, pos, Option, None, Some}
use Rattle.types.specs.declared.settings.Settings.{Settings}
use Rattle.types.specs.declared.requests.Request.{Request}
use Rattle.types.specs.declared.requests.Request.TheVariants as request
use Rattle.types.specs.declared.machine.State.{State}
use Rattle.types.specs.declared.machine.Answer.{Answer}
use Rattle.outline.specs.Settings.{settings_of}
use Rattle.outline.specs.Tick.{open_state}
use Rattle.outline.specs.Numbers.{outcome_number, stage_number, error_number, judgement_number}
use Rattle.outline.specs.Figures.{minus, given_of, list_a, tick_at, told, setpoints}
use Rattle.outline.specs.Worked.{Leg, leg}
use Rattle.outline.specs.Finishes.{state_after}

-- settings A with k 10: stable in the eleventh tick at one count
abbrev pub settings10 : Settings
settings10 = settings_of (given_of (set list_a 9 (pos 10)))

abbrev pub after : List Leg → State
after ls = state_after settings10 ls open_state

-- a tick's answer, and the number of its request
abbrev pub answer_to : State → ℤ → Option Request → Answer
answer_to st count r = told settings10 st count r

abbrev pub number : State → ℤ → Option Request → ℕ
number st count r = outcome_number (answer_to st count r).outcome

-- stable in the next tick, at this count
abbrev pub calm_at : ℤ → State
calm_at count = after (leg 10 count None ∷ [])

-- in 03 after two ticks at 0, not stable
abbrev pub running : State
running = after (leg 1 (pos 0) (Some (request.Set (setpoints 10 0 0 0))) ∷ leg 1 (pos 0) (Some request.Start) ∷ [])

-- in 09 and stable: F 1,000, two ticks and then nine more at 0
abbrev pub running_calm : State
running_calm = after (leg 1 (pos 0) (Some (request.Set (setpoints 1000 0 0 0))) ∷ leg 1 (pos 0) (Some request.Start)
    ∷ leg 9 (pos 0) None ∷ [])

-- a tare of 10
abbrev pub tared : State
tared = after (leg 10 (pos 100) None ∷ leg 1 (pos 100) (Some request.Tare) ∷ [])

-- one batch of 10, from the start to its finish: 03, 08 at 0; at 100 09, 10, and 11 until the run is 10
abbrev pub one_batch : State
one_batch =
    after
    (leg 1 (pos 0) (Some (request.Set (setpoints 10 0 0 0))) ∷ leg 1 (pos 0) (Some request.Start) ∷ leg 1 (pos 0) None
    ∷ leg 11 (pos 100) None ∷ [])

-- one request in each of three ticks: a bad one and an overloaded one in stage 00, and one in 03
abbrev pub anywhere : Option Request → List ℕ
anywhere r = number open_state (pos 2000001) r ∷ number open_state (pos 110000) r ∷ number running (pos 0) r ∷ []

-- stage, error, judgement, total, count
abbrev pub standing : State → List ℕ
standing st =
    stage_number st.sequence.stage ∷ error_number st.sequence.error ∷ judgement_number st.sequence.judgement
    ∷ st.totals.total ∷ st.totals.count ∷ []

-- setpoints with this final, over, under and near zero, and the rest 0
abbrev pub set_number : ℕ → ℕ → ℕ → ℕ → ℕ
set_number f over under near =
    number open_state (pos 0)
    (Some (request.Set (record { target = f; fall = 0; preliminary = 0; optional = 0; over = over; under = under; near = near })))

-- a tick's zero in force and tare, and the net that it answers
abbrev pub weighed : Settings → State → ℤ → Option Request → List ℤ
weighed s st count r =
    let t = tick_at s st count r in
    t.state.weighing.zero ∷ t.state.weighing.tare ∷ t.answer.reading.net ∷ []

-- d 5 as well: 3,000 divisions are 15,000 display digits, more than C
abbrev pub settings10_d5 : Settings
settings10_d5 = settings_of (given_of (set (set list_a 9 (pos 10)) 4 (pos 5)))

abbrev pub calm_d5 : State
calm_d5 = state_after settings10_d5 (leg 10 (pos 30000) None ∷ []) open_state

-- the stage of the tick after the start, with this request
abbrev pub stage_with : Option Request → ℕ
stage_with r = stage_number (answer_to running (pos 0) r).stage

pub record Asked : Type 0 where
  -- "Otherwise the first that applies, in numerical order.": to a tare 1, 2, 3, 4, 5
  pub tare_bad : number open_state (pos 2000001) (Some request.Tare) ≡ 1
  pub tare_bad_running : number running (pos 2000001) (Some request.Tare) ≡ 1
  pub tare_overload : number open_state (pos 110000) (Some request.Tare) ≡ 2
  pub tare_overload_calm : number (calm_at (pos 110000)) (pos 110000) (Some request.Tare) ≡ 2
  pub tare_overload_running : number running (pos 110000) (Some request.Tare) ≡ 2
  pub tare_running : number running (pos 0) (Some request.Tare) ≡ 3
  pub tare_running_calm : number running_calm (pos 0) (Some request.Tare) ≡ 3
  pub tare_unstable : number open_state (pos 100) (Some request.Tare) ≡ 4
  pub tare_unstable_below : number open_state (minus 1000) (Some request.Tare) ≡ 4
  pub tare_below : number (calm_at (minus 1000)) (minus 1000) (Some request.Tare) ≡ 5
  -- to a start 1, 2, 3
  pub start_bad_running : number running (pos 2000001) (Some request.Start) ≡ 1
  pub start_overload_running : number running (pos 110000) (Some request.Start) ≡ 2
  -- A1, to a discharge: "1, 2, 3 as start does"
  pub discharge_bad_running : number running (pos 2000001) (Some request.Discharge) ≡ 1
  pub discharge_overload_running : number running (pos 110000) (Some request.Discharge) ≡ 2
  pub discharge_running_calm : number running_calm (pos 0) (Some request.Discharge) ≡ 3
  -- 1 and 2 are not to setpoints: they are taken
  pub set_bad : number open_state (pos 2000001) (Some (request.Set (setpoints 10 0 0 0))) ≡ 0
  pub set_bad_final : (tick_at settings10 open_state (pos 2000001) (Some (request.Set (setpoints 10 0 0 0)))).state.setpoints.target ≡ 10
  pub set_overload : number open_state (pos 110000) (Some (request.Set (setpoints 10 0 0 0))) ≡ 0
  pub set_overload_final :
      (tick_at settings10 open_state (pos 110000) (Some (request.Set (setpoints 10 0 0 0)))).state.setpoints.target ≡ 10
  -- "Seven numbers 0..999,999": at the limit, and one more in each of four
  pub set_at_limit : set_number 999999 999999 999999 999999 ≡ 0
  pub set_beyond :
      set_number 1000000 0 0 0 ∷ set_number 10 1000000 0 0 ∷ set_number 10 0 1000000 0 ∷ set_number 10 0 0 1000000 ∷ [] ≡ 6 ∷ 6 ∷ 6 ∷ 6 ∷ []
  -- "zero in force becomes raw": the tare stays, and net is minus the tare
  pub zero_with_tare : weighed settings10 tared (pos 100) (Some request.Zero) ≡ pos 100 ∷ pos 10 ∷ minus 10 ∷ []
  -- "Tare: accepted when gross divisions lie in 0..C; tare becomes gross."
  pub tare_d_5 : outcome_number (told settings10_d5 calm_d5 (pos 30000) (Some request.Tare)).outcome ≡ 0
  pub tare_d_5_taken : weighed settings10_d5 calm_d5 (pos 30000) (Some request.Tare) ≡ pos 0 ∷ pos 15000 ∷ pos 0 ∷ []
  -- 2 is not to tare clear: "Tare clear makes tare 0", and net is gross
  pub clear_overload : number tared (pos 110000) (Some request.TareClear) ≡ 0
  pub clear_overload_tare : (tick_at settings10 tared (pos 110000) (Some request.TareClear)).state.weighing.tare ≡ pos 0
  pub clear_overload_net : (answer_to tared (pos 110000) (Some request.TareClear)).reading.net ≡ pos 11000
  -- "Stop, total clear, show gross and show net are never refused here."
  pub stop_anywhere : anywhere (Some request.Stop) ≡ 0 ∷ 0 ∷ 0 ∷ []
  pub total_clear_anywhere : anywhere (Some request.TotalClear) ≡ 0 ∷ 0 ∷ 0 ∷ []
  pub show_gross_anywhere : anywhere (Some request.ShowGross) ≡ 0 ∷ 0 ∷ 0 ∷ []
  pub show_net_anywhere : anywhere (Some request.ShowNet) ≡ 0 ∷ 0 ∷ 0 ∷ []
  -- "Stop in stage 00 changes nothing.": the error of the stop before stays, and so does the judgement of the batch before
  pub stopped_twice : standing (state_after settings10 (leg 2 (pos 0) (Some request.Stop) ∷ []) running) ≡ 0 ∷ 4 ∷ 0 ∷ 0 ∷ 0 ∷ []
  pub one_batch_lem : standing one_batch ≡ 0 ∷ 0 ∷ 1 ∷ 10 ∷ 1 ∷ []
  pub stopped_after_batch : standing (tick_at settings10 one_batch (pos 100) (Some request.Stop)).state ≡ 0 ∷ 0 ∷ 1 ∷ 10 ∷ 1 ∷ []
  -- "Step 6 is passed over in a tick with an accepted start, or a stop." (A1: or an accepted discharge), and in no other: 03 goes on to 08
  pub step-6-accepted :
      stage_with None ∷ stage_with (Some request.TotalClear) ∷ stage_with (Some request.ShowGross) ∷ stage_with (Some request.ShowNet)
      ∷ stage_with (Some request.DayClose) ∷ stage_with (Some (request.Set (setpoints 10 0 0 0))) ∷ []
      ≡ 8 ∷ 8 ∷ 8 ∷ 8 ∷ 8 ∷ 8 ∷ []
  pub step-6-refused :
      stage_with (Some request.Zero) ∷ stage_with (Some request.Tare) ∷ stage_with (Some request.TareClear)
      ∷ stage_with (Some request.Start)
      ∷ stage_with (Some (request.Set (setpoints 1 2 0 0))) ∷ stage_with (Some request.Undo) ∷ stage_with (Some request.Discharge) ∷ []
      ≡ 8 ∷ 8 ∷ 8 ∷ 8 ∷ 8 ∷ 8 ∷ 8 ∷ []
  pub step_6_stop : stage_with (Some request.Stop) ≡ 0
