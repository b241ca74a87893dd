-- Worked by hand from the outline: total, count and error after a batch that finishes, and after those that do not. Statements; they are
-- computed in proofs/Finishes.antt.
use Rattle.std.specs.Prelude.{ℕ, zero, suc, ◌≡◌, List, [], ◌∷◌, set, ℤ, pos, Option, None, Some}
use Rattle.types.specs.declared.settings.Settings.{Settings}
use Rattle.types.specs.declared.requests.Request.{Request}
use Rattle.types.specs.declared.requests.Request.TheVariants as request
use Rattle.types.specs.declared.machine.State.{State}
use Rattle.outline.specs.Settings.{settings_of}
use Rattle.outline.specs.Tick.{open_state}
use Rattle.outline.specs.Numbers.{error_number}
use Rattle.outline.specs.Figures.{given_of, list_a, tick_at, setpoints}
use Rattle.outline.specs.Worked.{Leg, leg}

-- the state after the ticks of each leg, the first one first
abbrev pub held_for : Settings → ℕ → ℤ → Option Request → State → State
held_for s zero count r st = st
held_for s (suc n) count r st = held_for s n count r (tick_at s st count r).state

abbrev pub state_after : Settings → List Leg → State → State
state_after s [] st = st
state_after s (l ∷ ls) st = state_after s ls (held_for s l.ticks l.count l.request st)

-- total, count, error
abbrev pub totalled : State → List ℕ
totalled st = st.totals.total ∷ st.totals.count ∷ error_number st.sequence.error ∷ []

-- settings A with k 10 and Q 12
abbrev pub settings_q12 : Settings
settings_q12 = settings_of (given_of (set (set list_a 9 (pos 10)) 17 (pos 12)))

-- F 10,000 and the rest 0: started at 0, n ticks more at 0, ten at 10,008 divisions, and one with this count and request. All delays are
-- 0, so the tick after the start enters 08 with the clock 0, and the next 09. The first tick at 10,008 enters 10 and breaks the run, the
-- second enters 11. In the eleventh the run would be 10; the clock is then n + 10: at Q if n is 2, past it if n is 3.
abbrev pub filling : ℕ → ℤ → Option Request → List Leg
filling n count r = leg 1 (pos 0) (Some request.Start) ∷ leg n (pos 0) None ∷ leg 10 (pos 100084) None ∷ leg 1 count r ∷ []

-- one batch is booked; then a second one
abbrev pub once : State
once = state_after settings_q12 (leg 1 (pos 0) (Some (request.Set (setpoints 10000 0 0 0))) ∷ filling 2 (pos 100084) None) open_state

abbrev pub again : ℕ → ℤ → Option Request → List ℕ
again n count r = totalled (state_after settings_q12 (filling n count r) once)

-- mode 2: 100 divisions are tared away, 70 of them flow out, F is 50
abbrev pub settings_loss_q12 : Settings
settings_loss_q12 = settings_of (given_of (set (set (set list_a 9 (pos 10)) 17 (pos 12)) 11 (pos 2)))

abbrev pub emptied : State
emptied =
    state_after settings_loss_q12
    (leg 1 (pos 1000) (Some (request.Set (setpoints 50 0 0 0))) ∷ leg 10 (pos 1000) None ∷ leg 1 (pos 1000) (Some request.Tare)
    ∷ leg 1 (pos 1000) (Some request.Start) ∷ leg 2 (pos 1000) None ∷ leg 11 (pos 300) None ∷ [])
    open_state

pub record Finished : Type 0 where
  pub once_booked : totalled once ≡ 10008 ∷ 1 ∷ 0 ∷ []
  pub twice_booked : again 2 (pos 100084) None ≡ 20016 ∷ 2 ∷ 0 ∷ []
  -- what is booked is the weight of the finishing tick: 20 tenths less are stable still
  pub its_own_weight : again 2 (pos 100064) None ≡ 20014 ∷ 2 ∷ 0 ∷ []
  -- and not gross: 30 divisions stand in the tank
  pub loss_booked : totalled emptied ≡ 70 ∷ 1 ∷ 0 ∷ []
  -- 21 tenths less are not stable: it goes on
  pub unstable : again 2 (pos 100063) None ≡ 10008 ∷ 1 ∷ 0 ∷ []
  -- "flow clock, .. above Q, error 6": a late finish is not booked
  pub late : again 3 (pos 100084) None ≡ 10008 ∷ 1 ∷ 6 ∷ []
  -- "a bad or overloaded tick in 03-11, error 9": one tenth more is stable and an overload
  pub bad : again 2 (pos 2000001) None ≡ 10008 ∷ 1 ∷ 9 ∷ []
  pub overloaded : again 2 (pos 100085) None ≡ 10008 ∷ 1 ∷ 9 ∷ []
  -- "Step 6 tests error 9, then 6, then the stage."
  pub bad_and_late : again 3 (pos 2000001) None ≡ 10008 ∷ 1 ∷ 9 ∷ []
  pub overloaded_and_late : again 3 (pos 100085) None ≡ 10008 ∷ 1 ∷ 9 ∷ []
  -- "Step 6 is passed over in a tick with .. a stop"; "stop in 03-11, error 4", past the flow limit too
  pub stopped : again 2 (pos 100084) (Some request.Stop) ≡ 10008 ∷ 1 ∷ 4 ∷ []
  pub stopped_late : again 3 (pos 100084) (Some request.Stop) ≡ 10008 ∷ 1 ∷ 4 ∷ []
  -- an undo and a clear are step 4's, the booking is step 6's
  pub undo_before : again 2 (pos 100084) (Some request.Undo) ≡ 10008 ∷ 1 ∷ 0 ∷ []
  pub clear_before : again 2 (pos 100084) (Some request.TotalClear) ≡ 10008 ∷ 1 ∷ 0 ∷ []
