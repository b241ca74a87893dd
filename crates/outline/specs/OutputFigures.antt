-- Worked by hand from the outline: all outputs of the first tick, near zero and full at their limits, the analog value of what is
-- displayed, and the longest block. Statements; they are computed in proofs/OutputFigures.antt.
use Rattle.std.specs.Prelude.{ℕ, ◌≡◌, Bool, true, false, List, [], ◌∷◌, ◌++◌, replicate, set, ℤ, pos, Float, None, Ok, Option, Some}
use Rattle.types.specs.declared.settings.Settings.{Settings}
use Rattle.types.specs.declared.analog.Analog.{Analog}
use Rattle.types.specs.declared.requests.Request.TheVariants as request
use Rattle.types.specs.declared.stages.Stage.TheVariants as stage
use Rattle.types.specs.declared.stages.Setpoints.{Setpoints}
use Rattle.types.specs.declared.machine.Answer.{Answer}
use Rattle.outline.specs.Analog.{f64}
use Rattle.outline.specs.Settings.{settings_of}
use Rattle.outline.specs.Tick.{open_state, block_of}
use Rattle.outline.specs.Numbers.{judgement_number, analog_number, analog_values, block_number}
use Rattle.outline.specs.Figures.{minus, given_of, list_a, settings_a, tick_at, told}
use Rattle.outline.specs.Worked.{Leg, leg, answers}
use Rattle.outline.specs.Rules.{settings_loss}
use Rattle.outline.specs.RequestFigures.{settings10, tared}
use Rattle.types.specs.declared.stages.SequenceError.TheVariants as error
use Rattle.types.specs.declared.stages.Judgement.TheVariants as judgement

-- ---- the first tick after the opening
abbrev pub first : ℤ → Answer
first count = told settings_a open_state count None

abbrev pub first_answer : ℤ → Bool → Answer
first_answer gross near = record {
  outcome = Ok tt;
  reading = record { good = true; overload = false; stable = false; gross = gross; net = gross };
  stage = stage.Idle;
  gates = record { large = false; medium = false; small = false; discharge = false };
  judgement = judgement.None;
  error = error.None;
  near = near;
  full = false;
  analog = None;
  closed = None;
}

-- ---- near zero and full: near zero 5, OP or full 50
abbrev pub limits_set : Setpoints
limits_set = record { target = 100; fall = 0; preliminary = 0; optional = 50; over = 0; under = 0; near = 5 }

abbrev pub with_limits : Settings → ℤ → Answer
with_limits s count = told s (tick_at s open_state (pos 0) (Some (request.Set limits_set))).state count None

abbrev pub near_at : ℤ → Bool
near_at count = (with_limits settings_a count).near

abbrev pub near_tared : ℤ → Bool
near_tared count = (told settings10 tared count None).near

abbrev pub full_at : ℤ → Bool
full_at count = (with_limits settings_loss count).full

-- ---- analog value
-- settings A with a board
abbrev pub on_board : ℕ → Settings
on_board b = settings_of (given_of (set list_a 19 (pos b)))

abbrev pub first_analog : ℕ → ℤ → Option Analog
first_analog b count = (told (on_board b) open_state count None).analog

abbrev pub analog_in : List Answer → List (List Float)
analog_in [] = []
analog_in (a ∷ l) = analog_values a.analog ∷ analog_in l

-- k 10, a board, ends 0 and 100: with a tare of 10 and gross displayed, what the board is given in these ticks
abbrev pub shown_in : ℕ → List Leg → List (List Float)
shown_in b legs = analog_in (answers (settings_of (given_of (set (set (set list_a 9 (pos 10)) 19 (pos b)) 21 (pos 100)))) legs tared)

abbrev pub show_net : List Leg
show_net = leg 1 (pos 600) (Some request.ShowNet) ∷ leg 1 (pos 600) None ∷ []

abbrev pub show_gross : List Leg
show_gross = leg 1 (pos 600) (Some request.ShowGross) ∷ leg 1 (pos 600) None ∷ []

-- one value, a whole number of mA or V
abbrev pub number : ℕ → List Float
number n = f64 (pos n) ∷ []

pub record Displayed : Type 0 where
  -- "Opening: zero, tare, .. and error 0, stage 00, .. no judgement": the first tick, at 0 and at 1 division
  pub first_at_0 : first (pos 0) ≡ first_answer (pos 0) true
  pub first_at_10 : first (pos 10) ≡ first_answer (pos 1) false
  -- "no judgement": the number of the house
  pub first_judgement : judgement_number (first (pos 0)).judgement ≡ 0
  -- "Near-zero output: gross at most near zero.": 5 and not 6
  pub near_zero : near_at (pos 50) ∷ near_at (pos 60) ∷ near_at (minus 600) ∷ [] ≡ true ∷ false ∷ true ∷ []
  -- gross, and not net: with a tare of 10 and near zero 0, on at gross 0 and off at 5, where net is -5
  pub near_zero_of_gross : near_tared (pos 0) ∷ near_tared (pos 50) ∷ [] ≡ true ∷ false ∷ []
  -- "Full output: mode 2 and gross above full.": 51 and not 50; in mode 1 never
  pub full : full_at (pos 500) ∷ full_at (pos 510) ∷ full_at (minus 600) ∷ [] ≡ false ∷ true ∷ false ∷ []
  pub full_in_mode_1 : (with_limits settings_a (pos 600)).full ≡ false
  -- "The answer is a current, a voltage or no value": 0 for none, 1 for a current, 2 for a voltage
  pub analog-numbers :
      analog_number (first_analog 0 (pos 0)) ∷ analog_number (first_analog 1 (pos 0)) ∷ analog_number (first_analog 2 (pos 0)) ∷ []
      ≡ 0 ∷ 1 ∷ 2 ∷ []
  pub analog_none : analog_values (first_analog 0 (pos 0)) ≡ []
  pub analog_current : analog_values (first_analog 1 (pos 0)) ∷ analog_values (first_analog 1 (pos 100000)) ∷ [] ≡ number 4 ∷ number 20 ∷ []
  pub analog_voltage : analog_values (first_analog 2 (pos 0)) ∷ analog_values (first_analog 2 (pos 100000)) ∷ [] ≡ number 0 ∷ number 10 ∷ []
  -- "show gross and show net choose the displayed weight.", "x = displayed weight - low end": ends 0 and 100, gross 60, net 50
  pub volts_of_gross : shown_in 2 (leg 1 (pos 600) None ∷ []) ≡ number 6 ∷ []
  pub volts_of_net : shown_in 2 show_net ≡ number 5 ∷ number 5 ∷ []
  pub volts_of_gross_again : shown_in 2 (show_net ++ show_gross) ≡ number 5 ∷ number 5 ∷ number 6 ∷ number 6 ∷ []
  pub current_of_net : shown_in 1 show_net ≡ number 12 ∷ number 12 ∷ []
  -- "A block of up to 4,096 counts .. answers 0", "A longer block is refused with 15"
  pub block_of_4096 : block_number (block_of settings_a open_state (replicate 4096 (pos 0)) false).answer ≡ 0
  pub block_of_4097 : block_number (block_of settings_a open_state (replicate 4097 (pos 0)) false).answer ≡ 15
