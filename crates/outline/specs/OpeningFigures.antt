-- Worked by hand from the outline: what an opening answers, and what it keeps of the settings, field by field. Statements; they are
-- computed in proofs/OpeningFigures.antt.
use Rattle.std.specs.Prelude.{ℕ, ◌≡◌, false, List, [], ◌∷◌, set, ℤ, pos, None, Some}
use Rattle.types.specs.declared.settings.Settings.{Settings}
use Rattle.types.specs.declared.settings.Mode.TheVariants as mode
use Rattle.types.specs.declared.analog.Board.TheVariants as board
use Rattle.types.specs.declared.weight.Display.TheVariants as display
use Rattle.types.specs.declared.stages.Stage.TheVariants as stage
use Rattle.types.specs.declared.machine.State.{State}
use Rattle.outline.specs.Analog.{f64}
use Rattle.outline.specs.Settings.{open_of}
use Rattle.outline.specs.Tick.{opened_of}
use Rattle.outline.specs.Numbers.{opening_number}
use Rattle.outline.specs.Figures.{minus, given_of, list_a}
use Rattle.types.specs.declared.stages.SequenceError.TheVariants as error
use Rattle.types.specs.declared.stages.Judgement.TheVariants as judgement

-- "Settings A: Z 0, S 100,000, W = C = 10,000, d 1, p 2, q 100, w 5, L 20, k 100, s 2, mode 1, delays 0, Q 6,000, address 0, no board,
-- ends 0 and 10,000."
abbrev pub written_a : Settings
written_a = record {
  calibration = record { zero = pos 0; counts = 100000; weight = 10000 };
  range = record { capacity = 10000; division = 1; zeroing = 2 };
  tracking = record { time = 100; width = 5; allowance = 20 };
  steadiness = record { time = 100; width = 2 };
  batching = record {
    mode = mode.Normal;
    start = 0;
    large = 0;
    medium = 0;
    small = 0;
    judge = 0;
    flow = 6000;
    discharge = record { start = 0; end = 0; limit = 6000 };
  };
  address = 0;
  board = None;
  scale = record { low = f64 (pos 0); span = f64 (pos 10000) };
}

-- settings of which no two are alike, in the order of the outline's table; S - Z is 100,000, D is 77
abbrev pub list_b : List ℤ
list_b =
    minus 1000 ∷ pos 99000 ∷ pos 12000 ∷ pos 8000 ∷ pos 5 ∷ pos 3 ∷ pos 40 ∷ pos 6 ∷ pos 30 ∷ pos 20 ∷ pos 4 ∷ pos 2
    ∷ pos 11 ∷ pos 12 ∷ pos 13 ∷ pos 14 ∷ pos 15 ∷ pos 16 ∷ pos 17 ∷ pos 1 ∷ minus 7 ∷ pos 70 ∷ pos 18 ∷ pos 19 ∷ pos 21 ∷ []

abbrev pub written_b : Settings
written_b = record {
  calibration = record { zero = minus 1000; counts = 100000; weight = 8000 };
  range = record { capacity = 12000; division = 5; zeroing = 3 };
  tracking = record { time = 40; width = 6; allowance = 30 };
  steadiness = record { time = 20; width = 4 };
  batching = record {
    mode = mode.Loss;
    start = 11;
    large = 12;
    medium = 13;
    small = 14;
    judge = 15;
    flow = 16;
    discharge = record { start = 18; end = 19; limit = 21 };
  };
  address = 17;
  board = Some board.Current;
  scale = record { low = f64 (minus 7); span = f64 (pos 77) };
}

-- "Opening: zero, tare, totals, setpoints and error 0, stage 00, display gross, no judgement, nothing to take back, no good tick yet.";
-- and no setpoints waiting (A5)
abbrev pub written_state : State
written_state = record {
  book = record {
    begun = false;
    contact = false;
    opening = pos 0;
    last = pos 0;
    refilled = pos 0;
    used = pos 0;
    unbooked = pos 0;
    ticks = 0;
  };
  stability = record { good = false; run = 0 };
  weighing = record { zero = pos 0; tracked = pos 0; tare = pos 0; counter = 0 };
  panel = record { display = display.Gross };
  setpoints = record { target = 0; fall = 0; preliminary = 0; optional = 0; over = 0; under = 0; near = 0 };
  waiting = None;
  sequence = record { stage = stage.Idle; clock = 0; error = error.None; judgement = judgement.None };
  totals = record { total = 0; count = 0; back = None };
}

-- the number that an opening answers
abbrev pub opens : List ℤ → ℕ
opens l = opening_number (open_of (given_of l))

-- settings A with another division, and with other ends
abbrev pub division_opens : ℤ → ℕ
division_opens d = opens (set list_a 4 d)

abbrev pub ends_open : ℤ → ℤ → ℕ
ends_open low high = opens (set (set list_a 20 low) 21 high)

pub record Opened : Type 0 where
  -- every value is kept as what it is given for
  pub settings_a_lem : open_of (given_of list_a) ≡ Some written_a
  pub settings_b : open_of (given_of list_b) ≡ Some written_b
  pub state : opened_of (open_of (given_of list_a)) ≡ written_state ∷ []
  -- "Any value outside its range gives answer 10 and no state."
  pub accepted : opens list_a ≡ 0
  pub no_state : opened_of (open_of (given_of (set list_a 1 (pos 99999)))) ≡ []
  -- "division d | 1, 2, 5, 10, 20, 50": 100, 200, 500, 0, -1 are none
  pub other-divisions :
      division_opens (pos 100) ∷ division_opens (pos 200) ∷ division_opens (pos 500) ∷ division_opens (pos 0)
      ∷ division_opens (minus 1) ∷ []
      ≡ 10 ∷ 10 ∷ 10 ∷ 10 ∷ 10 ∷ []
  -- "low and high end | .. -999,999..999,999, not equal": each end at each of its limits, and one beyond
  pub ends-at-limits :
      ends_open (pos 999999) (pos 0) ∷ ends_open (pos 999999) (minus 999999) ∷ ends_open (minus 999999) (pos 999999) ∷ [] ≡ 0 ∷ 0 ∷ 0 ∷ []
  pub low_end_beyond : ends_open (pos 1000000) (pos 0) ∷ ends_open (minus 1000000) (pos 0) ∷ [] ≡ 10 ∷ 10 ∷ []
  pub high_end_beyond : ends_open (pos 0) (pos 1000000) ∷ ends_open (pos 0) (minus 1000000) ∷ [] ≡ 10 ∷ 10 ∷ []
