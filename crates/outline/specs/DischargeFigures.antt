-- Worked by hand from request A1: a discharge tick by tick, its clock and its errors; what BD and other requests are answered, and BD on a
-- line. Statements; they are computed in proofs/DischargeFigures.antt.
use Rattle.std.specs.Prelude.{ℕ, zero, suc, ◌≡◌, true, false, List, [], ◌∷◌, ◌++◌, map, replicate, set, ℤ, pos, Option, None, Some}
use Prim.Native.String.{String}
use Rattle.types.specs.declared.settings.Settings.{Settings}
use Rattle.types.specs.declared.weight.Display.TheVariants as display
use Rattle.types.specs.declared.requests.Request.{Request}
use Rattle.types.specs.declared.requests.Request.TheVariants as request
use Rattle.types.specs.declared.stages.Setpoints.{Setpoints}
use Rattle.types.specs.declared.stages.Stage.TheVariants as stage
use Rattle.types.specs.declared.stages.Judgement.{Judgement}
use Rattle.types.specs.declared.stages.Judgement.TheVariants as judgement
use Rattle.types.specs.declared.stages.SequenceError.TheVariants as error
use Rattle.types.specs.declared.machine.State.{State}
use Rattle.types.specs.declared.machine.Answer.{Answer}
use Rattle.types.specs.declared.machine.Ticked.{Ticked}
use Rattle.outline.specs.Settings.{settings_of, open_of}
use Rattle.outline.specs.Parts.{with_sequence}
use Rattle.outline.specs.Setpoints.{none_waiting}
use Rattle.outline.specs.Tick.{open_state}
use Rattle.outline.specs.Numbers.{opening_number, outcome_number, stage_number, error_number, judgement_number, told_number, closed_values}
use Rattle.outline.specs.Figures.{minus, given_of, list_a, tick_at, told, setpoints}
use Rattle.outline.specs.Worked.{Leg, leg, answers, stages_in, gates_in, shut, one, emptying, errors_in, line, room, ask}
use Rattle.outline.specs.Worked.{reply, settings7}
use Rattle.outline.specs.Finishes.{state_after}
use Rattle.outline.specs.LineFigures.{heard}
use Rattle.outline.specs.RequestFigures.{standing}

-- ---- a discharge tick by tick
-- settings A with k 10, as a list: a discharge with this start delay, end delay and limit
abbrev pub list_out : ℕ → ℕ → ℕ → List ℤ
list_out start after limit = set (set (set (set list_a 9 (pos 10)) 22 (pos start)) 23 (pos after)) 24 (pos limit)

abbrev pub settings_out : ℕ → ℕ → ℕ → Settings
settings_out start after limit = settings_of (given_of (list_out start after limit))

-- F 10, FF 5, near zero 20
abbrev pub points : Setpoints
points = record { target = 10; fall = 5; preliminary = 0; optional = 0; over = 0; under = 0; near = 20 }

-- a batch that finishes at this count: 03 and 08 at 0; at the count 09, 10, and 11 until the run is 10
abbrev pub batch_at : ℤ → List Leg
batch_at count =
    leg 1 (pos 0) (Some (request.Set points)) ∷ leg 1 (pos 0) (Some request.Start) ∷ leg 1 (pos 0) None ∷ leg 11 count None ∷ []

-- a batch of 10, OK, then a discharge at 100 that was stopped: error 7; the batch can be taken back
abbrev pub before : State
before = record {
  book = record {
    begun = true;
    contact = false;
    opening = pos 0;
    last = pos 1000;
    refilled = pos 0;
    used = minus 1000;
    unbooked = pos 0;
    ticks = 16;
  };
  stability = record { good = true; run = 1 };
  weighing = record { zero = pos 0; tracked = pos 0; tare = pos 0; counter = 0 };
  panel = record { display = display.Gross };
  setpoints = points;
  waiting = none_waiting;
  sequence = record { stage = stage.Idle; clock = 0; error = error.DischargeStopped; judgement = judgement.Ok };
  totals = record { total = 10; count = 1; back = Some 10 };
}

-- the ticks of each leg, the first one first
abbrev pub run_for : Settings → State → ℕ → ℤ → Option Request → (State → List Ticked) → List Ticked
run_for s st zero count r rest = rest st
run_for s st (suc n) count r rest =
    let tick = tick_at s st count r in
    tick ∷ run_for s tick.state n count r rest

abbrev pub ticks_in : Settings → List Leg → State → List Ticked
ticks_in s [] st = []
ticks_in s (l ∷ ls) st = run_for s st l.ticks l.count l.request (ticks_in s ls)

abbrev pub answers_in : List Ticked → List Answer
answers_in = map (λ (t : Ticked). t.answer)

abbrev pub clocks_in : List Ticked → List ℕ
clocks_in = map (λ (t : Ticked). t.state.sequence.clock)

-- the state after the last
abbrev pub last_of : State → List Ticked → State
last_of st [] = st
last_of st (t ∷ ts) = last_of t.state ts

-- what each tick shows; and after the last one stage, error, judgement, total, count
pub record Course : Type 0 where
  pub stages : List ℕ
  pub gates : List (List ℕ)
  pub clocks : List ℕ
  pub errors : List ℕ
  pub after : List ℕ

abbrev pub course_of : State → List Ticked → Course
course_of st ts = record {
  stages = stages_in (answers_in ts);
  gates = gates_in (answers_in ts);
  clocks = clocks_in ts;
  errors = errors_in (answers_in ts);
  after = standing (last_of st ts);
}

abbrev pub course_from : Settings → State → List Leg → Course
course_from s st ls = course_of st (ticks_in s ls st)

-- with this start delay, end delay and limit
abbrev pub course : ℕ → ℕ → ℕ → List Leg → Course
course start after limit = course_from (settings_out start after limit) before

-- BD at 100, n ticks more at 100, then m at 20, which is near zero
abbrev pub drained : ℕ → ℕ → List Leg
drained n m = leg 1 (pos 1000) (Some request.Discharge) ∷ leg n (pos 1000) None ∷ leg m (pos 200) None ∷ []

-- the same at 20 from the start
abbrev pub at_near : ℕ → List Leg
at_near n = leg 1 (pos 200) (Some request.Discharge) ∷ leg n (pos 200) None ∷ []

-- with delays of 3 and this limit: what a tick with this count and request shows behind those, and one tick more
abbrev pub behind : ℕ → ℕ → ℕ → ℤ → Option Request → Course
behind limit n m count r =
    let s = settings_out 3 3 limit in
    course_from s (state_after s (drained n m) before) (leg 1 count r ∷ leg 1 (pos 1000) None ∷ [])

-- in each of 14, 15 and 16
abbrev pub in_each : ℤ → Option Request → List Course
in_each count r = behind 6000 0 0 count r ∷ behind 6000 3 0 count r ∷ behind 6000 5 1 count r ∷ []

-- over with this error: stage 00, every gate shut; judgement, total and count stay
abbrev pub over : ℕ → Course
over e = record {
  stages = 0 ∷ 0 ∷ [];
  gates = shut ∷ shut ∷ [];
  clocks = 0 ∷ 0 ∷ [];
  errors = e ∷ e ∷ [];
  after = 0 ∷ e ∷ 1 ∷ 10 ∷ 1 ∷ [];
}

-- ---- gross and net
-- a tare of 50, keyed in the eleventh tick at 50
abbrev pub tare_legs : List Leg
tare_legs = leg 1 (pos 500) (Some (request.Set points)) ∷ leg 10 (pos 500) None ∷ leg 1 (pos 500) (Some request.Tare) ∷ []

-- BD and 15 at 100, then gross 60 and 21, and 20
abbrev pub tare_course : List Answer
tare_course =
    let s = settings_out 0 0 6000 in
    answers s
    (drained 1 0 ++ (leg 1 (pos 600) None ∷ leg 1 (pos 210) None ∷ leg 1 (pos 200) None ∷ []))
    (state_after s tare_legs open_state)

abbrev pub nets_in : List Answer → List ℤ
nets_in = map (λ (a : Answer). a.reading.net)

-- d 5: BD and 15 at 100 divisions, then 5 divisions and 4
abbrev pub course_d5 : List Answer
course_d5 =
    let s = settings_of (given_of (set (list_out 0 0 6000) 4 (pos 5))) in
    answers s
    (leg 1 (pos 0) (Some (request.Set points)) ∷ drained 1 0 ++ (leg 1 (pos 50) None ∷ leg 1 (pos 40) None ∷ []))
    open_state

-- ---- what a discharge keeps
abbrev pub judgements_in : List Answer → List ℕ
judgements_in = map (λ (a : Answer). judgement_number a.judgement)

-- the judgements of a whole discharge, 14, 15, 16 and 00, behind a batch so judged
abbrev pub judged_behind : Judgement → List ℕ
judged_behind j =
    judgements_in
    (answers_in
    (ticks_in (settings_out 0 0 6000) (drained 1 2)
    (with_sequence before (record { stage = stage.Idle; clock = 0; error = error.None; judgement = j }))))

-- after a discharge and this request
abbrev pub after_then : Option Request → List ℕ
after_then r =
    let s = settings_out 0 0 6000 in
    standing (state_after s (drained 1 2 ++ (leg 1 (pos 0) r ∷ [])) before)

-- a batch of 100 and four discharges, all delays 0: one stopped, one with a bad tick, one that ends, one with two undos; then a start
abbrev pub day_legs : List Leg
day_legs =
    leg 1 (pos 0) (Some (request.Set (record { target = 100; fall = 0; preliminary = 0; optional = 0; over = 0; under = 0; near = 20 })))
    ∷ leg 1 (pos 0) (Some request.Start) ∷ leg 2 (pos 0) None ∷ leg 11 (pos 1000) None
    ∷ leg 1 (pos 1000) (Some request.Discharge) ∷ leg 1 (pos 1000) None ∷ leg 1 (pos 1000) (Some request.Stop)
    ∷ leg 1 (pos 1000) (Some request.Discharge) ∷ leg 1 (pos 1000) None ∷ leg 1 (pos 2000001) None
    ∷ leg 1 (pos 1000) (Some request.Discharge) ∷ leg 1 (pos 1000) None ∷ leg 1 (pos 200) None
    ∷ leg 2 (pos 200) (Some request.Discharge) ∷ leg 2 (pos 200) (Some request.Undo) ∷ leg 1 (pos 200) None
    ∷ leg 1 (pos 0) (Some request.Start) ∷ []

-- what its ticks show
pub record Day : Type 0 where
  pub answers : List ℕ
  pub stages : List ℕ
  pub gates : List (List ℕ)
  pub clocks : List ℕ
  pub errors : List ℕ
  pub judgements : List ℕ
  pub totals : List ℕ
  pub counts : List ℕ
  pub back : List (Option ℕ)

abbrev pub day_of : List Ticked → Day
day_of ts = record {
  answers = map (λ (t : Ticked). outcome_number t.answer.outcome) ts;
  stages = stages_in (answers_in ts);
  gates = gates_in (answers_in ts);
  clocks = clocks_in ts;
  errors = errors_in (answers_in ts);
  judgements = judgements_in (answers_in ts);
  totals = map (λ (t : Ticked). t.state.totals.total) ts;
  counts = map (λ (t : Ticked). t.state.totals.count) ts;
  back = map (λ (t : Ticked). t.state.totals.back) ts;
}

-- in 08 of the next batch, stopped there; then a whole discharge
abbrev pub stopped_batch : Course
stopped_batch =
    course_from (settings_out 0 0 6000)
    (with_sequence before (record { stage = stage.SmallDisable 0; clock = 0; error = error.None; judgement = judgement.None }))
    (leg 1 (pos 0) (Some request.Stop) ∷ drained 1 2)

-- ---- tracking: q 3, delays of 3, 4 tenths in every tick but the first, which does not count
abbrev pub settings_tracked : Settings
settings_tracked = settings_of (given_of (set (list_out 3 3 6000) 6 (pos 3)))

abbrev pub track_legs : List Leg
track_legs =
    leg 2 (pos 4) None ∷ leg 1 (pos 4) (Some request.Discharge) ∷ leg 8 (pos 4) None ∷ leg 1 (pos 4) (Some request.Discharge)
    ∷ leg 1 (pos 4) (Some request.Stop) ∷ leg 2 (pos 4) None ∷ []

abbrev pub track_from : State
track_from = state_after settings_tracked (leg 1 (pos 100) (Some (request.Set points)) ∷ []) open_state

-- the counter, the zero in force and what was tracked, after each tick
pub record Tracks : Type 0 where
  pub stages : List ℕ
  pub counters : List ℕ
  pub zeroes : List ℤ
  pub tracked : List ℤ

abbrev pub tracks_of : List Ticked → Tracks
tracks_of ts = record {
  stages = stages_in (answers_in ts);
  counters = map (λ (t : Ticked). t.state.weighing.counter) ts;
  zeroes = map (λ (t : Ticked). t.state.weighing.zero) ts;
  tracked = map (λ (t : Ticked). t.state.weighing.tracked) ts;
}

pub record Discharged : Type 0 where
  -- the state that most of these begin with is reached
  pub reached :
      state_after (settings_out 0 0 6000)
      (batch_at (pos 100) ++ (leg 1 (pos 1000) (Some request.Discharge) ∷ leg 1 (pos 1000) (Some request.Stop) ∷ [])) open_state
      ≡ before
  -- "A timed stage of n lasts max(n, 1) ticks": 14 a tick with a delay of 0, and "BD .. passes step 6 over": its tick is that one. "the
  -- discharge gate opens in 15, until gross is at most near zero, and stays open through 16, the end delay." "Its clock is 0 on entering 15
  -- and grows by one each tick through 16". It ends without an error, and with the judgement that it found.
  pub delays_0 : course 0 0 6000 (drained 5 3) ≡ record {
    stages = 14 ∷ 15 ∷ 15 ∷ 15 ∷ 15 ∷ 15 ∷ 16 ∷ 0 ∷ 0 ∷ [];
    gates = shut ∷ emptying ∷ emptying ∷ emptying ∷ emptying ∷ emptying ∷ emptying ∷ shut ∷ shut ∷ [];
    clocks = 0 ∷ 0 ∷ 1 ∷ 2 ∷ 3 ∷ 4 ∷ 5 ∷ 0 ∷ 0 ∷ [];
    errors = 0 ∷ 0 ∷ 0 ∷ 0 ∷ 0 ∷ 0 ∷ 0 ∷ 0 ∷ 0 ∷ [];
    after = 0 ∷ 0 ∷ 1 ∷ 10 ∷ 1 ∷ [];
  }
  -- a delay of 1 is a tick too
  pub delays_1 : course 1 1 6000 (drained 5 3) ≡ record {
    stages = 14 ∷ 15 ∷ 15 ∷ 15 ∷ 15 ∷ 15 ∷ 16 ∷ 0 ∷ 0 ∷ [];
    gates = shut ∷ emptying ∷ emptying ∷ emptying ∷ emptying ∷ emptying ∷ emptying ∷ shut ∷ shut ∷ [];
    clocks = 0 ∷ 0 ∷ 1 ∷ 2 ∷ 3 ∷ 4 ∷ 5 ∷ 0 ∷ 0 ∷ [];
    errors = 0 ∷ 0 ∷ 0 ∷ 0 ∷ 0 ∷ 0 ∷ 0 ∷ 0 ∷ 0 ∷ [];
    after = 0 ∷ 0 ∷ 1 ∷ 10 ∷ 1 ∷ [];
  }
  -- "14 is the start delay with the gate shut": three ticks
  pub delays_3 : course 3 3 6000 (drained 5 5) ≡ record {
    stages = 14 ∷ 14 ∷ 14 ∷ 15 ∷ 15 ∷ 15 ∷ 16 ∷ 16 ∷ 16 ∷ 0 ∷ 0 ∷ [];
    gates = shut ∷ shut ∷ shut ∷ emptying ∷ emptying ∷ emptying ∷ emptying ∷ emptying ∷ emptying ∷ shut ∷ shut ∷ [];
    clocks = 0 ∷ 0 ∷ 0 ∷ 0 ∷ 1 ∷ 2 ∷ 3 ∷ 4 ∷ 5 ∷ 0 ∷ 0 ∷ [];
    errors = 0 ∷ 0 ∷ 0 ∷ 0 ∷ 0 ∷ 0 ∷ 0 ∷ 0 ∷ 0 ∷ 0 ∷ 0 ∷ [];
    after = 0 ∷ 0 ∷ 1 ∷ 10 ∷ 1 ∷ [];
  }
  -- "until gross is at most near zero": not at 21, but at 20; 16 asks for no weight
  pub above-near :
      course 3 3 6000
      (drained 5 0 ++ (leg 1 (pos 210) None ∷ leg 1 (pos 200) None ∷ leg 3 (pos 1000) None ∷ []))
      ≡ record {
        stages = 14 ∷ 14 ∷ 14 ∷ 15 ∷ 15 ∷ 15 ∷ 15 ∷ 16 ∷ 16 ∷ 16 ∷ 0 ∷ [];
        gates = shut ∷ shut ∷ shut ∷ emptying ∷ emptying ∷ emptying ∷ emptying ∷ emptying ∷ emptying ∷ emptying ∷ shut ∷ [];
        clocks = 0 ∷ 0 ∷ 0 ∷ 0 ∷ 1 ∷ 2 ∷ 3 ∷ 4 ∷ 5 ∷ 6 ∷ 0 ∷ [];
        errors = 0 ∷ 0 ∷ 0 ∷ 0 ∷ 0 ∷ 0 ∷ 0 ∷ 0 ∷ 0 ∷ 0 ∷ 0 ∷ [];
        after = 0 ∷ 0 ∷ 1 ∷ 10 ∷ 1 ∷ [];
      }
  -- at near zero from the start: 15 has a tick of its own
  pub near_0 : course 0 0 6000 (at_near 3) ≡ record {
    stages = 14 ∷ 15 ∷ 16 ∷ 0 ∷ [];
    gates = shut ∷ emptying ∷ emptying ∷ shut ∷ [];
    clocks = 0 ∷ 0 ∷ 1 ∷ 0 ∷ [];
    errors = 0 ∷ 0 ∷ 0 ∷ 0 ∷ [];
    after = 0 ∷ 0 ∷ 1 ∷ 10 ∷ 1 ∷ [];
  }
  pub near_3 : course 3 3 6000 (at_near 7) ≡ record {
    stages = 14 ∷ 14 ∷ 14 ∷ 15 ∷ 16 ∷ 16 ∷ 16 ∷ 0 ∷ [];
    gates = shut ∷ shut ∷ shut ∷ emptying ∷ emptying ∷ emptying ∷ emptying ∷ shut ∷ [];
    clocks = 0 ∷ 0 ∷ 0 ∷ 0 ∷ 1 ∷ 2 ∷ 3 ∷ 0 ∷ [];
    errors = 0 ∷ 0 ∷ 0 ∷ 0 ∷ 0 ∷ 0 ∷ 0 ∷ 0 ∷ [];
    after = 0 ∷ 0 ∷ 1 ∷ 10 ∷ 1 ∷ [];
  }
  -- gross, and not net: with a tare of 50, 60 gross is 10 net
  pub gross_stages : stages_in tare_course ≡ 14 ∷ 15 ∷ 15 ∷ 15 ∷ 16 ∷ []
  pub gross_nets : nets_in tare_course ≡ pos 50 ∷ pos 50 ∷ pos 10 ∷ minus 29 ∷ minus 30 ∷ []
  -- in display digits: with d 5, 5 divisions are 25 and 4 are 20
  pub display_digits : stages_in course_d5 ≡ 0 ∷ 14 ∷ 15 ∷ 15 ∷ 16 ∷ []
  -- "above its own limit (1..60,000 ticks) it gives error 8", "tested first, then the clock", then the stage: 16 would end in that tick
  pub past_limit : course 0 3 5 (drained 3 5) ≡ record {
    stages = 14 ∷ 15 ∷ 15 ∷ 15 ∷ 16 ∷ 16 ∷ 16 ∷ 0 ∷ 0 ∷ [];
    gates = shut ∷ emptying ∷ emptying ∷ emptying ∷ emptying ∷ emptying ∷ emptying ∷ shut ∷ shut ∷ [];
    clocks = 0 ∷ 0 ∷ 1 ∷ 2 ∷ 3 ∷ 4 ∷ 5 ∷ 0 ∷ 0 ∷ [];
    errors = 0 ∷ 0 ∷ 0 ∷ 0 ∷ 0 ∷ 0 ∷ 0 ∷ 8 ∷ 8 ∷ [];
    after = 0 ∷ 8 ∷ 1 ∷ 10 ∷ 1 ∷ [];
  }
  -- at the limit it ends
  pub at_limit : course 0 3 6 (drained 3 5) ≡ record {
    stages = 14 ∷ 15 ∷ 15 ∷ 15 ∷ 16 ∷ 16 ∷ 16 ∷ 0 ∷ 0 ∷ [];
    gates = shut ∷ emptying ∷ emptying ∷ emptying ∷ emptying ∷ emptying ∷ emptying ∷ shut ∷ shut ∷ [];
    clocks = 0 ∷ 0 ∷ 1 ∷ 2 ∷ 3 ∷ 4 ∷ 5 ∷ 0 ∷ 0 ∷ [];
    errors = 0 ∷ 0 ∷ 0 ∷ 0 ∷ 0 ∷ 0 ∷ 0 ∷ 0 ∷ 0 ∷ [];
    after = 0 ∷ 0 ∷ 1 ∷ 10 ∷ 1 ∷ [];
  }
  pub at_limit_sooner : course 0 3 5 (drained 2 4) ≡ record {
    stages = 14 ∷ 15 ∷ 15 ∷ 16 ∷ 16 ∷ 16 ∷ 0 ∷ [];
    gates = shut ∷ emptying ∷ emptying ∷ emptying ∷ emptying ∷ emptying ∷ shut ∷ [];
    clocks = 0 ∷ 0 ∷ 1 ∷ 2 ∷ 3 ∷ 4 ∷ 0 ∷ [];
    errors = 0 ∷ 0 ∷ 0 ∷ 0 ∷ 0 ∷ 0 ∷ 0 ∷ [];
    after = 0 ∷ 0 ∷ 1 ∷ 10 ∷ 1 ∷ [];
  }
  pub past_limit_3 : course 3 3 5 (drained 5 5) ≡ record {
    stages = 14 ∷ 14 ∷ 14 ∷ 15 ∷ 15 ∷ 15 ∷ 16 ∷ 16 ∷ 16 ∷ 0 ∷ 0 ∷ [];
    gates = shut ∷ shut ∷ shut ∷ emptying ∷ emptying ∷ emptying ∷ emptying ∷ emptying ∷ emptying ∷ shut ∷ shut ∷ [];
    clocks = 0 ∷ 0 ∷ 0 ∷ 0 ∷ 1 ∷ 2 ∷ 3 ∷ 4 ∷ 5 ∷ 0 ∷ 0 ∷ [];
    errors = 0 ∷ 0 ∷ 0 ∷ 0 ∷ 0 ∷ 0 ∷ 0 ∷ 0 ∷ 0 ∷ 8 ∷ 8 ∷ [];
    after = 0 ∷ 8 ∷ 1 ∷ 10 ∷ 1 ∷ [];
  }
  -- passed in 15; near zero in that very tick is too late
  pub past_limit_full : course 0 0 5 (drained 7 0) ≡ record {
    stages = 14 ∷ 15 ∷ 15 ∷ 15 ∷ 15 ∷ 15 ∷ 15 ∷ 0 ∷ [];
    gates = shut ∷ emptying ∷ emptying ∷ emptying ∷ emptying ∷ emptying ∷ emptying ∷ shut ∷ [];
    clocks = 0 ∷ 0 ∷ 1 ∷ 2 ∷ 3 ∷ 4 ∷ 5 ∷ 0 ∷ [];
    errors = 0 ∷ 0 ∷ 0 ∷ 0 ∷ 0 ∷ 0 ∷ 0 ∷ 8 ∷ [];
    after = 0 ∷ 8 ∷ 1 ∷ 10 ∷ 1 ∷ [];
  }
  pub past_limit_near : course 0 0 5 (drained 6 1) ≡ record {
    stages = 14 ∷ 15 ∷ 15 ∷ 15 ∷ 15 ∷ 15 ∷ 15 ∷ 0 ∷ [];
    gates = shut ∷ emptying ∷ emptying ∷ emptying ∷ emptying ∷ emptying ∷ emptying ∷ shut ∷ [];
    clocks = 0 ∷ 0 ∷ 1 ∷ 2 ∷ 3 ∷ 4 ∷ 5 ∷ 0 ∷ [];
    errors = 0 ∷ 0 ∷ 0 ∷ 0 ∷ 0 ∷ 0 ∷ 0 ∷ 8 ∷ [];
    after = 0 ∷ 8 ∷ 1 ∷ 10 ∷ 1 ∷ [];
  }
  -- 14 is not clocked: it is longer than the limit
  pub start_unclocked : course 4 0 1 (drained 6 0) ≡ record {
    stages = 14 ∷ 14 ∷ 14 ∷ 14 ∷ 15 ∷ 15 ∷ 0 ∷ [];
    gates = shut ∷ shut ∷ shut ∷ shut ∷ emptying ∷ emptying ∷ shut ∷ [];
    clocks = 0 ∷ 0 ∷ 0 ∷ 0 ∷ 0 ∷ 1 ∷ 0 ∷ [];
    errors = 0 ∷ 0 ∷ 0 ∷ 0 ∷ 0 ∷ 0 ∷ 8 ∷ [];
    after = 0 ∷ 8 ∷ 1 ∷ 10 ∷ 1 ∷ [];
  }
  -- the least limit is too short for 15 and 16
  pub limit_1 : course 0 0 1 (at_near 3) ≡ record {
    stages = 14 ∷ 15 ∷ 16 ∷ 0 ∷ [];
    gates = shut ∷ emptying ∷ emptying ∷ shut ∷ [];
    clocks = 0 ∷ 0 ∷ 1 ∷ 0 ∷ [];
    errors = 0 ∷ 0 ∷ 0 ∷ 8 ∷ [];
    after = 0 ∷ 8 ∷ 1 ∷ 10 ∷ 1 ∷ [];
  }
  pub limit_2 : course 0 0 2 (at_near 3) ≡ record {
    stages = 14 ∷ 15 ∷ 16 ∷ 0 ∷ [];
    gates = shut ∷ emptying ∷ emptying ∷ shut ∷ [];
    clocks = 0 ∷ 0 ∷ 1 ∷ 0 ∷ [];
    errors = 0 ∷ 0 ∷ 0 ∷ 0 ∷ [];
    after = 0 ∷ 0 ∷ 1 ∷ 10 ∷ 1 ∷ [];
  }
  -- "its own limit": a flow limit of 1 is not asked in a discharge, nor a discharge limit of 1 in a batch
  pub own_limit : course_from (settings_of (given_of (set (list_out 0 0 6000) 17 (pos 1)))) before (drained 5 3) ≡ record {
    stages = 14 ∷ 15 ∷ 15 ∷ 15 ∷ 15 ∷ 15 ∷ 16 ∷ 0 ∷ 0 ∷ [];
    gates = shut ∷ emptying ∷ emptying ∷ emptying ∷ emptying ∷ emptying ∷ emptying ∷ shut ∷ shut ∷ [];
    clocks = 0 ∷ 0 ∷ 1 ∷ 2 ∷ 3 ∷ 4 ∷ 5 ∷ 0 ∷ 0 ∷ [];
    errors = 0 ∷ 0 ∷ 0 ∷ 0 ∷ 0 ∷ 0 ∷ 0 ∷ 0 ∷ 0 ∷ [];
    after = 0 ∷ 0 ∷ 1 ∷ 10 ∷ 1 ∷ [];
  }
  pub own_limit_batch : standing (state_after (settings_out 0 0 1) (batch_at (pos 100)) open_state) ≡ 0 ∷ 0 ∷ 1 ∷ 10 ∷ 1 ∷ []
  -- "Stop in 14 to 16 is error 7", in a bad and in an overloaded tick too
  pub stop_14 : behind 6000 0 0 (pos 1000) (Some request.Stop) ≡ over 7
  pub stop_15 : behind 6000 3 0 (pos 1000) (Some request.Stop) ≡ over 7
  pub stop_16 : behind 6000 5 1 (pos 200) (Some request.Stop) ≡ over 7
  pub stop_bad : in_each (pos 2000001) (Some request.Stop) ≡ replicate 3 (over 7)
  pub stop_overloaded : in_each (pos 110000) (Some request.Stop) ≡ replicate 3 (over 7)
  -- in the ticks in which 14, 15 and 16 would end, and in that in which the clock would pass the limit
  pub stop-at-end :
      behind 6000 2 0 (pos 1000) (Some request.Stop) ∷ behind 6000 5 0 (pos 200) (Some request.Stop)
      ∷ behind 6000 5 3 (pos 200) (Some request.Stop) ∷ []
      ≡ replicate 3 (over 7)
  pub stop_past_limit : behind 5 5 3 (pos 200) (Some request.Stop) ≡ over 7
  -- "Stop in stage 00 changes nothing.": the error stands, in a bad tick too, until the next BD
  pub stop-twice :
      course 3 3 6000
      (leg 1 (pos 1000) (Some request.Discharge) ∷ leg 1 (pos 2000001) (Some request.Stop) ∷ leg 1 (pos 1000) (Some request.Stop)
      ∷ leg 1 (pos 2000001) None ∷ leg 1 (pos 1000) (Some request.Discharge) ∷ [])
      ≡ record {
        stages = 14 ∷ 0 ∷ 0 ∷ 0 ∷ 14 ∷ [];
        gates = shut ∷ shut ∷ shut ∷ shut ∷ shut ∷ [];
        clocks = 0 ∷ 0 ∷ 0 ∷ 0 ∷ 0 ∷ [];
        errors = 0 ∷ 7 ∷ 7 ∷ 7 ∷ 0 ∷ [];
        after = 14 ∷ 0 ∷ 1 ∷ 10 ∷ 1 ∷ [];
      }
  -- "a bad or overloaded tick error 9": in each of the three; one below zero is "at most near zero", and overloaded
  pub bad_in_each : in_each (pos 2000001) None ≡ replicate 3 (over 9)
  pub overloaded_in_each : in_each (pos 110000) None ≡ replicate 3 (over 9)
  pub overloaded_below : behind 6000 3 0 (minus 110000) None ≡ over 9
  -- "tested first, then the clock": the clock passes the limit in that tick
  pub bad_past_limit : behind 5 5 3 (pos 2000001) None ≡ over 9
  pub overloaded_past_limit : behind 5 5 3 (pos 110000) None ≡ over 9
  -- 10,008 is no overload, 10,009 is one
  pub overload-from :
      course 3 3 6000 (drained 3 0 ++ (leg 1 (pos 100080) None ∷ leg 1 (pos 100090) None ∷ []))
      ≡ record {
        stages = 14 ∷ 14 ∷ 14 ∷ 15 ∷ 15 ∷ 0 ∷ [];
        gates = shut ∷ shut ∷ shut ∷ emptying ∷ emptying ∷ shut ∷ [];
        clocks = 0 ∷ 0 ∷ 0 ∷ 0 ∷ 1 ∷ 0 ∷ [];
        errors = 0 ∷ 0 ∷ 0 ∷ 0 ∷ 0 ∷ 9 ∷ [];
        after = 0 ∷ 9 ∷ 1 ∷ 10 ∷ 1 ∷ [];
      }
  -- "keeps the judgement": OK, over, under, none, through 14, 15, 16 and the end
  pub judged_ok : judged_behind judgement.Ok ≡ replicate 4 1
  pub judged_over : judged_behind judgement.Over ≡ replicate 4 2
  pub judged_under : judged_behind judgement.Under ≡ replicate 4 3
  pub judged_none : judged_behind judgement.None ≡ replicate 4 0
  -- a discharge is no batch: the undo behind it takes back the batch before it
  pub then_nothing : after_then None ≡ 0 ∷ 0 ∷ 1 ∷ 10 ∷ 1 ∷ []
  pub then_undo : after_then (Some request.Undo) ≡ 0 ∷ 0 ∷ 1 ∷ 0 ∷ 0 ∷ []
  -- "An accepted start makes the judgement none again."
  pub then_start : after_then (Some request.Start) ≡ 3 ∷ 0 ∷ 0 ∷ 10 ∷ 1 ∷ []
  -- "BD, like BB, clears the error": that of a batch, error 4, where nothing was judged
  pub stopped-batch :
      stopped_batch
      ≡ record {
        stages = 0 ∷ 14 ∷ 15 ∷ 16 ∷ 0 ∷ [];
        gates = shut ∷ shut ∷ emptying ∷ emptying ∷ shut ∷ [];
        clocks = 0 ∷ 0 ∷ 0 ∷ 1 ∷ 0 ∷ [];
        errors = 4 ∷ 0 ∷ 0 ∷ 0 ∷ 0 ∷ [];
        after = 0 ∷ 0 ∷ 0 ∷ 10 ∷ 1 ∷ [];
      }
  -- a batch and its discharges, tick by tick
  pub day :
      day_of (ticks_in (settings_out 0 0 6000) day_legs open_state)
      ≡ record {
        answers = replicate 24 0 ++ (3 ∷ 0 ∷ 0 ∷ 7 ∷ 0 ∷ 0 ∷ []);
        stages =
            0 ∷ 3 ∷ 8 ∷ 9 ∷ 10 ∷ 11 ∷ 11 ∷ 11 ∷ 11 ∷ 11 ∷ 11 ∷ 11 ∷ 11 ∷ 11 ∷ 0 ∷ 14 ∷ 15 ∷ 0 ∷ 14 ∷ 15 ∷ 0 ∷ 14 ∷ 15 ∷ 16 ∷ 0 ∷ 14
            ∷ 15 ∷ 16 ∷ 0 ∷ 3 ∷ [];
        gates =
            replicate 2 shut ++ replicate 2 one ++ replicate 12 shut
            ++ (emptying ∷ shut ∷ shut ∷ emptying ∷ shut ∷ shut ∷ emptying ∷ emptying ∷ shut ∷ shut
            ∷ emptying ∷ emptying ∷ shut ∷ shut ∷ []);
        clocks =
            0 ∷ 0 ∷ 0 ∷ 1 ∷ 2 ∷ 3 ∷ 4 ∷ 5 ∷ 6 ∷ 7 ∷ 8 ∷ 9 ∷ 10 ∷ 11 ∷ 0 ∷ 0 ∷ 0 ∷ 0 ∷ 0 ∷ 0 ∷ 0 ∷ 0 ∷ 0 ∷ 1 ∷ 0 ∷ 0 ∷ 0 ∷ 1 ∷ 0 ∷ 0 ∷ [];
        errors = 0 ∷ 0 ∷ 0 ∷ 0 ∷ 0 ∷ 0 ∷ 0 ∷ 0 ∷ 0 ∷ 0 ∷ 0 ∷ 0 ∷ 0 ∷ 0 ∷ 0 ∷ 0 ∷ 0 ∷ 7 ∷ 0 ∷ 0 ∷ 9 ∷ 0 ∷ 0 ∷ 0 ∷ 0 ∷ 0 ∷ 0 ∷ 0 ∷ 0 ∷ 0 ∷ [];
        judgements = replicate 14 0 ++ replicate 15 1 ++ (0 ∷ []);
        totals = replicate 14 0 ++ replicate 12 100 ++ replicate 4 0;
        counts = replicate 14 0 ++ replicate 12 1 ++ replicate 4 0;
        back = replicate 14 None ++ replicate 12 (Some 100) ++ replicate 4 None;
      }
  -- "Its counter adds one at a tick that is .. in stage 00 ..; any other tick makes it 0.": tracking rests in 14 to 16. Step 5 is before
  -- step 6, so the tick in which 16 ends does not count; a stop is step 4's, and its tick does.
  pub tracking :
      tracks_of (ticks_in settings_tracked track_legs track_from)
      ≡ record {
        stages = 0 ∷ 0 ∷ 14 ∷ 14 ∷ 14 ∷ 15 ∷ 16 ∷ 16 ∷ 16 ∷ 0 ∷ 0 ∷ 14 ∷ 0 ∷ 0 ∷ 0 ∷ [];
        counters = 1 ∷ 2 ∷ 0 ∷ 0 ∷ 0 ∷ 0 ∷ 0 ∷ 0 ∷ 0 ∷ 0 ∷ 1 ∷ 0 ∷ 1 ∷ 2 ∷ 0 ∷ [];
        zeroes = replicate 14 (pos 0) ++ (pos 4 ∷ []);
        tracked = replicate 14 (pos 0) ++ (pos 4 ∷ []);
      }

-- ---- requests
-- what BD is answered at this count, and the stage and error after it
abbrev pub bid_at : Settings → State → ℤ → List ℕ
bid_at s st count =
    let a = told s st count (Some request.Discharge) in
    outcome_number a.outcome ∷ stage_number a.stage ∷ error_number a.error ∷ []

-- in a fit tick, a bad one and an overloaded one
abbrev pub bids : Settings → State → List (List ℕ)
bids s st = bid_at s st (pos 1000) ∷ bid_at s st (pos 2000001) ∷ bid_at s st (pos 110000) ∷ []

-- delays of 3
abbrev pub settings3 : Settings
settings3 = settings_out 3 3 6000

-- the same in mode 2
abbrev pub settings_loss3 : Settings
settings_loss3 = settings_of (given_of (set (list_out 3 3 6000) 11 (pos 2)))

-- in 09: F 500, at 100
abbrev pub feed_legs : List Leg
feed_legs =
    leg 1 (pos 1000) (Some (request.Set (setpoints 500 0 0 0))) ∷ leg 1 (pos 1000) (Some request.Start) ∷ leg 2 (pos 1000) None ∷ []

-- in 14, 15 and 16
abbrev pub in14 : State
in14 = state_after settings3 (drained 0 0) before

abbrev pub in15 : State
in15 = state_after settings3 (drained 3 0) before

abbrev pub in16 : State
in16 = state_after settings3 (drained 5 1) before

-- every request, and setpoints that break the rules beside others that keep them
abbrev pub every : List (Option Request)
every =
    (Some request.Zero) ∷ (Some request.Tare) ∷ (Some request.TareClear) ∷ (Some request.Start) ∷ Some (request.Set points)
    ∷ Some (request.Set (setpoints 1 2 0 0))
    ∷ (Some request.Discharge) ∷ (Some request.Stop) ∷ (Some request.TotalClear) ∷ (Some request.Undo) ∷ (Some request.ShowGross)
    ∷ (Some request.ShowNet) ∷ (Some request.DayClose) ∷ []

-- what each is answered in such a state at this count, and the stage and the error after each
pub record Asked : Type 0 where
  pub answers : List ℕ
  pub stages : List ℕ
  pub errors : List ℕ

abbrev pub asked_of : List Answer → Asked
asked_of l = record { answers = map (λ (a : Answer). outcome_number a.outcome) l; stages = stages_in l; errors = errors_in l }

abbrev pub asked : State → ℤ → Asked
asked st count = asked_of (map (told settings3 st count) every)

-- but for the stop, which is the eighth
abbrev pub but_for_stop : ℕ → ℕ → List ℕ
but_for_stop n stop = replicate 7 n ++ (stop ∷ replicate 5 n)

-- a fit tick goes on in its stage, a bad or overloaded one ends with error 9; a stop ends with error 7
abbrev pub asked_fit : ℕ → Asked
asked_fit n = record {
  answers = 3 ∷ 3 ∷ 3 ∷ 3 ∷ 0 ∷ 6 ∷ 3 ∷ 0 ∷ 0 ∷ 0 ∷ 0 ∷ 0 ∷ 0 ∷ [];
  stages = but_for_stop n 0;
  errors = but_for_stop 0 7;
}

abbrev pub asked_bad : Asked
asked_bad = record {
  answers = 1 ∷ 1 ∷ 3 ∷ 1 ∷ 0 ∷ 6 ∷ 1 ∷ 0 ∷ 0 ∷ 0 ∷ 0 ∷ 0 ∷ 1 ∷ [];
  stages = replicate 13 0;
  errors = but_for_stop 9 7;
}

abbrev pub asked_overloaded : Asked
asked_overloaded = record {
  answers = 2 ∷ 2 ∷ 3 ∷ 2 ∷ 0 ∷ 6 ∷ 2 ∷ 0 ∷ 0 ∷ 0 ∷ 0 ∷ 0 ∷ 0 ∷ [];
  stages = replicate 13 0;
  errors = but_for_stop 9 7;
}

-- in 15 with a run of 10: stable
abbrev pub calm : State
calm = state_after settings3 (drained 14 0) before

-- in 15, after a tick with this request
abbrev pub with15 : Option Request → State
with15 r = (tick_at settings3 in15 (pos 1000) r).state

-- ---- settings
-- the opening's answer in this mode, with this value in this place of the list
abbrev pub opened_with : ℕ → ℕ → ℤ → ℕ
opened_with mode place value = opening_number (open_of (given_of (set (set list_a 11 (pos mode)) place value)))

abbrev pub delay_answers : ℕ → ℕ → List ℕ
delay_answers mode place =
    opened_with mode place (minus 1) ∷ opened_with mode place (pos 0) ∷ opened_with mode place (pos 9999)
    ∷ opened_with mode place (pos 10000) ∷ []

abbrev pub limit_answers : ℕ → List ℕ
limit_answers mode =
    opened_with mode 24 (pos 0) ∷ opened_with mode 24 (pos 1) ∷ opened_with mode 24 (pos 60000) ∷ opened_with mode 24 (pos 60001) ∷ []

-- ---- lines
abbrev pub said : Settings → State → ℤ → String → List ℕ
said s st count text = heard s st count (line text)

-- mode 2 in stage 00
abbrev pub loss_idle : State
loss_idle = state_after settings_loss3 (leg 1 (pos 1000) None ∷ []) open_state

-- BD with room for a reply of n bytes: what it is told, and the stage after it
abbrev pub told_within : ℕ → List ℕ
told_within n =
    let tick = ask settings3 before (pos 1000) (line "BD") n in
    told_number tick.told ∷ stage_number tick.state.sequence.stage ∷ []

pub record Requested : Type 0 where
  -- "BD takes 1, 2, 3 as start does, then 9 in mode 2.": in 00, where error 7 stands; in 09; in 14, 15 and 16
  pub bid_idle : bids settings3 before ≡ (0 ∷ 14 ∷ 0 ∷ []) ∷ (1 ∷ 0 ∷ 7 ∷ []) ∷ (2 ∷ 0 ∷ 7 ∷ []) ∷ []
  pub bid-running :
      bids settings3 (state_after settings3 feed_legs open_state) ≡ (3 ∷ 9 ∷ 0 ∷ []) ∷ (1 ∷ 0 ∷ 9 ∷ []) ∷ (2 ∷ 0 ∷ 9 ∷ []) ∷ []
  pub bid_14 : bids settings3 in14 ≡ (3 ∷ 14 ∷ 0 ∷ []) ∷ (1 ∷ 0 ∷ 9 ∷ []) ∷ (2 ∷ 0 ∷ 9 ∷ []) ∷ []
  pub bid_15 : bids settings3 in15 ≡ (3 ∷ 15 ∷ 0 ∷ []) ∷ (1 ∷ 0 ∷ 9 ∷ []) ∷ (2 ∷ 0 ∷ 9 ∷ []) ∷ []
  pub bid_16 : bids settings3 in16 ≡ (3 ∷ 16 ∷ 0 ∷ []) ∷ (1 ∷ 0 ∷ 9 ∷ []) ∷ (2 ∷ 0 ∷ 9 ∷ []) ∷ []
  -- mode 2: in 00, where error 4 stands after a stop; in 09
  pub bid-loss-idle :
      bids settings_loss3 (state_after settings_loss3 (feed_legs ++ (leg 1 (pos 1000) (Some request.Stop) ∷ [])) open_state)
      ≡ (9 ∷ 0 ∷ 4 ∷ []) ∷ (1 ∷ 0 ∷ 4 ∷ []) ∷ (2 ∷ 0 ∷ 4 ∷ []) ∷ []
  pub bid-loss-running :
      bids settings_loss3 (state_after settings_loss3 feed_legs open_state) ≡ (3 ∷ 9 ∷ 0 ∷ []) ∷ (1 ∷ 0 ∷ 9 ∷ []) ∷ (2 ∷ 0 ∷ 9 ∷ []) ∷ []
  -- 4 is not to a discharge: the first tick is not stable
  pub bid_unstable : bid_at settings3 open_state (pos 1000) ≡ 0 ∷ 14 ∷ 0 ∷ []
  pub bid_unstable_tick : (told settings3 open_state (pos 1000) (Some request.Discharge)).reading.stable ≡ false
  -- "| 3 | stage is not 00 |": to zero, tare, tare clear, start and BD in 14, 15 and 16; to no other (A5: not to setpoints)
  -- "the rest of the tick goes on": but for the stop each tick is as without a request
  pub fit_14 : asked in14 (pos 1000) ≡ asked_fit 14
  pub fit_15 : asked in15 (pos 1000) ≡ asked_fit 15
  pub fit_16 : asked in16 (pos 1000) ≡ asked_fit 16
  pub bad_14 : asked in14 (pos 2000001) ≡ asked_bad
  pub bad_15 : asked in15 (pos 2000001) ≡ asked_bad
  pub bad_16 : asked in16 (pos 2000001) ≡ asked_bad
  pub overload_14 : asked in14 (pos 110000) ≡ asked_overloaded
  pub overload_15 : asked in15 (pos 110000) ≡ asked_overloaded
  pub overload_16 : asked in16 (pos 110000) ≡ asked_overloaded
  -- 3 where the tick is stable too
  pub calm_answers : asked calm (pos 1000) ≡ asked_fit 15
  pub calm_stable : (told settings3 calm (pos 1000) None).reading.stable ≡ true
  -- undo, total clear, show net and day close do in 15 what they always do; without a batch there is nothing to take back
  pub undo_in_15 : standing (with15 (Some request.Undo)) ≡ 15 ∷ 0 ∷ 1 ∷ 0 ∷ 0 ∷ []
  pub clear_in_15 : standing (with15 (Some request.TotalClear)) ≡ 15 ∷ 0 ∷ 1 ∷ 0 ∷ 0 ∷ []
  pub clear_then_undo : outcome_number (told settings3 (with15 (Some request.TotalClear)) (pos 1000) (Some request.Undo)).outcome ≡ 7
  pub undo_none :
      outcome_number (told settings3 (state_after settings3 (drained 0 0) open_state) (pos 1000) (Some request.Undo)).outcome ≡ 7
  pub net_in_15 : (with15 (Some request.ShowNet)).panel.display ≡ display.Net
  pub gross_in_15 : (with15 (Some request.ShowGross)).panel.display ≡ display.Gross
  pub close-in-15 :
      closed_values (told settings3 in15 (pos 1000) (Some request.DayClose)).closed ≡ pos 0 ∷ pos 0 ∷ minus 1000 ∷ pos 0 ∷ pos 1000 ∷ []
  -- "Both delays are 0..9,999 ticks.", "its own limit (1..60,000 ticks)": in mode 2 too, though it has no discharge
  pub delay_start : delay_answers 1 22 ≡ 10 ∷ 0 ∷ 0 ∷ 10 ∷ []
  pub delay_after : delay_answers 1 23 ≡ 10 ∷ 0 ∷ 0 ∷ 10 ∷ []
  pub limit : limit_answers 1 ≡ 10 ∷ 0 ∷ 0 ∷ 10 ∷ []
  pub loss_delay_start : delay_answers 2 22 ≡ 10 ∷ 0 ∷ 0 ∷ 10 ∷ []
  pub loss_delay_after : delay_answers 2 23 ≡ 10 ∷ 0 ∷ 0 ∷ 10 ∷ []
  pub loss_limit : limit_answers 2 ≡ 10 ∷ 0 ∷ 0 ∷ 10 ∷ []
  -- on the line: BD, and NG with the number
  pub bd : said settings3 before (pos 1000) "BD" ≡ 0 ∷ line "BD"
  pub bd_bad : said settings3 before (pos 2000001) "BD" ≡ 1 ∷ line "NG01"
  pub bd_overload : said settings3 before (pos 110000) "BD" ≡ 2 ∷ line "NG02"
  pub bd_under_way : said settings3 in15 (pos 1000) "BD" ≡ 3 ∷ line "NG03"
  pub bd_loss : said settings_loss3 loss_idle (pos 1000) "BD" ≡ 9 ∷ line "NG09"
  pub bd_prefixed : said settings7 open_state (pos 1000) "@07BD" ≡ 0 ∷ line "@07BD"
  pub bd-prefixed-twice :
      said settings7 (ask settings7 open_state (pos 1000) (line "@07BD") 64).state (pos 1000) "@07BD" ≡ 3 ∷ line "@07NG03"
  pub bd_no_prefix : said settings7 open_state (pos 1000) "BD" ≡ 12 ∷ []
  -- 11: "a known command with wrong length"; 13
  pub bd_letter : said settings3 before (pos 1000) "BDX" ≡ 11 ∷ line "NG11"
  pub bd_digit : said settings3 in15 (pos 1000) "BD1" ≡ 11 ∷ line "NG11"
  pub bd_lower_case : said settings3 before (pos 1000) "bd" ≡ 13 ∷ line "NG13"
  pub db : said settings3 before (pos 1000) "DB" ≡ 13 ∷ line "NG13"
  -- 14: the reply does not fit, and nothing is done; so too where NG09, of six bytes, does not
  pub bd_within_3 : told_within 3 ≡ 14 ∷ 0 ∷ []
  pub bd_within_3_buffer : reply settings3 before (pos 1000) (line "BD") 3 ≡ room 3
  pub bd_within_4 : told_within 4 ≡ 0 ∷ 14 ∷ []
  pub bd_within_5 : told_within 5 ≡ 0 ∷ 14 ∷ []
  pub bd_within_5_buffer : reply settings3 before (pos 1000) (line "BD") 5 ≡ line "BD" ++ (255 ∷ [])
  pub bd_loss_within_5 : told_number (ask settings_loss3 loss_idle (pos 1000) (line "BD") 5).told ≡ 14
  pub bd_loss_within_5_buffer : reply settings_loss3 loss_idle (pos 1000) (line "BD") 5 ≡ room 5
