-- Worked by hand from the outline: batches with five delays of their own, errors in every stage, judgement, and booking at its limits.
-- Statements; they are computed in proofs/StageFigures.antt.
use Rattle.std.specs.Prelude.{ℕ, ◌≡◌, List, [], ◌∷◌, ◌++◌, replicate, set, ℤ, pos, None, Some}
use Rattle.types.specs.declared.settings.Settings.{Settings}
use Rattle.types.specs.declared.requests.Request.TheVariants as request
use Rattle.types.specs.declared.stages.Totals.{Totals}
use Rattle.outline.specs.Settings.{settings_of}
use Rattle.outline.specs.Stages.{open_sequence}
use Rattle.outline.specs.Totals.{booked_totals, booked_sequence}
use Rattle.outline.specs.Tick.{open_state}
use Rattle.outline.specs.Numbers.{error_number, judgement_number}
use Rattle.outline.specs.Figures.{minus, given_of, list_a, setpoints}
use Rattle.outline.specs.Worked.{Leg, leg, answers, stages_in, errors_in}
use Rattle.outline.specs.Finishes.{state_after}
use Rattle.outline.specs.RequestFigures.{settings10, standing}

-- ---- the delays: start 2, large 3, medium 4, small 5, judge 6, and k 10; F 100, FF 10, P 30, OP 60
abbrev pub settings_delays : Settings
settings_delays =
    settings_of (given_of (set (set (set (set (set (set list_a 9 (pos 10)) 12 (pos 2)) 13 (pos 3)) 14 (pos 4)) 15 (pos 5)) 16 (pos 6)))

abbrev pub start : List Leg
start = leg 1 (pos 0) (Some (request.Set (setpoints 100 10 30 60))) ∷ leg 1 (pos 0) (Some request.Start) ∷ []

-- six ticks at 0, then 90 divisions, which every flow stage waits for; it finishes in the nineteenth tick at 90
abbrev pub delayed : List Leg
delayed = start ++ (leg 6 (pos 0) None ∷ leg 19 (pos 900) None ∷ [])

-- 40 divisions from the second tick of 04 on: enough for 05, and too little for 07
abbrev pub ahead : List Leg
ahead = start ++ (leg 2 (pos 0) None ∷ leg 10 (pos 400) None ∷ [])

-- ---- a stage a tick: all delays 0; after the start n ticks at 0, of which the second enters 05, and m at 90 divisions
abbrev pub quick : ℕ → ℕ → List Leg
quick n m = start ++ (leg n (pos 0) None ∷ leg m (pos 900) None ∷ [])

-- what stands after one tick more, with this count
abbrev pub broken_at : ℤ → ℕ → ℕ → List ℕ
broken_at count n m = standing (state_after settings10 (quick n m ++ (leg 1 count None ∷ [])) open_state)

-- in each stage from 03 to 11
abbrev pub broken : ℤ → List (List ℕ)
broken c =
    broken_at c 0 0 ∷ broken_at c 1 0 ∷ broken_at c 2 0 ∷ broken_at c 2 1 ∷ broken_at c 2 2 ∷ broken_at c 2 3 ∷ broken_at c 2 4
    ∷ broken_at c 2 5
    ∷ broken_at c 2 6 ∷ []

-- ---- the flow clock
-- Q 3 and a large disable of 10: the clock passes Q in 04
abbrev pub settings_large : Settings
settings_large = settings_of (given_of (set (set list_a 17 (pos 3)) 13 (pos 10)))

abbrev pub late_in_large : List Leg
late_in_large = start ++ (leg 6 (pos 0) None ∷ [])

-- ---- an unfit finish: F 10; after ten ticks at 10,008 divisions the stage is 11 and the run 9, in the next tick it is 10
abbrev pub finish_at : ℤ → List ℕ
finish_at count =
    standing
    (state_after settings10
    (leg 1 (pos 0) (Some (request.Set (setpoints 10 0 0 0))) ∷ leg 1 (pos 0) (Some request.Start) ∷ leg 2 (pos 0) None
    ∷ leg 10 (pos 100084) None ∷ leg 1 count None ∷ [])
    open_state)

-- ---- v: a tare of 100, F 50, FF 10: started at 100 divisions, v is 0; then 130 and 140, v is 30 and 40
abbrev pub tare_legs : List Leg
tare_legs =
    leg 10 (pos 1000) None ∷ leg 1 (pos 1000) (Some request.Tare) ∷ leg 1 (pos 1000) (Some (request.Set (setpoints 50 10 0 0)))
    ∷ leg 1 (pos 1000) (Some request.Start) ∷ []

abbrev pub net_legs : List Leg
net_legs = leg 3 (pos 1000) None ∷ leg 1 (pos 1300) None ∷ leg 11 (pos 1400) None ∷ []

-- ---- judgement: F 10, FF 10, over 1, under 3, from -10 divisions; it finishes at v
abbrev pub judged_at : ℤ → ℕ
judged_at count =
    judgement_number
    (state_after settings10
    (leg 1 (minus 100) (Some (request.Set (record {
      target = 10;
      fall = 10;
      preliminary = 0;
      optional = 0;
      over = 1;
      under = 3;
      near = 0;
    })))
    ∷ leg 1 (minus 100) (Some request.Start) ∷ leg 1 (minus 100) None ∷ leg 11 count None ∷ [])
    open_state).sequence.judgement

-- ---- booking: total, count and error where a batch of v finishes with these
abbrev pub totals_at : ℕ → ℕ → Totals
totals_at total count = record { total = total; count = count; back = None }

abbrev pub booking : ℕ → ℕ → ℤ → List ℕ
booking total count v =
    let t = totals_at total count in
    (booked_totals t v).total ∷ (booked_totals t v).count ∷ error_number (booked_sequence t v open_sequence).error ∷ []

pub record Sequenced : Type 0 where
  -- 03 two ticks, 04 three, 05 until 90 comes, 06 four, 07 one, 08 five, 09 one, 10 six, 11 one: "One move a tick."
  pub delays :
      stages_in (answers settings_delays delayed open_state)
      ≡ 0 ∷ 3 ∷ 3 ∷ 4 ∷ 4 ∷ 4 ∷ 5 ∷ 5 ∷ 6 ∷ 6 ∷ 6 ∷ 6 ∷ 7 ∷ 8 ∷ 8 ∷ 8 ∷ 8 ∷ 8 ∷ 9 ∷ 10 ∷ 10 ∷ 10 ∷ 10 ∷ 10 ∷ 10 ∷ 11 ∷ 0 ∷ []
  -- finished: stage 00, no error, under (90 is less than 100), total 90, count 1
  pub delays_end : standing (state_after settings_delays delayed open_state) ≡ 0 ∷ 0 ∷ 3 ∷ 90 ∷ 1 ∷ []
  -- 05 has a tick of its own though F - OP is reached before it
  pub ahead_of_large : stages_in (answers settings_delays ahead open_state) ≡ 0 ∷ 3 ∷ 3 ∷ 4 ∷ 4 ∷ 4 ∷ 5 ∷ 6 ∷ 6 ∷ 6 ∷ 6 ∷ 7 ∷ 7 ∷ 7 ∷ []
  -- with all delays 0 each timed stage lasts one tick
  pub quick_stages : stages_in (answers settings10 (quick 2 6) open_state) ≡ 0 ∷ 3 ∷ 4 ∷ 5 ∷ 6 ∷ 7 ∷ 8 ∷ 9 ∷ 10 ∷ 11 ∷ []
  -- "a bad or overloaded tick in 03-11, error 9": in each of the nine stages; nothing is judged, nothing booked
  pub bad_in_each : broken (pos 2000001) ≡ replicate 9 (0 ∷ 9 ∷ 0 ∷ 0 ∷ 0 ∷ [])
  pub overloaded_in_each : broken (pos 110000) ≡ replicate 9 (0 ∷ 9 ∷ 0 ∷ 0 ∷ 0 ∷ [])
  -- "flow clock, 0 on entering the first flow stage and one more each tick through 11, above Q, error 6": 04 is a flow stage
  pub late_in_large_lem : stages_in (answers settings_large late_in_large open_state) ≡ 0 ∷ 3 ∷ 4 ∷ 4 ∷ 4 ∷ 4 ∷ 0 ∷ 0 ∷ []
  pub late_in_large_errors : errors_in (answers settings_large late_in_large open_state) ≡ 0 ∷ 0 ∷ 0 ∷ 0 ∷ 0 ∷ 0 ∷ 6 ∷ 6 ∷ []
  -- "Step 6 tests error 9, then 6, then the stage.": an overloaded finish is not judged
  pub finish_before_overload : finish_at (pos 100084) ≡ 0 ∷ 0 ∷ 2 ∷ 10008 ∷ 1 ∷ []
  pub finish_in_overload : finish_at (pos 100085) ≡ 0 ∷ 9 ∷ 0 ∷ 0 ∷ 0 ∷ []
  -- "Compared weight v is net in mode 1, minus net in mode 2." With gross, 03 would end with error 2
  pub net-stages :
      stages_in (answers settings10 net_legs (state_after settings10 tare_legs open_state))
      ≡ 8 ∷ 9 ∷ 9 ∷ 9 ∷ 10 ∷ 11 ∷ 11 ∷ 11 ∷ 11 ∷ 11 ∷ 11 ∷ 11 ∷ 11 ∷ 11 ∷ 0 ∷ []
  pub net_end : standing (state_after settings10 (tare_legs ++ net_legs) open_state) ≡ 0 ∷ 0 ∷ 3 ∷ 40 ∷ 1 ∷ []
  -- "over if v > F + over, under if v < F - under, else OK": over 1 and under 3, so OK from 7 to 11
  pub over_by_1 : judged_at (pos 110) ∷ judged_at (pos 120) ∷ judged_at (pos 130) ∷ [] ≡ 1 ∷ 2 ∷ 2 ∷ []
  pub under_by_3 : judged_at (pos 90) ∷ judged_at (pos 70) ∷ judged_at (pos 60) ∷ [] ≡ 1 ∷ 1 ∷ 3 ∷ []
  -- "if v is 0 or more, and neither total nor count would pass 99,999,999": the total comes to it, and would pass it
  pub total_to_limit : booking 99999989 5 (pos 10) ≡ 99999999 ∷ 6 ∷ 0 ∷ []
  pub total_past_limit : booking 99999990 5 (pos 10) ≡ 99999990 ∷ 5 ∷ 10 ∷ []
  pub total_at_limit : booking 99999999 5 (pos 0) ≡ 99999999 ∷ 6 ∷ 0 ∷ []
  pub total_one_more : booking 99999999 5 (pos 1) ≡ 99999999 ∷ 5 ∷ 10 ∷ []
  -- the count likewise
  pub count_to_limit : booking 0 99999998 (pos 10) ≡ 10 ∷ 99999999 ∷ 0 ∷ []
  pub count_to_limit_by_0 : booking 0 99999998 (pos 0) ≡ 0 ∷ 99999999 ∷ 0 ∷ []
  pub count_past_limit : booking 0 99999999 (pos 10) ≡ 0 ∷ 99999999 ∷ 10 ∷ []
  pub count_past_limit_by_0 : booking 0 99999999 (pos 0) ≡ 0 ∷ 99999999 ∷ 10 ∷ []
  -- v below 0
  pub below_0 : booking 0 0 (minus 1) ≡ 0 ∷ 0 ∷ 10 ∷ []
