-- Worked by hand from the outline: tracking, stability and capacity, each at its limit. Statements; they are computed in
-- proofs/WeightFigures.antt.
use Rattle.std.specs.Prelude.{ℕ, ◌≡◌, Bool, true, false, List, [], ◌∷◌, ◌++◌, replicate, set, ℤ, pos, Option, None, Some}
use Rattle.types.specs.declared.settings.Settings.{Settings}
use Rattle.types.specs.declared.requests.Request.{Request}
use Rattle.types.specs.declared.requests.Request.TheVariants as request
use Rattle.types.specs.declared.machine.State.{State}
use Rattle.types.specs.declared.machine.Answer.{Answer}
use Rattle.outline.specs.Settings.{settings_of}
use Rattle.outline.specs.Tick.{open_state}
use Rattle.outline.specs.Numbers.{outcome_number}
use Rattle.outline.specs.Figures.{minus, given_of, list_a, told}
use Rattle.outline.specs.Worked.{Leg, leg, answers}
use Rattle.outline.specs.Finishes.{state_after}
use Rattle.outline.specs.RequestFigures.{settings10}

-- ---- tracking
-- settings A with another tracking time q
abbrev pub settings_q : ℕ → Settings
settings_q q = settings_of (given_of (set list_a 6 (pos q)))

-- zero in force and tracked
abbrev pub zeroes : State → List ℤ
zeroes st = st.weighing.zero ∷ st.weighing.tracked ∷ []

-- with q 10, after n ticks at this count
abbrev pub tracked_at : ℕ → ℤ → List ℤ
tracked_at n count = zeroes (state_after (settings_q 10) (leg n count None ∷ []) open_state)

-- a tick at each of these counts
abbrev pub ticks_at : List ℤ → List Leg
ticks_at [] = []
ticks_at (count ∷ l) = leg 1 count None ∷ ticks_at l

-- with q 1, after a tick at each of these counts
abbrev pub tracked_through : List ℤ → List ℤ
tracked_through l = zeroes (state_after (settings_q 1) (ticks_at l) open_state)

abbrev pub to_minus20 : List ℤ
to_minus20 = pos 0 ∷ minus 5 ∷ minus 10 ∷ minus 15 ∷ minus 20 ∷ []

abbrev pub gross_in : List Answer → List ℤ
gross_in [] = []
gross_in (a ∷ l) = a.reading.gross ∷ gross_in l

abbrev pub near_in : List Answer → List Bool
near_in [] = []
near_in (a ∷ l) = a.near ∷ near_in l

-- with q 2, three ticks at 5: the second moves the zero to 5
abbrev pub three_at_five : List Answer
three_at_five = answers (settings_q 2) (leg 3 (pos 5) None ∷ []) open_state

-- ---- stability, with k 10
abbrev pub stable_in : List Answer → List Bool
stable_in [] = []
stable_in (a ∷ l) = a.reading.stable ∷ stable_in l

-- eleven ticks, at 0 and at this count in turn
abbrev pub turns_of : ℤ → List ℤ
turns_of c = pos 0 ∷ c ∷ pos 0 ∷ c ∷ pos 0 ∷ c ∷ pos 0 ∷ c ∷ pos 0 ∷ c ∷ pos 0 ∷ []

abbrev pub stable_through : List Leg → List Bool
stable_through l = stable_in (answers settings10 l open_state)

-- ---- a span weight of half the capacity: W 5,000, S 50,000, k 10; raw equals count
abbrev pub settings_half_span : Settings
settings_half_span = settings_of (given_of (set (set (set list_a 9 (pos 10)) 1 (pos 50000)) 3 (pos 5000)))

-- the answer to a request in the eleventh tick at this count
abbrev pub calm_answer : ℤ → Option Request → ℕ
calm_answer count r =
    outcome_number (told settings_half_span (state_after settings_half_span (leg 10 count None ∷ []) open_state) count r).outcome

pub record Tracked : Type 0 where
  -- "Its counter adds one at a tick .. with |gross fine| at most w": w 5, on either side; "At q .. the zero moves to raw": q 10
  pub track_5 : tracked_at 10 (pos 5) ≡ pos 5 ∷ pos 5 ∷ []
  pub track_minus_5 : tracked_at 10 (minus 5) ≡ minus 5 ∷ minus 5 ∷ []
  pub track_6 : tracked_at 10 (pos 6) ≡ pos 0 ∷ pos 0 ∷ []
  pub track_minus_6 : tracked_at 10 (minus 6) ≡ pos 0 ∷ pos 0 ∷ []
  pub track_10 : tracked_at 10 (pos 10) ≡ pos 0 ∷ pos 0 ∷ []
  pub track_9_ticks : tracked_at 9 (pos 5) ≡ pos 0 ∷ pos 0 ∷ []
  -- "|tracked + gross fine| is at most L": 20, and not 21; back again it is 15
  pub allowance_20 : tracked_through to_minus20 ≡ minus 20 ∷ minus 20 ∷ []
  pub allowance_21 : tracked_through (to_minus20 ++ (minus 21 ∷ [])) ≡ minus 20 ∷ minus 20 ∷ []
  pub allowance_back : tracked_through (to_minus20 ++ (minus 21 ∷ minus 15 ∷ [])) ≡ minus 15 ∷ minus 15 ∷ []
  -- "Step 4's weights serve steps 5, 6 and every output answered": the move shows in the next tick
  pub gross_at_move : gross_in three_at_five ≡ pos 1 ∷ pos 1 ∷ pos 0 ∷ []
  pub near_at_move : near_in three_at_five ≡ false ∷ false ∷ true ∷ []
  pub zero_at_move : zeroes (state_after (settings_q 2) (leg 2 (pos 5) None ∷ []) open_state) ≡ pos 5 ∷ pos 5 ∷ []
  -- "whose raw changed by at most 10·s adds one to the run": 20 and not 21, with s 2; "Stable when the run is k."
  pub changes_of_20 : stable_through (ticks_at (turns_of (pos 20))) ≡ replicate 10 false ++ (true ∷ [])
  pub changes_of_21 : stable_through (ticks_at (turns_of (pos 21))) ≡ replicate 11 false
  -- "a good tick after a good tick ..; any other tick makes it 0.": of twelve ticks after a bad one the last two are stable
  pub after-bad :
      stable_through (leg 5 (pos 0) None ∷ leg 1 (pos 2000001) None ∷ leg 12 (pos 0) None ∷ [])
      ≡ replicate 16 false ++ (true ∷ true ∷ [])
  -- C and not W: "overload when its magnitude exceeds C + 8", "10·|raw| is at most C·p", "gross divisions lie in 0..C"
  pub half_span_gross : (told settings_half_span open_state (pos 60000) None).reading.gross ≡ pos 6000
  pub half_span_overload : (told settings_half_span open_state (pos 60000) None).reading.overload ≡ false
  pub half_span_zero : calm_answer (pos 2000) (Some request.Zero) ∷ calm_answer (pos 2001) (Some request.Zero) ∷ [] ≡ 0 ∷ 5 ∷ []
  pub half_span_tare : calm_answer (pos 60000) (Some request.Tare) ≡ 0
