-- Worked by hand from request A6: zero, tare and tracking while the refill contact is closed. Under settings A raw is the count, the zero
-- range ends at 2,000, and w is 5. Statements; they are computed in proofs/ConnectedFigures.antt.
use Rattle.std.specs.Prelude.{ℕ, ◌≡◌, Bool, true, false, List, [], ◌∷◌, map, replicate, set, ℤ, pos, Option, Some}
use Rattle.types.specs.declared.settings.Settings.{Settings}
use Rattle.types.specs.declared.requests.Request.{Request}
use Rattle.types.specs.declared.requests.Request.TheVariants as request
use Rattle.types.specs.declared.machine.State.{State}
use Rattle.types.specs.declared.machine.Input.{Input}
use Rattle.types.specs.declared.machine.Ticked.{Ticked}
use Rattle.types.specs.declared.lines.LineTick.{LineTick}
use Rattle.outline.specs.Settings.{settings_of}
use Rattle.outline.specs.Tick.{open_state, tick_of, block_of}
use Rattle.outline.specs.Numbers.{outcome_number, told_number}
use Rattle.outline.specs.Replies.{line_tick_of, reply_buffer}
use Rattle.outline.specs.Log.{request_tick, request_buffer}
use Rattle.outline.specs.Figures.{minus, given_of, list_a, setpoints}
use Rattle.outline.specs.Worked.{ascii, line, room}
use Rattle.outline.specs.RequestFigures.{settings10, calm_at, running, running_calm, tared}
use Rattle.outline.specs.DischargeFigures.{Tracks, tracks_of}
use Rattle.outline.specs.RefillFigures.{draw, fill, bad}
use Rattle.outline.specs.WeightFigures.{zeroes, settings_q}

-- ---- answers, with k 10
abbrev pub closed : ℤ → Option Request → Input
closed count r = record { count = count; contact = true; request = r }

abbrev pub opened : ℤ → Option Request → Input
opened count r = record { count = count; contact = false; request = r }

abbrev pub number : State → Input → ℕ
number st i = outcome_number (tick_of settings10 st i).answer.outcome

-- to one request, with the contact open and then with it closed
abbrev pub both : State → ℤ → Option Request → List ℕ
both st count r = number st (opened count r) ∷ number st (closed count r) ∷ []

abbrev pub ticks : Settings → State → List Input → List Ticked
ticks s st [] = []
ticks s st (i ∷ l) = tick_of s st i ∷ ticks s (tick_of s st i).state l

-- what the last of them leaves
abbrev pub after : Settings → State → List Input → State
after s st [] = st
after s st (i ∷ l) = after s (tick_of s st i).state l

-- stable in the next tick at 100: ten ticks there, all with the contact closed
abbrev pub filled : State
filled = after settings10 open_state (replicate 10 (fill (pos 100)))

-- a tick's zero in force, tare, gross and net
abbrev pub weighed : State → Input → List ℤ
weighed st i =
    let t = tick_of settings10 st i in
    t.state.weighing.zero ∷ t.state.weighing.tare ∷ t.answer.reading.gross ∷ t.answer.reading.net ∷ []

-- the tracking counter after a tick with this request, with the contact open and then with it closed
abbrev pub counters : Settings → State → ℤ → Option Request → List ℕ
counters s st count r =
    (tick_of s st (opened count r)).state.weighing.counter ∷ (tick_of s st (closed count r)).state.weighing.counter ∷ []

-- on the line, stable at 100, with room for n bytes of reply: the tick, and the reply buffer
abbrev pub lined : Settings → Bool → List ℕ → ℕ → LineTick
lined s contact receive n = line_tick_of s (calm_at (pos 100)) (pos 100) contact receive (room n)

abbrev pub told_in : Bool → List ℕ → ℕ → ℕ
told_in contact receive n = told_number (lined settings10 contact receive n).told

abbrev pub replied : Settings → Bool → List ℕ → ℕ → List ℕ
replied s contact receive n = reply_buffer s (calm_at (pos 100)) (pos 100) contact receive (room n)

-- k 10 and address 7
abbrev pub settings10_at7 : Settings
settings10_at7 = settings_of (given_of (set (set list_a 9 (pos 10)) 18 (pos 7)))

-- ---- tracking, from the opening, with this q
abbrev pub tracks_in : ℕ → List Input → Tracks
tracks_in q l = tracks_of (ticks (settings_q q) open_state l)

-- counters, zeroes in force and tracked of ticks in 00
abbrev pub tracks : List ℕ → List ℤ → List ℤ → Tracks
tracks counters zeroes tracked = record {
  stages = map (λ (n : ℕ). 0) counters;
  counters = counters;
  zeroes = zeroes;
  tracked = tracked;
}

pub record WhileConnected : Type 0 where
  -- "Zero must be refused while the refill contact is closed": open 0, closed 8
  pub zero_calm : both (calm_at (pos 100)) (pos 100) (Some request.Zero) ≡ 0 ∷ 8 ∷ []
  pub zero_at_2000 : both (calm_at (pos 2000)) (pos 2000) (Some request.Zero) ≡ 0 ∷ 8 ∷ []
  -- "tested after 3": 1, 2 and 3 come before it, also where the tick is stable
  pub zero_bad : both (calm_at (pos 100)) (pos 2000001) (Some request.Zero) ≡ 1 ∷ 1 ∷ []
  pub zero_bad_running : both running (pos 2000001) (Some request.Zero) ≡ 1 ∷ 1 ∷ []
  pub zero_overload : both open_state (pos 110000) (Some request.Zero) ≡ 2 ∷ 2 ∷ []
  pub zero_overload_calm : both (calm_at (pos 110000)) (pos 110000) (Some request.Zero) ≡ 2 ∷ 2 ∷ []
  pub zero_overload_running : both running (pos 110000) (Some request.Zero) ≡ 2 ∷ 2 ∷ []
  pub zero_running : both running (pos 0) (Some request.Zero) ≡ 3 ∷ 3 ∷ []
  pub zero_running_calm : both running_calm (pos 0) (Some request.Zero) ≡ 3 ∷ 3 ∷ []
  -- "and before 4", and so before 5
  pub zero_unstable : both open_state (pos 100) (Some request.Zero) ≡ 4 ∷ 8 ∷ []
  pub zero_outside : both (calm_at (pos 2001)) (pos 2001) (Some request.Zero) ≡ 5 ∷ 8 ∷ []
  pub zero_unstable_outside : both open_state (pos 2001) (Some request.Zero) ≡ 4 ∷ 8 ∷ []
  -- the contact is this tick's: closed in all ticks before and open now; zero-calm has it the other way round
  pub zero_filled : both filled (pos 100) (Some request.Zero) ≡ 0 ∷ 8 ∷ []
  pub zero_filled_done : weighed filled (opened (pos 100) (Some request.Zero)) ≡ pos 100 ∷ pos 0 ∷ pos 0 ∷ pos 0 ∷ []
  -- "A refused request changes nothing": zero, tare, gross, net
  pub zero_refused : weighed tared (closed (pos 100) (Some request.Zero)) ≡ pos 0 ∷ pos 10 ∷ pos 10 ∷ pos 0 ∷ []
  pub zero_done : weighed tared (opened (pos 100) (Some request.Zero)) ≡ pos 100 ∷ pos 10 ∷ pos 0 ∷ minus 10 ∷ []
  -- "to zero only": a tare is answered as with the contact open, and so is all else
  pub tare_calm : both (calm_at (pos 100)) (pos 100) (Some request.Tare) ≡ 0 ∷ 0 ∷ []
  pub tare_taken : weighed (calm_at (pos 100)) (closed (pos 100) (Some request.Tare)) ≡ pos 0 ∷ pos 10 ∷ pos 10 ∷ pos 0 ∷ []
  pub tare_running : both running (pos 0) (Some request.Tare) ≡ 3 ∷ 3 ∷ []
  pub tare_unstable : both open_state (pos 100) (Some request.Tare) ≡ 4 ∷ 4 ∷ []
  pub tare_below : both (calm_at (minus 1000)) (minus 1000) (Some request.Tare) ≡ 5 ∷ 5 ∷ []
  pub tare_clear : both tared (pos 100) (Some request.TareClear) ≡ 0 ∷ 0 ∷ []
  pub start : both (calm_at (pos 100)) (pos 100) (Some request.Start) ≡ 0 ∷ 0 ∷ []
  pub stop : both running (pos 0) (Some request.Stop) ≡ 0 ∷ 0 ∷ []
  pub set : both open_state (pos 100) (Some (request.Set (setpoints 10 0 0 0))) ≡ 0 ∷ 0 ∷ []
  pub set_broken : both open_state (pos 100) (Some (request.Set (setpoints 1 2 0 0))) ≡ 6 ∷ 6 ∷ []
  pub total_clear : both open_state (pos 100) (Some request.TotalClear) ≡ 0 ∷ 0 ∷ []
  pub undo : both open_state (pos 100) (Some request.Undo) ≡ 7 ∷ 7 ∷ []
  pub show_gross_lem : both open_state (pos 100) (Some request.ShowGross) ≡ 0 ∷ 0 ∷ []
  pub show_net_lem : both open_state (pos 100) (Some request.ShowNet) ≡ 0 ∷ 0 ∷ []
  pub day_close_lem : both open_state (pos 100) (Some request.DayClose) ≡ 0 ∷ 0 ∷ []
  pub discharge : both (calm_at (pos 100)) (pos 100) (Some request.Discharge) ≡ 0 ∷ 0 ∷ []
  -- on the line: MZ, its reply, and MT
  pub line_zero : told_in false (line "MZ") 6 ∷ told_in true (line "MZ") 6 ∷ [] ≡ 0 ∷ 8 ∷ []
  pub line_zero_reply : replied settings10 true (line "MZ") 6 ≡ line "NG08"
  pub line_zero_kept : (lined settings10 true (line "MZ") 6).state.weighing.zero ≡ pos 0
  pub line_tare : told_in true (line "MT") 4 ≡ 0
  pub line_tare_reply : replied settings10 true (line "MT") 4 ≡ line "MT"
  -- room for MZ CR LF and not for NG08 CR LF: with the contact open it is done, with it closed 14
  pub line_short : told_in false (line "MZ") 4 ∷ told_in true (line "MZ") 4 ∷ [] ≡ 0 ∷ 14 ∷ []
  pub line_short_open : replied settings10 false (line "MZ") 4 ≡ line "MZ"
  pub line_short_closed : replied settings10 true (line "MZ") 4 ≡ room 4
  pub line_short_5 : told_in true (line "MZ") 5 ≡ 14
  pub line_address : replied settings10_at7 true (line "@07MZ") 9 ≡ line "@07NG08"
  pub line_address_short : told_number (lined settings10_at7 true (line "@07MZ") 8).told ≡ 14
  -- in a log
  pub log_zero : told_number (request_tick settings10 (calm_at (pos 100)) (pos 100) true (ascii "MZ") (room 6)).told ≡ 8
  pub log_zero_reply : request_buffer settings10 (calm_at (pos 100)) (pos 100) true (ascii "MZ") (room 6) ≡ line "NG08"
  -- "the tracking counter returns to 0 at each closed tick": with q 3, in the tick in which the zero would have moved
  pub track-at-q :
      tracks_in 3 (draw (pos 4) ∷ draw (pos 4) ∷ fill (pos 4) ∷ draw (pos 4) ∷ draw (pos 4) ∷ draw (pos 4) ∷ [])
      ≡ tracks (1 ∷ 2 ∷ 0 ∷ 1 ∷ 2 ∷ 0 ∷ []) (pos 0 ∷ pos 0 ∷ pos 0 ∷ pos 0 ∷ pos 0 ∷ pos 4 ∷ [])
      (pos 0 ∷ pos 0 ∷ pos 0 ∷ pos 0 ∷ pos 0 ∷ pos 4 ∷ [])
  -- in a tick before that
  pub track-before-q :
      tracks_in 3 (draw (pos 4) ∷ fill (pos 4) ∷ draw (pos 4) ∷ draw (pos 4) ∷ draw (pos 4) ∷ [])
      ≡ tracks (1 ∷ 0 ∷ 1 ∷ 2 ∷ 0 ∷ []) (pos 0 ∷ pos 0 ∷ pos 0 ∷ pos 0 ∷ pos 4 ∷ []) (pos 0 ∷ pos 0 ∷ pos 0 ∷ pos 0 ∷ pos 4 ∷ [])
  -- in every tick, the weight rising as slowly as a zero drifts; then the first open tick counts as one
  pub track-filling :
      tracks_in 3 (fill (pos 1) ∷ fill (pos 2) ∷ fill (pos 3) ∷ fill (pos 4) ∷ draw (pos 4) ∷ [])
      ≡ tracks (0 ∷ 0 ∷ 0 ∷ 0 ∷ 1 ∷ []) (pos 0 ∷ pos 0 ∷ pos 0 ∷ pos 0 ∷ pos 0 ∷ []) (pos 0 ∷ pos 0 ∷ pos 0 ∷ pos 0 ∷ pos 0 ∷ [])
  -- a closed tick that is bad
  pub track-bad :
      tracks_in 3 (draw (pos 4) ∷ draw (pos 4) ∷ bad true ∷ draw (pos 4) ∷ draw (pos 4) ∷ draw (pos 4) ∷ [])
      ≡ tracks (1 ∷ 2 ∷ 0 ∷ 1 ∷ 2 ∷ 0 ∷ []) (pos 0 ∷ pos 0 ∷ pos 0 ∷ pos 0 ∷ pos 0 ∷ pos 4 ∷ [])
      (pos 0 ∷ pos 0 ∷ pos 0 ∷ pos 0 ∷ pos 0 ∷ pos 4 ∷ [])
  -- with q 1 every calm tick moves the zero, but no closed one
  pub track-q-1 :
      tracks_in 1 (draw (pos 2) ∷ fill (pos 4) ∷ fill (pos 6) ∷ draw (pos 6) ∷ [])
      ≡ tracks (0 ∷ 0 ∷ 0 ∷ 0 ∷ []) (pos 2 ∷ pos 2 ∷ pos 2 ∷ pos 6 ∷ []) (pos 2 ∷ pos 2 ∷ pos 2 ∷ pos 6 ∷ [])
  -- after a move
  pub track-after-move :
      tracks_in 3
      (draw (pos 4) ∷ draw (pos 4) ∷ draw (pos 4) ∷ draw (pos 6) ∷ fill (pos 6) ∷ draw (pos 6) ∷ draw (pos 6) ∷ draw (pos 6) ∷ [])
      ≡ tracks (1 ∷ 2 ∷ 0 ∷ 1 ∷ 0 ∷ 1 ∷ 2 ∷ 0 ∷ [])
      (pos 0 ∷ pos 0 ∷ pos 4 ∷ pos 4 ∷ pos 4 ∷ pos 4 ∷ pos 4 ∷ pos 6 ∷ [])
      (pos 0 ∷ pos 0 ∷ pos 4 ∷ pos 4 ∷ pos 4 ∷ pos 4 ∷ pos 4 ∷ pos 6 ∷ [])
  -- a refused zero in a closed tick: as without it
  pub track-refused :
      tracks_in 3 (draw (pos 4) ∷ draw (pos 4) ∷ closed (pos 4) (Some request.Zero) ∷ draw (pos 4) ∷ [])
      ≡ tracks (1 ∷ 2 ∷ 0 ∷ 1 ∷ []) (pos 0 ∷ pos 0 ∷ pos 0 ∷ pos 0 ∷ []) (pos 0 ∷ pos 0 ∷ pos 0 ∷ pos 0 ∷ [])
  -- the same with a tare that is refused (4), and with a tare clear
  pub track-tare :
      tracks_in 3 (draw (pos 4) ∷ draw (pos 4) ∷ closed (pos 4) (Some request.Tare) ∷ draw (pos 4)
      ∷ closed (pos 4) (Some request.TareClear) ∷ [])
      ≡ tracks (1 ∷ 2 ∷ 0 ∷ 1 ∷ 0 ∷ []) (pos 0 ∷ pos 0 ∷ pos 0 ∷ pos 0 ∷ pos 0 ∷ []) (pos 0 ∷ pos 0 ∷ pos 0 ∷ pos 0 ∷ pos 0 ∷ [])
  -- a tare that is accepted, ten ticks at 5 before it: with the contact open its tick counts
  pub tare_counter : counters settings10 (calm_at (pos 5)) (pos 5) (Some request.Tare) ≡ 11 ∷ 0 ∷ []
  -- a stop, whose tick counts since it is in 00 after step 4
  pub stop_counter : counters (settings_q 3) running (pos 4) (Some request.Stop) ≡ 1 ∷ 0 ∷ []
  -- a block with the contact closed, and then one with it open
  pub block_closed : zeroes (block_of (settings_q 3) open_state (replicate 3 (pos 4)) true).state ≡ pos 0 ∷ pos 0 ∷ []
  pub block-open :
      zeroes (block_of (settings_q 3) (block_of (settings_q 3) open_state (replicate 3 (pos 4)) true).state
      (replicate 3 (pos 4)) false).state
      ≡ pos 4 ∷ pos 4 ∷ []
