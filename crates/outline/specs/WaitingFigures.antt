-- Worked by hand from request A5: setpoints that are written while a batch or a discharge runs. Statements; they are computed in
-- proofs/WaitingFigures.antt.
use Rattle.std.specs.Prelude.{ℕ, ◌≡◌, true, false, [], ◌∷◌, ℤ, pos, Option, None, Some}
use Rattle.types.specs.declared.requests.Request.TheVariants as request
use Rattle.types.specs.declared.stages.Setpoints.{Setpoints}
use Rattle.types.specs.declared.machine.State.{State}
use Rattle.outline.specs.Setpoints.{open_setpoints, none_waiting, waiting_for}
use Rattle.outline.specs.Tick.{open_state}
use Rattle.outline.specs.Replies.{line_tick_of}
use Rattle.outline.specs.Figures.{tick_at, told, setpoints}
use Rattle.outline.specs.Worked.{leg, line, reply}
use Rattle.outline.specs.Finishes.{state_after}
use Rattle.outline.specs.RequestFigures.{settings10, after, number, standing}

-- the set in use: F 10, over and under 2, near zero 0; those written: F 50, and F 70, both with a near zero of 20
abbrev pub old : Setpoints
old = record { target = 10; fall = 0; preliminary = 0; optional = 0; over = 2; under = 2; near = 0 }

abbrev pub new : Setpoints
new = record { target = 50; fall = 0; preliminary = 0; optional = 0; over = 0; under = 0; near = 20 }

abbrev pub newer : Setpoints
newer = record { target = 70; fall = 0; preliminary = 0; optional = 0; over = 0; under = 0; near = 20 }

-- F 10 again, but with 5 for over and under: by it 13 is OK, by the set in use it is over
abbrev pub lax : Setpoints
lax = record { target = 10; fall = 0; preliminary = 0; optional = 0; over = 5; under = 5; near = 0 }

-- the batch of RequestFigures' one_batch, with the old set: 03 after two ticks, 08 after three, 09 at 100 after four, 10, 11 and,
-- in the fourteenth tick, 00
abbrev pub fed : ℕ → State
fed n =
    after
    (leg 1 (pos 0) (Some (request.Set old)) ∷ leg 1 (pos 0) (Some request.Start) ∷ leg 1 (pos 0) None ∷ leg n (pos 100) None ∷ [])

abbrev pub in03 : State
in03 = after (leg 1 (pos 0) (Some (request.Set old)) ∷ leg 1 (pos 0) (Some request.Start) ∷ [])

abbrev pub in08 : State
in08 = fed 0

abbrev pub in09 : State
in09 = fed 1

abbrev pub in10 : State
in10 = fed 2

abbrev pub in11 : State
in11 = fed 3

-- a write in 09, at 0
abbrev pub written : Setpoints → State
written p =
    after
    (leg 1 (pos 0) (Some (request.Set old)) ∷ leg 1 (pos 0) (Some request.Start) ∷ leg 2 (pos 0) None
    ∷ leg 1 (pos 0) (Some (request.Set p)) ∷ [])

abbrev pub waits : State
waits = written new

-- from there at 100: v is 10, the old F and not the new, so 10, 11, and the finish in the eleventh tick
abbrev pub went_on : ℕ → State
went_on n = state_after settings10 (leg n (pos 100) None ∷ []) waits

-- a second batch after that one, with a write in 03; it is in 08
abbrev pub again : State
again = state_after settings10 (leg 1 (pos 100) (Some request.Start) ∷ leg 1 (pos 100) (Some (request.Set newer)) ∷ []) (went_on 11)

-- a write of these, and then this count until the batch finishes
abbrev pub finish_at : ℤ → Setpoints → State
finish_at count p = state_after settings10 (leg 11 count None ∷ []) (written p)

-- a discharge at 100, above the near zero of 0: 14, 15; at 0, 16; and then 00
abbrev pub emptying : State
emptying =
    after
    (leg 1 (pos 100) (Some (request.Set old)) ∷ leg 1 (pos 100) (Some request.Discharge) ∷ leg 1 (pos 100) None ∷ [])

abbrev pub in16 : State
in16 = state_after settings10 (leg 1 (pos 100) (Some (request.Set new)) ∷ leg 1 (pos 0) None ∷ []) emptying

-- what stands of both sets
abbrev pub Sets : State → Setpoints → Option Setpoints → Type 0
Sets st p w = (st.setpoints ≡ p) × (st.waiting ≡ w)

pub record Waited : Type 0 where
  -- "setpoints no longer answer 3; 6 stands.": in 03, 08, 09, 10, 11, 15 and 16, and in a bad tick
  pub not-3 :
      number in03 (pos 0) (Some (request.Set new)) ∷ number in08 (pos 0) (Some (request.Set new))
      ∷ number in09 (pos 100) (Some (request.Set new))
      ∷ number in10 (pos 100) (Some (request.Set new)) ∷ number in11 (pos 100) (Some (request.Set new))
      ∷ number emptying (pos 100) (Some (request.Set new))
      ∷ number in16 (pos 0) (Some (request.Set new)) ∷ number in09 (pos 2000001) (Some (request.Set new)) ∷ []
      ≡ 0 ∷ 0 ∷ 0 ∷ 0 ∷ 0 ∷ 0 ∷ 0 ∷ 0 ∷ []
  pub broken : number waits (pos 0) (Some (request.Set (setpoints 1 2 0 0))) ≡ 6
  pub broken_waits : Sets (tick_at settings10 waits (pos 0) (Some (request.Set (setpoints 1 2 0 0)))).state old (waiting_for new)
  -- "A write in any stage but 00 goes to a waiting set beside the one in use"; in 00 it is in use at once
  pub in_00 : Sets (tick_at settings10 open_state (pos 0) (Some (request.Set new))).state new none_waiting
  pub in_09 : Sets waits old (waiting_for new)
  pub in_15 : Sets (tick_at settings10 emptying (pos 100) (Some (request.Set new))).state old (waiting_for new)
  -- "a second write replaces the first"
  pub second : Sets (tick_at settings10 waits (pos 0) (Some (request.Set newer))).state old (waiting_for newer)
  -- the batch goes on by the old set: 10 after the first tick at 100; in 11 both sets are as they were
  pub by_the_old : standing (went_on 1) ≡ 10 ∷ 0 ∷ 0 ∷ 0 ∷ 0 ∷ []
  pub still_waits : Sets (went_on 10) old (waiting_for new)
  -- "It comes into use at the tick the stage returns to 00, .. after judgement and booking.": 10 is OK by the old set, under by the new
  pub finished : standing (went_on 11) ≡ 0 ∷ 0 ∷ 1 ∷ 10 ∷ 1 ∷ []
  pub finished_sets : Sets (went_on 11) new none_waiting
  -- 13 is over by the old set, OK by the new
  pub finished_over : standing (finish_at (pos 130) lax) ≡ 0 ∷ 0 ∷ 2 ∷ 13 ∷ 1 ∷ []
  pub finished_over_sets : Sets (finish_at (pos 130) lax) lax none_waiting
  -- near zero of the finishing tick is by the new set
  pub finished_near : (told settings10 (went_on 10) (pos 100) None).near ≡ true
  -- "by finish or error": a bad tick; by stop, whose own tick has its near zero by the new set: gross 15 is above 0 and below 20
  pub failed : standing (tick_at settings10 waits (pos 2000001) None).state ≡ 0 ∷ 9 ∷ 0 ∷ 0 ∷ 0 ∷ []
  pub failed_sets : Sets (tick_at settings10 waits (pos 2000001) None).state new none_waiting
  pub stopped_sets : Sets (tick_at settings10 waits (pos 150) (Some request.Stop)).state new none_waiting
  pub stopped_near : (told settings10 waits (pos 150) (Some request.Stop)).near ≡ true
  -- and by the end of a discharge
  pub in_16 : Sets in16 old (waiting_for new)
  pub emptied : Sets (tick_at settings10 in16 (pos 0) None).state new none_waiting
  -- a write in the finishing tick waits in step 4 and is in use after step 6; the judgement is by the old set
  pub with_finish : standing (tick_at settings10 (fed 10) (pos 100) (Some (request.Set new))).state ≡ 0 ∷ 0 ∷ 1 ∷ 10 ∷ 1 ∷ []
  pub with_finish_sets : Sets (tick_at settings10 (fed 10) (pos 100) (Some (request.Set new))).state new none_waiting
  -- a start after that is by the new set: F 50 is not reached at 10
  pub next-batch :
      standing (state_after settings10 (leg 1 (pos 100) (Some request.Start) ∷ leg 3 (pos 100) None ∷ []) (went_on 11))
      ≡ 9 ∷ 0 ∷ 0 ∷ 10 ∷ 1 ∷ []
  -- total clear and undo leave both sets
  pub cleared : standing (tick_at settings10 again (pos 100) (Some request.TotalClear)).state ≡ 9 ∷ 0 ∷ 0 ∷ 0 ∷ 0 ∷ []
  pub cleared_sets : Sets (tick_at settings10 again (pos 100) (Some request.TotalClear)).state new (waiting_for newer)
  pub undone : standing (tick_at settings10 again (pos 100) (Some request.Undo)).state ≡ 9 ∷ 0 ∷ 0 ∷ 0 ∷ 0 ∷ []
  pub undone_sets : Sets (tick_at settings10 again (pos 100) (Some request.Undo)).state new (waiting_for newer)
  -- 14, where SS has no room for its reply: the write is not done, and what waited waits on
  pub no_room :
      Sets (line_tick_of settings10 waits (pos 0) false (line "SS000070000000000000000000000000000000000020") (0 ∷ 0 ∷ 0 ∷ [])).state old
      (waiting_for new)
  -- seven noughts keep the rules, and wait as any other set does; the batch after them has no final
  pub noughts : Sets (written open_setpoints) old (waiting_for open_setpoints)
  pub noughts_read : reply settings10 (written open_setpoints) (pos 0) (line "RS") 44 ≡ line "000000000000000000000000000000000000000000"
  pub noughts-next :
      standing
      (state_after settings10 (leg 1 (pos 100) (Some request.Start) ∷ leg 1 (pos 100) None ∷ []) (finish_at (pos 100) open_setpoints))
      ≡ 0 ∷ 1 ∷ 0 ∷ 10 ∷ 1 ∷ []
  -- "RS reads the waiting set if there is one.": in 09, in the finishing tick, and after it
  pub read_waiting : reply settings10 waits (pos 0) (line "RS") 44 ≡ line "000050000000000000000000000000000000000020"
  pub read_finishing : reply settings10 (went_on 10) (pos 100) (line "RS") 44 ≡ line "000050000000000000000000000000000000000020"
  pub read_after : reply settings10 (went_on 11) (pos 100) (line "RS") 44 ≡ line "000050000000000000000000000000000000000020"
  pub read_none : reply settings10 in09 (pos 0) (line "RS") 44 ≡ line "000010000000000000000000000002000002000000"
