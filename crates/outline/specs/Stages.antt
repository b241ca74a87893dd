-- The outline's section "Stages": the sequence 00, 03 to 11, its errors, its gates and its judgement; and request A1, the discharge, 14 to
-- 16. Booking stands in Totals.antt.
use Rattle.std.specs.Prelude.{ℕ, suc, ◌+◌, Bool, true, false, cond, not, ◌&&◌, ◌||◌, leb, ltb, eqb, ℤ, pos, neg_ℤ, ◌-ℤ◌, Option, None, Some}
use Rattle.std.specs.Int.Signed.{le_z, lt_z}
use Rattle.types.specs.declared.settings.Mode.{Mode}
use Rattle.types.specs.declared.settings.Mode.TheVariants as mode
use Rattle.types.specs.declared.settings.Batching.{Batching}
use Rattle.types.specs.declared.weight.Weights.{Weights}
use Rattle.types.specs.declared.stages.Setpoints.{Setpoints}
use Rattle.types.specs.declared.stages.Stage.{Stage}
use Rattle.types.specs.declared.stages.Stage.TheVariants.{Idle, StartDelay, LargeDisable, LargeFlow, MediumDisable, MediumFlow}
use Rattle.types.specs.declared.stages.Stage.TheVariants.{SmallDisable, SmallFlow, JudgeDelay, JudgeWait, DischargeStart, Discharge}
use Rattle.types.specs.declared.stages.Stage.TheVariants.{DischargeEnd}
use Rattle.types.specs.declared.stages.Judgement.{Judgement}
use Rattle.types.specs.declared.stages.Judgement.TheVariants as judgement
use Rattle.types.specs.declared.stages.SequenceError.{SequenceError}
use Rattle.types.specs.declared.stages.SequenceError.TheVariants as error
use Rattle.types.specs.declared.stages.Sequence.{Sequence}
use Rattle.types.specs.declared.stages.Gates.{Gates}
use Rattle.types.specs.declared.stages.Facts.{Facts}
use Rattle.types.specs.declared.stages.Move.{Move}
use Rattle.types.specs.declared.stages.Move.TheVariants.{To, Fail, Finish, Emptied}
use Rattle.types.specs.declared.stages.Advanced.{Advanced}
use Rattle.outline.specs.Setpoints.{no_large_flow, at_most_near}
use Rattle.outline.specs.Weight.{fit_of}

-- "Opening: .. error 0, stage 00, .. no judgement"
abbrev pub open_sequence : Sequence
open_sequence = record { stage = Idle; clock = 0; error = error.None; judgement = judgement.None }

-- "Compared weight v is net in mode 1, minus net in mode 2."
abbrev pub compared_of : Mode → Weights → ℤ
compared_of mode.Normal x = x.net
compared_of mode.Loss x = neg_ℤ x.net

-- v is at least F less n
abbrev pub reached_of : Setpoints → ℕ → ℤ → Bool
reached_of p n v = le_z (pos p.target -ℤ pos n) v

-- what the sequence asks of a bad or overloaded tick, its stability, its v and its gross: "over if v > F + over, under if v < F - under";
-- A1: "until gross is at most near zero"
abbrev pub facts_at : Setpoints → Bool → Bool → ℤ → ℤ → Facts
facts_at p unfit stable v gross = record {
  unfit = unfit;
  stable = stable;
  large = reached_of p p.optional v;
  medium = reached_of p p.preliminary v;
  small = reached_of p p.fall v;
  over = lt_z (pos (p.target + p.over)) v;
  under = lt_z v (pos p.target -ℤ pos p.under);
  empty = at_most_near p gross;
}

unfoldable pub facts_of : Mode → Setpoints → Weights → Facts
facts_of m p x = facts_at p (not (fit_of x)) x.stable (compared_of m x) x.gross

-- "A timed stage of n lasts max(n, 1) ticks": t of them lie before this one, which is the last if t + 1 is n or more.
unfoldable pub wait_of : ℕ → ℕ → Option ℕ
wait_of n t = cond (leb n (suc t)) None (Some (suc t))

-- a timed stage stays, with one tick more behind it, or makes its move
abbrev pub timed : Option ℕ → (ℕ → Stage) → Move → Move
timed None stay move = move
timed (Some t) stay move = To (stay t)

-- a stage that lasts until something is so
abbrev pub until : Bool → Stage → Move → Move
until reached stay move = cond reached move (To stay)

-- "then 06, or 08 if P is 0."
abbrev pub after_large : Setpoints → Stage
after_large p = cond (eqb p.preliminary 0) (SmallDisable 0) (MediumDisable 0)

-- "else to 04, or 06 if there is no large flow, or 08 if P is 0 too."
unfoldable pub first_flow : Mode → Setpoints → Stage
first_flow m p = cond (no_large_flow m p) (after_large p) (LargeDisable 0)

-- "At its end: F = 0 gives error 1; v at least F - FF gives error 2"
unfoldable pub after_start : Mode → Setpoints → Facts → Move
after_start m p f = cond (eqb p.target 0) (Fail error.NoFinal) (cond f.small (Fail error.Reached) (To (first_flow m p)))

-- "over if v > F + over, under if v < F - under, else OK."
unfoldable pub judged_of : Facts → Judgement
judged_of f = cond f.over judgement.Over (cond f.under judgement.Under judgement.Ok)

-- what the stage says: one move a tick
unfoldable pub move_of : Batching → Setpoints → Stage → Facts → Move
move_of b p Idle f = To Idle
-- "03 start delay."
move_of b p (StartDelay t) f = timed (wait_of b.start t) StartDelay (after_start b.mode p f)
-- "04 large disable; 05 until v is at least F - OP, then 06, or 08 if P is 0."
move_of b p (LargeDisable t) f = timed (wait_of b.large t) LargeDisable (To LargeFlow)
move_of b p LargeFlow f = until f.large LargeFlow (To (after_large p))
-- "06 medium disable; 07 until v is at least F - P."
move_of b p (MediumDisable t) f = timed (wait_of b.medium t) MediumDisable (To MediumFlow)
move_of b p MediumFlow f = until f.medium MediumFlow (To (SmallDisable 0))
-- "08 small disable; 09 until v is at least F - FF."
move_of b p (SmallDisable t) f = timed (wait_of b.small t) SmallDisable (To SmallFlow)
move_of b p SmallFlow f = until f.small SmallFlow (To (JudgeDelay 0))
-- "10 judge delay; 11 until stable, then the batch finishes and the stage is 00."
move_of b p (JudgeDelay t) f = timed (wait_of b.judge t) JudgeDelay (To JudgeWait)
move_of b p JudgeWait f = until f.stable JudgeWait (Finish (judged_of f))
-- A1: "14 is the start delay with the gate shut"
move_of b p (DischargeStart t) f = timed (wait_of b.discharge.start t) DischargeStart (To Discharge)
-- A1: "the discharge gate opens in 15, until gross is at most near zero, and stays open through 16, the end delay."
move_of b p Discharge f = until f.empty Discharge (To (DischargeEnd 0))
move_of b p (DischargeEnd t) f = timed (wait_of b.discharge.end t) DischargeEnd Emptied

-- stage 00
abbrev pub idle_of : Stage → Bool
idle_of Idle = true
idle_of (StartDelay t) = false
idle_of (LargeDisable t) = false
idle_of LargeFlow = false
idle_of (MediumDisable t) = false
idle_of MediumFlow = false
idle_of (SmallDisable t) = false
idle_of SmallFlow = false
idle_of (JudgeDelay t) = false
idle_of JudgeWait = false
idle_of (DischargeStart t) = false
idle_of Discharge = false
idle_of (DischargeEnd t) = false

-- 04 to 11, where the flow clock runs
abbrev pub flowing_of : Stage → Bool
flowing_of Idle = false
flowing_of (StartDelay t) = false
flowing_of (LargeDisable t) = true
flowing_of LargeFlow = true
flowing_of (MediumDisable t) = true
flowing_of MediumFlow = true
flowing_of (SmallDisable t) = true
flowing_of SmallFlow = true
flowing_of (JudgeDelay t) = true
flowing_of JudgeWait = true
flowing_of (DischargeStart t) = false
flowing_of Discharge = false
flowing_of (DischargeEnd t) = false

-- 15 and 16, where the discharge's clock runs
abbrev pub emptying_of : Stage → Bool
emptying_of Idle = false
emptying_of (StartDelay t) = false
emptying_of (LargeDisable t) = false
emptying_of LargeFlow = false
emptying_of (MediumDisable t) = false
emptying_of MediumFlow = false
emptying_of (SmallDisable t) = false
emptying_of SmallFlow = false
emptying_of (JudgeDelay t) = false
emptying_of JudgeWait = false
emptying_of (DischargeStart t) = false
emptying_of Discharge = true
emptying_of (DischargeEnd t) = true

-- 14 to 16, a discharge
abbrev pub discharging_of : Stage → Bool
discharging_of Idle = false
discharging_of (StartDelay t) = false
discharging_of (LargeDisable t) = false
discharging_of LargeFlow = false
discharging_of (MediumDisable t) = false
discharging_of MediumFlow = false
discharging_of (SmallDisable t) = false
discharging_of SmallFlow = false
discharging_of (JudgeDelay t) = false
discharging_of JudgeWait = false
discharging_of (DischargeStart t) = true
discharging_of Discharge = true
discharging_of (DischargeEnd t) = true

-- "flow clock, 0 on entering the first flow stage and one more each tick through 11"; A1: "Its clock is 0 on entering 15 and grows by one
-- each tick through 16"
abbrev pub clock_of : Sequence → ℕ
clock_of q = cond (flowing_of q.stage || emptying_of q.stage) (suc q.clock) 0

-- "above Q, error 6"
abbrev pub late_of : Batching → Sequence → Bool
late_of b q = flowing_of q.stage && ltb b.flow (suc q.clock)

-- A1: "above its own limit (1..60,000 ticks) it gives error 8"
abbrev pub slow_of : Batching → Sequence → Bool
slow_of b q = emptying_of q.stage && ltb b.discharge.limit (suc q.clock)

-- "Errors, each going to 00"
abbrev pub failed_of : Sequence → SequenceError → Sequence
failed_of q e = record { stage = Idle; clock = 0; error = e; judgement = q.judgement }

-- "An accepted start clears the error and enters 03." "An accepted start makes the judgement none again."
abbrev pub start_sequence : Sequence
start_sequence = record { stage = StartDelay 0; clock = 0; error = error.None; judgement = judgement.None }

-- A1: "BD, like BB, clears the error .., but keeps the judgement; 14 is the start delay"
abbrev pub discharge_sequence : Sequence → Sequence
discharge_sequence q = record { stage = DischargeStart 0; clock = 0; error = error.None; judgement = q.judgement }

-- "stop in 03-11, error 4"; A1: "Stop in 14 to 16 is error 7"
abbrev pub stop_error : Stage → SequenceError
stop_error g = cond (discharging_of g) error.DischargeStopped error.Stopped

-- "Stop in stage 00 changes nothing."
unfoldable pub stop_sequence : Sequence → Sequence
stop_sequence q = cond (idle_of q.stage) q (failed_of q (stop_error q.stage))

-- the sequence after a move
unfoldable pub land_of : Sequence → Move → Advanced
land_of q (To stage) =
    record { sequence = record { stage = stage; clock = clock_of q; error = q.error; judgement = q.judgement }; finished = false }
land_of q (Fail e) = record { sequence = failed_of q e; finished = false }
land_of q (Finish j) = record { sequence = record { stage = Idle; clock = 0; error = q.error; judgement = j }; finished = true }
-- a discharge ends: no batch finishes, the judgement stays
land_of q Emptied = record { sequence = record { stage = Idle; clock = 0; error = q.error; judgement = q.judgement }; finished = false }

-- "a bad or overloaded tick in 03-11, error 9 (house)". "Step 6 tests error 9, then 6, then the stage." A1, of 14 to 16: "a bad or
-- overloaded tick error 9, tested first, then the clock."
unfoldable pub advance_of : Batching → Setpoints → Sequence → Facts → Advanced
advance_of b p q f =
    cond (idle_of q.stage) (record { sequence = q; finished = false })
    (cond f.unfit (record { sequence = failed_of q error.BadWeight; finished = false })
    (cond (late_of b q) (record { sequence = failed_of q error.FlowTime; finished = false })
    (cond (slow_of b q) (record { sequence = failed_of q error.DischargeTime; finished = false })
    (land_of q (move_of b p q.stage f)))))

-- ---- gates
abbrev pub shut : Gates
shut = record { large = false; medium = false; small = false; discharge = false }

-- "with P = 0 the medium gate never opens (004)."
abbrev pub medium_of : Setpoints → Bool
medium_of p = not (eqb p.preliminary 0)

abbrev pub large_open : Setpoints → Gates
large_open p = record { large = true; medium = medium_of p; small = true; discharge = false }

abbrev pub medium_open : Setpoints → Gates
medium_open p = record { large = false; medium = medium_of p; small = true; discharge = false }

abbrev pub small_open : Gates
small_open = record { large = false; medium = false; small = true; discharge = false }

abbrev pub discharge_open : Gates
discharge_open = record { large = false; medium = false; small = false; discharge = true }

-- "Open gates (house): 04-05 all three, 06-07 medium and small, 08-09 small"; A1: "14 is the start delay with the gate shut; the discharge
-- gate opens in 15, .. and stays open through 16"
unfoldable pub gates_of : Setpoints → Stage → Gates
gates_of p Idle = shut
gates_of p (StartDelay t) = shut
gates_of p (LargeDisable t) = large_open p
gates_of p LargeFlow = large_open p
gates_of p (MediumDisable t) = medium_open p
gates_of p MediumFlow = medium_open p
gates_of p (SmallDisable t) = small_open
gates_of p SmallFlow = small_open
gates_of p (JudgeDelay t) = shut
gates_of p JudgeWait = shut
gates_of p (DischargeStart t) = shut
gates_of p Discharge = discharge_open
gates_of p (DischargeEnd t) = discharge_open
