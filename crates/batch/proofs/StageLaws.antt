-- Step 6 in parts, as the code has them: which stages are left where one is told, and what the step is in a delay, in a flow stage and in 15
-- and 16, over plain variables.
use Rattle.std.specs.Prelude.{None, ℕ}
use Prim.Native.Nat.{ℕ, suc, ◌+◌, ◌<◌, ◌≤◌}
use mathlib.Core.Path.{◌≡◌, refl, sym, subst, ◌∙◌}
use mathlib.Core.Bool.{true, false}
use mathlib.Core.List.{List, [], ◌∷◌}
use native.Mathlib.Numerals.{add-one}
use native.Mathlib.Omega.{arith}
use borrow.Author.Tests.{le-leb, lt-leb}
use lib.Dec.{T}
use denote.Enum.Declared.{tag_of}
use types.Run.{OneOf, miss}
use Rattle.types.specs.contracts.stages.Stage.{the_type}
use Rattle.types.specs.declared.settings.Batching.{Batching}
use Rattle.types.specs.declared.stages.Setpoints.{Setpoints}
use Rattle.types.specs.declared.stages.Sequence.{Sequence}
use Rattle.types.specs.declared.stages.Facts.{Facts}
use Rattle.types.specs.declared.stages.Advanced.{Advanced}
use Rattle.types.specs.declared.stages.Move.TheVariants.{To, Emptied}
use Rattle.types.specs.declared.stages.SequenceError.TheVariants as error
use Rattle.types.specs.declared.stages.Stage.{Stage}
use Rattle.types.specs.declared.stages.Stage.TheVariants.{Idle, StartDelay, LargeDisable, LargeFlow, MediumDisable, MediumFlow, SmallDisable, SmallFlow, JudgeDelay, JudgeWait, DischargeStart, Discharge, DischargeEnd}
use Rattle.outline.specs.Stages.{idle_of, flowing_of, emptying_of, discharging_of, wait_of, after_start, move_of, failed_of, land_of, advance_of}

-- ---- the stages by their places among all
not_so : {A : Type 0} → false ≡ true → A
not_so e = absurd (subst T (sym e) tt)

-- no 03
abbrev pub past_start : List ℕ
past_start = 0 ∷ 2 ∷ 3 ∷ 4 ∷ 5 ∷ 6 ∷ 7 ∷ 8 ∷ 9 ∷ 10 ∷ 11 ∷ 12 ∷ []

-- no 14
abbrev pub past_delay : List ℕ
past_delay = 0 ∷ 1 ∷ 2 ∷ 3 ∷ 4 ∷ 5 ∷ 6 ∷ 7 ∷ 8 ∷ 9 ∷ 11 ∷ 12 ∷ []

-- no 16
abbrev pub before_end : List ℕ
before_end = 0 ∷ 1 ∷ 2 ∷ 3 ∷ 4 ∷ 5 ∷ 6 ∷ 7 ∷ 8 ∷ 9 ∷ 10 ∷ 11 ∷ []

-- none of 04 to 11
abbrev pub elsewhere : List ℕ
elsewhere = 0 ∷ 1 ∷ 10 ∷ 11 ∷ 12 ∷ []

pub flow_left : (g : Stage) → OneOf past_start (tag_of the_type g) → idle_of g ≡ false → discharging_of g ≡ false → flowing_of g ≡ true
flow_left Idle h i d = not_so (sym i)
flow_left (StartDelay t) h i d = absurd (miss past_start _ tt h)
flow_left (LargeDisable t) h i d = refl
flow_left LargeFlow h i d = refl
flow_left (MediumDisable t) h i d = refl
flow_left MediumFlow h i d = refl
flow_left (SmallDisable t) h i d = refl
flow_left SmallFlow h i d = refl
flow_left (JudgeDelay t) h i d = refl
flow_left JudgeWait h i d = refl
flow_left (DischargeStart t) h i d = not_so (sym d)
flow_left Discharge h i d = not_so (sym d)
flow_left (DischargeEnd t) h i d = not_so (sym d)

pub emptying_left : (g : Stage) → OneOf past_delay (tag_of the_type g) → discharging_of g ≡ true → emptying_of g ≡ true
emptying_left Idle h d = not_so d
emptying_left (StartDelay t) h d = not_so d
emptying_left (LargeDisable t) h d = not_so d
emptying_left LargeFlow h d = not_so d
emptying_left (MediumDisable t) h d = not_so d
emptying_left MediumFlow h d = not_so d
emptying_left (SmallDisable t) h d = not_so d
emptying_left SmallFlow h d = not_so d
emptying_left (JudgeDelay t) h d = not_so d
emptying_left JudgeWait h d = not_so d
emptying_left (DischargeStart t) h d = absurd (miss past_delay _ tt h)
emptying_left Discharge h d = refl
emptying_left (DischargeEnd t) h d = refl

pub open_left : (g : Stage) → OneOf before_end (tag_of the_type g) → emptying_of g ≡ true → g ≡ Discharge
open_left Idle h e = not_so e
open_left (StartDelay t) h e = not_so e
open_left (LargeDisable t) h e = not_so e
open_left LargeFlow h e = not_so e
open_left (MediumDisable t) h e = not_so e
open_left MediumFlow h e = not_so e
open_left (SmallDisable t) h e = not_so e
open_left SmallFlow h e = not_so e
open_left (JudgeDelay t) h e = not_so e
open_left JudgeWait h e = not_so e
open_left (DischargeStart t) h e = not_so e
open_left Discharge h e = refl
open_left (DischargeEnd t) h e = absurd (miss before_end _ tt h)

pub none_left : {A : Type 0} (g : Stage) → OneOf elsewhere (tag_of the_type g) → flowing_of g ≡ true → A
none_left Idle h e = not_so e
none_left (StartDelay t) h e = not_so e
none_left (LargeDisable t) h e = absurd (miss elsewhere _ tt h)
none_left LargeFlow h e = absurd (miss elsewhere _ tt h)
none_left (MediumDisable t) h e = absurd (miss elsewhere _ tt h)
none_left MediumFlow h e = absurd (miss elsewhere _ tt h)
none_left (SmallDisable t) h e = absurd (miss elsewhere _ tt h)
none_left SmallFlow h e = absurd (miss elsewhere _ tt h)
none_left (JudgeDelay t) h e = absurd (miss elsewhere _ tt h)
none_left JudgeWait h e = absurd (miss elsewhere _ tt h)
none_left (DischargeStart t) h e = not_so e
none_left Discharge h e = not_so e
none_left (DischargeEnd t) h e = not_so e

flowing_only : (g : Stage) → flowing_of g ≡ true → (idle_of g ≡ false) × (emptying_of g ≡ false)
flowing_only Idle e = not_so e
flowing_only (StartDelay t) e = not_so e
flowing_only (LargeDisable t) e = (refl, refl)
flowing_only LargeFlow e = (refl, refl)
flowing_only (MediumDisable t) e = (refl, refl)
flowing_only MediumFlow e = (refl, refl)
flowing_only (SmallDisable t) e = (refl, refl)
flowing_only SmallFlow e = (refl, refl)
flowing_only (JudgeDelay t) e = (refl, refl)
flowing_only JudgeWait e = (refl, refl)
flowing_only (DischargeStart t) e = not_so e
flowing_only Discharge e = not_so e
flowing_only (DischargeEnd t) e = not_so e

emptying_only : (g : Stage) → emptying_of g ≡ true → (idle_of g ≡ false) × (flowing_of g ≡ false)
emptying_only Idle e = not_so e
emptying_only (StartDelay t) e = not_so e
emptying_only (LargeDisable t) e = not_so e
emptying_only LargeFlow e = not_so e
emptying_only (MediumDisable t) e = not_so e
emptying_only MediumFlow e = not_so e
emptying_only (SmallDisable t) e = not_so e
emptying_only SmallFlow e = not_so e
emptying_only (JudgeDelay t) e = not_so e
emptying_only JudgeWait e = not_so e
emptying_only (DischargeStart t) e = not_so e
emptying_only Discharge e = (refl, refl)
emptying_only (DischargeEnd t) e = (refl, refl)

-- ---- the step, at a tick that error 9 has not ended
module _ (b : Batching) (p : Setpoints) (q : Sequence) (f : Facts) (fit : f.unfit ≡ false) where
  -- 03 and 14: no clock runs
  delay_on : (g : Stage) → q.stage ≡ g → idle_of g ≡ false → flowing_of g ≡ false → emptying_of g ≡ false → land_of q (move_of b p q.stage f) ≡ advance_of b p q f
  unfolding advance_of
  delay_on g eg i l e = simp (fit, eg, i, l, e)

  pub delay_to : (g : Stage) → q.stage ≡ g → idle_of g ≡ false → flowing_of g ≡ false → emptying_of g ≡ false → (g' : Stage) → move_of b p g f ≡ To g'
      → ◌≡◌ {A = Advanced} (record { sequence = record { stage = g'; clock = 0; error = q.error; judgement = q.judgement }; finished = false }) (advance_of b p q f)
  unfolding land_of
  delay_to g eg i l e g' m = (simp (eg, m, l, e)) ∙ delay_on g eg i l e

  pub start_over : (t : ℕ) → q.stage ≡ StartDelay t → wait_of b.start t ≡ None → (r : Advanced) → r ≡ land_of q (after_start b.mode p f) → r ≡ advance_of b p q f
  unfolding move_of
  start_over t eg w r e = e ∙ (simp (eg, w)) ∙ delay_on (StartDelay t) eg refl refl refl

  -- 04 to 11: the flow clock at its limit, and below it
  module _ (e : flowing_of q.stage ≡ true) where
    pub flow-late : b.flow ≤ q.clock → ◌≡◌ {A = Advanced} (record { sequence = failed_of q error.FlowTime; finished = false }) (advance_of b p q f)
    unfolding advance_of
    flow-late h = simp (fit, e, (flowing_only q.stage e).0, le-leb (suc b.flow) (suc q.clock) (omega (arith, h)))

    pub flow-on : q.clock < b.flow → land_of q (move_of b p q.stage f) ≡ advance_of b p q f
    unfolding advance_of
    flow-on h = simp (fit, e, (flowing_only q.stage e).0, (flowing_only q.stage e).1, lt-leb (suc b.flow) (suc q.clock) (omega (arith, h)))

    pub flow-to : q.clock < b.flow → (g : Stage) → move_of b p q.stage f ≡ To g
        → ◌≡◌ {A = Advanced} (record { sequence = record { stage = g; clock = q.clock + 1; error = q.error; judgement = q.judgement }; finished = false }) (advance_of b p q f)
    unfolding land_of
    flow-to h g m = (simp (m, e, add-one)) ∙ flow-on h

  -- 15 and 16: the discharge's clock at its limit, and below it
  module _ (e : emptying_of q.stage ≡ true) where
    pub empty-slow : b.discharge.limit ≤ q.clock → ◌≡◌ {A = Advanced} (record { sequence = failed_of q error.DischargeTime; finished = false }) (advance_of b p q f)
    unfolding advance_of
    empty-slow h =
        simp (fit, e, (emptying_only q.stage e).0, (emptying_only q.stage e).1, le-leb (suc b.discharge.limit) (suc q.clock) (omega (arith, h)))

    pub empty-on : q.clock < b.discharge.limit → land_of q (move_of b p q.stage f) ≡ advance_of b p q f
    unfolding advance_of
    empty-on h =
        simp (fit, e, (emptying_only q.stage e).0, (emptying_only q.stage e).1, lt-leb (suc b.discharge.limit) (suc q.clock) (omega (arith, h)))

    pub empty-to : q.clock < b.discharge.limit → (g : Stage) → move_of b p q.stage f ≡ To g
        → ◌≡◌ {A = Advanced} (record { sequence = record { stage = g; clock = q.clock + 1; error = q.error; judgement = q.judgement }; finished = false }) (advance_of b p q f)
    unfolding land_of
    empty-to h g m = (simp (m, e, (emptying_only q.stage e).1, add-one)) ∙ empty-on h

    pub empty-over : q.clock < b.discharge.limit → move_of b p q.stage f ≡ Emptied
        → ◌≡◌ {A = Advanced} (record { sequence = record { stage = Idle; clock = 0; error = q.error; judgement = q.judgement }; finished = false }) (advance_of b p q f)
    unfolding land_of
    empty-over h m = (simp m) ∙ empty-on h
