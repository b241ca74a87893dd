-- What the definitions owe, as statements: laws that a reader would ask of them. They are proved in proofs/, and `paper_holds` has
-- them as its `ensures`. Those of the analog value stand in AnalogOwed.antt.
use Rattle.std.specs.Prelude.{ℕ, zero, suc, ◌<◌, ◌≤◌, max, ◌≡◌, true, false, cond, ◌⊎◌, [], ◌∷◌, ltb, ℤ, nat_abs, Option, None, Some}
use Rattle.types.specs.declared.settings.Given.{Given}
use Rattle.types.specs.declared.settings.Mode.{Mode}
use Rattle.types.specs.declared.settings.Mode.TheVariants as mode
use Rattle.types.specs.declared.settings.Settings.{Settings}
use Rattle.types.specs.declared.stages.Setpoints.{Setpoints}
use Rattle.outline.specs.Limits.{raw_limit, setpoint_limit}
use Rattle.outline.specs.Settings.{open_of}
use Rattle.outline.specs.Weight.{good_count, tenths_of, raw_of}
use Rattle.outline.specs.Tick.{open_state, opened_of}
use Rattle.outline.specs.Numbers.{opening_number}
use Rattle.outline.specs.Setpoints.{setpoints_fit}
use Rattle.outline.specs.Stages.{wait_of}

-- settings that some opening accepted
abbrev pub Accepted : Settings → Type 0
Accepted s = (g : Given) × (open_of g ≡ Some s)

-- ---- "Any value outside its range gives answer 10 and no state.": a state is given exactly where the answer is 0, and it is the opening
-- state
pub record Opened (g : Given) : Type 0 where
  pub refused : opening_number (open_of g) ≡ 10 → opened_of (open_of g) ≡ []
  pub accepted : opening_number (open_of g) ≡ 0 → opened_of (open_of g) ≡ open_state ∷ []
  pub either : (opening_number (open_of g) ≡ 10) ⊎ (opening_number (open_of g) ≡ 0)

abbrev pub OpeningLaw : Type 0
OpeningLaw = (g : Given) → Opened g

-- ---- |raw| is at most 4,000,000: the guard on raw is never met, so that a tick is bad for its count alone
pub record RawOf (s : Settings) (count : ℤ) : Type 0 where
  pub bad : good_count count ≡ false → raw_of s.calibration count ≡ None
  pub good : good_count count ≡ true → raw_of s.calibration count ≡ Some (tenths_of s.calibration count)
  pub small : good_count count ≡ true → nat_abs (tenths_of s.calibration count) ≤ raw_limit

abbrev pub RawLaw : Type 0
RawLaw = (s : Settings) → Accepted s → (count : ℤ) → RawOf s count

-- ---- accepted setpoints are exactly those of the rules
pub record Kept (m : Mode) (p : Setpoints) : Type 0 where
  pub target : p.target ≤ setpoint_limit
  pub fall : p.fall ≤ setpoint_limit
  pub preliminary : p.preliminary ≤ setpoint_limit
  pub optional : p.optional ≤ setpoint_limit
  pub over : p.over ≤ setpoint_limit
  pub under : p.under ≤ setpoint_limit
  pub near : p.near ≤ setpoint_limit
  -- "FF at most F."
  pub fall_rule : p.fall ≤ p.target
  -- "P is 0, or more than FF and at most F."
  pub preliminary_rule : (p.preliminary ≡ 0) ⊎ ((p.fall < p.preliminary) × (p.preliminary ≤ p.target))
  -- "In mode 1, OP is 0, or more than FF and P and at most F."
  pub optional_rule : m ≡ mode.Normal
      → (p.optional ≡ 0) ⊎ ((p.fall < p.optional) × (p.preliminary < p.optional) × (p.optional ≤ p.target))

abbrev pub SetpointLaw : Type 0
SetpointLaw = (m : Mode) (p : Setpoints) → (setpoints_fit m p ≡ true → Kept m p) × (Kept m p → setpoints_fit m p ≡ true)

-- ---- "A timed stage of n lasts max(n, 1) ticks": the entering tick is its first, and j ticks later it still stands where j is below that
abbrev pub one_more : ℕ → Option ℕ → Option ℕ
one_more n None = None
one_more n (Some t) = wait_of n t

abbrev pub after : ℕ → ℕ → Option ℕ
after n zero = Some 0
after n (suc j) = one_more n (after n j)

abbrev pub TimedLaw : Type 0
TimedLaw = (n j : ℕ) → after n j ≡ cond (ltb j (max n 1)) (Some j) None
