-- What accepted settings bound, and so a state in range under them: its numbers fit their machine types. Assumes nothing.
use Rattle.std.specs.Prelude.{Option, None, Some, ℤ, ℕ}
use Prim.Native.Nat.{ℕ, ◌+◌, ◌^◌, ◌≤◌, ◌<◌}
use native.Mathlib.Nat as N
use native.Mathlib.Omega.{arith}
use mathlib.Core.Path.{◌≡◌, refl, subst}
use mathlib.Core.Bool.{Bool, true, false, ◌||◌}
use mathlib.Core.List.{[], ◌∷◌}
use lib.IntN.{ℤ, nat_abs, ◌+ℤ◌}
use mir.Syntax.{w32, w64}
use Rattle.whole.specs.Ints.{ints, linear, ints2}
use Rattle.whole.specs.Chains.{links}
use Rattle.whole.specs.Machine.{fits_abs}
use Rattle.types.specs.declared.settings.Given.{Given}
use Rattle.types.specs.declared.settings.Batching.{Batching}
use Rattle.types.specs.declared.settings.Settings.{Settings}
use Rattle.types.specs.declared.daybook.Book.{Book}
use Rattle.types.specs.declared.weight.Weighing.{Weighing}
use Rattle.types.specs.declared.stages.Setpoints.{Setpoints}
use Rattle.types.specs.declared.stages.Stage.{Stage}
use Rattle.types.specs.declared.stages.Stage.TheVariants.{Idle, StartDelay, LargeDisable, LargeFlow, MediumDisable, MediumFlow, SmallDisable, SmallFlow, JudgeDelay, JudgeWait, DischargeStart, Discharge, DischargeEnd}
use Rattle.types.specs.declared.stages.Sequence.{Sequence}
use Rattle.types.specs.declared.stages.Totals.{Totals}
use Rattle.types.specs.declared.machine.State.{State}
use Rattle.outline.specs.Limits.{track_time_limit, track_width_limit, allowance_limit, stable_time_least, stable_time_limit, stable_width_limit, delay_limit, flow_limit, discharge_limit}
use Rattle.outline.specs.Settings.{from_to, tracking_fits, stability_fits, delays_fit, flow_fits, discharge_fits, settings_of}
use Rattle.outline.specs.Stages.{flowing_of, emptying_of}
use Rattle.outline.specs.Owed.{Accepted, Kept}
use Rattle.outline.specs.Ranges.{BookRange, WeighingRange, TimerRange, SequenceRange, BackRange, TotalsRange, write_fits, StateRange}
use Rattle.outline.proofs.Opened.{Rows, passed, rows}
use Rattle.outline.proofs.RangeGuard.{Bounded, bounded, up_to}
use Rattle.outline.proofs.SetpointLaw.{setpoint_law}
use Rattle.images.specs.StateImage.{stage_timer, back_weight, write_points}
use Rattle.images.proofs.NameLaws.{none_held}
use Rattle.images.specs.Holds.{HeldBook, HeldWeighing, HeldSetpoints, HeldSequence, HeldTotals, HeldState}

-- ---- what accepted settings bound, beside capacity, zero range and division
pub record Delays (b : Batching) : Type 0 where
  pub start : b.start ≤ delay_limit
  pub large : b.large ≤ delay_limit
  pub medium : b.medium ≤ delay_limit
  pub small : b.small ≤ delay_limit
  pub judge : b.judge ≤ delay_limit
  pub flow : b.flow ≤ flow_limit
  pub discharge_start : b.discharge.start ≤ delay_limit
  pub discharge_end : b.discharge.end ≤ delay_limit
  pub discharge_limit_lem : b.discharge.limit ≤ discharge_limit

pub record Times (s : Settings) : Type 0 where
  pub tracking : s.tracking.time ≤ track_time_limit
  pub allowance : s.tracking.allowance ≤ allowance_limit
  pub steadiness : s.steadiness.time ≤ stable_time_limit
  pub batching : Delays s.batching

given_delays : (g : Given) → Rows g → Delays (settings_of g).batching
unfolding settings_of delays_fit flow_fits discharge_fits
given_delays g r =
    let d =
    links (from_to 0 delay_limit g.start)
    (from_to 0 delay_limit g.large ∷ from_to 0 delay_limit g.medium ∷ from_to 0 delay_limit g.small ∷ from_to 0 delay_limit g.judge ∷ [])
    r.delays in
    let e =
    links (from_to 0 delay_limit g.dischargestart) (from_to 0 delay_limit g.dischargeend ∷ from_to 1 discharge_limit g.dischargelimit ∷ []) r.discharge in
    record {
      start = up_to g.start 0 delay_limit d.0;
      large = up_to g.large 0 delay_limit d.1.0;
      medium = up_to g.medium 0 delay_limit d.1.1.0;
      small = up_to g.small 0 delay_limit d.1.1.1.0;
      judge = up_to g.judge 0 delay_limit d.1.1.1.1.0;
      flow = up_to g.flow 1 flow_limit r.flow;
      discharge_start = up_to g.dischargestart 0 delay_limit e.0;
      discharge_end = up_to g.dischargeend 0 delay_limit e.1.0;
      discharge_limit_lem = up_to g.dischargelimit 1 discharge_limit e.1.1.0;
    }

given_times : (g : Given) → Rows g → Times (settings_of g)
unfolding settings_of tracking_fits stability_fits
given_times g r =
    let t =
    links (from_to 0 track_time_limit g.tracktime) (from_to 0 track_width_limit g.trackwidth ∷ from_to 0 allowance_limit g.allowance ∷ []) r.tracking in
    let q = links (from_to stable_time_least stable_time_limit g.stabletime) (from_to 0 stable_width_limit g.stablewidth ∷ []) r.stability in
    record {
      tracking = up_to g.tracktime 0 track_time_limit t.0;
      allowance = up_to g.allowance 0 allowance_limit t.1.1.0;
      steadiness = up_to g.stabletime stable_time_least stable_time_limit q.0;
      batching = given_delays g r;
    }

pub times : (s : Settings) → Accepted s → Times s
times s a = let p = passed a.0 s a.1 in subst Times p.made (given_times a.0 (rows a.0 p.fit))

-- ---- the parts of a state
one_of_two : (x y : ℤ) → nat_abs x ≤ nat_abs (x +ℤ y) + nat_abs y
one_of_two = ints2 _ (λ a a' b b'. simp ints (omega linear))

book_held : (b : Book) → BookRange b → HeldBook b
book_held b r = record {
  opening = fits_abs w32 (omega (arith, r.opening));
  last = fits_abs w32 (omega (arith, r.last));
  refilled = fits_abs w64 (omega (arith, r.sums, r.ticks));
  used = fits_abs w64 (omega (arith, r.sums, r.ticks));
  unbooked = fits_abs w64 (omega (arith, one_of_two b.unbooked b.last, r.late, r.last));
  ticks = omega (arith, r.ticks);
}

weighing_held : (s : Settings) (w : Weighing) → Bounded s.range → Times s → WeighingRange s.range s.tracking w → HeldWeighing w
weighing_held s w b t r = record {
  zero = fits_abs w32 (omega (arith, r.zero, N.mul-le-mul b.capacity b.zeroing));
  tracked = fits_abs w32 (omega (arith, r.tracked, t.allowance));
  tare = fits_abs w32 (omega (arith, r.tare_most, N.mul-le-mul b.capacity b.division));
  counter = omega (arith, r.counter, t.tracking);
}

setpoints_held : {p : Setpoints} (s : Settings) → Kept s.batching.mode p → HeldSetpoints p
setpoints_held s k = record {
  target = omega (arith, k.target);
  fall = omega (arith, k.fall);
  preliminary = omega (arith, k.preliminary);
  optional = omega (arith, k.optional);
  over = omega (arith, k.over);
  under = omega (arith, k.under);
  near = omega (arith, k.near);
}

-- what waits keeps the same rules; where nothing does, all are 0
waiting_held : (s : Settings) (w : Option Setpoints) → write_fits s.batching.mode w ≡ true → HeldSetpoints (write_points w)
unfolding write_points
waiting_held s None h = none_held
waiting_held s (Some p) h = setpoints_held s ((setpoint_law s.batching.mode p).0 h)

timer_held : (b : Batching) → Delays b → (g : Stage) → TimerRange b g → stage_timer g < 2 ^ 16
unfolding stage_timer
timer_held b d Idle h = omega arith
timer_held b d (StartDelay t) h = omega (arith, d.start)
timer_held b d (LargeDisable t) h = omega (arith, d.large)
timer_held b d LargeFlow h = omega arith
timer_held b d (MediumDisable t) h = omega (arith, d.medium)
timer_held b d MediumFlow h = omega arith
timer_held b d (SmallDisable t) h = omega (arith, d.small)
timer_held b d SmallFlow h = omega arith
timer_held b d (JudgeDelay t) h = omega (arith, d.judge)
timer_held b d JudgeWait h = omega arith
timer_held b d (DischargeStart t) h = omega (arith, d.discharge_start)
timer_held b d Discharge h = omega arith
timer_held b d (DischargeEnd t) h = omega (arith, d.discharge_end)

-- whichever clock runs
clock_held : (f e : Bool) (n m c : ℕ) → n ≤ 60000 → m ≤ 60000 → (f ≡ true → c ≤ n) → (e ≡ true → c ≤ m) → (f || e ≡ false → c ≡ 0) → c < 2 ^ 16
clock_held true e n m c h k p q r = omega (arith, p refl)
clock_held false true n m c h k p q r = omega (arith, q refl)
clock_held false false n m c h k p q r = omega (arith, r refl)

sequence_held : (b : Batching) (q : Sequence) → Delays b → SequenceRange b q → HeldSequence q
sequence_held b q d r = record {
  timer = timer_held b d q.stage r.timer;
  clock =
      clock_held (flowing_of q.stage) (emptying_of q.stage) b.flow b.discharge.limit q.clock d.flow d.discharge_limit_lem r.flow_clock r.discharge_clock
      r.unclocked;
}

back_held : (t : Totals) (b : Option ℕ) → BackRange t b → back_weight b ≤ t.total
unfolding back_weight
back_held t None h = omega arith
back_held t (Some v) h = h.0

totals_held : (t : Totals) → TotalsRange t → HeldTotals t
totals_held t r = record {
  total = omega (arith, r.total);
  count = omega (arith, r.count);
  weight = omega (arith, back_held t t.back r.back, r.total);
}

-- ---- a state in range
pub range_held : (s : Settings) → Accepted s → (st : State) → StateRange s st → HeldState st
range_held s a st r =
    let t = times s a in
    record {
      book = book_held st.book r.book;
      run = omega (arith, r.stability.run, t.steadiness);
      weighing = weighing_held s st.weighing (bounded s a) t r.weighing;
      setpoints = setpoints_held s ((setpoint_law s.batching.mode st.setpoints).0 r.setpoints);
      waiting = waiting_held s st.waiting r.waiting;
      sequence = sequence_held s.batching st.sequence t.batching r.sequence;
      totals = totals_held st.totals r.totals;
    }
