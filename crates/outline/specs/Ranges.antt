-- The range of every field of the state, under settings s: what no run leaves. A field that has no use is 0.
use Rattle.std.specs.Prelude.{◌+◌, ◌*◌, ◌<◌, ◌≤◌, max, ◌≡◌, Bool, true, false, not, ◌&&◌, ◌||◌, eqb, pos, nat_abs, ◌+ℤ◌, ◌-ℤ◌, ◌*ℤ◌}
use Rattle.std.specs.Prelude.{Option, None, Some, ℕ}
use Rattle.std.specs.Int.Signed.{le_z}
use Rattle.types.specs.declared.settings.Range.{Range}
use Rattle.types.specs.declared.settings.Tracking.{Tracking}
use Rattle.types.specs.declared.settings.Steadiness.{Steadiness}
use Rattle.types.specs.declared.settings.Mode.{Mode}
use Rattle.types.specs.declared.settings.Mode.TheVariants as mode
use Rattle.types.specs.declared.settings.Batching.{Batching}
use Rattle.types.specs.declared.settings.Settings.{Settings}
use Rattle.types.specs.declared.weight.Stability.{Stability}
use Rattle.types.specs.declared.weight.Weighing.{Weighing}
use Rattle.types.specs.declared.weight.Weights.{Weights}
use Rattle.types.specs.declared.daybook.Book.{Book}
use Rattle.types.specs.declared.stages.Setpoints.{Setpoints}
use Rattle.types.specs.declared.stages.Stage.{Stage}
use Rattle.types.specs.declared.stages.Stage.TheVariants.{Idle, StartDelay, LargeDisable, LargeFlow, MediumDisable, MediumFlow}
use Rattle.types.specs.declared.stages.Stage.TheVariants.{SmallDisable, SmallFlow, JudgeDelay, JudgeWait, DischargeStart, Discharge}
use Rattle.types.specs.declared.stages.Stage.TheVariants.{DischargeEnd}
use Rattle.types.specs.declared.stages.SequenceError.{SequenceError}
use Rattle.types.specs.declared.stages.SequenceError.TheVariants as error
use Rattle.types.specs.declared.stages.Sequence.{Sequence}
use Rattle.types.specs.declared.stages.Totals.{Totals}
use Rattle.types.specs.declared.machine.State.{State}
use Rattle.outline.specs.Limits.{raw_limit, rise_limit, day_ticks, total_limit, batch_limit, overload_margin}
use Rattle.outline.specs.Weight.{fit_of}
use Rattle.outline.specs.Zero.{tracking_on}
use Rattle.outline.specs.Setpoints.{setpoints_fit, none_waiting, no_large_flow}
use Rattle.outline.specs.Stages.{idle_of, flowing_of, emptying_of, discharging_of}
use Rattle.types.specs.declared.stages.Judgement.TheVariants as judgement

-- the day book
pub record BookRange (b : Book) : Type 0 where
  pub opening : nat_abs b.opening ≤ raw_limit
  pub last : nat_abs b.last ≤ raw_limit
  pub ticks : b.ticks ≤ day_ticks
  -- a tick books at most one change, to one of the two sums; so neither meets its guard, book_limit
  pub sums : nat_abs b.refilled + nat_abs b.used ≤ rise_limit * b.ticks
  -- unbooked is one fall, from the last raw that was booked to the last good raw; there is none before the day's last booked tick
  pub late : nat_abs (b.unbooked +ℤ b.last) ≤ raw_limit
  pub none : b.ticks < day_ticks → b.unbooked ≡ pos 0
  -- before the first good tick all but the tick count is 0, and the contact noted is open
  pub blank : b.begun ≡ false
      → (b.contact ≡ false) × (b.opening ≡ pos 0) × (b.last ≡ pos 0) × (b.refilled ≡ pos 0) × (b.used ≡ pos 0) × (b.unbooked ≡ pos 0)

-- "the day balances"
abbrev pub Balanced : Book → Type 0
Balanced b = b.opening +ℤ b.refilled -ℤ b.used -ℤ b.unbooked ≡ b.last

-- stability: the run is at most k, and 0 after a bad tick
pub record StabilityRange (rule : Steadiness) (q : Stability) : Type 0 where
  pub run : q.run ≤ rule.time
  pub broken : q.good ≡ false → q.run ≡ 0

-- zero and tare; `zero - tracked` is the zero last keyed
pub record WeighingRange (r : Range) (t : Tracking) (w : Weighing) : Type 0 where
  pub zero : 10 * nat_abs w.zero ≤ r.capacity * r.zeroing
  pub keyed : 10 * nat_abs (w.zero -ℤ w.tracked) ≤ r.capacity * r.zeroing
  pub tracked : nat_abs w.tracked ≤ t.allowance
  pub counter : w.counter < max t.time 1
  -- tracking that is off neither counts nor moves
  pub off : tracking_on t ≡ false → (w.counter ≡ 0) × (w.tracked ≡ pos 0)
  pub tare_least : le_z (pos 0) w.tare ≡ true
  pub tare_most : nat_abs w.tare ≤ r.capacity * r.division

-- errors 7 and 8, which a discharge alone gives
abbrev pub of_discharge : SequenceError → Bool
of_discharge error.None = false
of_discharge error.NoFinal = false
of_discharge error.Reached = false
of_discharge error.Stopped = false
of_discharge error.FlowTime = false
of_discharge error.BadWeight = false
of_discharge error.NotBooked = false
of_discharge error.DischargeStopped = true
of_discharge error.DischargeTime = true

-- a timed stage of n: fewer than max(n, 1) ticks lie behind
abbrev pub TimerRange : Batching → Stage → Type 0
TimerRange b Idle = Unit {0}
TimerRange b (StartDelay t) = t < max b.start 1
TimerRange b (LargeDisable t) = t < max b.large 1
TimerRange b LargeFlow = Unit {0}
TimerRange b (MediumDisable t) = t < max b.medium 1
TimerRange b MediumFlow = Unit {0}
TimerRange b (SmallDisable t) = t < max b.small 1
TimerRange b SmallFlow = Unit {0}
TimerRange b (JudgeDelay t) = t < max b.judge 1
TimerRange b JudgeWait = Unit {0}
TimerRange b (DischargeStart t) = t < max b.discharge.start 1
TimerRange b Discharge = Unit {0}
TimerRange b (DischargeEnd t) = t < max b.discharge.end 1

pub record SequenceRange (b : Batching) (q : Sequence) : Type 0 where
  pub timer : TimerRange b q.stage
  -- neither clock stands above its limit, and it is 0 where none runs
  pub flow_clock : flowing_of q.stage ≡ true → q.clock ≤ b.flow
  pub discharge_clock : emptying_of q.stage ≡ true → q.clock ≤ b.discharge.limit
  pub unclocked : flowing_of q.stage || emptying_of q.stage ≡ false → q.clock ≡ 0
  -- no error outside stage 00, and no judgement in a batch
  pub no_error_lem : idle_of q.stage ≡ false → q.error ≡ error.None
  pub no_judgement : idle_of q.stage || discharging_of q.stage ≡ false → q.judgement ≡ judgement.None
  -- no discharge in mode 2, and no error of one
  pub normal : discharging_of q.stage ≡ true → b.mode ≡ mode.Normal
  pub normal_error : of_discharge q.error ≡ true → b.mode ≡ mode.Normal

-- what can be taken back was booked: undo's differences never stop at 0
abbrev pub BackRange : Totals → Option ℕ → Type 0
BackRange t None = Unit {0}
BackRange t (Some v) = (v ≤ t.total) × (1 ≤ t.count)

pub record TotalsRange (t : Totals) : Type 0 where
  pub total : t.total ≤ total_limit
  pub count : t.count ≤ batch_limit
  pub back : BackRange t t.back

-- A5: what waits was accepted, so it keeps the rules that refusal 6 tests
abbrev pub write_fits : Mode → Option Setpoints → Bool
write_fits m None = true
write_fits m (Some p) = setpoints_fit m p

-- the flow stages that a batch with these setpoints has: none where F is 0, 04 and 05 where there is a large flow, 06 and 07 where P is
-- not 0
abbrev pub flow_fits : Mode → Setpoints → Stage → Bool
flow_fits m p Idle = true
flow_fits m p (StartDelay t) = true
flow_fits m p (LargeDisable t) = not (eqb p.target 0) && not (no_large_flow m p)
flow_fits m p LargeFlow = not (eqb p.target 0) && not (no_large_flow m p)
flow_fits m p (MediumDisable t) = not (eqb p.target 0) && not (eqb p.preliminary 0)
flow_fits m p MediumFlow = not (eqb p.target 0) && not (eqb p.preliminary 0)
flow_fits m p (SmallDisable t) = not (eqb p.target 0)
flow_fits m p SmallFlow = not (eqb p.target 0)
flow_fits m p (JudgeDelay t) = not (eqb p.target 0)
flow_fits m p JudgeWait = not (eqb p.target 0)
flow_fits m p (DischargeStart t) = true
flow_fits m p Discharge = true
flow_fits m p (DischargeEnd t) = true

-- how the parts of a state go together
pub record TogetherRange (s : Settings) (st : State) : Type 0 where
  -- where the last tick was good, there has been a good tick
  pub begun : st.stability.good ≡ true → st.book.begun ≡ true
  -- a batch or a discharge is under way after a good tick alone: it fails in a bad one, and none begins there
  pub under_way : idle_of st.sequence.stage ≡ false → st.stability.good ≡ true
  -- the tracking counter counts in stage 00, from good tick to good tick. Since A6 it is 0 after a closed one too; that is not asked, since
  -- earlier programs, which counted there, kept such states (D117c)
  pub resting : idle_of st.sequence.stage ≡ false → st.weighing.counter ≡ 0
  pub unbroken : st.stability.good ≡ false → st.weighing.counter ≡ 0
  -- the set in use stays as it is until the batch ends
  pub flow : flow_fits s.batching.mode st.setpoints st.sequence.stage ≡ true
  -- A5: in 00 nothing waits
  pub none_waits : idle_of st.sequence.stage ≡ true → st.waiting ≡ none_waiting

pub record StateRange (s : Settings) (st : State) : Type 0 where
  pub book : BookRange st.book
  pub stability : StabilityRange s.steadiness st.stability
  pub weighing : WeighingRange s.range s.tracking st.weighing
  pub setpoints : setpoints_fit s.batching.mode st.setpoints ≡ true
  pub waiting : write_fits s.batching.mode st.waiting ≡ true
  pub sequence : SequenceRange s.batching st.sequence
  pub totals : TotalsRange st.totals
  pub together : TogetherRange s st

-- the guard on gross and net is not met, overloaded or not: they are what the outline says
pub record Unstopped (r : Range) (w : Weighing) (x : Weights) : Type 0 where
  pub gross : x.gross ≡ x.divisions *ℤ pos r.division
  pub net : x.good ≡ true → x.net ≡ x.gross -ℤ w.tare

-- a tick's weights without overload: gross within C + 8 divisions, net within C more, so that seven digits show either
pub record WeightsRange (r : Range) (x : Weights) : Type 0 where
  pub gross : fit_of x ≡ true → nat_abs x.gross ≤ (r.capacity + overload_margin) * r.division
  pub net : fit_of x ≡ true → nat_abs x.net ≤ (2 * r.capacity + overload_margin) * r.division
