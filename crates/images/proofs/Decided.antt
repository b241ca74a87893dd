-- `possible` is the decision of the ranges and the balance: part by part, what is in range passes, and what passes is in range. Assumes nothing.
use Rattle.std.specs.Prelude.{Option, None, Some, ℕ}
use Prim.Native.Nat.{ℕ, ◌+◌, ◌*◌, ◌/◌, ◌≤◌, max}
use native.Mathlib.Nat.{le-div_iff_mul-le}
use native.Mathlib.Omega.{arith}
use mathlib.Core.Path.{◌≡◌, refl, sym, ap, ◌∙◌, subst}
use mathlib.Core.Bool.{Bool, true, false, cond, not, ◌&&◌, ◌||◌}
use mathlib.Core.List.{List, [], ◌∷◌}
use lib.Dec.{eqb, ltb, leb}
use lib.IntN.{pos, nat_abs, ◌+ℤ◌, ◌-ℤ◌}
use lib.Signed.{le_z}
use borrow.Author.Tests.{ltb-true, lt-ltb, leb-true, leb-false, le-leb, lt-leb, eqb-true, eq-eqb, not-true, not-false}
use Rattle.whole.specs.Ints.{eq_z, eq_z_true, eq_z_yes}
use Rattle.whole.specs.Chains.{chain, links, linked, and_both, and_left, and_right}
use Rattle.types.specs.declared.settings.Mode.{Mode}
use Rattle.types.specs.declared.settings.Mode.TheVariants as mode
use Rattle.types.specs.declared.settings.Range.{Range}
use Rattle.types.specs.declared.settings.Tracking.{Tracking}
use Rattle.types.specs.declared.settings.Steadiness.{Steadiness}
use Rattle.types.specs.declared.settings.Batching.{Batching}
use Rattle.types.specs.declared.settings.Settings.{Settings}
use Rattle.types.specs.declared.daybook.Book.{Book}
use Rattle.types.specs.declared.weight.Stability.{Stability}
use Rattle.types.specs.declared.weight.Weighing.{Weighing}
use Rattle.types.specs.declared.stages.Setpoints.{Setpoints}
use Rattle.types.specs.declared.stages.Stage.{Stage}
use Rattle.types.specs.declared.stages.Stage.TheVariants.{Idle, StartDelay, LargeDisable, LargeFlow, MediumDisable, MediumFlow, SmallDisable, SmallFlow, JudgeDelay, JudgeWait, DischargeStart, Discharge, DischargeEnd}
use Rattle.types.specs.declared.stages.SequenceError.{SequenceError}
use Rattle.types.specs.declared.stages.SequenceError.TheVariants as error
use Rattle.types.specs.declared.stages.Judgement.{Judgement}
use Rattle.types.specs.declared.stages.Judgement.TheVariants as judgement
use Rattle.types.specs.declared.stages.Sequence.{Sequence}
use Rattle.types.specs.declared.stages.Totals.{Totals}
use Rattle.types.specs.declared.machine.State.{State}
use Rattle.outline.specs.Limits.{raw_limit, rise_limit, day_ticks, total_limit, batch_limit}
use Rattle.outline.specs.Numbers.{stage_number, error_number, judgement_number}
use Rattle.outline.specs.Setpoints.{setpoints_fit}
use Rattle.outline.specs.Kinds.{is_write}
use Rattle.outline.specs.Zero.{tracking_on}
use Rattle.outline.specs.Stages.{idle_of, flowing_of, emptying_of, discharging_of}
use Rattle.outline.specs.Ranges.{BookRange, Balanced, StabilityRange, WeighingRange, of_discharge, TimerRange, SequenceRange, BackRange, TotalsRange, write_fits, flow_fits, TogetherRange, StateRange}
use Rattle.outline.proofs.Parts.{clash, and_yes}
use Rattle.images.specs.StateImage.{stage_timer, error_of, judgement_of, back_tag, back_weight}
use Rattle.images.specs.Possible.{blank_book, balances, book_possible, stability_possible, weighing_possible, time_of, clock_limit, is_normal, sequence_fits, sequence_possible, totals_possible, flow_possible, together_fits, together_possible, possible}
use Rattle.images.specs.Owed.{Decides}
use Rattle.images.proofs.NameLaws.{error_back, judgement_back}

-- ---- `a || b`: b is asked where a is not so
either : (a b : Bool) → (a ≡ false → b ≡ true) → a || b ≡ true
either true b f = refl
either false b f = f refl

other : (a b : Bool) → a || b ≡ true → a ≡ false → b ≡ true
other true b h e = absurd (clash refl e)
other false b h e = h

-- ---- the day book
module _ (b : Book) where
  abbrev blankTests : List Bool
  blankTests =
      eq_z b.opening (pos 0) ∷ eq_z b.last (pos 0) ∷ eq_z b.refilled (pos 0) ∷ eq_z b.used (pos 0) ∷ eq_z b.unbooked (pos 0) ∷ []

  abbrev bookTests : List Bool
  bookTests =
      leb (nat_abs b.opening) raw_limit ∷ leb (nat_abs b.last) raw_limit ∷ leb (nat_abs b.refilled + nat_abs b.used) (rise_limit * b.ticks)
      ∷ leb (nat_abs (b.unbooked +ℤ b.last)) raw_limit ∷ (leb day_ticks b.ticks || eq_z b.unbooked (pos 0)) ∷ (b.begun || blank_book b) ∷ balances b ∷ []

  abbrev Blank : Type 0
  Blank = (b.contact ≡ false) × (b.opening ≡ pos 0) × (b.last ≡ pos 0) × (b.refilled ≡ pos 0) × (b.used ≡ pos 0) × (b.unbooked ≡ pos 0)

  blank_passes : Blank → blank_book b ≡ true
  blank_passes k =
      linked (not b.contact) blankTests (ap not k.0)
      (eq_z_yes _ _ k.1, (eq_z_yes _ _ k.2, (eq_z_yes _ _ k.3, (eq_z_yes _ _ k.4, (eq_z_yes _ _ k.5, tt)))))

  blank_of : blank_book b ≡ true → Blank
  blank_of h =
      let l = links (not b.contact) blankTests h in (
        not-true b.contact l.0,
        eq_z_true _ _ l.1.0,
        eq_z_true _ _ l.1.1.0,
        eq_z_true _ _ l.1.1.1.0,
        eq_z_true _ _ l.1.1.1.1.0,
        eq_z_true _ _ l.1.1.1.1.1.0,
      )

  book_passes : BookRange b → Balanced b → book_possible b ≡ true
  unfolding book_possible
  book_passes r e =
      let none = either (leb day_ticks b.ticks) (eq_z b.unbooked (pos 0)) (λ k. eq_z_yes _ _ (r.none (leb-false day_ticks b.ticks k))) in
      let blank = either b.begun (blank_book b) (λ k. blank_passes (r.blank k)) in
      linked (leb b.ticks day_ticks) bookTests (le-leb _ _ r.ticks)
      (le-leb _ _ r.opening, (le-leb _ _ r.last, (le-leb _ _ r.sums, (le-leb _ _ r.late, (none, (blank, (eq_z_yes _ _ e, tt)))))))

  book_of_lem : book_possible b ≡ true → BookRange b × Balanced b
  unfolding book_possible
  book_of_lem h =
      let l = links (leb b.ticks day_ticks) bookTests h in (
        record {
          ticks = leb-true _ _ l.0;
          opening = leb-true _ _ l.1.0;
          last = leb-true _ _ l.1.1.0;
          sums = leb-true _ _ l.1.1.1.0;
          late = leb-true _ _ l.1.1.1.1.0;
          none = λ k. eq_z_true _ _ (other (leb day_ticks b.ticks) (eq_z b.unbooked (pos 0)) l.1.1.1.1.1.0 (lt-leb day_ticks b.ticks k));
          blank = λ k. blank_of (other b.begun (blank_book b) l.1.1.1.1.1.1.0 k);
        },
        eq_z_true _ _ l.1.1.1.1.1.1.1.0,
      )

-- ---- stability
module _ (rule : Steadiness) (q : Stability) where
  stability_passes : StabilityRange rule q → stability_possible rule q ≡ true
  unfolding stability_possible
  stability_passes r =
      linked (leb q.run rule.time) ((q.good || eqb q.run 0) ∷ []) (le-leb _ _ r.run)
      (either q.good (eqb q.run 0) (λ k. eq-eqb _ _ (r.broken k)), tt)

  stability_of_lem : stability_possible rule q ≡ true → StabilityRange rule q
  unfolding stability_possible
  stability_of_lem h =
      let l = links (leb q.run rule.time) ((q.good || eqb q.run 0) ∷ []) h in
      record { run = leb-true _ _ l.0; broken = λ k. eqb-true _ _ (other q.good (eqb q.run 0) l.1.0 k) }

-- ---- zero and tare
tenth : (n m : ℕ) → 10 * n ≤ m → leb n (m / 10) ≡ true
tenth n m h = le-leb n (m / 10) ((le-div_iff_mul-le {k = 10} (omega arith)).1 (omega arith))

tenth_of : (n m : ℕ) → leb n (m / 10) ≡ true → 10 * n ≤ m
tenth_of n m h = let k : n * 10 ≤ m = (le-div_iff_mul-le {k = 10} (omega arith)).0 (leb-true n (m / 10) h) in omega arith

module _ (r : Range) (t : Tracking) (w : Weighing) where
  abbrev weighingTests : List Bool
  weighingTests =
      leb (nat_abs (w.zero -ℤ w.tracked)) (r.capacity * r.zeroing / 10) ∷ leb (nat_abs w.tracked) t.allowance ∷ ltb w.counter (max t.time 1)
      ∷ le_z (pos 0) w.tare ∷ leb (nat_abs w.tare) (r.capacity * r.division) ∷ (tracking_on t || (eqb w.counter 0 && eq_z w.tracked (pos 0))) ∷ []

  weighing_passes : WeighingRange r t w → weighing_possible r t w ≡ true
  unfolding weighing_possible
  weighing_passes h =
      let off = either (tracking_on t) (eqb w.counter 0 && eq_z w.tracked (pos 0)) (λ k. and_both (eq-eqb _ _ (h.off k).0) (eq_z_yes _ _ (h.off k).1)) in
      linked (leb (nat_abs w.zero) (r.capacity * r.zeroing / 10)) weighingTests (tenth _ _ h.zero)
      (tenth _ _ h.keyed, (le-leb _ _ h.tracked, (lt-ltb _ _ h.counter, (h.tare_least, (le-leb _ _ h.tare_most, (off, tt))))))

  weighing_of_lem : weighing_possible r t w ≡ true → WeighingRange r t w
  unfolding weighing_possible
  weighing_of_lem h =
      let l = links (leb (nat_abs w.zero) (r.capacity * r.zeroing / 10)) weighingTests h in
      let off = other (tracking_on t) (eqb w.counter 0 && eq_z w.tracked (pos 0)) l.1.1.1.1.1.1.0 in
      record {
        zero = tenth_of _ _ l.0;
        keyed = tenth_of _ _ l.1.0;
        tracked = leb-true _ _ l.1.1.0;
        counter = ltb-true _ _ l.1.1.1.0;
        off = λ k. (eqb-true _ _ (and_left _ _ (off k)), eq_z_true _ _ (and_right (eqb w.counter 0) _ (off k)));
        tare_least = l.1.1.1.1.0;
        tare_most = leb-true _ _ l.1.1.1.1.1.0;
      }

-- ---- totals
module _ (t : Totals) where
  back_passes : (b : Option ℕ) → BackRange t b → (leb (back_weight b) t.total ≡ true) × (leb (back_tag b) t.count ≡ true)
  unfolding back_weight back_tag
  back_passes None h = (le-leb 0 t.total (omega arith), le-leb 0 t.count (omega arith))
  back_passes (Some v) h = (le-leb _ _ h.0, le-leb _ _ h.1)

  back_of_lem : (b : Option ℕ) → leb (back_weight b) t.total ≡ true → leb (back_tag b) t.count ≡ true → BackRange t b
  unfolding back_weight back_tag
  back_of_lem None h k = tt
  back_of_lem (Some v) h k = (leb-true _ _ h, leb-true _ _ k)

  abbrev totalsTests : List Bool
  totalsTests = leb t.count batch_limit ∷ leb (back_weight t.back) t.total ∷ leb (back_tag t.back) t.count ∷ []

  totals_passes : TotalsRange t → totals_possible t ≡ true
  unfolding totals_possible
  totals_passes r =
      let k = back_passes t.back r.back in
      linked (leb t.total total_limit) totalsTests (le-leb _ _ r.total) (le-leb _ _ r.count, (k.0, (k.1, tt)))

  totals_of_lem : totals_possible t ≡ true → TotalsRange t
  unfolding totals_possible
  totals_of_lem h =
      let l = links (leb t.total total_limit) totalsTests h in
      record { total = leb-true _ _ l.0; count = leb-true _ _ l.1.0; back = back_of_lem t.back l.1.1.0 l.1.1.1.0 }

-- ---- the sequence
-- the timer
timer_passes : (b : Batching) (g : Stage) → TimerRange b g → ltb (stage_timer g) (max (time_of b (stage_number g)) 1) ≡ true
unfolding stage_timer time_of
timer_passes b Idle h = refl
timer_passes b (StartDelay t) h = lt-ltb _ _ h
timer_passes b (LargeDisable t) h = lt-ltb _ _ h
timer_passes b LargeFlow h = refl
timer_passes b (MediumDisable t) h = lt-ltb _ _ h
timer_passes b MediumFlow h = refl
timer_passes b (SmallDisable t) h = lt-ltb _ _ h
timer_passes b SmallFlow h = refl
timer_passes b (JudgeDelay t) h = lt-ltb _ _ h
timer_passes b JudgeWait h = refl
timer_passes b (DischargeStart t) h = lt-ltb _ _ h
timer_passes b Discharge h = refl
timer_passes b (DischargeEnd t) h = lt-ltb _ _ h

timer_of : (b : Batching) (g : Stage) → ltb (stage_timer g) (max (time_of b (stage_number g)) 1) ≡ true → TimerRange b g
unfolding stage_timer time_of
timer_of b Idle h = tt
timer_of b (StartDelay t) h = ltb-true _ _ h
timer_of b (LargeDisable t) h = ltb-true _ _ h
timer_of b LargeFlow h = tt
timer_of b (MediumDisable t) h = ltb-true _ _ h
timer_of b MediumFlow h = tt
timer_of b (SmallDisable t) h = ltb-true _ _ h
timer_of b SmallFlow h = tt
timer_of b (JudgeDelay t) h = ltb-true _ _ h
timer_of b JudgeWait h = tt
timer_of b (DischargeStart t) h = ltb-true _ _ h
timer_of b Discharge h = tt
timer_of b (DischargeEnd t) h = ltb-true _ _ h

-- what a stage's number says of it; no stage runs both clocks
record Told (b : Batching) (g : Stage) : Type 0 where
  idle : eqb (stage_number g) 0 ≡ idle_of g
  discharging : leb 14 (stage_number g) ≡ discharging_of g
  flow : clock_limit b (stage_number g) ≡ cond (flowing_of g) b.flow (cond (emptying_of g) b.discharge.limit 0)
  discharge : clock_limit b (stage_number g) ≡ cond (emptying_of g) b.discharge.limit (cond (flowing_of g) b.flow 0)

told : (b : Batching) (g : Stage) → Told b g
unfolding clock_limit
told b Idle = search
told b (StartDelay t) = search
told b (LargeDisable t) = search
told b LargeFlow = search
told b (MediumDisable t) = search
told b MediumFlow = search
told b (SmallDisable t) = search
told b SmallFlow = search
told b (JudgeDelay t) = search
told b JudgeWait = search
told b (DischargeStart t) = search
told b Discharge = search
told b (DischargeEnd t) = search

-- the clock
clock_most : (f e : Bool) (n m c : ℕ) → (f ≡ true → c ≤ n) → (e ≡ true → c ≤ m) → (f || e ≡ false → c ≡ 0) → c ≤ cond f n (cond e m 0)
clock_most true e n m c p q r = p refl
clock_most false true n m c p q r = q refl
clock_most false false n m c p q r = omega (arith, r refl)

clock_first : (f : Bool) (n m c : ℕ) → c ≤ cond f n m → f ≡ true → c ≤ n
clock_first true n m c h e = h
clock_first false n m c h e = absurd (clash e refl)

clock_none : (f e : Bool) (n m c : ℕ) → c ≤ cond f n (cond e m 0) → f || e ≡ false → c ≡ 0
clock_none true e n m c h k = absurd (clash refl k)
clock_none false true n m c h k = absurd (clash refl k)
clock_none false false n m c h k = omega arith

-- errors and judgements
error_none : (e : SequenceError) → eqb (error_number e) 0 ≡ true → e ≡ error.None
unfolding error_of
error_none e h = sym (error_back e) ∙ ap error_of (eqb-true (error_number e) 0 h)

judgement_none : (j : Judgement) → eqb (judgement_number j) 0 ≡ true → j ≡ judgement.None
unfolding judgement_of
judgement_none j h = sym (judgement_back j) ∙ ap judgement_of (eqb-true (judgement_number j) 0 h)

of_discharge_lem : (d : Bool) (e : SequenceError) → d || eqb (error_number e) 7 || eqb (error_number e) 8 ≡ d || of_discharge e
of_discharge_lem true e = refl
of_discharge_lem false error.None = refl
of_discharge_lem false error.NoFinal = refl
of_discharge_lem false error.Reached = refl
of_discharge_lem false error.Stopped = refl
of_discharge_lem false error.FlowTime = refl
of_discharge_lem false error.BadWeight = refl
of_discharge_lem false error.NotBooked = refl
of_discharge_lem false error.DischargeStopped = refl
of_discharge_lem false error.DischargeTime = refl

-- the mode
normal_passes : (m : Mode) (d e : Bool) → (d ≡ true → m ≡ mode.Normal) → (e ≡ true → m ≡ mode.Normal) → is_normal m || not (d || e) ≡ true
normal_passes mode.Normal d e p q = refl
normal_passes mode.Loss true e p q = ap is_normal (p refl)
normal_passes mode.Loss false true p q = ap is_normal (q refl)
normal_passes mode.Loss false false p q = refl

normal_of : (m : Mode) (d e : Bool) → is_normal m || not (d || e) ≡ true → (d ≡ true → m ≡ mode.Normal) × (e ≡ true → m ≡ mode.Normal)
normal_of mode.Normal d e h = (λ k. refl, λ k. refl)
normal_of mode.Loss true e h = absurd (clash h refl)
normal_of mode.Loss false true h = absurd (clash h refl)
normal_of mode.Loss false false h = (λ k. absurd (clash k refl), λ k. absurd (clash k refl))

module _ (b : Batching) (q : Sequence) where
  abbrev number : ℕ
  number = stage_number q.stage

  -- the tests after the timer's, by the stage
  abbrev sequenceTests : List Bool
  sequenceTests =
      leb q.clock (clock_limit b number) ∷ (idle_of q.stage || eqb (error_number q.error) 0)
      ∷ (idle_of q.stage || discharging_of q.stage || eqb (judgement_number q.judgement) 0)
      ∷ (is_normal b.mode || not (discharging_of q.stage || of_discharge q.error)) ∷ []

  by_stage : sequence_possible b q ≡ chain (ltb (stage_timer q.stage) (max (time_of b number) 1)) sequenceTests
  unfolding sequence_fits
  by_stage =
      let t = told b q.stage in
      let n = ltb (stage_timer q.stage) (max (time_of b number) 1) && leb q.clock (clock_limit b number) in
      let e = error_number q.error in
      let j = eqb (judgement_number q.judgement) 0 in
      (λ i. n && (t.idle i || eqb e 0) && (t.idle i || t.discharging i || j) && (is_normal b.mode || not (t.discharging i || eqb e 7 || eqb e 8)))
      ∙ (λ i. n && (idle_of q.stage || eqb e 0) && (idle_of q.stage || discharging_of q.stage || j) && (is_normal b.mode || not (of_discharge_lem (discharging_of q.stage) q.error i)))

  sequence_passes : SequenceRange b q → sequence_possible b q ≡ true
  sequence_passes r =
      let most = clock_most (flowing_of q.stage) (emptying_of q.stage) b.flow b.discharge.limit q.clock r.flow_clock r.discharge_clock r.unclocked in
      let clock = subst (λ (n : ℕ). q.clock ≤ n) (sym (told b q.stage).flow) most in
      let no_error_lem = either (idle_of q.stage) (eqb (error_number q.error) 0) (λ k. ap (λ (e : SequenceError). eqb (error_number e) 0) (r.no_error_lem k)) in
      let no_judgement =
      either (idle_of q.stage || discharging_of q.stage) (eqb (judgement_number q.judgement) 0)
      (λ k. ap (λ (j : Judgement). eqb (judgement_number j) 0) (r.no_judgement k)) in
      let normal = normal_passes b.mode (discharging_of q.stage) (of_discharge q.error) r.normal r.normal_error in
      by_stage
      ∙ linked (ltb (stage_timer q.stage) (max (time_of b number) 1)) sequenceTests (timer_passes b q.stage r.timer)
      (le-leb _ _ clock, (no_error_lem, (no_judgement, (normal, tt))))

  sequence_of_lem : sequence_possible b q ≡ true → SequenceRange b q
  sequence_of_lem h =
      let t = told b q.stage in
      let l = links (ltb (stage_timer q.stage) (max (time_of b number) 1)) sequenceTests (sym by_stage ∙ h) in
      let clock = leb-true q.clock (clock_limit b number) l.1.0 in
      let flow = subst (λ (n : ℕ). q.clock ≤ n) t.flow clock in
      let normal = normal_of b.mode (discharging_of q.stage) (of_discharge q.error) l.1.1.1.1.0 in
      record {
        timer = timer_of b q.stage l.0;
        flow_clock = clock_first (flowing_of q.stage) _ _ q.clock flow;
        discharge_clock = clock_first (emptying_of q.stage) _ _ q.clock (subst (λ (n : ℕ). q.clock ≤ n) t.discharge clock);
        unclocked = clock_none (flowing_of q.stage) (emptying_of q.stage) b.flow b.discharge.limit q.clock flow;
        no_error_lem = λ k. error_none q.error (other (idle_of q.stage) (eqb (error_number q.error) 0) l.1.1.0 k);
        no_judgement = λ k. judgement_none q.judgement (other (idle_of q.stage || discharging_of q.stage) (eqb (judgement_number q.judgement) 0) l.1.1.1.0 k);
        normal = normal.0;
        normal_error = normal.1;
      }

-- ---- how the parts go together
-- the flow stages, by the stage
flow_by : (m : Mode) (p : Setpoints) (g : Stage) → flow_possible m p (stage_number g) ≡ flow_fits m p g
unfolding flow_possible
flow_by m p Idle = refl
flow_by m p (StartDelay t) = refl
flow_by m p (LargeDisable t) = and_yes _
flow_by m p LargeFlow = and_yes _
flow_by m p (MediumDisable t) = simp and_yes
flow_by m p MediumFlow = simp and_yes
flow_by m p (SmallDisable t) = simp and_yes
flow_by m p SmallFlow = simp and_yes
flow_by m p (JudgeDelay t) = simp and_yes
flow_by m p JudgeWait = simp and_yes
flow_by m p (DischargeStart t) = refl
flow_by m p Discharge = refl
flow_by m p (DischargeEnd t) = refl

-- a count that is 0 unless a and b
count_passes : (a b : Bool) (n : ℕ) → (a ≡ false → n ≡ 0) → (b ≡ false → n ≡ 0) → a && b || eqb n 0 ≡ true
count_passes true true n p q = refl
count_passes true false n p q = eq-eqb n 0 (q refl)
count_passes false b n p q = eq-eqb n 0 (p refl)

count_of : (a b : Bool) (n : ℕ) → a && b || eqb n 0 ≡ true → (a ≡ false → n ≡ 0) × (b ≡ false → n ≡ 0)
count_of true true n h = (λ k. absurd (clash refl k), λ k. absurd (clash refl k))
count_of true false n h = (λ k. eqb-true n 0 h, λ k. eqb-true n 0 h)
count_of false b n h = (λ k. eqb-true n 0 h, λ k. eqb-true n 0 h)

-- nothing waits
none_written : (w : Option Setpoints) → is_write w ≡ false → w ≡ None
none_written None h = refl
none_written (Some p) h = absurd (clash refl h)

module _ (s : Settings) (st : State) where
  abbrev idle : Bool
  idle = idle_of st.sequence.stage

  abbrev good : Bool
  good = st.stability.good

  abbrev waits : Bool
  waits = is_write st.waiting

  -- the tests after the first, by the stage
  abbrev togetherTests : List Bool
  togetherTests =
      (idle || good) ∷ (idle && good || eqb st.weighing.counter 0) ∷ (not idle || not waits)
      ∷ flow_fits s.batching.mode st.setpoints st.sequence.stage ∷ []

  together_by : together_possible s st ≡ chain (not good || st.book.begun) togetherTests
  unfolding together_fits
  together_by =
      let t = (told s.batching st.sequence.stage).idle in
      let f = flow_by s.batching.mode st.setpoints st.sequence.stage in
      λ i. (not good || st.book.begun) && (t i || good) && (t i && good || eqb st.weighing.counter 0) && (not (t i) || not waits) && f i

  together_passes : TogetherRange s st → together_possible s st ≡ true
  together_passes r =
      let begun = either (not good) st.book.begun (λ k. r.begun (not-false good k)) in
      let count = count_passes idle good st.weighing.counter r.resting r.unbroken in
      let none = either (not idle) (not waits) (λ k. ap (λ (w : Option Setpoints). not (is_write w)) (r.none_waits (not-false idle k))) in
      together_by ∙ linked (not good || st.book.begun) togetherTests begun (either idle good r.under_way, (count, (none, (r.flow, tt))))

  together_of : together_possible s st ≡ true → TogetherRange s st
  together_of h =
      let l = links (not good || st.book.begun) togetherTests (sym together_by ∙ h) in
      let count = count_of idle good st.weighing.counter l.1.1.0 in
      record {
        begun = λ k. other (not good) st.book.begun l.0 (ap not k);
        under_way = other idle good l.1.0;
        resting = count.0;
        unbroken = count.1;
        none_waits = λ k. λ i. none_written st.waiting (not-true waits (other (not idle) (not waits) l.1.1.1.0 (ap not k))) i;
        flow = l.1.1.1.1.0;
      }

-- ---- the whole
module _ (s : Settings) (st : State) where
  abbrev tests : List Bool
  tests =
      stability_possible s.steadiness st.stability ∷ weighing_possible s.range s.tracking st.weighing
      ∷ setpoints_fit s.batching.mode st.setpoints ∷ sequence_possible s.batching st.sequence ∷ totals_possible st.totals
      ∷ write_fits s.batching.mode st.waiting ∷ together_possible s st ∷ []

  pub range_passes : StateRange s st → Balanced st.book → possible s st ≡ true
  unfolding possible
  range_passes r e =
      let stability = stability_passes s.steadiness st.stability r.stability in
      let weighing = weighing_passes s.range s.tracking st.weighing r.weighing in
      let sequence = sequence_passes s.batching st.sequence r.sequence in
      let totals = totals_passes st.totals r.totals in
      let together = together_passes s st r.together in
      linked (book_possible st.book) tests (book_passes st.book r.book e) (stability, (weighing, (r.setpoints, (sequence, (totals, (r.waiting, (together, tt)))))))

  pub range_of : possible s st ≡ true → StateRange s st
  unfolding possible
  range_of h =
      let l = links (book_possible st.book) tests h in
      record {
        book = (book_of_lem st.book l.0).0;
        stability = stability_of_lem s.steadiness st.stability l.1.0;
        weighing = weighing_of_lem s.range s.tracking st.weighing l.1.1.0;
        setpoints = l.1.1.1.0;
        sequence = sequence_of_lem s.batching st.sequence l.1.1.1.1.0;
        totals = totals_of_lem st.totals l.1.1.1.1.1.0;
        waiting = l.1.1.1.1.1.1.0;
        together = together_of s st l.1.1.1.1.1.1.1.0;
      }

  pub balance_of : possible s st ≡ true → Balanced st.book
  unfolding possible
  balance_of h = (book_of_lem st.book (links (book_possible st.book) tests h).0).1

pub decides : Decides
decides s st = record { passes = range_passes s st; range = range_of s st; balance = balance_of s st }
