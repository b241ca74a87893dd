-- Zero, tracking and tare stay in their ranges, and so do the weights that are taken from them: the zero is a raw within the zero
-- range, the tare a gross of 0..C divisions. Assumes nothing.
use Rattle.std.specs.Prelude.{Option, None, Some, ℤ, ℕ}
use Prim.Native.Nat.{ℕ, suc, ◌+◌, ◌*◌, ◌<◌, ◌≤◌, max}
use native.Mathlib.Nat as N
use native.Mathlib.Omega.{arith}
use mathlib.Core.Path.{◌≡◌, refl, sym}
use mathlib.Core.Bool.{Bool, true, false, not, ◌&&◌}
use mathlib.Core.List.{[], ◌∷◌}
use lib.Dec.{leb, leb-zero}
use lib.IntN.{ℤ, pos, negsuc, nat_abs, ◌+ℤ◌, ◌-ℤ◌, ◌*ℤ◌}
use lib.Signed.{le_z}
use borrow.Author.Tests.{leb-true, leb-false, ltb-false, not-true, not-false}
use Rattle.whole.specs.Limit.{limit_le, limit_least}
use Rattle.whole.specs.Ints.{ints, linear, int_elim, ints3, abs_mul, abs_sub}
use Rattle.types.specs.declared.settings.Range.{Range}
use Rattle.types.specs.declared.settings.Tracking.{Tracking}
use Rattle.types.specs.declared.settings.Settings.{Settings}
use Rattle.types.specs.declared.weight.Stability.{Stability}
use Rattle.types.specs.declared.weight.Weighing.{Weighing}
use Rattle.types.specs.declared.weight.Weights.{Weights}
use Rattle.types.specs.declared.requests.Request.{Request}
use Rattle.types.specs.declared.requests.Request.TheVariants as request
use Rattle.types.specs.declared.machine.State.{State}
use Rattle.types.specs.declared.machine.Input.{Input}
use Rattle.types.specs.declared.machine.Settled.{Settled}
use Rattle.outline.specs.Limits.{overload_margin, display_limit}
use Rattle.outline.specs.Settings.{within}
use Rattle.outline.specs.Weight.{raw_of, divisions_of, gross_of, kept_of, weigh_of, fit_of}
use Rattle.outline.specs.Zero.{in_zero_range, zeroed_of, in_tare_range, tared_of, tracking_on, calm_of, may_move, with_counter, moved_of, counted_up, tracked_of}
use Rattle.outline.specs.Requests.{idle_now, rows_to, done_of, ruling_of, granted_of, decided_of}
use Rattle.outline.specs.Tick.{entered_of, weights_of, settled_of, served_of, with_tracking, finished_of, stepped_of, ended_of, next_of}
use Rattle.outline.specs.Ranges.{WeighingRange, WeightsRange}
use Rattle.whole.specs.Chains.{and_left, and_right, links}
use Rattle.outline.proofs.Parts.{cond_same, cond_in, clash, none_applies}

abbrev In : Settings → Weighing → Type 0
In s = WeighingRange s.range s.tracking

-- a multiple keeps the sign
least : (x : ℤ) (d : ℕ) → le_z (pos 0) x ≡ true → le_z (pos 0) (x *ℤ pos d) ≡ true
least (pos n) d e = leb-zero (n * d)
least (negsuc n) d e = absurd (clash refl (sym e))

-- ---- what weights say of the weighing they are taken with
record Weighed (r : Range) (w : Weighing) (x : Weights) : Type 0 where
  -- gross has the sign of its divisions, and is at most d for each
  least : le_z (pos 0) x.divisions ≡ true → le_z (pos 0) x.gross ≡ true
  most : nat_abs x.gross ≤ nat_abs x.divisions * r.division
  fine : x.good ≡ true → x.fine ≡ x.raw -ℤ w.zero
  net : nat_abs x.net ≤ nat_abs x.gross + nat_abs w.tare
  fits : fit_of x ≡ true → nat_abs x.divisions ≤ r.capacity + overload_margin

weigh_in : (s : Settings) (q : Stability) (w : Weighing) (raw : Option ℤ) (contact : Bool) → Weighed s.range w (weigh_of s q w raw contact)
unfolding weigh_of
weigh_in s q w None contact = record {
  least = λ e. refl;
  most = omega arith;
  fine = λ e. absurd (clash e refl);
  net = omega arith;
  fits = λ e. absurd (clash e refl);
}
weigh_in s q w (Some raw) contact = record {
  least = λ e. limit_least display_limit (gross_of s.range (divisions_of (raw -ℤ w.zero))) (least (divisions_of (raw -ℤ w.zero)) s.range.division e);
  most = N.le_trans (limit_le display_limit (gross_of s.range (divisions_of (raw -ℤ w.zero)))) (N.le_of_eq (abs_mul (divisions_of (raw -ℤ w.zero)) s.range.division));
  fine = λ e. refl;
  net = N.le_trans (limit_le display_limit (kept_of (gross_of s.range (divisions_of (raw -ℤ w.zero))) -ℤ w.tare)) (abs_sub (kept_of (gross_of s.range (divisions_of (raw -ℤ w.zero)))) w.tare);
  fits = λ e. ltb-false _ _ (not-true _ e);
}

-- ---- step 4
nought : (x : ℤ) → nat_abs (x -ℤ pos 0) ≡ nat_abs x
nought = int_elim _ (λ a b. simp ints (omega linear))

module _ (r : Range) (t : Tracking) (w : Weighing) (h : WeighingRange r t w) where
  zeroed_in : (raw : ℤ) → in_zero_range r raw ≡ true → WeighingRange r t (zeroed_of w raw)
  zeroed_in raw e =
      let near : 10 * nat_abs raw ≤ r.capacity * r.zeroing = leb-true (10 * nat_abs raw) (r.capacity * r.zeroing) e in
      record {
        zero = near;
        keyed = rw (nought raw) near;
        tracked = omega arith;
        counter = h.counter;
        off = λ k. ((h.off k).0, refl);
        tare_least = h.tare_least;
        tare_most = h.tare_most;
      }

  tared_in : (gross : ℤ) → le_z (pos 0) gross ≡ true → nat_abs gross ≤ r.capacity * r.division → WeighingRange r t (tared_of w gross)
  tared_in gross least most = record {
    zero = h.zero;
    keyed = h.keyed;
    tracked = h.tracked;
    counter = h.counter;
    off = h.off;
    tare_least = least;
    tare_most = most;
  }

-- divisions in 0..C
most : (x : ℤ) (n : ℕ) → le_z (pos 0) x ≡ true → le_z x (pos n) ≡ true → nat_abs x ≤ n
most = int_elim _ (λ a b n h k. simp ints (omega (linear, simp ints at h, simp ints at k)))

tare_in : (r : Range) (t : Tracking) (w v : Weighing) (x : Weights) → WeighingRange r t w → Weighed r v x → in_tare_range r x.divisions ≡ true
    → WeighingRange r t (tared_of w x.gross)
tare_in r t w v x h weighed e =
    let low = and_left (le_z (pos 0) x.divisions) (le_z x.divisions (pos r.capacity)) e in
    let high = and_right (le_z (pos 0) x.divisions) (le_z x.divisions (pos r.capacity)) e in
    tared_in r t w h x.gross (weighed.least low)
    (N.le_trans weighed.most (N.mul-le-mul_right r.division (most x.divisions r.capacity low high)))

module _ (s : Settings) (st : State) (x : Weights) (weighed : Weighed s.range st.weighing x) (h : In s st.weighing) where
  granted_weighing : (r : Option Request) → done_of (ruling_of s st x r) ≡ true → In s (granted_of st x r).state.weighing
  unfolding granted_of ruling_of
  granted_weighing None e = h
  granted_weighing (Some request.Zero) e = zeroed_in s.range s.tracking st.weighing h x.raw (not-false _ (none_applies (rows_to s.range s.batching.mode st.sequence st.totals x (Some request.Zero)) e).1.1.1.1.1.0)
  granted_weighing (Some request.Tare) e = tare_in s.range s.tracking st.weighing st.weighing x h weighed (not-false _ (none_applies (rows_to s.range s.batching.mode st.sequence st.totals x (Some request.Tare)) e).1.1.1.1.0)
  granted_weighing (Some request.TareClear) e = tared_in s.range s.tracking st.weighing h (pos 0) refl (omega arith)
  granted_weighing (Some request.Start) e = h
  granted_weighing (Some request.Stop) e = h
  granted_weighing (Some (request.Set p)) e = h
  granted_weighing (Some request.TotalClear) e = h
  granted_weighing (Some request.Undo) e = h
  granted_weighing (Some request.ShowGross) e = h
  granted_weighing (Some request.ShowNet) e = h
  granted_weighing (Some request.DayClose) e = h
  granted_weighing (Some request.Discharge) e = h

  settled_weighing : (r : Option Request) → In s (decided_of s st x r).state.weighing
  unfolding decided_of
  settled_weighing r = cond_in (In s) (done_of (ruling_of s st x r)) (granted_weighing r) (λ e. h)

-- ---- step 5
-- the zero last keyed stays: zero and tracked move alike
keyed_same : (raw zero tracked : ℤ) → nat_abs (raw -ℤ (tracked +ℤ (raw -ℤ zero))) ≡ nat_abs (zero -ℤ tracked)
keyed_same = ints3 _ (λ a a' b b' c c'. simp ints (omega linear))

-- a tick that counts: tracking is on, and the tick is good and in stage 00
pub record Counts (t : Tracking) (idle : Bool) (x : Weights) : Type 0 where
  pub on : tracking_on t ≡ true
  pub good : x.good ≡ true
  pub rests : idle ≡ true

pub counts : (t : Tracking) (idle keyed : Bool) (x : Weights) → tracking_on t && calm_of t idle keyed x ≡ true → Counts t idle x
counts t idle keyed x e =
    let calm = links (fit_of x) (idle ∷ not keyed ∷ not x.contact ∷ within t.width x.fine ∷ []) (and_right (tracking_on t) (calm_of t idle keyed x) e) in
    record {
      on = and_left (tracking_on t) (calm_of t idle keyed x) e;
      good = and_left x.good (not x.overload) calm.0;
      rests = calm.1.0;
    }

module _ (s : Settings) (w : Weighing) (x : Weights) (v : Weighed s.range w x) (h : In s w) where
  counter_in : (n : ℕ) → n < max s.tracking.time 1 → (tracking_on s.tracking ≡ false → n ≡ 0) → In s (with_counter w n)
  counter_in n k o = record {
    zero = h.zero;
    keyed = h.keyed;
    tracked = h.tracked;
    counter = k;
    off = λ e. (o e, (h.off e).1);
    tare_least = h.tare_least;
    tare_most = h.tare_most;
  }

  none_in : In s (with_counter w 0)
  none_in = counter_in 0 (omega arith) (λ e. refl)

  moved_in : {idle : Bool} → Counts s.tracking idle x → may_move s w x ≡ true → In s (moved_of w x)
  moved_in c e = record {
    zero = leb-true _ _ (and_left (in_zero_range s.range x.raw) (within s.tracking.allowance (w.tracked +ℤ x.fine)) e);
    keyed = rw (v.fine c.good, keyed_same x.raw w.zero w.tracked) h.keyed;
    tracked = leb-true _ _ (and_right (in_zero_range s.range x.raw) (within s.tracking.allowance (w.tracked +ℤ x.fine)) e);
    counter = omega arith;
    off = λ k. absurd (clash c.on k);
    tare_least = h.tare_least;
    tare_most = h.tare_most;
  }

  counted_in : {idle : Bool} → Counts s.tracking idle x → In s (counted_up s w x)
  counted_in c =
      cond_in (In s) (leb s.tracking.time (suc w.counter))
      (λ e. cond_in (In s) (may_move s w x) (moved_in c) (λ k. none_in))
      (λ e. counter_in (suc w.counter) (omega (arith, leb-false s.tracking.time (suc w.counter) e)) (λ k. absurd (clash c.on k)))

  tracked_in : (idle keyed : Bool) → In s (tracked_of s idle keyed x w)
  unfolding tracked_of
  tracked_in idle keyed =
      cond_in (In s) (tracking_on s.tracking && calm_of s.tracking idle keyed x) (λ e. counted_in (counts s.tracking idle keyed x e)) (λ e. none_in)

  -- the tick's weights
  weights_in : WeightsRange s.range x
  weights_in = record { gross = gross-in; net = net-in }
    where
      gross-in : fit_of x ≡ true → nat_abs x.gross ≤ (s.range.capacity + overload_margin) * s.range.division
      gross-in e = N.le_trans v.most (N.mul-le-mul_right s.range.division (v.fits e))

      net-in : fit_of x ≡ true → nat_abs x.net ≤ (2 * s.range.capacity + overload_margin) * s.range.division
      net-in e = omega (arith, v.net, gross-in e, h.tare_most)

-- ---- a whole tick: step 6 leaves it
pub ended_weighing : (s : Settings) (a : Settled) (x : Weights) → (ended_of s a x).weighing ≡ tracked_of s (idle_now a.state) a.keyed x a.state.weighing
unfolding ended_of stepped_of finished_of with_tracking
ended_weighing s a x = simp cond_same

module _ (s : Settings) (st : State) (i : Input) (h : In s st.weighing) where
  pub after_request : In s (settled_of s st i).state.weighing
  unfolding settled_of entered_of weights_of
  after_request = settled_weighing s _ _ (weigh_in s _ st.weighing (raw_of s.calibration i.count) i.contact) h i.request

  served : Weighed s.range (settled_of s st i).state.weighing (served_of s st i)
  unfolding served_of weights_of
  served = weigh_in s (settled_of s st i).state.stability (settled_of s st i).state.weighing (raw_of s.calibration i.count) i.contact

  pub tick_weights : WeightsRange s.range (served_of s st i)
  tick_weights = weights_in s (settled_of s st i).state.weighing (served_of s st i) served after_request

  pub tick_weighing : In s (next_of s st i).weighing
  unfolding next_of
  tick_weighing =
      rw (ended_weighing s (settled_of s st i) (served_of s st i))
      (tracked_in s (settled_of s st i).state.weighing (served_of s st i) served after_request (idle_now (settled_of s st i).state) (settled_of s st i).keyed)
