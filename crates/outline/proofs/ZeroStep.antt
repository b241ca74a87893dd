-- What a tick does to the zero in force, beside what it does to the history of zeros: steps 4 and 5. Assumes nothing.
use Rattle.std.specs.Prelude.{Option, None, Some, ℤ, ℕ}
use mathlib.Core.Path.{◌≡◌, refl, sym, ap, ◌∙◌, subst}
use mathlib.Core.Bool.{Bool, true, false, cond, ◌&&◌}
use mathlib.Core.List.{[], ◌∷◌}
use Prim.Native.Nat.{ℕ, suc, ◌+◌, ◌*◌, ◌/◌, ◌%◌, ◌≤◌, ◌<◌}
use native.Mathlib.Nat as N
use native.Mathlib.Omega.{arith}
use lib.Arith.{digits_mod}
use lib.Dec.{leb, ltb, eqb}
use lib.IntN.{ℤ, pos, nat_abs, ◌+ℤ◌, ◌-ℤ◌}
use borrow.Author.Tests.{leb-true, leb-false, ltb-true, eqb-true, eq-eqb, ne_eqb}
use Rattle.whole.specs.Ints.{ints, linear, ints3}
use Rattle.types.specs.declared.settings.Tracking.{Tracking}
use Rattle.types.specs.declared.settings.Settings.{Settings}
use Rattle.types.specs.declared.weight.Stability.{Stability}
use Rattle.types.specs.declared.weight.Weighing.{Weighing}
use Rattle.types.specs.declared.weight.Weights.{Weights}
use Rattle.types.specs.declared.requests.Request.{Request}
use Rattle.types.specs.declared.requests.Request.TheVariants as request
use Rattle.types.specs.declared.machine.State.{State}
use Rattle.types.specs.declared.machine.Input.{Input}
use Rattle.types.specs.declared.machine.Settled.{Settled}
use Rattle.outline.specs.Settings.{within}
use Rattle.outline.specs.Weight.{raw_of, weigh_of}
use Rattle.outline.specs.Zero.{in_zero_range, tracking_on, calm_of, may_move, with_counter, moved_of, counted_up, tracked_of}
use Rattle.outline.specs.Requests.{idle_now, ruling_of, done_of, granted_of, decided_of}
use Rattle.outline.specs.Tick.{entered_of, weights_of, settled_of, served_of, next_of}
use Rattle.outline.specs.Kinds.{request_kind}
use Rattle.outline.specs.Zeroing.{seen_of, Zeroing, sum_of, AllWithin, in_force, is_calm, calm_step, restless, zero_step}
use Rattle.whole.specs.Chains.{and_left, and_right}
use Rattle.outline.proofs.Parts.{and_no, and_yes, clash, plus_nought}
use Rattle.outline.proofs.RangeWeighing.{ended_weighing}

-- ---- what a state says of the zero
pub record Zeros : Type 0 where
  pub zero : ℤ
  pub tracked : ℤ
  pub counter : ℕ

abbrev pub zeros_of : Weighing → Zeros
zeros_of w = record { zero = w.zero; tracked = w.tracked; counter = w.counter }

-- and how it agrees with the history; with tracking off the counter stays 0, and the history's goes on
pub record Zeroed (s : Settings) (w : Zeros) (z : Zeroing) : Type 0 where
  pub zero : w.zero ≡ in_force z
  pub tracked : w.tracked ≡ sum_of z.moves
  pub counter : tracking_on s.tracking ≡ true → w.counter ≡ z.calm % s.tracking.time
  pub allowed : nat_abs w.tracked ≤ s.tracking.allowance
  pub each : AllWithin s.tracking.allowance z.moves

-- ---- step 4: an accepted zero alone changes it
abbrev pub keyed_zeros : Bool → ℤ → Zeros → Zeros
keyed_zeros t x z = record { zero = cond t x z.zero; tracked = cond t (pos 0) z.tracked; counter = z.counter }

granted_zeros : (st : State) (x : Weights) (r : Option Request) →
    zeros_of (granted_of st x r).state.weighing ≡ keyed_zeros (granted_of st x r).keyed x.raw (zeros_of st.weighing)
unfolding granted_of
granted_zeros st x None = refl
granted_zeros st x (Some request.Zero) = refl
granted_zeros st x (Some request.Tare) = refl
granted_zeros st x (Some request.TareClear) = refl
granted_zeros st x (Some request.Start) = refl
granted_zeros st x (Some request.Stop) = refl
granted_zeros st x (Some (request.Set p)) = refl
granted_zeros st x (Some request.TotalClear) = refl
granted_zeros st x (Some request.Undo) = refl
granted_zeros st x (Some request.ShowGross) = refl
granted_zeros st x (Some request.ShowNet) = refl
granted_zeros st x (Some request.DayClose) = refl
granted_zeros st x (Some request.Discharge) = refl

pub settled_zeros : (s : Settings) (st : State) (x : Weights) (r : Option Request) →
    zeros_of (decided_of s st x r).state.weighing ≡ keyed_zeros (decided_of s st x r).keyed x.raw (zeros_of st.weighing)
unfolding decided_of
settled_zeros s st x r = go (done_of (ruling_of s st x r))
  where
    go : (t : Bool) →
        zeros_of (cond t (granted_of st x r).state.weighing st.weighing)
        ≡ keyed_zeros (t && (granted_of st x r).keyed) x.raw (zeros_of st.weighing)
    go true = granted_zeros st x r
    go false = refl

-- it is keyed where the history says so
granted_keyed : (st : State) (x : Weights) (r : Option Request) → (granted_of st x r).keyed ≡ (request_kind r).zeroes
unfolding granted_of
granted_keyed st x None = refl
granted_keyed st x (Some request.Zero) = refl
granted_keyed st x (Some request.Tare) = refl
granted_keyed st x (Some request.TareClear) = refl
granted_keyed st x (Some request.Start) = refl
granted_keyed st x (Some request.Stop) = refl
granted_keyed st x (Some (request.Set p)) = refl
granted_keyed st x (Some request.TotalClear) = refl
granted_keyed st x (Some request.Undo) = refl
granted_keyed st x (Some request.ShowGross) = refl
granted_keyed st x (Some request.ShowNet) = refl
granted_keyed st x (Some request.DayClose) = refl
granted_keyed st x (Some request.Discharge) = refl

settled_keyed : (s : Settings) (st : State) (x : Weights) (r : Option Request) →
    (decided_of s st x r).keyed ≡ done_of (decided_of s st x r).outcome && (request_kind r).zeroes
unfolding decided_of
settled_keyed s st x r = rw (granted_keyed st x r)

-- one request alone keys a zero
zeroes_zero : (r : Option Request) → (request_kind r).zeroes ≡ true → r ≡ Some request.Zero
zeroes_zero None e = absurd (clash e refl)
zeroes_zero (Some request.Zero) e = refl
zeroes_zero (Some request.Tare) e = absurd (clash e refl)
zeroes_zero (Some request.TareClear) e = absurd (clash e refl)
zeroes_zero (Some request.Start) e = absurd (clash e refl)
zeroes_zero (Some request.Stop) e = absurd (clash e refl)
zeroes_zero (Some (request.Set p)) e = absurd (clash e refl)
zeroes_zero (Some request.TotalClear) e = absurd (clash e refl)
zeroes_zero (Some request.Undo) e = absurd (clash e refl)
zeroes_zero (Some request.ShowGross) e = absurd (clash e refl)
zeroes_zero (Some request.ShowNet) e = absurd (clash e refl)
zeroes_zero (Some request.DayClose) e = absurd (clash e refl)
zeroes_zero (Some request.Discharge) e = absurd (clash e refl)

-- a zero is refused in a bad tick
bad_refused : (s : Settings) (st : State) (x : Weights) → x.good ≡ false → done_of (ruling_of s st x (Some request.Zero)) ≡ false
unfolding ruling_of
bad_refused s st x h = simp h

-- where a zero is refused, whatever is asked keys none
module _ (s : Settings) (st : State) (x : Weights) (no : done_of (ruling_of s st x (Some request.Zero)) ≡ false) where
  pub none_keyed : (r : Option Request) → (decided_of s st x r).keyed ≡ false
  unfolding decided_of
  none_keyed r = settled_keyed s st x r ∙ go (request_kind r).zeroes refl
    where
      go : (t : Bool) → (request_kind r).zeroes ≡ t → done_of (ruling_of s st x r) && t ≡ false
      go true e = ap (λ (u : Option Request). done_of (ruling_of s st x u) && true) (zeroes_zero r e) ∙ ap (λ (u : Bool). u && true) no
      go false e = and_no (done_of (ruling_of s st x r))

-- ---- the counter, which returns to 0 at q, is the calm ticks' remainder by q
module _ (c q : ℕ) (hq : 0 < q) where
  mod_more : suc (c % q) < q → suc c % q ≡ suc (c % q)
  mod_more h = ap (λ (n : ℕ). n % q) split ∙ digits_mod (c / q) {m = q} {r = suc (c % q)} h
    where
      split : suc c ≡ c / q * q + suc (c % q)
      split = omega (arith, N.div-add-mod' c q)

  mod_turn : suc (c % q) ≡ q → suc c % q ≡ 0
  mod_turn h = ap (λ (n : ℕ). n % q) split ∙ N.add-mod_right (c / q * q) q ∙ N.mul-mod_left (c / q) q
    where
      split : suc c ≡ c / q * q + q
      split = omega (arith, N.div-add-mod' c q)

  count_at : leb q (suc (c % q)) ≡ eqb (suc c % q) 0
  count_at = go (leb q (suc (c % q))) refl
    where
      go : (t : Bool) → leb q (suc (c % q)) ≡ t → t ≡ eqb (suc c % q) 0
      go true e = sym (eq-eqb (suc c % q) 0 (mod_turn (omega (arith, N.mod-lt c hq, leb-true q _ e))))
      go false e = sym (ne_eqb (suc c % q) 0 (no (mod_more (omega (arith, leb-false q _ e)))))
        where
          no : suc c % q ≡ suc (c % q) → suc c % q ≡ 0 → ⊥
          no a b = omega (arith, a, b)

  count_on : eqb (suc c % q) 0 ≡ false → suc (c % q) ≡ suc c % q
  count_on e = sym (mod_more (omega (arith, leb-false q _ (count_at ∙ e))))

time_some : (s : Settings) → tracking_on s.tracking ≡ true → 0 < s.tracking.time
time_some s e = ltb-true 0 s.tracking.time (and_left (ltb 0 s.tracking.time) _ e)

pub nought_mod : (s : Settings) → tracking_on s.tracking ≡ true → 0 ≡ 0 % s.tracking.time
nought_mod s e = sym (N.mod-eq_of_lt (time_some s e))

-- ---- step 5, beside the history
-- the history after a calm tick that moves the zero, or does not
abbrev calmly : Bool → Zeroing → ℤ → Zeroing
calmly t z x = record { keyed = z.keyed; moves = cond t ((x -ℤ in_force z) ∷ z.moves) z.moves; calm = suc z.calm }

moved_zero : (k m x : ℤ) → x ≡ k +ℤ (m +ℤ (x -ℤ (k +ℤ m)))
moved_zero = ints3 _ (λ a a' b b' c c'. simp ints (omega linear))

module _ (s : Settings) (w : Weighing) (z : Zeroing) (h : Zeroed s (zeros_of w) z) where
  -- no move: only the counter changes
  still : (n m : ℕ) → (tracking_on s.tracking ≡ true → n ≡ m % s.tracking.time) → Zeroed s (zeros_of (with_counter w n)) (record { keyed = z.keyed; moves = z.moves; calm = m })
  still n m e = record { zero = h.zero; tracked = h.tracked; counter = e; allowed = h.allowed; each = h.each }

  rest : Zeroed s (zeros_of (with_counter w 0)) (restless z)
  rest = still 0 0 (nought_mod s)

  module _ (x : Weights) (fine : x.fine ≡ x.raw -ℤ in_force z) where
    abbrev in_range : Bool
    in_range = in_zero_range s.range x.raw

    abbrev inAllowance : Bool
    inAllowance = within s.tracking.allowance (sum_of z.moves +ℤ (x.raw -ℤ in_force z))

    abbrev turns : Bool
    turns = eqb (suc z.calm % s.tracking.time) 0

    may : may_move s w x ≡ in_range && inAllowance
    may = λ i. in_range && within s.tracking.allowance (h.tracked i +ℤ fine i)

    turn : tracking_on s.tracking ≡ true → leb s.tracking.time (suc w.counter) ≡ turns
    turn e = ap (λ (c : ℕ). leb s.tracking.time (suc c)) (h.counter e) ∙ count_at z.calm s.tracking.time (time_some s e)

    moving : (t : Bool) → turns ≡ true → in_range && inAllowance ≡ t → Zeroed s (zeros_of (cond t (moved_of w x) (with_counter w 0))) (calmly t z x.raw)
    moving true c e = record {
      zero = moved_zero z.keyed (sum_of z.moves) x.raw;
      tracked = λ i. h.tracked i +ℤ fine i;
      counter = λ k. sym (eqb-true _ 0 c);
      allowed = leb-true _ _ (and_right in_range _ (may ∙ e));
      each = (leb-true _ _ (and_right in_range _ e), h.each);
    }
    moving false c e = still 0 (suc z.calm) (λ k. sym (eqb-true _ 0 c))

    counted : (t : Bool) → tracking_on s.tracking ≡ true → turns ≡ t →
        Zeroed s (zeros_of (cond t (cond (may_move s w x) (moved_of w x) (with_counter w 0)) (with_counter w (suc w.counter)))) (calmly (t && in_range && inAllowance) z x.raw)
    counted true on e = rw may (moving _ e refl)
    counted false on e = still _ (suc z.calm) (λ k. ap suc (h.counter k) ∙ count_on z.calm s.tracking.time (time_some s on) e)

    free : (on calm : Bool) → tracking_on s.tracking ≡ on →
        Zeroed s (zeros_of (cond (on && calm) (counted_up s w x) (with_counter w 0))) (cond calm (calmly (on && turns && in_range && inAllowance) z x.raw) (restless z))
    free true true e = rw (turn e) (counted _ e refl)
    free true false e = rest
    free false true e = still 0 (suc z.calm) (λ k. absurd (clash k e))
    free false false e = rest

-- a tick with an accepted zero is not calm
calm_keyed : (t : Tracking) (idle : Bool) (x : Weights) → calm_of t idle true x ≡ false
calm_keyed t idle x = simp and_no

-- ---- steps 4 and 5, on a bad tick, on one with an accepted zero, and on any other
module _ (s : Settings) (q : Stability) (w : Weighing) (idle contact : Bool) where
  step_bad : (z : Zeroing) (keyed : Bool) → Zeroed s (zeros_of w) z → Zeroed s (zeros_of (tracked_of s idle keyed (weigh_of s q w None contact) w)) (restless z)
  unfolding tracked_of weigh_of
  step_bad z keyed h = simp and_no (rest s w z h)

  step_keyed : (z : Zeroing) (x : Weights) → Zeroed s (zeros_of w) z → Zeroed s (zeros_of (tracked_of s idle true x w)) (restless z)
  unfolding tracked_of
  step_keyed z x h = rw (calm_keyed s.tracking idle x, and_no (tracking_on s.tracking)) (rest s w z h)

  step_free : (z : Zeroing) (x : ℤ) → Zeroed s (zeros_of w) z →
      Zeroed s (zeros_of (tracked_of s idle false (weigh_of s q w (Some x) contact) w)) (zero_step s z (record { raw = Some x; contact = contact; idle = idle; keyed = false }) (Some x))
  unfolding tracked_of weigh_of
  step_free z x h =
      subst (λ (t : Bool). Zeroed s (zeros_of (tracked_of s idle false (weigh_of s q w (Some x) contact) w)) (cond t (calm_step s z x) (restless z))) same
      (free s w z h (weigh_of s q w (Some x) contact) (λ i. x -ℤ h.zero i) _ (calm_of s.tracking idle false (weigh_of s q w (Some x) contact)) refl)
    where
      same : calm_of s.tracking idle false (weigh_of s q w (Some x) contact) ≡ is_calm s z (record { raw = Some x; contact = contact; idle = idle; keyed = false }) x
      same = simp (and_yes, h.zero)

  -- w after step 4 of w₀: with an accepted zero its zero is this tick's raw
  tracked_zeros : (w₀ : Zeros) (z : Zeroing) (keyed : Bool) (raw : Option ℤ) (x : ℤ) → zeros_of w ≡ keyed_zeros keyed x w₀
      → ((y : ℤ) → raw ≡ Some y → x ≡ y) → (raw ≡ None → keyed ≡ false) → Zeroed s w₀ z
      → Zeroed s (zeros_of (tracked_of s idle keyed (weigh_of s q w raw contact) w)) (zero_step s z (record { raw = raw; contact = contact; idle = idle; keyed = keyed }) raw)
  tracked_zeros w₀ z keyed None x e y k h = step_bad z keyed (rw (e ∙ ap (λ (t : Bool). keyed_zeros t x w₀) (k refl)) h)
  tracked_zeros w₀ z false (Some v) x e y k h = step_free z v (rw e h)
  tracked_zeros w₀ z true (Some v) x e y k h =
      step_keyed (record { keyed = v; moves = []; calm = z.calm }) (weigh_of s q w (Some v) contact)
      (rw e (record { zero = y v refl ∙ sym (plus_nought v); tracked = refl; counter = h.counter; allowed = omega arith; each = tt }))

weigh_raw : (s : Settings) (q : Stability) (w : Weighing) (raw : Option ℤ) (contact : Bool) (y : ℤ) → raw ≡ Some y → (weigh_of s q w raw contact).raw ≡ y
unfolding weigh_of
weigh_raw s q w raw contact y e = rw e

weigh_bad : (s : Settings) (q : Stability) (w : Weighing) (raw : Option ℤ) (contact : Bool) → raw ≡ None → (weigh_of s q w raw contact).good ≡ false
unfolding weigh_of
weigh_bad s q w raw contact e = rw e

-- ---- the whole tick
module _ (s : Settings) (st : State) (i : Input) where
  abbrev raw₁ : Option ℤ
  raw₁ = raw_of s.calibration i.count

  abbrev st₂ : State
  st₂ = entered_of s st raw₁ i.contact

  abbrev x₃ : Weights
  x₃ = weights_of s st₂ raw₁ i.contact

  abbrev a₄ : Settled
  a₄ = settled_of s st i

  pub tick_zeros : (z : Zeroing) → Zeroed s (zeros_of st.weighing) z → Zeroed s (zeros_of (next_of s st i).weighing) (zero_step s z (seen_of s st i) (seen_of s st i).raw)
  unfolding next_of served_of settled_of weights_of entered_of seen_of
  tick_zeros z h =
      subst
      (λ (k : Bool). Zeroed s (zeros_of (next_of s st i).weighing) (zero_step s z (record { raw = raw₁; contact = i.contact; idle = idle_now a₄.state; keyed = k }) raw₁))
      (settled_keyed s st₂ x₃ i.request)
      (rw (ended_weighing s a₄ (served_of s st i))
      (tracked_zeros s a₄.state.stability a₄.state.weighing (idle_now a₄.state) i.contact (zeros_of st.weighing) z a₄.keyed raw₁ x₃.raw
      (settled_zeros s st₂ x₃ i.request)
      (weigh_raw s st₂.stability st₂.weighing raw₁ i.contact)
      (λ e. none_keyed s st₂ x₃ (bad_refused s st₂ x₃ (weigh_bad s st₂.stability st₂.weighing raw₁ i.contact e)) i.request)
      h))
