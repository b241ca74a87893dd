-- The analog value never leaves its range. Between the ends k x / D lies between 1 / 2 ^ 21 and k; rounding keeps order, so the rounded quotient lies there too,
-- and the rounded sum between j and k + j. Here k and j are 16 and 4, or 10 and 0. At the end stand all laws of the analog value. Assumes nothing.
use mathlib.Core.Path.{◌≡◌, refl, sym, subst}
use Prim.Native.Nat.{ℕ, ◌+◌, ◌*◌, ◌^◌, ◌≤◌, ◌<◌}
use native.Mathlib.Nat.{le_refl, le_trans, mul-le-mul_left, mul-one, add-mul, mul-pos, zero-lt-suc}
use native.Mathlib.Omega.{arith}
use mathlib.Core.Bool.{Bool, true, false, not, true≢false}
use lib.IntN.{ℤ, pos, nat_abs, ◌-ℤ◌}
use lib.Dec.{T, lit≤}
use lib.Ieee.{Float, binary64, round, add, le}
use lib.Ieee.Exact.{HasValue}
use lib.Ieee.Order.{le_of_values, round_mono}
use lib.Ieee.Positive.{num, den, den_pos, positive, above, own_value, positive_of_value, values_of_le, above_of_le, between}
use Rattle.outline.specs.Analog.{f64, analog_of}
use Rattle.outline.specs.Limits.{display_limit}
use Rattle.outline.specs.AnalogOwed.{Ends, InRange, AnalogLaws, past, minus_zero, share_of, current_at, voltage_at}
use Rattle.outline.proofs.Floats.{of_int_is, of_int_round, add_positive}
use Rattle.outline.proofs.AnalogEnds.{d_in, inside, low_current, high_current, low_voltage, high_voltage, beyond_ends, between_ends, exact_ends}

-- ---- between the ends: k a / c rounded, plus j rounded, for a part a of a c that is at most 2 ^ 21, as D is
-- No quotient is below it, so that none rounds to zero.
abbrev least : Float
least = round binary64 false 1 (2 ^ 21)

least_is : HasValue least false 1 (2 ^ 21)
unfolding round
least_is = (refl, refl)

least_positive : T (positive least)
least_positive = positive_of_value least 1 (2 ^ 21) least_is (zero-lt-suc 0)

record Between (k j : ℕ) (u : Float) : Type 0 where
  from : T (le (f64 (pos j)) u)
  to : T (le u (f64 (pos (k + j))))
  no_minus_zero : u ≡ minus_zero → ⊥

-- N / M is the rounded quotient, and what is shown of it is enough
sum_range : (k j N M : ℕ) → 0 < M → 1 * M ≤ N * 2 ^ 21 → N * 1 ≤ k * M → Between k j (round binary64 false (N + j * M) M)
sum_range k j N M pos-M lower upper =
    let u = round binary64 false (N + j * M) M in
    let j≤ : j * M ≤ (N + j * M) * 1 = omega arith in
    let ≤kj : (N + j * M) * 1 ≤ (k + j) * M = rw (add-mul k j M) (omega arith) in
    let least≤ : 1 * M ≤ (N + j * M) * 2 ^ 21 = omega arith in
    record {
      from = rw (of_int_round binary64 (pos j)) (round_mono binary64 j 1 (N + j * M) M (zero-lt-suc 0) pos-M j≤);
      to = rw (of_int_round binary64 (pos (k + j))) (round_mono binary64 (N + j * M) M (k + j) 1 pos-M (zero-lt-suc 0) ≤kj);
      no_minus_zero = λ e. subst (λ (y : Float). T (above y)) e (above_of_le least u least_positive (round_mono binary64 1 (2 ^ 21) (N + j * M) M (lit≤ tt) pos-M least≤));
    }

sum_of_part : (k j a c : ℕ) → 0 < k → k ≤ 16 → j ≤ 16 → 0 < a → a ≤ c → c ≤ 2 ^ 21 → Between k j (add binary64 (round binary64 false (k * a) c) (f64 (pos j)))
sum_of_part k j a c K hk hj A in_c C =
    let z = round binary64 false (k * a) c in
    let c_pos : 0 < c = omega arith in
    let k-is = of_int_is binary64 (pos k) (omega arith) in
    let hi = positive_of_value (f64 (pos k)) k 1 k-is K in
    let ka : 0 < k * a = mul-pos K A in
    let above-least : T (le least z) = round_mono binary64 1 (2 ^ 21) (k * a) c (lit≤ tt) c_pos (omega arith) in
    let below-k : T (le z (f64 (pos k))) = rw (of_int_round binary64 (pos k)) (round_mono binary64 (k * a) c k 1 c_pos (zero-lt-suc 0) (rw mul-one (mul-le-mul_left k in_c))) in
    let q = between least z (f64 (pos k)) least_positive hi above-least below-k in
    let lower = values_of_le least z 1 (2 ^ 21) (num z) (den z) least_positive q least_is (own_value z q) above-least in
    let upper = values_of_le z (f64 (pos k)) (num z) (den z) k 1 q hi (own_value z q) k-is below-k in
    rw (add_positive binary64 z (f64 (pos j)) j q (of_int_is binary64 (pos j) (omega arith))) (sum_range k j (num z) (den z) (den_pos z) lower upper)

-- ---- at an end and beyond it: a whole number between j and k + j
whole_between : (k j n : ℕ) → k ≤ 16 → j ≤ 16 → j ≤ n → n ≤ k + j → Between k j (f64 (pos n))
whole_between k j n hk hj from to =
    let is : (m : ℕ) → m ≤ 32 → HasValue (f64 (pos m)) false m 1 = λ m h. of_int_is binary64 (pos m) (omega arith) in
    let n-is = is n (omega arith) in
    record {
      from = le_of_values (f64 (pos j)) (f64 (pos n)) j 1 n 1 (zero-lt-suc 0) (zero-lt-suc 0) (is j (omega arith)) n-is (omega arith);
      to = le_of_values (f64 (pos n)) (f64 (pos (k + j))) n 1 (k + j) 1 (zero-lt-suc 0) (zero-lt-suc 0) n-is (is (k + j) (omega arith)) (omega arith);
      no_minus_zero = λ e. true≢false (subst (λ (y : Float). HasValue y false n 1) e n-is).0;
    }

-- ---- a displayed weight stands in one of the three places
module _ (low high w : ℤ) (ends : Ends low high) (hw : nat_abs w ≤ display_limit) where
  range : (k j : ℕ) (u : Float) → 0 < k → k ≤ 16 → j ≤ 16
      → (T (past low high w) → u ≡ f64 (pos j)) → (T (past high low w) → u ≡ f64 (pos (k + j)))
      → (T (not (past low high w)) → T (not (past high low w)) → u ≡ add binary64 (share_of k low high w) (f64 (pos j)))
      → Between k j u
  range k j u K hk hj at_low at_high inner = go (past low high w) refl (past high low w) refl
    where
      is : (v : Float) → u ≡ v → Between k j v → Between k j u
      is v e b = subst (λ (y : Float). Between k j y) (sym e) b

      go : (s : Bool) → past low high w ≡ s → (t : Bool) → past high low w ≡ t → Between k j u
      go true e t g = is (f64 (pos j)) (at_low (subst T (sym e) tt)) (whole_between k j j hk hj (le_refl j) (omega arith))
      go false e true g = is (f64 (pos (k + j))) (at_high (subst T (sym g) tt)) (whole_between k j (k + j) hk hj (omega arith) (le_refl (k + j)))
      go false e false g =
          let l = subst (λ (b : Bool). T (not b)) (sym e) tt in
          let h = subst (λ (b : Bool). T (not b)) (sym g) tt in
          let c = inside low high w ends hw l h in
          is (add binary64 (share_of k low high w) (f64 (pos j))) (inner l h)
          (sum_of_part k j (nat_abs (w -ℤ low)) (nat_abs (high -ℤ low)) K hk hj c.some c.part (le_trans (d_in low high w ends hw) (lit≤ tt)))

  current_between : Between 16 4 (current_at low high w)
  current_between =
      range 16 4 (current_at low high w) (lit≤ tt) (lit≤ tt) (lit≤ tt) (low_current low high w ends hw) (high_current low high w ends hw) (between_ends low high w ends hw).current

  voltage_between : Between 10 0 (voltage_at low high w)
  voltage_between =
      range 10 0 (voltage_at low high w) (lit≤ tt) (lit≤ tt) (lit≤ tt) (low_voltage low high w ends hw) (high_voltage low high w ends hw) (between_ends low high w ends hw).voltage

  in_range : InRange low high w
  unfolding analog_of
  in_range =
      record {
        current = refl;
        voltage = refl;
        from_four = current_between.from;
        to_twenty = current_between.to;
        from_nought = voltage_between.from;
        to_ten = voltage_between.to;
        no_minus_zero = voltage_between.no_minus_zero;
      }

pub analog_laws : AnalogLaws
analog_laws low high ends =
    (exact_ends low high ends, λ w hw. (in_range low high w ends hw, beyond_ends low high w ends hw, between_ends low high w ends hw))
