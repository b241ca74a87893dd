-- The analog value at the ends, beyond them and between them. For accepted ends x and D are whole numbers of at most 2 ^ 53, and so is 16 x:
-- nothing is lost before the quotient, and so the ends are exact. Assumes nothing.
use Rattle.std.specs.Prelude.{Some}
use mathlib.Core.Path.{◌≡◌, refl, sym, ap, ◌∙◌}
use Prim.Native.Nat.{ℕ, zero, suc, ◌+◌, ◌*◌, ◌^◌, ◌≤◌, ◌<◌, zero-le}
use native.Mathlib.Nat.{le_trans, mul-le-mul, mul-one, le_antisymm, le_refl, zero-lt-suc}
use native.Mathlib.Omega.{arith}
use mathlib.Core.Bool.{Bool, true, false, not, cond}
use lib.IntN.{ℤ, pos, negsuc, nat_abs, ◌-ℤ◌, +ℤ_invr}
use lib.Signed.{lt_z, le_z, ≤ℤ_refl}
use lib.Dec.{T, ltb, leb, lit≤, leb→le, nleb→lt}
use borrow.Author.Tests.{le-ltb, lt-ltb, ltb-false, leb-true, leb-false, le-leb, lt-leb}
use lib.Ieee.{Float, binary64, unlike, round, of_int, add, mul, div}
use lib.Ieee.Back.{round_whole}
use lib.Ieee.Scale.{round_same}
use Rattle.whole.specs.Ints.{ints2, ints3, ints, linear}
use Rattle.types.specs.declared.analog.Analog.TheVariants as analog
use Rattle.outline.specs.Limits.{end_limit, display_limit}
use Rattle.outline.specs.Analog.{f64, scale_of, between_of, clip_of, distance_of, current_of, voltage_of, analog_of}
use Rattle.outline.specs.AnalogOwed.{Ends, ExactEnds, BeyondEnds, BetweenEnds, past, plus_zero, share_of, current_at, voltage_at}
use Rattle.outline.proofs.Floats.{minus?, of_int_is, of_int_round, mul_whole, div_whole, lt_of_int, sub_of_int}

-- ---- the clipped distance, in the integers
abbrev between_z : ℤ → ℤ → ℤ → ℤ
between_z least most x = cond (lt_z x least) least (cond (lt_z most x) most x)

abbrev clip_z : ℤ → ℤ → ℤ
clip_z x d = cond (lt_z d (pos 0)) (between_z d (pos 0) x) (between_z (pos 0) d x)

cond_f64 : {a b : Float} (t : Bool) (p q : ℤ) → a ≡ f64 p → b ≡ f64 q → cond t a b ≡ f64 (cond t p q)
cond_f64 true p q a-is b-is = a-is
cond_f64 false p q a-is b-is = b-is

between_is : (least most x : ℤ) → nat_abs least ≤ 2 ^ 53 → nat_abs most ≤ 2 ^ 53 → nat_abs x ≤ 2 ^ 53 → between_of (f64 least) (f64 most) (f64 x) ≡ f64 (between_z least most x)
unfolding between_of
between_is least most x hl hm hx =
    rw (lt_of_int binary64 x least hx hl, lt_of_int binary64 most x hm hx)
    (cond_f64 (lt_z x least) least (cond (lt_z most x) most x) refl (cond_f64 (lt_z most x) most x refl refl))

clip_is : (x d : ℤ) → nat_abs x ≤ 2 ^ 53 → nat_abs d ≤ 2 ^ 53 → clip_of (f64 x) (f64 d) ≡ f64 (clip_z x d)
unfolding clip_of
clip_is x d hx hd =
    rw (lt_of_int binary64 d (pos 0) hd zero-le)
    (cond_f64 (lt_z d (pos 0)) (between_z d (pos 0) x) (between_z (pos 0) d x) (between_is d (pos 0) x hd zero-le hx) (between_is (pos 0) d x zero-le hd hx))

-- ---- sizes
sub_size : (p q : ℤ) → nat_abs (p -ℤ q) ≤ nat_abs p + nat_abs q
sub_size = ints2 _ (λ a a' b b'. simp ints (omega linear))

-- D is not 0
wide : (low high : ℤ) → (low ≡ high → ⊥) → 0 < nat_abs (high -ℤ low)
wide low high apart = go (nat_abs (high -ℤ low)) refl
  where
    meet : (p q : ℤ) → nat_abs (q -ℤ p) ≡ 0 → p ≡ q
    meet = ints2 _ (λ a a' b b' e. omega (linear, simp ints at e))

    go : (n : ℕ) → nat_abs (high -ℤ low) ≡ n → 0 < n
    go zero e = absurd (apart (meet low high e))
    go (suc n) e = zero-lt-suc n

-- ---- where the clip ends: `past` sees only differences, so `past low high w` is a fact of D and of the distance before the clip
leb_move : (a b c d : ℕ) → a + d ≡ c + b → leb a b ≡ leb c d
leb_move a b c d e = go (leb c d) refl
  where
    go : (t : Bool) → leb c d ≡ t → leb a b ≡ t
    go true h = le-leb a b (omega (arith, leb-true c d h))
    go false h = lt-leb a b (omega (arith, leb-false c d h))

shift_lt : (p q r : ℤ) → lt_z (p -ℤ r) (q -ℤ r) ≡ lt_z p q
shift_lt = ints3 _ (λ a a' b b' c c'. simp ints (leb_move (suc (a + c' + (b' + c))) (b + c' + (a' + c)) (suc (a + b')) (b + a') (omega arith)))

shift_le : (p q r : ℤ) → le_z (p -ℤ r) (q -ℤ r) ≡ le_z p q
shift_le = ints3 _ (λ a a' b b' c c'. simp ints (leb_move (a + c' + (b' + c)) (b + c' + (a' + c)) (a + b') (b + a') (omega arith)))

past_shift : (end other w by : ℤ) → past (end -ℤ by) (other -ℤ by) (w -ℤ by) ≡ past end other w
past_shift end other w by = simp (shift_lt, shift_le)

low_past : (low high w : ℤ) → past (pos 0) (high -ℤ low) (w -ℤ low) ≡ past low high w
low_past low high w = ap (λ (z : ℤ). past z (high -ℤ low) (w -ℤ low)) (sym (+ℤ_invr low)) ∙ past_shift low high w low

high_past : (low high w : ℤ) → past (high -ℤ low) (pos 0) (w -ℤ low) ≡ past high low w
high_past low high w = ap (λ (z : ℤ). past (high -ℤ low) z (w -ℤ low)) (sym (+ℤ_invr low)) ∙ past_shift high low w low

-- the smaller of two is n
at_most : (n m : ℕ) (f : ℕ → ℤ) → n ≤ m → cond (ltb n m) (f n) (f m) ≡ f n
at_most n m f h = go (ltb n m) refl
  where
    go : (t : Bool) → ltb n m ≡ t → cond t (f n) (f m) ≡ f n
    go true e = refl
    go false e = ap f (le_antisymm (ltb-false n m e) h)

clip_low : (x d : ℤ) → 0 < nat_abs d → T (past (pos 0) d x) → clip_z x d ≡ pos 0
clip_low (pos m) (pos n) D h =
    let k : m ≤ 0 = leb→le m 0 (rw (lt-ltb 0 n D) at h) in
    simp (le-ltb n 0 zero-le, le-ltb m 0 zero-le, le-ltb n m (omega arith)) (ap pos (omega arith))
clip_low (negsuc m) (pos n) D h = simp (le-ltb n 0 zero-le)
clip_low (pos m) (negsuc n) D h = at_most 0 m pos zero-le
clip_low (negsuc m) (negsuc n) D h = absurd h

clip_high : (x d : ℤ) → T (past d (pos 0) x) → clip_z x d ≡ d
clip_high (pos m) (pos n) h =
    let k : n ≤ m = leb→le n m (rw (le-ltb n 0 zero-le) at h) in
    simp (le-ltb n 0 zero-le, le-ltb m 0 zero-le, at_most n m pos k)
clip_high (negsuc m) (pos n) h = absurd (rw (le-ltb n 0 zero-le) at h)
clip_high (pos m) (negsuc n) h = absurd h
clip_high (negsuc m) (negsuc n) h = at_most n m negsuc (leb→le n m h)

-- between the ends the distance stays as it is, a part of d with d's sign
pub record Inside (x d : ℤ) : Type 0 where
  stays : clip_z x d ≡ x
  same_sign : minus? x ≡ minus? d
  pub some : 0 < nat_abs x
  pub part : nat_abs x ≤ nat_abs d

clip_inside : (x d : ℤ) → 0 < nat_abs d → T (not (past (pos 0) d x)) → T (not (past d (pos 0) x)) → Inside x d
clip_inside (pos m) (pos n) D l h =
    let some : 0 < m = nleb→lt m 0 (rw (lt-ltb 0 n D) at l) in
    let part : m < n = nleb→lt n m (rw (le-ltb n 0 zero-le) at h) in
    record { stays = simp (le-ltb n 0 zero-le, le-ltb m 0 zero-le, le-ltb n m (omega arith)); same_sign = refl; some = some; part = omega arith }
clip_inside (negsuc m) (pos n) D l h = absurd (rw (lt-ltb 0 n D) at l)
clip_inside (pos m) (negsuc n) D l h = absurd (rw (le-leb 0 m zero-le) at l)
clip_inside (negsuc m) (negsuc n) D l h =
    let part : m < n = nleb→lt n m h in
    record { stays = simp (le-ltb n m (omega arith)); same_sign = refl; some = zero-lt-suc m; part = omega arith }

-- ---- k x / D of whole numbers: its only rounding is the quotient's
abbrev share : ℕ → ℤ → ℤ → Float
share k x d = div binary64 (mul binary64 (f64 (pos k)) (f64 x)) (f64 d)

module _ (k : ℕ) (d : ℤ) (hk : k ≤ 16) (hd : nat_abs d ≤ 2 * end_limit) (D : 0 < nat_abs d) where
  share_is : (x : ℤ) → nat_abs x ≤ nat_abs d → share k x d ≡ round binary64 (unlike (unlike false (minus? x)) (minus? d)) (k * nat_abs x) (nat_abs d)
  share_is x hx =
      let s = unlike false (minus? x) in
      let hkx : k * nat_abs x ≤ 2 ^ 53 = le_trans (mul-le-mul hk (le_trans hx hd)) (lit≤ tt) in
      ap (λ (y : Float). div binary64 y (f64 d)) (mul_whole binary64 (f64 (pos k)) (f64 x) false (minus? x) k (nat_abs x) (of_int_is binary64 (pos k) (omega arith)) (of_int_is binary64 x (omega arith)))
      ∙ div_whole binary64 (round binary64 s (k * nat_abs x) 1) (f64 d) s (minus? d) (k * nat_abs x) (nat_abs d) D (round_whole binary64 s (k * nat_abs x) hkx) (of_int_is binary64 d (omega arith))

  -- with the sign of D, x makes a quotient that is not negative
  share_like : (x : ℤ) → minus? x ≡ minus? d → nat_abs x ≤ nat_abs d → share k x d ≡ round binary64 false (k * nat_abs x) (nat_abs d)
  share_like x s hx = share_is x hx ∙ ap (λ (t : Bool). round binary64 t (k * nat_abs x) (nat_abs d)) (ap (λ (t : Bool). unlike (unlike false t) (minus? d)) s ∙ like (minus? d))
    where
      like : (s : Bool) → unlike (unlike false s) s ≡ false
      like true = refl
      like false = refl

  -- at x = D it is k itself
  share_high : share k d d ≡ f64 (pos k)
  share_high =
      share_like d refl (le_refl (nat_abs d))
      ∙ round_same binary64 false (k * nat_abs d) (nat_abs d) k 1 D (zero-lt-suc 0) (mul-one (k * nat_abs d))
      ∙ sym (of_int_round binary64 (pos k))

  -- at x = 0 it is a zero, and its sign is D's
  share_low : share k (pos 0) d ≡ round binary64 (unlike false (minus? d)) 0 1
  share_low = share_is (pos 0) zero-le ∙ round_same binary64 (unlike false (minus? d)) (k * 0) (nat_abs d) 0 1 D (zero-lt-suc 0) (omega arith)

-- ---- the last sum: a zero loses its sign
four : (s : Bool) → add binary64 (round binary64 s 0 1) (f64 (pos 4)) ≡ f64 (pos 4)
unfolding add round of_int
four true = refl
four false = refl

nought : (s : Bool) → add binary64 (round binary64 s 0 1) (f64 (pos 0)) ≡ f64 (pos 0)
unfolding add round of_int
nought true = refl
nought false = refl

twenty : add binary64 (f64 (pos 16)) (f64 (pos 4)) ≡ f64 (pos 20)
unfolding add of_int
twenty = refl

ten : add binary64 (f64 (pos 10)) (f64 (pos 0)) ≡ f64 (pos 10)
unfolding add of_int
ten = refl

plus_zero_lem : f64 (pos 0) ≡ plus_zero
unfolding of_int
plus_zero_lem = refl

-- ---- the value of a displayed weight
module _ (low high w : ℤ) (ends : Ends low high) (hw : nat_abs w ≤ display_limit) where
  abbrev d : ℤ
  d = high -ℤ low

  -- the clipped distance
  abbrev x : ℤ
  x = clip_z (w -ℤ low) d

  pub d_in : nat_abs d ≤ 2 * end_limit
  d_in =
      let l = ends.low_in in
      let h = ends.high_in in omega (arith, sub_size high low)

  d_wide : 0 < nat_abs d
  d_wide = wide low high ends.apart

  span_is : (scale_of low high).span ≡ f64 d
  span_is =
      let l = ends.low_in in
      let h = ends.high_in in sub_of_int binary64 high low (omega arith) (omega arith)

  distance_is : distance_of (scale_of low high) w ≡ f64 x
  distance_is =
      let l = ends.low_in in
      ap (λ (y : Float). clip_of y (scale_of low high).span) (sub_of_int binary64 w low (omega arith) (omega arith))
      ∙ ap (λ (y : Float). clip_of (f64 (w -ℤ low)) y) span_is
      ∙ clip_is (w -ℤ low) d (omega (arith, sub_size w low)) (omega (arith, d_in))

  -- where the distance is y
  current_at_lem : (y : ℤ) → x ≡ y → current_at low high w ≡ current_of (f64 y) (f64 d)
  current_at_lem y e = (λ i. current_of (distance_is i) (span_is i)) ∙ ap (λ (z : ℤ). current_of (f64 z) (f64 d)) e

  voltage_at_lem : (y : ℤ) → x ≡ y → voltage_at low high w ≡ voltage_of (f64 y) (f64 d)
  voltage_at_lem y e = (λ i. voltage_of (distance_is i) (span_is i)) ∙ ap (λ (z : ℤ). voltage_of (f64 z) (f64 d)) e

  pub inside : T (not (past low high w)) → T (not (past high low w)) → Inside (w -ℤ low) d
  inside l h = clip_inside (w -ℤ low) d d_wide (rw (low_past low high w) l) (rw (high_past low high w) h)

  at_low : T (past low high w) → x ≡ pos 0
  at_low h = clip_low (w -ℤ low) d d_wide (rw (low_past low high w) h)

  at_high : T (past high low w) → x ≡ d
  at_high h = clip_high (w -ℤ low) d (rw (high_past low high w) h)

  inside_current : T (not (past low high w)) → T (not (past high low w)) → current_at low high w ≡ add binary64 (share_of 16 low high w) (f64 (pos 4))
  inside_current l h =
      let c = inside l h in
      current_at_lem (w -ℤ low) c.stays
      ∙ ap (λ (y : Float). add binary64 y (f64 (pos 4))) (share_like 16 d (lit≤ tt) d_in d_wide (w -ℤ low) c.same_sign c.part)

  pub low_current : T (past low high w) → current_at low high w ≡ f64 (pos 4)
  low_current h =
      current_at_lem (pos 0) (at_low h)
      ∙ ap (λ (y : Float). add binary64 y (f64 (pos 4))) (share_low 16 d (lit≤ tt) d_in d_wide)
      ∙ four (unlike false (minus? d))

  pub high_current : T (past high low w) → current_at low high w ≡ f64 (pos 20)
  high_current h =
      current_at_lem d (at_high h)
      ∙ ap (λ (y : Float). add binary64 y (f64 (pos 4))) (share_high 16 d (lit≤ tt) d_in d_wide)
      ∙ twenty

  pub low_voltage : T (past low high w) → voltage_at low high w ≡ f64 (pos 0)
  low_voltage h =
      voltage_at_lem (pos 0) (at_low h)
      ∙ ap (λ (y : Float). add binary64 y (f64 (pos 0))) (share_low 10 d (lit≤ tt) d_in d_wide)
      ∙ nought (unlike false (minus? d))

  pub high_voltage : T (past high low w) → voltage_at low high w ≡ f64 (pos 10)
  high_voltage h =
      voltage_at_lem d (at_high h)
      ∙ ap (λ (y : Float). add binary64 y (f64 (pos 0))) (share_high 10 d (lit≤ tt) d_in d_wide)
      ∙ ten

  inside_voltage : T (not (past low high w)) → T (not (past high low w)) → voltage_at low high w ≡ add binary64 (share_of 10 low high w) (f64 (pos 0))
  inside_voltage l h =
      let c = inside l h in
      voltage_at_lem (w -ℤ low) c.stays
      ∙ ap (λ (y : Float). add binary64 y (f64 (pos 0))) (share_like 10 d (lit≤ tt) d_in d_wide (w -ℤ low) c.same_sign c.part)

  pub between_ends : BetweenEnds low high w
  between_ends = record { current = inside_current; voltage = inside_voltage }

  pub beyond_ends : BeyondEnds low high w
  unfolding analog_of
  beyond_ends =
      record {
        four = λ h. ap (λ x. Some (analog.Current x)) (low_current h);
        twenty = λ h. ap (λ x. Some (analog.Current x)) (high_current h);
        nought = λ h. ap (λ x. Some (analog.Voltage x)) (low_voltage h ∙ plus_zero_lem);
        ten = λ h. ap (λ x. Some (analog.Voltage x)) (high_voltage h);
      }

-- ---- at the ends: an end is past itself
self : (end other : ℤ) → T (past end other end)
self end other = go (lt_z end other)
  where
    go : (t : Bool) → T (cond t (le_z end end) (le_z end end))
    go true = (≤ℤ_refl end).le
    go false = (≤ℤ_refl end).le

pub exact_ends : (low high : ℤ) → Ends low high → ExactEnds low high
exact_ends low high ends =
    let at_low = beyond_ends low high low ends (le_trans ends.low_in (lit≤ tt)) in
    let at_high = beyond_ends low high high ends (le_trans ends.high_in (lit≤ tt)) in
    record { four = at_low.four (self low high); twenty = at_high.twenty (self high low); nought = at_low.nought (self low high); ten = at_high.ten (self high low) }
