-- Floats that are whole numbers: `of_int f z` for a z of at most 2 ^ prec in size. Their difference, product, quotient and order are those of the
-- integers, rounded once: nothing is lost on the way. Assumes nothing.
use mathlib.Core.Path.{◌≡◌, refl, sym, ap, ◌∙◌, subst}
use mathlib.Core.Bool.{Bool, true, false, not, ◌&&◌, cond, true≢false}
use Prim.Native.Nat.{ℕ, zero, suc, ◌+◌, ◌-◌, ◌*◌, ◌^◌, ◌≤◌, ◌<◌, zero-le}
use native.Mathlib.Nat.{add-zero, mul_comm, mul_assoc, mul_left_comm, mul-one, zero-mul, add-mul, mul-sub, mul-pos, zero-lt-suc, lt_irrefl, mul-lt-mul_of_pos_right, mul-le-mul_right}
use native.Mathlib.Omega.{arith}
use lib.Dec.{T, ltb, leb-suc-suc}
use lib.IntN.{ℤ, pos, negsuc, nat_abs, sub_ℕ, ◌-ℤ◌, +ℤ_idr}
use lib.Signed.{lt_z}
use borrow.Author.Tests.{lt-ltb, le-ltb, ne_eqb, ltb-true, ltb-false}
use lib.Ieee.{Float, nan, inf, fin, Format, prec, up, down, unlike, below, round, sum, neg, add, sub, mul, div, lt, of_int}
use lib.Ieee.Fits.{down_pos}
use lib.Ieee.Exact.{HasValue}
use lib.Ieee.Back.{round_whole}
use lib.Ieee.Scale.{round_same}
use lib.Ieee.Positive.{num, den, positive}

-- ---- a whole number's sign and size
abbrev pub minus? : ℤ → Bool
minus? (pos n) = false
minus? (negsuc n) = true

pub of_int_round : (f : Format) (z : ℤ) → of_int f z ≡ round f (minus? z) (nat_abs z) 1
unfolding of_int
of_int_round f (pos n) = refl
of_int_round f (negsuc n) = refl

pub of_int_is : (f : Format) (z : ℤ) → nat_abs z ≤ 2 ^ prec f → HasValue (of_int f z) (minus? z) (nat_abs z) 1
of_int_is f z h = rw of_int_round (round_whole f (minus? z) (nat_abs z) h)

-- ---- product and quotient of M / de, which is the whole number a, and N / dg, which is b
whole : (M a de : ℕ) → M * 1 ≡ a * de → M ≡ a * de
whole M a de h = sym (mul-one M) ∙ h

cross_mul : (M a de N b dg : ℕ) → M * 1 ≡ a * de → N * 1 ≡ b * dg → M * N * 1 ≡ a * b * (de * dg)
cross_mul M a de N b dg h k = rw (mul-one (M * N), whole M a de h, whole N b dg k) (simp (mul_assoc, mul_left_comm))

cross_div : (M a de N b dg : ℕ) → M * 1 ≡ a * de → N * 1 ≡ b * dg → M * dg * b ≡ a * (N * de)
cross_div M a de N b dg h k = rw (whole M a de h, whole N b dg k) (simp (mul_assoc, mul_comm, mul_left_comm))

pub mul_whole : (f : Format) (x y : Float) (s t : Bool) (a b : ℕ) → HasValue x s a 1 → HasValue y t b 1 → mul f x y ≡ round f (unlike s t) (a * b) 1
unfolding mul
mul_whole f nan y s t a b h k = absurd h
mul_whole f (inf u) y s t a b h k = absurd h
mul_whole f (fin u m e) nan s t a b h k = absurd k
mul_whole f (fin u m e) (inf v) s t a b h k = absurd k
mul_whole f (fin u m e) (fin v n g) s t a b h k =
    rw (h.0, k.0)
    (round_same f (unlike s t) (m * up e * (n * up g)) (down e * down g) (a * b) 1 (mul-pos (down_pos e) (down_pos g)) (zero-lt-suc 0)
    (cross_mul (m * up e) a (down e) (n * up g) b (down g) h.1 k.1))

no_zero : (n u b dg : ℕ) → n * u * 1 ≡ b * dg → 0 < b → 0 < dg → n ≡ 0 → ⊥
no_zero n u b dg h B G z =
    lt_irrefl 0 (subst (λ (w : ℕ). 0 < w) (sym (whole (n * u) b dg h) ∙ ap (λ (w : ℕ). w * u) z ∙ zero-mul u) (mul-pos B G))

pub div_whole : (f : Format) (x y : Float) (s t : Bool) (a b : ℕ) → 0 < b → HasValue x s a 1 → HasValue y t b 1 → div f x y ≡ round f (unlike s t) a b
unfolding div
div_whole f nan y s t a b B h k = absurd h
div_whole f (inf u) y s t a b B h k = absurd h
div_whole f (fin u m e) nan s t a b B h k = absurd k
div_whole f (fin u m e) (inf v) s t a b B h k = absurd k
div_whole f (fin u m e) (fin v n g) s t a b B h k =
    let N : 0 < n * up g = subst (λ (w : ℕ). 0 < w) (sym (whole (n * up g) b (down g) k.1)) (mul-pos B (down_pos g)) in
    rw (ne_eqb n 0 (no_zero n (up g) b (down g) k.1 B (down_pos g)), h.0, k.0)
    (round_same f (unlike s t) (m * up e * down g) (n * up g * down e) a b (mul-pos N (down_pos e)) B
    (cross_div (m * up e) a (down e) (n * up g) b (down g) h.1 k.1))

-- ---- order and sum, over one denominator c
over : (M a de dg : ℕ) → M * 1 ≡ a * de → M * dg ≡ a * (de * dg)
over M a de dg h = rw (whole M a de h) (mul_assoc a de dg)

over' : (N b de dg : ℕ) → N * 1 ≡ b * dg → N * de ≡ b * (de * dg)
over' N b de dg h = rw (whole N b dg h, mul_comm de dg) (mul_assoc b dg de)

ltb_scale : (a b c : ℕ) → 0 < c → ltb (a * c) (b * c) ≡ ltb a b
ltb_scale a b c C = go (ltb a b) refl
  where
    go : (t : Bool) → ltb a b ≡ t → ltb (a * c) (b * c) ≡ t
    go true e = lt-ltb (a * c) (b * c) (mul-lt-mul_of_pos_right (ltb-true a b e) C)
    go false e = le-ltb (a * c) (b * c) (mul-le-mul_right c (ltb-false a b e))

below_scale : (s : Bool) (a : ℕ) (t : Bool) (b c : ℕ) → 0 < c → below s (a * c) t (b * c) ≡ below s a t b
below_scale false a false b c C = ltb_scale a b c C
below_scale false a true b c C = refl
below_scale true a false b c C = rw (← add-mul a b c) (ap (λ (z : ℕ). ltb z ((a + b) * c)) (sym (zero-mul c)) ∙ ltb_scale 0 (a + b) c C)
below_scale true a true b c C = ltb_scale b a c C

lt_whole : (x y : Float) (s t : Bool) (a b : ℕ) → HasValue x s a 1 → HasValue y t b 1 → lt x y ≡ below s a t b
unfolding lt
lt_whole nan y s t a b h k = absurd h
lt_whole (inf u) y s t a b h k = absurd h
lt_whole (fin u m e) nan s t a b h k = absurd k
lt_whole (fin u m e) (inf v) s t a b h k = absurd k
lt_whole (fin u m e) (fin v n g) s t a b h k =
    rw (h.0, k.0, over (m * up e) a (down e) (down g) h.1, over' (n * up g) b (down e) (down g) k.1)
    (below_scale s a t b (down e * down g) (mul-pos (down_pos e) (down_pos g)))

pub lt_of_int : (f : Format) (p q : ℤ) → nat_abs p ≤ 2 ^ prec f → nat_abs q ≤ 2 ^ prec f → lt (of_int f p) (of_int f q) ≡ lt_z p q
lt_of_int f p q h k = lt_whole (of_int f p) (of_int f q) (minus? p) (minus? q) (nat_abs p) (nat_abs q) (of_int_is f p h) (of_int_is f q k) ∙ go p q
  where
    go : (p q : ℤ) → below (minus? p) (nat_abs p) (minus? q) (nat_abs q) ≡ lt_z p q
    go (pos a) (pos b) = refl
    go (pos a) (negsuc b) = refl
    go (negsuc a) (pos b) = lt-ltb 0 (suc a + b) (omega arith)
    go (negsuc a) (negsuc b) = leb-suc-suc (suc b) a

scale_round : (f : Format) (s : Bool) (a c : ℕ) → 0 < c → round f s (a * c) c ≡ round f s a 1
scale_round f s a c C = round_same f s (a * c) c a 1 C (zero-lt-suc 0) (mul-one (a * c))

sub_scale : (a b c : ℕ) → a * c - b * c ≡ (a - b) * c
sub_scale a b c = rw (mul_comm a c, mul_comm b c, ← mul-sub c a b) (mul_comm c (a - b))

sum_scale : (f : Format) (s : Bool) (a : ℕ) (t : Bool) (b c : ℕ) → 0 < c → sum f s (a * c) t (b * c) c ≡ sum f s a t b 1
unfolding sum
sum_scale f s a t b c C =
    rw (
      ltb_scale a b c C,
      ltb_scale b a c C,
      sub_scale a b c,
      sub_scale b a c,
      ← add-mul a b c,
      scale_round f s (a + b) c C,
      scale_round f t (b - a) c C,
      scale_round f (s && ltb b a) (a - b) c C,
    )

add_whole : (f : Format) (x y : Float) (s t : Bool) (a b : ℕ) → HasValue x s a 1 → HasValue y t b 1 → add f x y ≡ sum f s a t b 1
unfolding add
add_whole f nan y s t a b h k = absurd h
add_whole f (inf u) y s t a b h k = absurd h
add_whole f (fin u m e) nan s t a b h k = absurd k
add_whole f (fin u m e) (inf v) s t a b h k = absurd k
add_whole f (fin u m e) (fin v n g) s t a b h k =
    rw (h.0, k.0, over (m * up e) a (down e) (down g) h.1, over' (n * up g) b (down e) (down g) k.1)
    (sum_scale f s a t b (down e * down g) (mul-pos (down_pos e) (down_pos g)))

-- M / de + b, where b is N / dg
cross_sum : (M de N b dg : ℕ) → N * 1 ≡ b * dg → (M * dg + N * de) * de ≡ (M + b * de) * (de * dg)
cross_sum M de N b dg h = rw (whole N b dg h) (simp (add-mul, mul_assoc, mul_comm, mul_left_comm))

-- a positive float, whole or not, and a whole number that is not negative
pub add_positive : (f : Format) (x y : Float) (b : ℕ) → T (positive x) → HasValue y false b 1 → add f x y ≡ round f false (num x + b * den x) (den x)
unfolding add sum
add_positive f nan y b p k = absurd p
add_positive f (inf s) y b p k = absurd p
add_positive f (fin true m e) y b p k = absurd p
add_positive f (fin false m e) nan b p k = absurd k
add_positive f (fin false m e) (inf t) b p k = absurd k
add_positive f (fin false m e) (fin true n g) b p k = absurd (true≢false k.0)
add_positive f (fin false m e) (fin false n g) b p k =
    round_same f false (m * up e * down g + n * up g * down e) (down e * down g) (m * up e + b * down e) (down e) (mul-pos (down_pos e) (down_pos g)) (down_pos e)
    (cross_sum (m * up e) (down e) (n * up g) b (down g) k.1)

-- ---- the difference of two whole numbers is the integers', rounded once
neg_whole : (y : Float) (t : Bool) (b : ℕ) → HasValue y t b 1 → HasValue (neg y) (not t) b 1
unfolding neg
neg_whole nan t b k = k
neg_whole (inf v) t b k = k
neg_whole (fin v n g) t b k = (ap not k.0, k.1)

module _ (f : Format) where
  -- a - (b + 1)
  apart : (a b : ℕ) → cond (ltb a (suc b)) (round f true (suc b - a) 1) (round f false (a - suc b) 1) ≡ of_int f (sub_ℕ a (suc b))
  unfolding of_int
  apart a b = go (ltb a (suc b)) refl
    where
      go : (t : Bool) → ltb a (suc b) ≡ t
          → cond t (round f true (suc b - a) 1) (round f false (a - suc b) 1) ≡ of_int f (cond t (negsuc (suc b - suc a)) (pos (a - suc b)))
      go true e = ap (λ (n : ℕ). round f true n 1) (omega (arith, ltb-true a (suc b) e))
      go false e = refl

  -- -(a + 1) + (b + 1)
  apart_neg : (a b : ℕ)
      → cond (ltb (suc a) (suc b)) (round f false (suc b - suc a) 1) (round f (true && ltb (suc b) (suc a)) (suc a - suc b) 1) ≡ of_int f (sub_ℕ (suc b) (suc a))
  unfolding of_int
  apart_neg a b = go (ltb (suc a) (suc b)) refl (ltb (suc b) (suc a)) refl
    where
      go : (t : Bool) → ltb (suc a) (suc b) ≡ t → (u : Bool) → ltb (suc b) (suc a) ≡ u
          → cond t (round f false (suc b - suc a) 1) (round f (true && u) (suc a - suc b) 1) ≡ of_int f (cond u (negsuc (suc a - suc (suc b))) (pos (suc b - suc a)))
      go true e true g = absurd (omega (arith, ltb-true (suc a) (suc b) e, ltb-true (suc b) (suc a) g))
      go true e false g = refl
      go false e true g = ap (λ (n : ℕ). round f true n 1) (omega (arith, ltb-true (suc b) (suc a) g))
      go false e false g = ap (λ (n : ℕ). round f false n 1) (omega (arith, ltb-false (suc a) (suc b) e, ltb-false (suc b) (suc a) g))

  difference : (p q : ℤ) → sum f (minus? p) (nat_abs p) (not (minus? q)) (nat_abs q) 1 ≡ of_int f (p -ℤ q)
  unfolding sum of_int
  difference (pos a) (pos zero) = rw (le-ltb a 0 zero-le) (ap (λ (n : ℕ). round f false n 1) (omega arith))
  difference (pos a) (pos (suc b)) = apart a b
  difference (pos a) (negsuc b) = refl
  difference (negsuc a) (pos zero) = ap (λ (n : ℕ). round f true n 1) (add-zero (suc a)) ∙ ap (λ (z : ℤ). of_int f z) (sym (+ℤ_idr (negsuc a)))
  difference (negsuc a) (pos (suc b)) = ap (λ (n : ℕ). round f true n 1) (omega arith)
  difference (negsuc a) (negsuc b) = apart_neg a b

pub sub_of_int : (f : Format) (p q : ℤ) → nat_abs p ≤ 2 ^ prec f → nat_abs q ≤ 2 ^ prec f → sub f (of_int f p) (of_int f q) ≡ of_int f (p -ℤ q)
unfolding sub
sub_of_int f p q h k =
    add_whole f (of_int f p) (neg (of_int f q)) (minus? p) (not (minus? q)) (nat_abs p) (nat_abs q) (of_int_is f p h) (neg_whole (of_int f q) (minus? q) (nat_abs q) (of_int_is f q k))
    ∙ difference f p q
