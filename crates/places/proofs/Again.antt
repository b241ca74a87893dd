-- Numbers that are written to a tidy layout over zeros give a buffer's own bytes again exactly where they are the numbers that stand at its
-- places and every other byte of it is 0. So an image is compared with what it is read as without a second one. Assumes nothing.
use mathlib.Core.Path.{◌≡◌, refl, sym, ap, subst, ◌∙◌}
use mathlib.Core.List.{List, [], ◌∷◌}
use mathlib.Core.Bool.{Bool, true, false, ◌&&◌, ◌||◌, true≢false}
use mathlib.Core.Logic.{◌⊎◌, inl, inr}
use Prim.Native.Nat.{ℕ, zero, suc, ◌+◌, ◌-◌, ◌/◌, ◌%◌, ◌≤◌, ◌<◌}
use native.Mathlib.Omega.{arith}
use lib.Dec.{T, eqb, leb, ltb, leb→le, le→leb, lt→ltb}
use lib.Ieee.Fits.{and_l, and_r, and_i}
use lib.ListN.{length, get_or, set, replicate, length-replicate, get_or-eq_default}
use lib.Seq.{get_or-set_other}
use borrow.Author.Tests.{ltb-true, ltb-false, leb-false, eqb-true, eqb-false, eq-eqb}
use Rattle.places.specs.Places.{put_be, Place, get_all, put_all, tidy, unused, Numbers, Bytes, same_bytes, zeros_at, gaps, zeros_in}
use Rattle.places.proofs.Numbers.{put_length, same_yes, same_self, pad_get}
use Rattle.places.proofs.Layouts.{apart, or_l, or_r, put_beside, get_put_all, put_get_all, put_unused}

-- i stands below n, or not
below : (i n : ℕ) → (i < n) ⊎ (n ≤ i)
below i n = go (ltb i n) refl
  where
    go : (t : Bool) → ltb i n ≡ t → (i < n) ⊎ (n ≤ i)
    go true e = inl (ltb-true i n e)
    go false e = inr (ltb-false i n e)

both : (a b : Bool) → a && b ≡ true → (a ≡ true) × (b ≡ true)
both true b e = (refl, e)
both false b e = absurd (true≢false (sym e))

none : (a b : Bool) → (a || b) ≡ false → (a ≡ false) × (b ≡ false)
none false b e = (refl, e)
none true b e = absurd (true≢false e)

-- two tests are one, where each follows from the other
one_test : (a b : Bool) → (a ≡ true → b ≡ true) → (b ≡ true → a ≡ true) → a ≡ b
one_test true b f g = sym (f refl)
one_test false true f g = g refl
one_test false false f g = refl

-- ---- bytes that are 0
zeros_all : (n at : ℕ) (l : List ℕ) → zeros_at n at l ≡ true → (i : ℕ) → at ≤ i → i < at + n → get_or l i 0 ≡ 0
unfolding zeros_at
zeros_all zero at l h i a b = absurd (omega arith)
zeros_all (suc n) at l h i a b = go (λ k. zeros_all n at l split.0 i a k) (below i (at + n))
  where
    split : (zeros_at n at l ≡ true) × (eqb (get_or l (at + n) 0) 0 ≡ true)
    split = both (zeros_at n at l) (eqb (get_or l (at + n) 0) 0) h

    go : (i < at + n → get_or l i 0 ≡ 0) → (i < at + n) ⊎ (at + n ≤ i) → get_or l i 0 ≡ 0
    go f (inl k) = f k
    go f (inr k) = ap (λ (j : ℕ). get_or l j 0) (omega arith) ∙ eqb-true (get_or l (at + n) 0) 0 split.1

all_zeros : (n at : ℕ) (l : List ℕ) → ((i : ℕ) → at ≤ i → i < at + n → get_or l i 0 ≡ 0) → zeros_at n at l ≡ true
unfolding zeros_at
all_zeros zero at l f = refl
all_zeros (suc n) at l f =
    ap (λ (t : Bool). t && eqb (get_or l (at + n) 0) 0) (all_zeros n at l (λ i a b. f i a (omega arith)))
    ∙ eq-eqb (get_or l (at + n) 0) 0 (f (at + n) (omega arith) (omega arith))

-- ---- the gaps of a tidy layout have the bytes that stand in none of its places
module _ (l : List ℕ) (k : ℕ) where
  gaps_zero : (ps : List Place) (from : ℕ) → T (tidy from k ps) → zeros_in (gaps from k ps) l ≡ true → (i : ℕ) → from ≤ i → i < k → T (unused ps i) → get_or l i 0 ≡ 0
  gaps_zero [] from t z i a b u = zeros_all (k - from) from l (both (zeros_at (k - from) from l) true z).0 i a (omega arith)
  gaps_zero (p ∷ ps) from t z i a b u =
      go (λ j. gaps_zero ps (p.at + p.bytes) (and_r (leb from p.at) (tidy (p.at + p.bytes) k ps) t) split.1 i j b (and_r (ltb i p.at || leb (p.at + p.bytes) i) (unused ps i) u))
      (apart p.at p.bytes i (and_l (ltb i p.at || leb (p.at + p.bytes) i) (unused ps i) u))
    where
      split : (zeros_at (p.at - from) from l ≡ true) × (zeros_in (gaps (p.at + p.bytes) k ps) l ≡ true)
      split = both (zeros_at (p.at - from) from l) (zeros_in (gaps (p.at + p.bytes) k ps) l) z

      go : (p.at + p.bytes ≤ i → get_or l i 0 ≡ 0) → (i < p.at) ⊎ (p.at + p.bytes ≤ i) → get_or l i 0 ≡ 0
      go f (inl j) = zeros_all (p.at - from) from l split.0 i a (omega arith)
      go f (inr j) = f j

  -- a byte before all places is in none of them
  before_all : (ps : List Place) (from : ℕ) → T (tidy from k ps) → (i : ℕ) → i < from → T (unused ps i)
  before_all [] from t i h = tt
  before_all (p ∷ ps) from t i h =
      let a = leb→le from p.at (and_l (leb from p.at) (tidy (p.at + p.bytes) k ps) t) in
      let j : i < p.at = omega arith in
      and_i (ltb i p.at || leb (p.at + p.bytes) i) (unused ps i) (or_l (ltb i p.at) (leb (p.at + p.bytes) i) (lt→ltb i p.at j))
      (before_all ps (p.at + p.bytes) (and_r (leb from p.at) (tidy (p.at + p.bytes) k ps) t) i (omega arith))

  zero_gaps : (ps : List Place) (from : ℕ) → T (tidy from k ps) → ((i : ℕ) → from ≤ i → T (unused ps i) → get_or l i 0 ≡ 0) → zeros_in (gaps from k ps) l ≡ true
  zero_gaps [] from t f = ap (λ (b : Bool). b && true) (all_zeros (k - from) from l (λ i a b. f i a tt))
  zero_gaps (p ∷ ps) from t f =
      let a = leb→le from p.at (and_l (leb from p.at) (tidy (p.at + p.bytes) k ps) t) in
      let r = and_r (leb from p.at) (tidy (p.at + p.bytes) k ps) t in
      ap (λ (b : Bool). b && zeros_in (gaps (p.at + p.bytes) k ps) l)
      (all_zeros (p.at - from) from l (λ i b c.
      let j : i < p.at = omega arith in
      f i b (and_i (ltb i p.at || leb (p.at + p.bytes) i) (unused ps i) (or_l (ltb i p.at) (leb (p.at + p.bytes) i) (lt→ltb i p.at j))
      (before_all ps (p.at + p.bytes) r i (omega arith)))))
      ∙ zero_gaps ps (p.at + p.bytes) r (λ i b u.
      f i (omega arith) (and_i (ltb i p.at || leb (p.at + p.bytes) i) (unused ps i) (or_r (ltb i p.at) (leb (p.at + p.bytes) i) (le→leb (p.at + p.bytes) i b)) u))

-- ---- buffers that agree outside the places are one, once the places are written
same_list : (a b : List ℕ) → length a ≡ length b → ((i : ℕ) → get_or a i 0 ≡ get_or b i 0) → a ≡ b
same_list [] [] e f = refl
same_list [] (y ∷ b) e f = absurd (omega (arith, e))
same_list (x ∷ a) [] e f = absurd (omega (arith, e))
same_list (x ∷ a) (y ∷ b) e f = λ i. f 0 i ∷ same_list a b (omega (arith, e)) (λ j. f (suc j)) i

set_same : (a b : List ℕ) (j x : ℕ) → length a ≡ length b → get_or (set a j x) j 0 ≡ get_or (set b j x) j 0
set_same [] [] j x e = refl
set_same [] (y ∷ b) j x e = absurd (omega (arith, e))
set_same (y ∷ a) [] j x e = absurd (omega (arith, e))
set_same (y ∷ a) (z ∷ b) zero x e = refl
set_same (y ∷ a) (z ∷ b) (suc j) x e = set_same a b j x (omega (arith, e))

-- a byte of a number is the number's, whatever it is written over
put_inside : (n v : ℕ) (a b : List ℕ) (at i : ℕ) → length a ≡ length b → at ≤ i → i < at + n → get_or (put_be n v a at) i 0 ≡ get_or (put_be n v b at) i 0
unfolding put_be
put_inside zero v a b at i e h k = absurd (omega arith)
put_inside (suc n) v a b at i e h k = go (λ j. put_inside n (v / 256) a b at i e h j) (eqb i (at + n)) refl
  where
    p : List ℕ
    p = put_be n (v / 256) a at

    q : List ℕ
    q = put_be n (v / 256) b at

    lengths : length p ≡ length q
    lengths = put_length n (v / 256) a at ∙ e ∙ sym (put_length n (v / 256) b at)

    go : (i < at + n → get_or p i 0 ≡ get_or q i 0) → (t : Bool) → eqb i (at + n) ≡ t → get_or (set p (at + n) (v % 256)) i 0 ≡ get_or (set q (at + n) (v % 256)) i 0
    go f true t =
        ap (λ (j : ℕ). get_or (set p (at + n) (v % 256)) j 0) (eqb-true i (at + n) t) ∙ set_same p q (at + n) (v % 256) lengths
        ∙ ap (λ (j : ℕ). get_or (set q (at + n) (v % 256)) j 0) (sym (eqb-true i (at + n) t))
    go f false t =
        let other = eqb-false i (at + n) t in
        get_or-set_other p (at + n) i (v % 256) 0 other
        ∙ f (omega (arith, other))
        ∙ sym (get_or-set_other q (at + n) i (v % 256) 0 other)

put_agree : (ps : List Place) (vs a b : List ℕ) → Numbers ps vs → length a ≡ length b → ((i : ℕ) → T (unused ps i) → get_or a i 0 ≡ get_or b i 0) → put_all ps vs a ≡ put_all ps vs b
unfolding put_all
put_agree [] [] a b n e f = same_list a b e (λ i. f i tt)
put_agree [] (v ∷ vs) a b n e f = absurd n
put_agree (p ∷ ps) [] a b n e f = absurd n
put_agree (p ∷ ps) (v ∷ vs) a b n e f =
    put_agree ps vs (put_be p.bytes v a p.at) (put_be p.bytes v b p.at) n.1
    (put_length p.bytes v a p.at ∙ e ∙ sym (put_length p.bytes v b p.at))
    (λ i u. go i u (ltb i p.at || leb (p.at + p.bytes) i) refl)
  where
    inside : (i : ℕ) → (ltb i p.at || leb (p.at + p.bytes) i) ≡ false → (p.at ≤ i) × (i < p.at + p.bytes)
    inside i t = (ltb-false i p.at neither.0, leb-false (p.at + p.bytes) i neither.1)
      where
        neither : (ltb i p.at ≡ false) × (leb (p.at + p.bytes) i ≡ false)
        neither = none (ltb i p.at) (leb (p.at + p.bytes) i) t

    go : (i : ℕ) → T (unused ps i) → (t : Bool) → (ltb i p.at || leb (p.at + p.bytes) i) ≡ t → get_or (put_be p.bytes v a p.at) i 0 ≡ get_or (put_be p.bytes v b p.at) i 0
    go i u true t =
        let beside : T (ltb i p.at || leb (p.at + p.bytes) i) = subst T (sym t) tt in
        put_beside p.bytes v a p.at i beside ∙ f i (and_i (ltb i p.at || leb (p.at + p.bytes) i) (unused ps i) beside u) ∙ sym (put_beside p.bytes v b p.at i beside)
    go i u false t = put_inside p.bytes v a b p.at i e (inside i t).0 (inside i t).1

-- ---- the law
module _ (ps : List Place) (vs l : List ℕ) (k : ℕ) (t : T (tidy 0 k ps)) (n : length l ≡ k) (b : Bytes l) (f : Numbers ps vs) where
  none_used : (i : ℕ) → ◌≡◌ {A = ℕ} (get_or (replicate k 0) i 0) 0
  none_used i = pad_get [] k i

  there : same_bytes (put_all ps vs (replicate k 0)) l ≡ true → same_bytes vs (get_all ps l) && zeros_in (gaps 0 k ps) l ≡ true
  there s =
      let e = same_yes (put_all ps vs (replicate k 0)) l s in
      let read : vs ≡ get_all ps l = sym (get_put_all ps vs (replicate k 0) 0 k t (omega (arith, length-replicate {A = ℕ} k 0)) f) ∙ ap (get_all ps) e in
      ap (λ (x : List ℕ). same_bytes vs x && zeros_in (gaps 0 k ps) l) (sym read)
      ∙ ap (λ (x : Bool). x && zeros_in (gaps 0 k ps) l) (same_self vs)
      ∙ zero_gaps l k ps 0 t (λ i h u. sym (ap (λ (x : List ℕ). get_or x i 0) e) ∙ put_unused ps vs (replicate k 0) i u ∙ none_used i)

  back : same_bytes vs (get_all ps l) && zeros_in (gaps 0 k ps) l ≡ true → same_bytes (put_all ps vs (replicate k 0)) l ≡ true
  back s =
      let h = both (same_bytes vs (get_all ps l)) (zeros_in (gaps 0 k ps) l) s in
      let read : vs ≡ get_all ps l = same_yes vs (get_all ps l) h.0 in
      let e : put_all ps vs (replicate k 0) ≡ l =
      put_agree ps vs (replicate k 0) l f (length-replicate {A = ℕ} k 0 ∙ sym n) (λ i u. none_used i ∙ sym (zero i u h.1))
      ∙ ap (λ (x : List ℕ). put_all ps x l) read ∙ put_get_all ps l b in
      ap (λ (x : List ℕ). same_bytes x l) e ∙ same_self l
    where
      zero : (i : ℕ) → T (unused ps i) → zeros_in (gaps 0 k ps) l ≡ true → get_or l i 0 ≡ 0
      zero i u z = go (below i k)
        where
          go : (i < k) ⊎ (k ≤ i) → get_or l i 0 ≡ 0
          go (inl j) = gaps_zero l k ps 0 t z i (omega arith) j u
          go (inr j) = get_or-eq_default l 0 (omega (arith, n))

  pub again : same_bytes (put_all ps vs (replicate k 0)) l ≡ same_bytes vs (get_all ps l) && zeros_in (gaps 0 k ps) l
  again = one_test (same_bytes (put_all ps vs (replicate k 0)) l) (same_bytes vs (get_all ps l) && zeros_in (gaps 0 k ps) l) there back
