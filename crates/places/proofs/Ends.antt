-- Bytes past the end of a buffer read as 0, so that none of them is other than 0. Assumes nothing.
use mathlib.Core.Path.{◌≡◌, refl, sym, ap, ◌∙◌}
use mathlib.Core.Bool.{Bool, true, false, ◌&&◌}
use mathlib.Core.List.{List, [], ◌∷◌}
use Prim.Native.Nat.{ℕ, zero, suc, ◌+◌, ◌-◌, ◌≤◌, ◌<◌, min}
use native.Mathlib.Omega.{arith}
use lib.Dec.{eqb}
use lib.ListN.{length, get_or, take, drop, get_or-eq_default}
use Rattle.std.specs.List.{fold}
use Rattle.std.proofs.Math.Seq.{take-suc}
use Rattle.std.proofs.lemmas.List.Sums.{fold-append}
use Rattle.std.proofs.Common.{length-drop}
use Rattle.std.proofs.lemmas.List.{get_or-drop}
use Rattle.places.specs.Places.{zeros_at}

and_true : (b : Bool) → b && true ≡ b
and_true true = refl
and_true false = refl

pub zeros_past : (l : List ℕ) (at m k : ℕ) → length l ≤ at + m → zeros_at (k + m) at l ≡ zeros_at m at l
unfolding zeros_at
zeros_past l at m zero h =
    let none : zero + m ≡ m = omega arith in
    ap (λ (n : ℕ). zeros_at n at l) none
zeros_past l at m (suc k) h =
    let more : suc k + m ≡ suc (k + m) = omega arith in
    ap (λ (n : ℕ). zeros_at n at l) more
    ∙ (λ i. zeros_past l at m k h i && eqb (get_or-eq_default l 0 {n = at + (k + m)} (omega (arith, h)) i) 0)
    ∙ and_true (zeros_at m at l)

pub nothing_there : (l : List ℕ) (at n : ℕ) → length l ≤ at → true ≡ zeros_at n at l
unfolding zeros_at
nothing_there l at n h =
    let all : n + 0 ≡ n = omega arith in
    sym (zeros_past l at 0 n (omega (arith, h))) ∙ ap (λ (i : ℕ). zeros_at i at l) all

-- those that are there are enough to look at
pub zeros_within : (l : List ℕ) (at n m : ℕ) → at ≤ length l → m ≡ min n (length l - at) → zeros_at m at l ≡ zeros_at n at l
zeros_within l at n m h e = go (n - m) (omega (arith, e))
  where
    go : (k : ℕ) → n ≡ k + m → zeros_at m at l ≡ zeros_at n at l
    go zero p =
        let all : m ≡ n = omega (arith, p) in
        ap (λ (i : ℕ). zeros_at i at l) all
    go (suc k) p = sym (ap (λ (i : ℕ). zeros_at i at l) p ∙ zeros_past l at m (suc k) (omega (arith, e, h, p)))

-- zeros looked at one by one, from the first on
zeros_fold : (n at : ℕ) (l : List ℕ) → at + n ≤ length l → fold (λ zero b. zero && eqb b 0) true (take n (drop at l)) ≡ zeros_at n at l
unfolding zeros_at
zeros_fold zero at l h = refl
zeros_fold (suc n) at l h =
    let k : n < length (drop at l) = omega (arith, length-drop at l) in
    ap (fold (λ zero b. zero && eqb b 0) true) (take-suc (drop at l) n 0 k)
    ∙ fold-append (λ zero b. zero && eqb b 0) true (take n (drop at l)) (get_or (drop at l) n 0 ∷ [])
    ∙ (λ i. zeros_fold n at l (omega arith) i && eqb (get_or-drop at l n 0 i) 0)

-- and of those only the ones that are there: from `at` to the end, or to the buffer's
pub zeros_there : (l part : List ℕ) (at n to : ℕ) → part ≡ take (to - at) (drop at l) → to ≡ min (at + n) (length l) → at ≤ to
    → fold (λ zero b. zero && eqb b 0) true part ≡ zeros_at n at l
zeros_there l part at n to p e h =
    ap (fold (λ zero b. zero && eqb b 0) true) p ∙ zeros_fold (to - at) at l (omega (arith, e)) ∙ zeros_within l at n (to - at) (omega (arith, e)) (omega (arith, e))
