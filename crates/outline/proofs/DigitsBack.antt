-- Digits that were read, written again: six bytes that read as n are the six digits of n, so that the seven fields of SS are the 42
-- digits of RS. Assumes nothing.
use Rattle.std.specs.Prelude.{Option, None, Some, ℕ}
use Prim.Native.Nat.{ℕ, suc, ◌+◌, ◌*◌, ◌-◌, ◌/◌, ◌%◌, ◌≤◌}
use native.Mathlib.Nat.{add-zero, add-suc, suc-add, zero-add}
use native.Mathlib.Omega.{arith}
use mathlib.Core.Path.{◌≡◌, refl, sym, ap, ◌∙◌}
use mathlib.Core.Bool.{Bool, true, false, cond}
use mathlib.Core.List.{List, [], ◌∷◌, ◌++◌, append-nil}
use lib.Dec.{leb}
use lib.ListN.{length, take, drop, length-drop}
use lib.Seq.{append_snoc, length-take-le, take-add, drop-drop}
use borrow.Author.Tests.{leb-true}
use Rattle.types.specs.declared.stages.Setpoints.{Setpoints}
use Rattle.outline.specs.Lines.{is_digit, number_from, field_of, seven_of, fields_of}
use Rattle.outline.specs.Replies.{digits_of, points_text}
use Rattle.whole.specs.Chains.{and_left, and_right}

-- one digit more behind v
digit_on : (k v x : ℕ) → is_digit x ≡ true → digits_of (suc k) (v * 10 + (x - 48)) ≡ digits_of k v ++ (x ∷ [])
unfolding digits_of
digit_on k v x h =
    let low : 48 ≤ x = leb-true 48 x (and_left (leb 48 x) (leb x 57) h) in
    let high : x ≤ 57 = leb-true x 57 (and_right (leb 48 x) (leb x 57) h) in
    let front : (v * 10 + (x - 48)) / 10 ≡ v = omega arith in
    let last : 48 + (v * 10 + (x - 48)) % 10 ≡ x = omega arith in
    rw (front, last)

-- v was read, and then xs: the number's digits are v's and xs
digits_on : (xs : List ℕ) (k v n : ℕ) → number_from v xs ≡ Some n → digits_of (k + length xs) n ≡ digits_of k v ++ xs
digits_on [] k v n e =
    let same : v ≡ n = cc in
    rw (add-zero, same) (sym (append-nil (digits_of k n)))
digits_on (x ∷ xs) k v n e = go (digits_on xs (suc k) (v * 10 + (x - 48)) n) (is_digit x) refl e
  where
    go : (number_from (v * 10 + (x - 48)) xs ≡ Some n → digits_of (suc k + length xs) n ≡ digits_of (suc k) (v * 10 + (x - 48)) ++ xs)
        → (t : Bool) → is_digit x ≡ t → cond t (number_from (v * 10 + (x - 48)) xs) None ≡ Some n → digits_of (k + suc (length xs)) n ≡ digits_of k v ++ (x ∷ xs)
    go rest true d e = rw (add-suc, ← suc-add) (rest e ∙ rw (digit_on k v x d) (append_snoc (digits_of k v) x xs))
    go rest false d e = let z : ◌≡◌ {A = ℕ} 0 1 = cc in absurd (omega arith)

digits_back : (xs : List ℕ) (k n : ℕ) → length xs ≡ k → number_from 0 xs ≡ Some n → digits_of k n ≡ xs
unfolding digits_of
digits_back xs k n l e = rw (← l, ← zero-add (length xs)) (digits_on xs 0 0 n e)

-- a field that read as n is n's six digits
field_back : (line : List ℕ) (at n : ℕ) → field_of line at ≡ Some n → digits_of 6 n ≡ take 6 (drop at line)
unfolding field_of
field_back line at n = go (leb (at + 6) (length line)) refl
  where
    go : (t : Bool) → leb (at + 6) (length line) ≡ t → cond t (number_from 0 (take 6 (drop at line))) None ≡ Some n → digits_of 6 n ≡ take 6 (drop at line)
    go true h e =
        let room : 6 ≤ length (drop at line) = rw length-drop (omega (arith, leb-true (at + 6) (length line) h)) in
        digits_back (take 6 (drop at line)) 6 n (length-take-le 6 (drop at line) room) e
    go false h e = let z : ◌≡◌ {A = ℕ} 0 1 = cc in absurd (omega arith)

-- seven fields that read as p: each read as its number
record Read (a b c d e f g : Option ℕ) (p : Setpoints) : Type 0 where
  target : a ≡ Some p.target
  fall : b ≡ Some p.fall
  preliminary : c ≡ Some p.preliminary
  optional : d ≡ Some p.optional
  over : e ≡ Some p.over
  under : f ≡ Some p.under
  near : g ≡ Some p.near

read : (a b c d e f g : Option ℕ) (p : Setpoints) → seven_of a b c d e f g ≡ Some p → Read a b c d e f g p
read (Some a) (Some b) (Some c) (Some d) (Some e) (Some f) (Some g) p h =
    let q : record { target = a; fall = b; preliminary = c; optional = d; over = e; under = f; near = g } ≡ p = cc in
    record {
      target = ap (λ (p : Setpoints). Some p.target) q;
      fall = ap (λ (p : Setpoints). Some p.fall) q;
      preliminary = ap (λ (p : Setpoints). Some p.preliminary) q;
      optional = ap (λ (p : Setpoints). Some p.optional) q;
      over = ap (λ (p : Setpoints). Some p.over) q;
      under = ap (λ (p : Setpoints). Some p.under) q;
      near = ap (λ (p : Setpoints). Some p.near) q;
    }
read (Some a) (Some b) (Some c) (Some d) (Some e) (Some f) None p h = let z : ◌≡◌ {A = ℕ} 0 1 = cc in absurd (omega arith)
read (Some a) (Some b) (Some c) (Some d) (Some e) None g p h = let z : ◌≡◌ {A = ℕ} 0 1 = cc in absurd (omega arith)
read (Some a) (Some b) (Some c) (Some d) None f g p h = let z : ◌≡◌ {A = ℕ} 0 1 = cc in absurd (omega arith)
read (Some a) (Some b) (Some c) None e f g p h = let z : ◌≡◌ {A = ℕ} 0 1 = cc in absurd (omega arith)
read (Some a) (Some b) None d e f g p h = let z : ◌≡◌ {A = ℕ} 0 1 = cc in absurd (omega arith)
read (Some a) None c d e f g p h = let z : ◌≡◌ {A = ℕ} 0 1 = cc in absurd (omega arith)
read None b c d e f g p h = let z : ◌≡◌ {A = ℕ} 0 1 = cc in absurd (omega arith)

-- six bytes more of a line
six_on : (line xs ys : List ℕ) (at n : ℕ) → xs ≡ take n (drop at line) → ys ≡ take 6 (drop (at + n) line) → xs ++ ys ≡ take (n + 6) (drop at line)
six_on line xs ys at n p q = rw (p, q, take-add, drop-drop)

pub fields_back : (line : List ℕ) (at : ℕ) (p : Setpoints) → fields_of line at ≡ Some p → points_text p ≡ take 42 (drop at line)
unfolding fields_of points_text
fields_back line at p e =
    let r = read (field_of line at) (field_of line (at + 6)) (field_of line (at + 12)) (field_of line (at + 18)) (field_of line (at + 24)) (field_of line (at + 30)) (field_of line (at + 36)) p e in
    six_on line _ _ at 36
    (six_on line _ _ at 30
    (six_on line _ _ at 24
    (six_on line _ _ at 18
    (six_on line _ _ at 12
    (six_on line _ _ at 6 (field_back line at p.target r.target) (field_back line (at + 6) p.fall r.fall))
    (field_back line (at + 12) p.preliminary r.preliminary))
    (field_back line (at + 18) p.optional r.optional))
    (field_back line (at + 24) p.over r.over))
    (field_back line (at + 30) p.under r.under))
    (field_back line (at + 36) p.near r.near)
