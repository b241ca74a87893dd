-- The run of digits that a part of a line begins with: how far it goes, what its bytes are, and what number its first bytes say.
use Prim.Native.Nat.{ℕ, zero, suc, ◌+◌, ◌-◌, ◌*◌, ◌^◌, ◌≤◌, ◌<◌, zero-le}
use mathlib.Core.Path.{◌≡◌, refl}
use mathlib.Core.List.{List, [], ◌∷◌, ◌++◌}
use mathlib.Core.Bool.{Bool, true, false, cond}
use native.Mathlib.Numerals.{add-one}
use native.Mathlib.Omega.{arith}
use lib.Dec.{lit<}
use lib.ListN.{length, get_or, take}
use lib.Seq.{take-suc}
use Rattle.outline.specs.Lines.{is_digit}
use Rattle.outline.specs.Log.{digit_run, value_from}
use Rattle.commands.specs.DigitLaws.{digit_range, next_digit, room}

-- ---- the count of them
pub run_length : (s : List ℕ) → digit_run s ≤ length s
run_length [] = zero-le
run_length (x ∷ s) = go (is_digit x) (run_length s)
  where
    go : (t : Bool) → digit_run s ≤ length s → cond t (suc (digit_run s)) 0 ≤ suc (length s)
    go true h = omega arith
    go false h = zero-le

-- ---- their bytes
digit_at : (s : List ℕ) (i : ℕ) → i < digit_run s → is_digit (get_or s i 0) ≡ true
digit_at [] i h = absurd (omega arith)
digit_at (x ∷ s) zero h = go (is_digit x) refl h
  where
    go : (t : Bool) → is_digit x ≡ t → 0 < cond t (suc (digit_run s)) 0 → is_digit x ≡ true
    go true e k = e
    go false e k = absurd (omega arith)
digit_at (x ∷ s) (suc i) h = digit_at s i (go (is_digit x) h)
  where
    go : (t : Bool) → suc i < cond t (suc (digit_run s)) 0 → i < digit_run s
    go true k = omega arith
    go false k = absurd (omega arith)

pub byte_range : (s : List ℕ) (i : ℕ) → i < digit_run s → (48 ≤ get_or s i 0) × (get_or s i 0 ≤ 57)
byte_range s i h = digit_range (get_or s i 0) (digit_at s i h)

-- ---- their number
one_more_lem : (v : ℕ) (s : List ℕ) (x : ℕ) → value_from v (s ++ (x ∷ [])) ≡ value_from v s * 10 + (x - 48)
one_more_lem v [] x = refl
one_more_lem v (y ∷ s) x = one_more_lem (v * 10 + (y - 48)) s x

pub value_more : (s : List ℕ) (i : ℕ) → i < length s → value_from 0 (take (i + 1) s) ≡ value_from 0 (take i s) * 10 + (get_or s i 0 - 48)
value_more s i h = rw (add-one, take-suc s i 0 h, one_more_lem)

-- n digits say less than 10 ^ n
value_below : (s : List ℕ) (n : ℕ) → n ≤ digit_run s → value_from 0 (take n s) < 10 ^ n
value_below s zero h = lit< tt
value_below s (suc n) h =
    let r = byte_range s n (omega arith) in
    let k : get_or s n 0 - 48 < 10 = omega arith in
    rw (take-suc s n 0 (omega (arith, run_length s)), one_more_lem) (next_digit n (value_below s n (omega arith)) k)

pub value_limit : (s : List ℕ) (n k : ℕ) → n ≤ digit_run s → n ≤ k → value_from 0 (take n s) < 10 ^ k
value_limit s n k h l = room n k (value_below s n h) l
