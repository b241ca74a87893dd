-- A number in decimal: how many digits it has, and that they are its last digits, so many. Assumes nothing.
use Prim.Native.Nat.{ℕ, zero, suc, ◌/◌, ◌^◌, ◌≤◌, ◌<◌, zero-le}
use mathlib.Core.Path.{◌≡◌, refl, sym, ap}
use mathlib.Core.List.{List, [], ◌∷◌, ◌++◌}
use mathlib.Core.Bool.{Bool, true, false, cond}
use native.Mathlib.Nat.{div-lt_iff_lt-mul, pow-suc}
use native.Mathlib.Numerals.{add-one}
use native.Mathlib.Omega.{arith}
use borrow.Author.Tests.{lt-ltb, le-ltb}
use lib.Dec.{ltb, lit<}
use lib.ListN.{length, length-append}
use Rattle.outline.specs.Lines.{units_digit}
use Rattle.outline.specs.Replies.{digits_of}
use Rattle.outline.specs.Ticket.{decimal_in, decimal_text}

-- ---- one digit more, where k + 1 of them are allowed
pub digits_end : (m k n : ℕ) → m ≡ suc k → n < 10 → length (decimal_in m n) ≡ 1
unfolding decimal_in
digits_end m k n e h = rw e (simp (lt-ltb n 10 h))

pub digits_go_on : (m k n : ℕ) → m ≡ suc k → 10 ≤ n → length (decimal_in m n) ≡ suc (length (decimal_in k (n / 10)))
unfolding decimal_in
digits_go_on m k n e h = rw e (simp (le-ltb n 10 h, length-append, add-one))

-- a number of m digits at most: its tenth has one less, and one of 10 or more has two at least
pub tenth_below : (m k n : ℕ) → m ≡ suc k → n < 10 ^ m → n / 10 < 10 ^ k
tenth_below m k n e h = (div-lt_iff_lt-mul {k = 10} {x = n} {y = 10 ^ k} (lit< tt)).1 (rw (e, pow-suc) at h)

pub two_allowed : (m n : ℕ) → n < 10 ^ m → 10 ≤ n → 2 ≤ m
two_allowed zero n h k = absurd (omega arith)
two_allowed (suc zero) n h k = absurd (omega arith)
two_allowed (suc (suc m)) n h k = omega arith

-- ---- all of them
all_digits : (k n : ℕ) → decimal_in k n ≡ digits_of (length (decimal_in k n)) n
unfolding decimal_in digits_of
all_digits zero n = refl
all_digits (suc k) n = go (ltb n 10) (all_digits k (n / 10))
  where
    go : (t : Bool) → decimal_in k (n / 10) ≡ digits_of (length (decimal_in k (n / 10))) (n / 10) → cond t [] (decimal_in k (n / 10)) ++ (units_digit n ∷ []) ≡ digits_of (length (cond t [] (decimal_in k (n / 10)) ++ (units_digit n ∷ []))) n
    go true h = refl
    go false h = rw (length-append, add-one) (ap (λ (l : List ℕ). l ++ (units_digit n ∷ [])) h)

pub decimal_digits_lem : (n : ℕ) → digits_of (length (decimal_text n)) n ≡ decimal_text n
unfolding decimal_text
decimal_digits_lem n = sym (all_digits 20 n)

few_digits : (k n : ℕ) → length (decimal_in k n) ≤ k
unfolding decimal_in
few_digits zero n = zero-le
few_digits (suc k) n = go (ltb n 10) (few_digits k (n / 10))
  where
    go : (t : Bool) → length (decimal_in k (n / 10)) ≤ k → length (cond t [] (decimal_in k (n / 10)) ++ (units_digit n ∷ [])) ≤ suc k
    go true h = omega arith
    go false h = rw length-append (omega arith)

pub decimal_short : (n : ℕ) → length (decimal_text n) ≤ 20
unfolding decimal_text
decimal_short n = few_digits 20 n

-- there is one at least
pub decimal_some : (n : ℕ) → 1 ≤ length (decimal_text n)
unfolding decimal_text decimal_in
decimal_some n = simp (length-append) (omega arith)
