-- What the test of a digit tells of its byte, and how large the number of so many digits can be. Assumes nothing.
use Rattle.std.specs.Prelude.{ℕ, suc, ◌+◌, ◌*◌, ◌^◌, ◌≤◌, ◌<◌, ◌≡◌, true, leb}
use Rattle.std.proofs.Common.{pow-suc, lt_of_lt_of_le, leb-true, lit<}
use Rattle.std.proofs.Math.Nat.{pow-le-pow_right}
use Rattle.std.proofs.Math.Arith.{digits_lt}
use Rattle.whole.specs.Chains.{and_left, and_right}
use Rattle.outline.specs.Lines.{is_digit}

-- 48 may be taken from the byte, and 0 to 9 is left
pub digit_range : (b : ℕ) → is_digit b ≡ true → (48 ≤ b) × (b ≤ 57)
digit_range b e = (leb-true 48 b (and_left (leb 48 b) (leb b 57) e), leb-true b 57 (and_right (leb 48 b) (leb b 57) e))

-- i digits say less than 10 ^ i, and so with one digit more
pub next_digit : (i : ℕ) {v d : ℕ} → v < 10 ^ i → d < 10 → v * 10 + d < 10 ^ suc i
next_digit i p q = rw pow-suc (digits_lt p q)

-- and so where there is room for more digits than there are
pub room : (i k : ℕ) {v : ℕ} → v < 10 ^ i → i ≤ k → v < 10 ^ k
room i k p l = lt_of_lt_of_le p (pow-le-pow_right (lit< tt) {i = i} {j = k} l)
