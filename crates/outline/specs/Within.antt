-- A law for the crates above: what a test of a magnitude says of the number that it is the magnitude of. Assumes nothing.
use Rattle.std.proofs.Common.{le-leb, arith}
use Rattle.std.proofs.lemmas.Bool.{lt-leb}
use Rattle.std.specs.Prelude.{◌≡◌, true, false, ℕ, ◌<◌, ◌≤◌, ℤ, nat_abs}
use Rattle.outline.specs.Settings.{within}

pub inside : (n : ℕ) (x : ℤ) {m : ℕ} → m ≡ nat_abs x → m ≤ n → within n x ≡ true
inside n x e h = le-leb (nat_abs x) n (omega arith)

pub outside : (n : ℕ) (x : ℤ) {m : ℕ} → m ≡ nat_abs x → n < m → within n x ≡ false
outside n x e h = lt-leb (nat_abs x) n (omega arith)
