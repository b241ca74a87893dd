-- What stands behind a count is judged by itself as it is in its line. Assumes nothing.
use Prim.Native.Nat.{ℕ, ◌+◌, ◌-◌, ◌≤◌, ◌<◌}
use native.Mathlib.Nat.{add-zero}
use native.Mathlib.Omega.{arith}
use mathlib.Core.Path.{◌≡◌, refl, sym, ap, ◌∙◌}
use mathlib.Core.List.{List}
use mathlib.Core.Bool.{Bool, true, false}
use borrow.Author.Tests.{leb-true, leb-false, le-leb, lt-leb}
use lib.Dec.{leb, eqb}
use lib.ListN.{length, get_or, drop, length-drop}
use lib.Seq.{get_or-drop}
use Rattle.outline.specs.Limits.{request_limit}
use Rattle.outline.specs.Log.{is_rest}

leb_same : (a b c d : ℕ) → (a ≤ b → c ≤ d) → (b < a → d < c) → leb a b ≡ leb c d
leb_same a b c d h k = go (leb a b) refl
  where
    go : (t : Bool) → leb a b ≡ t → leb a b ≡ leb c d
    go true e = e ∙ sym (le-leb c d (h (leb-true a b e)))
    go false e = e ∙ sym (lt-leb c d (k (leb-false a b e)))

module _ (line : List ℕ) (at : ℕ) {r : List ℕ} (d : r ≡ drop at line) where
  pub byte_moved : (k : ℕ) → get_or r k 0 ≡ get_or line (at + k) 0
  byte_moved k = ap (λ (l : List ℕ). get_or l k 0) d ∙ get_or-drop at line k 0

  left : length r ≡ length line - at
  left = ap length d ∙ length-drop at line

  pub rest_moved : is_rest r 0 ≡ is_rest line at
  rest_moved =
      let space : eqb (get_or r 0 0) 32 ≡ eqb (get_or line at 0) 32 = ap (λ (b : ℕ). eqb b 32) (byte_moved 0 ∙ ap (λ (k : ℕ). get_or line k 0) (add-zero at)) in
      let enough : leb 4 (length r) ≡ leb (at + 4) (length line) = leb_same 4 (length r) (at + 4) (length line) (λ h. omega (arith, left)) (λ h. omega (arith, left)) in
      let few : leb (length r) (3 + request_limit) ≡ leb (length line) (at + 3 + request_limit) = leb_same (length r) (3 + request_limit) (length line) (at + 3 + request_limit) (λ h. omega (arith, left)) (λ h. omega (arith, left)) in
      rw (space, byte_moved 1, byte_moved 2, enough, few)
