-- Where a line that can be read has its request: within the line, with 1 to 100 bytes behind that place. So no sum of places wraps.
use Prim.Native.Nat.{ℕ, ◌+◌, ◌≤◌}
use mathlib.Core.Path.{◌≡◌}
use mathlib.Core.List.{List, [], ◌∷◌}
use mathlib.Core.Bool.{true}
use native.Mathlib.Omega.{arith}
use borrow.Author.Tests.{leb-true}
use lib.Dec.{leb, eqb}
use lib.ListN.{length, get_or}
use Rattle.whole.specs.Chains.{links}
use Rattle.outline.specs.Limits.{request_limit}
use Rattle.outline.specs.Log.{is_contact, is_rest}

pub record Placed (line : List ℕ) (at : ℕ) : Type 0 where
  pub some : at + 1 ≤ length line
  pub few : length line ≤ at + request_limit

-- what stands behind a count has its request three bytes on
pub rest_placed : (line : List ℕ) (at : ℕ) → is_rest line at ≡ true → Placed line (at + 3)
rest_placed line at h =
    let l =
    links (eqb (get_or line at 0) 32)
    (is_contact (get_or line (at + 1) 0) ∷ eqb (get_or line (at + 2) 0) 32 ∷ leb (at + 4) (length line) ∷ leb (length line) (at + 3 + request_limit) ∷ [])
    h in
    let some = leb-true (at + 4) (length line) l.1.1.1.0 in
    record { some = omega arith; few = leb-true (length line) (at + 3 + request_limit) l.1.1.1.1.0 }
