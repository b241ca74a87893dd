-- A request, cut to its limit.
use Prim.Native.Nat.{ℕ, ◌≤◌}
use mathlib.Core.Path.{◌≡◌}
use mathlib.Core.List.{List}
use native.Mathlib.Omega.{arith}
use lib.ListN.{length, take, length-take}
use Rattle.outline.specs.Limits.{request_limit}

-- what is cut to the limit is no longer than it
pub cut : (s r : List ℕ) → r ≡ take request_limit s → length r ≤ request_limit
cut s r e = rw (e, length-take request_limit s) (omega arith)
