-- The end of a line lies within the buffer.
use Rattle.std.specs.Prelude.{Result, Ok, Err}
use Prim.Native.Nat.{ℕ, suc, ◌+◌, ◌≤◌, zero-le}
use mathlib.Core.Path.{◌≡◌}
use mathlib.Core.List.{List, [], ◌∷◌}
use mathlib.Core.Bool.{Bool, true, false, cond}
use native.Mathlib.Nat.{suc-add, add-suc}
use native.Mathlib.Omega.{arith}
use lib.ListN.{length, get_or}
use lib.Dec.{leb}
use Rattle.outline.specs.Limits.{line_limit}
use Rattle.outline.specs.Lines.{is_cr_lf, end_at, line_end_from, line_end_of, length_at}
use Rattle.types.specs.declared.lines.NoEnd.{NoEnd}
use Rattle.types.specs.declared.lines.NoEnd.TheVariants.{Beyond}

either : (b : Bool) (e f : Result ℕ NoEnd) (n : ℕ) → length_at e ≤ n → length_at f ≤ n → length_at (cond b e f) ≤ n
either true e f n p q = p
either false e f n p q = q

from : (s : List ℕ) (n : ℕ) → length_at (line_end_from n s) ≤ n + length s
from [] n = zero-le
from (x ∷ s) n =
    either (is_cr_lf x (get_or s 0 0)) (end_at n) (line_end_from (suc n) s) (n + suc (length s))
    (either (leb n line_limit) (Ok n) (Err Beyond) (n + suc (length s)) (omega arith) zero-le)
    (rw (add-suc, ← suc-add) (from s (suc n)))

pub within : (s : List ℕ) → length_at (line_end_of s) ≤ length s
unfolding line_end_of
within s = omega (arith, from s 0)

-- the length of a line whose end was found
pub ended : (s : List ℕ) (n : ℕ) → Ok n ≡ line_end_of s → n ≤ length s
ended s n e = rw (← e) at (within s)
