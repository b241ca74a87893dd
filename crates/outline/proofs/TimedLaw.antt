-- A timed stage of n lasts max(n, 1) ticks: by the ticks that have passed. Assumes nothing.
use Rattle.std.specs.Prelude.{None, Some, ℕ}
use Prim.Native.Nat.{ℕ, zero, suc, max}
use native.Mathlib.Omega.{arith}
use mathlib.Core.Path.{◌≡◌, refl, ap, ◌∙◌}
use mathlib.Core.Bool.{Bool, true, false, cond}
use lib.Dec.{leb, ltb}
use borrow.Author.Tests.{ltb-false, leb-true, leb-false, lt-ltb, le-ltb}
use Rattle.outline.specs.Stages.{wait_of}
use Rattle.outline.specs.Owed.{one_more, TimedLaw}

-- one tick more, still in the stage or past it
step : (n j : ℕ) (here : Bool) → ltb j (max n 1) ≡ here → one_more n (cond here (Some j) None) ≡ cond (ltb (suc j) (max n 1)) (Some (suc j)) None
unfolding wait_of
step n j true e = go (leb n (suc j)) refl
  where
    go : (ends : Bool) → leb n (suc j) ≡ ends → cond ends None (Some (suc j)) ≡ cond (ltb (suc j) (max n 1)) (Some (suc j)) None
    go true h = simp (le-ltb (suc j) (max n 1) (omega (arith, leb-true n (suc j) h)))
    go false h = simp (lt-ltb (suc j) (max n 1) (omega (arith, leb-false n (suc j) h)))
step n j false e = simp (le-ltb (suc j) (max n 1) (omega (arith, ltb-false j (max n 1) e)))

pub timed_law : TimedLaw
timed_law n zero = simp (lt-ltb 0 (max n 1) (omega arith))
timed_law n (suc j) = ap (one_more n) (timed_law n j) ∙ step n j (ltb j (max n 1)) refl
