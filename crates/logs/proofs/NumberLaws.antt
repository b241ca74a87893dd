-- The number at a place, by the place where its digits begin and the count of them.
use Rattle.std.specs.Prelude.{Option, Some, None}
use Prim.Native.Nat.{ℕ, zero, suc, ◌+◌, ◌≤◌, ◌<◌}
use mathlib.Core.Path.{◌≡◌, sym, subst, ◌∙◌}
use mathlib.Core.List.{List, [], ◌∷◌}
use mathlib.Core.Bool.{true, cond, ◌&&◌}
use native.Mathlib.Omega.{arith}
use borrow.Author.Tests.{le-leb}
use lib.Dec.{T, leb}
use lib.IntN.{ℤ}
use lib.ListN.{length, take, drop}
use Rattle.outline.specs.Limits.{number_digits}
use Rattle.outline.specs.Log.{is_minus, digits_from, digit_run, value_from, signed_of, number_at}
use Rattle.types.specs.declared.log.LogNumber.{LogNumber}

-- a minus stands within the line, since what is read behind it is none
pub minus_within : (line : List ℕ) (at : ℕ) → is_minus line at ≡ true → at < length line
minus_within [] at h = absurd (subst T (sym h) tt)
minus_within (x ∷ line) zero h = omega arith
minus_within (x ∷ line) (suc at) h = omega (arith, minus_within line at h)

-- the digits begin at f; s is what stands from there on, and n counts the digits of it
module _ (line : List ℕ) (at f n : ℕ) (s : List ℕ) (e : f ≡ digits_from line at) (d : s ≡ drop f line) (k : n ≡ digit_run s) where
  abbrev read : Option LogNumber
  read = Some (record { value = signed_of (is_minus line at) (value_from 0 (take n s)); end = f + n })

  split : number_at line at ≡ cond (leb 1 n && leb n number_digits) read None
  unfolding number_at
  split = rw (k, d, e)

  pub number_read : (z : ℤ) → z ≡ signed_of (is_minus line at) (value_from 0 (take n s)) → 1 ≤ n → n ≤ number_digits → Some (record { value = z; end = f + n }) ≡ number_at line at
  number_read z q h l = sym (split ∙ simp (le-leb 1 n h, le-leb n number_digits l, q))
