-- |raw| is at most 4,000,000: |count - Z| is, and 10·W/(S - Z) is at most 1. Assumes nothing.
use Rattle.std.specs.Prelude.{None, Some, ℤ, ℕ}
use Prim.Native.Nat.{ℕ, ◌*◌, ◌≤◌}
use native.Mathlib.Nat as N
use mathlib.Core.Path.{◌≡◌, ap, ◌∙◌}
use mathlib.Core.Bool.{true, false}
use lib.IntN.{ℤ, pos, nat_abs, ◌-ℤ◌, ◌*ℤ◌}
use borrow.Author.Tests.{leb-true, le-leb}
use Rattle.whole.specs.Ints.{ints, linear, ints2, abs_mul}
use Rattle.whole.specs.Nearest.{nearest_n, nearest_scaled, abs_nearest}
use Rattle.types.specs.declared.settings.Calibration.{Calibration}
use Rattle.outline.specs.Limits.{count_limit, raw_limit}
use Rattle.outline.specs.Weight.{good_count, tenths_of, raw_of}
use Rattle.outline.specs.Owed.{RawLaw}
use Rattle.outline.proofs.Opened.{Calibrated, calibrated}

near : (x y : ℤ) → nat_abs x ≤ count_limit → nat_abs y ≤ count_limit → nat_abs (x -ℤ y) ≤ raw_limit
near = ints2 _ (λ a a' b b' h k. simp ints (omega (linear, simp ints at h, simp ints at k)))

module _ (cal : Calibration) (c : Calibrated cal) (count : ℤ) where
  pub tenths_small : good_count count ≡ true → nat_abs (tenths_of cal count) ≤ raw_limit
  tenths_small h =
      N.le_trans (N.le_of_eq (abs_nearest ((count -ℤ cal.zero) *ℤ pos (10 * cal.weight)) cal.counts ∙ ap (λ (m : ℕ). nearest_n m cal.counts) (abs_mul (count -ℤ cal.zero) (10 * cal.weight))))
      (N.le_trans (nearest_scaled (nat_abs (count -ℤ cal.zero)) (10 * cal.weight) cal.counts c.span) (near count cal.zero (leb-true (nat_abs count) count_limit h) c.zero))

  good_raw : good_count count ≡ true → raw_of cal count ≡ Some (tenths_of cal count)
  unfolding raw_of
  good_raw h = simp (h, le-leb (nat_abs (tenths_of cal count)) raw_limit (tenths_small h))

  bad_raw : good_count count ≡ false → raw_of cal count ≡ None
  unfolding raw_of
  bad_raw h = simp h

pub raw_law : RawLaw
raw_law s a count =
    let c = calibrated s a in
    record { bad = bad_raw s.calibration c count; good = good_raw s.calibration c count; small = tenths_small s.calibration c count }
