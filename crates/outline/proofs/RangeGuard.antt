-- The guard on gross and net is never met: raw is within its limit, the zero within the zero range, the tare within the capacity, and
-- accepted settings bound the capacity, the zero range and the division. Assumes nothing.
use Rattle.std.specs.Prelude.{Option, None, Some, ℤ, ℕ}
use Prim.Native.Nat.{ℕ, ◌≤◌}
use native.Mathlib.Nat as N
use native.Mathlib.Omega.{arith}
use mathlib.Core.Path.{◌≡◌, refl, sym, ap, subst}
use mathlib.Core.Bool.{Bool, true, ◌||◌}
use mathlib.Core.List.{[], ◌∷◌}
use mathlib.Core.Logic.{⊎_elim}
use lib.Dec.{lit≤}
use lib.IntN.{ℤ, pos, nat_abs, ◌-ℤ◌, zero-*ℤ}
use lib.Signed.{le_z}
use Rattle.whole.specs.Ints.{ints, linear, int_elim, eq_z, eq_z_true, abs_mul, abs_sub}
use Rattle.whole.specs.Nearest.{nearest_le, abs_nearest}
use Rattle.whole.specs.Limit.{limit_to, limit_plain}
use Rattle.types.specs.declared.settings.Given.{Given}
use Rattle.types.specs.declared.settings.Range.{Range}
use Rattle.types.specs.declared.settings.Settings.{Settings}
use Rattle.types.specs.declared.weight.Stability.{Stability}
use Rattle.types.specs.declared.weight.Weighing.{Weighing}
use Rattle.types.specs.declared.machine.State.{State}
use Rattle.types.specs.declared.machine.Input.{Input}
use Rattle.outline.specs.Limits.{capacity_limit, zero_range_limit, raw_limit, display_limit}
use Rattle.outline.specs.Settings.{from_to, capacity_fits, division_fits, zero_range_fits, settings_of}
use Rattle.outline.specs.Weight.{raw_of, divisions_of, gross_of, weigh_of}
use Rattle.outline.specs.Tick.{weights_of, settled_of, served_of}
use Rattle.outline.specs.Ranges.{WeighingRange, Unstopped}
use Rattle.outline.specs.Owed.{Accepted}
use Rattle.whole.specs.Chains.{links, or_either}
use Rattle.outline.proofs.Parts.{clash}
use Rattle.outline.proofs.Opened.{passed, rows}
use Rattle.outline.proofs.RangeBook.{RawRange, raw_in_lem}

-- ---- what accepted settings bound
pub record Bounded (r : Range) : Type 0 where
  pub capacity : r.capacity ≤ capacity_limit
  pub zeroing : r.zeroing ≤ zero_range_limit
  pub division : r.division ≤ 50

most : (x : ℤ) (n m : ℕ) → le_z (pos n) x ≡ true → le_z x (pos m) ≡ true → nat_abs x ≤ m
most = int_elim _ (λ a b n m h k. simp ints (omega (linear, simp ints at h, simp ints at k)))

pub up_to : (x : ℤ) (n m : ℕ) → from_to n m x ≡ true → nat_abs x ≤ m
up_to x n m h = let l = links (le_z (pos n) x) (le_z x (pos m) ∷ []) h in most x n m l.0 l.1.0

one_of : (x : ℤ) (n : ℕ) → n ≤ 50 → eq_z x (pos n) ≡ true → nat_abs x ≤ 50
one_of x n h e = subst (λ (y : ℤ). nat_abs y ≤ 50) (sym (eq_z_true x (pos n) e)) h

-- a chain `a || b`, each of which is enough
either : (a b : Bool) {P : Type 0} → (a ≡ true → P) → (b ≡ true → P) → a || b ≡ true → P
either a b f g h = ⊎_elim f g (or_either a b h)

division_small : (x : ℤ)
    → eq_z x (pos 1) || eq_z x (pos 2) || eq_z x (pos 5) || eq_z x (pos 10) || eq_z x (pos 20) || eq_z x (pos 50) ≡ true → nat_abs x ≤ 50
division_small x =
    either (eq_z x (pos 1) || eq_z x (pos 2) || eq_z x (pos 5) || eq_z x (pos 10) || eq_z x (pos 20)) (eq_z x (pos 50))
    (either (eq_z x (pos 1) || eq_z x (pos 2) || eq_z x (pos 5) || eq_z x (pos 10)) (eq_z x (pos 20))
    (either (eq_z x (pos 1) || eq_z x (pos 2) || eq_z x (pos 5)) (eq_z x (pos 10))
    (either (eq_z x (pos 1) || eq_z x (pos 2)) (eq_z x (pos 5))
    (either (eq_z x (pos 1)) (eq_z x (pos 2)) (one_of x 1 (lit≤ tt)) (one_of x 2 (lit≤ tt)))
    (one_of x 5 (lit≤ tt)))
    (one_of x 10 (lit≤ tt)))
    (one_of x 20 (lit≤ tt)))
    (one_of x 50 (lit≤ tt))

given_bounded : (g : Given) → capacity_fits g ≡ true → zero_range_fits g ≡ true → division_fits g ≡ true → Bounded (settings_of g).range
unfolding capacity_fits zero_range_fits division_fits settings_of
given_bounded g capacity zeroing division = record {
  capacity = up_to g.capacity 1 capacity_limit (links (from_to 1 capacity_limit g.capacity) (le_z (pos 1) g.weight ∷ le_z g.weight g.capacity ∷ []) capacity).0;
  zeroing = up_to g.zeroing 1 zero_range_limit zeroing;
  division = division_small g.division division;
}

pub bounded : (s : Settings) → Accepted s → Bounded s.range
bounded s a =
    let p = passed a.0 s a.1 in
    let r = rows a.0 p.fit in
    subst (λ (t : Settings). Bounded t.range) p.made (given_bounded a.0 r.capacity r.range r.division)

-- ---- gross and net stay far below what an i32 holds
module _ (s : Settings) (b : Bounded s.range) (w : Weighing) (h : WeighingRange s.range s.tracking w) where
  zero_small : nat_abs w.zero ≤ 48000
  zero_small = omega (arith, h.zero, N.mul-le-mul b.capacity b.zeroing)

  tare_small : nat_abs w.tare ≤ 800000
  tare_small = omega (arith, h.tare_most, N.mul-le-mul b.capacity b.division)

  gross_small : (raw : ℤ) → nat_abs raw ≤ raw_limit → nat_abs (gross_of s.range (divisions_of (raw -ℤ w.zero))) ≤ 202400000
  gross_small raw k =
      let fine : nat_abs (raw -ℤ w.zero) ≤ 4048000 = omega (arith, abs_sub raw w.zero, zero_small) in
      let divisions : nat_abs (divisions_of (raw -ℤ w.zero)) ≤ 4048000 = omega (arith, abs_nearest (raw -ℤ w.zero) 10, nearest_le (nat_abs (raw -ℤ w.zero)) 10, fine) in
      N.le_trans (N.le_of_eq (abs_mul (divisions_of (raw -ℤ w.zero)) s.range.division)) (N.mul-le-mul divisions b.division)

  weigh_unstopped : (q : Stability) (raw : Option ℤ) (contact : Bool) → RawRange raw → Unstopped s.range w (weigh_of s q w raw contact)
  unfolding weigh_of
  weigh_unstopped q None contact k = record { gross = sym (zero-*ℤ (pos s.range.division)); net = λ e. absurd (clash e refl) }
  weigh_unstopped q (Some raw) contact k =
      let g = gross_of s.range (divisions_of (raw -ℤ w.zero)) in
      let plain : limit_to display_limit g ≡ g = limit_plain display_limit g (omega (arith, gross_small raw k)) in
      record {
        gross = plain;
        net = λ e. limit_plain display_limit (limit_to display_limit g -ℤ w.tare) (omega (arith, abs_sub (limit_to display_limit g) w.tare, ap nat_abs plain, gross_small raw k, tare_small));
      }

pub tick_unstopped : (s : Settings) → Accepted s → (st : State) (i : Input) → WeighingRange s.range s.tracking (settled_of s st i).state.weighing
    → Unstopped s.range (settled_of s st i).state.weighing (served_of s st i)
unfolding served_of weights_of
tick_unstopped s a st i h =
    weigh_unstopped s (bounded s a) (settled_of s st i).state.weighing h (settled_of s st i).state.stability (raw_of s.calibration i.count) i.contact
    (raw_in_lem s.calibration i.count)
