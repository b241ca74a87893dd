-- What is known of accepted settings, row by row of the table. Assumes nothing.
use Rattle.std.specs.Prelude.{None, Some, ℤ, ℕ}
use Prim.Native.Nat.{ℕ, ◌*◌, ◌≤◌}
use native.Mathlib.Omega.{arith}
use mathlib.Core.Path.{◌≡◌, refl, subst}
use mathlib.Core.Bool.{Bool, true, false, cond}
use mathlib.Core.List.{[], ◌∷◌}
use lib.IntN.{ℤ, pos, nat_abs, ◌-ℤ◌, ◌*ℤ◌}
use lib.Signed.{le_z}
use borrow.Author.Tests.{leb-true}
use Rattle.whole.specs.Ints.{ints, linear, ints3}
use Rattle.types.specs.declared.settings.Given.{Given}
use Rattle.types.specs.declared.settings.Calibration.{Calibration}
use Rattle.types.specs.declared.settings.Settings.{Settings}
use Rattle.outline.specs.Limits.{count_limit, capacity_limit}
use Rattle.outline.specs.Settings.{from_to, within, counts_fit, capacity_fits, division_fits, zero_range_fits, tracking_fits, stability_fits, mode_fits, delays_fit, flow_fits, address_fits, analog_fits, discharge_fits, settings_fit, settings_of, open_of}
use Rattle.outline.specs.Owed.{Accepted}
use Rattle.whole.specs.Chains.{links}

-- they passed the check, and are what it makes of the settings given
pub record Passed (g : Given) (s : Settings) : Type 0 where
  pub fit : settings_fit g ≡ true
  pub made : settings_of g ≡ s

pub passed : (g : Given) (s : Settings) → open_of g ≡ Some s → Passed g s
unfolding open_of
passed g s = go (settings_fit g) refl
  where
    go : (t : Bool) → settings_fit g ≡ t → cond t (Some (settings_of g)) None ≡ Some s → Passed g s
    go true fit e = record { fit = fit; made = cc }
    go false fit e = let z : ◌≡◌ {A = ℕ} 0 1 = cc in absurd (omega arith)

-- the calibration: Z within its range, and 10·W at most S - Z
pub record Calibrated (cal : Calibration) : Type 0 where
  pub zero : nat_abs cal.zero ≤ count_limit
  pub span : 10 * cal.weight ≤ cal.counts

wide : (z s w : ℤ) → le_z (pos 1) w ≡ true → le_z (w *ℤ pos 10) (s -ℤ z) ≡ true → 10 * nat_abs w ≤ nat_abs (s -ℤ z)
wide = ints3 _ (λ a a' b b' c c' h k. simp ints (omega (linear, simp ints at h, simp ints at k)))

pub fit_calibrated : (g : Given) → counts_fit g ≡ true → capacity_fits g ≡ true → Calibrated (settings_of g).calibration
unfolding counts_fit capacity_fits settings_of
fit_calibrated g counts capacity =
    let n = links (within count_limit g.zero) (within count_limit g.span ∷ le_z (g.weight *ℤ pos 10) (g.span -ℤ g.zero) ∷ []) counts in
    let c = links (from_to 1 capacity_limit g.capacity) (le_z (pos 1) g.weight ∷ le_z g.weight g.capacity ∷ []) capacity in
    record { zero = leb-true (nat_abs g.zero) count_limit n.0; span = wide g.zero g.span g.weight c.1.0 n.1.1.0 }

-- every row of the table
pub record Rows (g : Given) : Type 0 where
  pub counts : counts_fit g ≡ true
  pub capacity : capacity_fits g ≡ true
  pub division : division_fits g ≡ true
  pub range : zero_range_fits g ≡ true
  pub tracking : tracking_fits g ≡ true
  pub stability : stability_fits g ≡ true
  pub mode : mode_fits g ≡ true
  pub delays : delays_fit g ≡ true
  pub flow : flow_fits g ≡ true
  pub address : address_fits g ≡ true
  pub analog : analog_fits g ≡ true
  pub discharge : discharge_fits g ≡ true

pub rows : (g : Given) → settings_fit g ≡ true → Rows g
unfolding settings_fit
rows g h =
    let r =
    links (counts_fit g)
    (capacity_fits g ∷ division_fits g ∷ zero_range_fits g ∷ tracking_fits g ∷ stability_fits g ∷ mode_fits g ∷ delays_fit g ∷ flow_fits g ∷ address_fits g ∷ analog_fits g ∷ discharge_fits g ∷ [])
    h in
    record {
      counts = r.0;
      capacity = r.1.0;
      division = r.1.1.0;
      range = r.1.1.1.0;
      tracking = r.1.1.1.1.0;
      stability = r.1.1.1.1.1.0;
      mode = r.1.1.1.1.1.1.0;
      delays = r.1.1.1.1.1.1.1.0;
      flow = r.1.1.1.1.1.1.1.1.0;
      address = r.1.1.1.1.1.1.1.1.1.0;
      analog = r.1.1.1.1.1.1.1.1.1.1.0;
      discharge = r.1.1.1.1.1.1.1.1.1.1.1.0;
    }

pub calibrated : (s : Settings) → Accepted s → Calibrated s.calibration
calibrated s a =
    let p = passed a.0 s a.1 in
    let r = rows a.0 p.fit in
    subst (λ (t : Settings). Calibrated t.calibration) p.made (fit_calibrated a.0 r.counts r.capacity)
