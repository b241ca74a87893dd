-- What several proofs of this crate cite: how a number is read from its bits, and what accepted settings say of each number that is cast. Assumes nothing.
use Prim.Native.Nat.{ℕ, ◌≤◌, ◌^◌}
use native.Mathlib.Nat as N
use native.Mathlib.Omega.{arith}
use mathlib.Core.Path.{◌≡◌, refl, sym, subst}
use mathlib.Core.Bool.{Bool, true, false, ◌||◌}
use mathlib.Core.List.{[], ◌∷◌}
use lib.Dec.{T, leb, ltb, ltb→lt, lit<}
use lib.IntN.{ℤ, pos, negsuc, nat_abs, ◌-ℤ◌, ◌*ℤ◌}
use lib.Signed.{le_z, non_neg}
use borrow.Author.Tests.{leb-true, leb-false, ne_eqb}
use mir.Syntax.{Width, w8, w16, w32}
use mir.Val.{Fits, SFits, bits, to_z, of_z}
use Rattle.whole.specs.Chains.{and_right, links}
use Rattle.whole.specs.Ints.{eq_z, eq_z_yes, eq_z_no, ints, ints3, linear, le_z_trans}
use Rattle.whole.specs.Machine.{fits_of}
use Rattle.whole.specs.Bits.{arg, drop_need, eq_is, ne_is}
use Rattle.types.specs.declared.settings.Given.{Given}
use Rattle.settings.specs.Held.{Held}
use Rattle.outline.specs.Limits.{count_limit, capacity_limit, zero_range_limit, track_time_limit, track_width_limit, allowance_limit, stable_time_least, stable_time_limit, stable_width_limit, delay_limit, flow_limit, discharge_limit, address_limit}
use Rattle.outline.specs.Settings.{from_to, within, counts_fit, capacity_fits, division_fits, zero_range_fits, tracking_fits, stability_fits, mode_fits, delays_fit, flow_fits, address_fits, analog_fits, discharge_fits, settings_fit}

-- ---- numbers and their bits
-- `x == y` compares the bits: what a branch on it was told
module _ {x y : ℤ} (f : SFits w32 x) (g : SFits w32 y) where
  pub told_yes : of_z w32 x ≡ of_z w32 y → eq_z x y ≡ true
  told_yes e = eq_z_yes x y (eq_is f g e)

  pub told_no : (of_z w32 x ≡ of_z w32 y → ⊥) → eq_z x y ≡ false
  told_no n = eq_z_no x y (ne_is f g n)

-- what a cast to unsigned asks of a number
abbrev pub Unsigned : Width → ℤ → Type 0
Unsigned w x = T (non_neg x) × Fits w (nat_abs x)

-- and what it asks of a number of 32 bits, read from them
abbrev pub Cast : Width → ℤ → Type 0
Cast w x = Unsigned w (to_z w32 (of_z w32 x))

cast_of : {w : Width} {x : ℤ} → SFits w32 x → Unsigned w x → Cast w x
cast_of f u = drop_need (arg f) u.0 u.1

-- ---- a test, as what the cast asks
-- a number from a to b, where the width holds b
from_to_lem : (w : Width) (a b : ℕ) (x : ℤ) → T (ltb b (2 ^ bits w)) → from_to a b x ≡ true → Unsigned w x
from_to_lem w a b (pos n) t h = (tt, fits_of (N.lt_of_le_of_lt (leb-true n b (and_right (leb a n) (leb n b) h)) (ltb→lt b (2 ^ bits w) t)))
from_to_lem w a b (negsuc n) t h = absurd (subst T (sym h) tt)

-- d is at most 50
one_of : (x : ℤ) → eq_z x (pos 1) || eq_z x (pos 2) || eq_z x (pos 5) || eq_z x (pos 10) || eq_z x (pos 20) || eq_z x (pos 50) ≡ true → Unsigned w8 x
one_of (pos n) h = (tt, fits_of (N.lt_of_le_of_lt (go (leb n 50) refl) (lit< tt)))
  where
    go : (t : Bool) → leb n 50 ≡ t → n ≤ 50
    go true e = leb-true n 50 e
    go false e =
        let p = leb-false n 50 e in
        let z : false ≡ true = simp (ne_eqb n 1 (λ q. omega arith), ne_eqb n 2 (λ q. omega arith), ne_eqb n 5 (λ q. omega arith), ne_eqb n 10 (λ q. omega arith), ne_eqb n 20 (λ q. omega arith), ne_eqb n 50 (λ q. omega arith)) at h in
        absurd (subst T (sym z) tt)
one_of (negsuc n) h = absurd (subst T (sym h) tt)

-- W is at most C
weight_fits : (w c : ℤ) → le_z (pos 1) w ≡ true → le_z w c ≡ true → le_z c (pos capacity_limit) ≡ true → Unsigned w16 w
weight_fits w c l h k = from_to_lem w16 1 capacity_limit w tt (simp (l, le_z_trans w c (pos capacity_limit) h k))

-- S - Z is at least 10·W, so not negative; and both are within the limit
counts_fit_lem : (z s w : ℤ) → within count_limit z ≡ true → within count_limit s ≡ true → le_z (pos 1) w ≡ true → le_z (w *ℤ pos 10) (s -ℤ z) ≡ true → Unsigned w32 (s -ℤ z)
counts_fit_lem = ints3 _ (λ a a' b b' c c' i j k l. let i' = simp ints at i in let j' = simp ints at j in let k' = simp ints at k in let l' = simp ints at l in
    (simp ints (omega linear), fits_of (simp ints (omega linear))))

-- ---- the numbers that are cast
pub record Narrow (g : Given) : Type 0 where
  pub counts : Unsigned w32 (g.span -ℤ g.zero)
  pub weight : Cast w16 g.weight
  pub capacity : Cast w16 g.capacity
  pub division : Cast w8 g.division
  pub zeroing : Cast w8 g.zeroing
  pub tracktime : Cast w16 g.tracktime
  pub trackwidth : Cast w8 g.trackwidth
  pub allowance : Cast w16 g.allowance
  pub stabletime : Cast w16 g.stabletime
  pub stablewidth : Cast w8 g.stablewidth
  pub start : Cast w16 g.start
  pub large : Cast w16 g.large
  pub medium : Cast w16 g.medium
  pub small : Cast w16 g.small
  pub judge : Cast w16 g.judge
  pub flow : Cast w16 g.flow
  pub address : Cast w8 g.address
  pub dischargestart : Cast w16 g.dischargestart
  pub dischargeend : Cast w16 g.dischargeend
  pub dischargelimit : Cast w16 g.dischargelimit

pub narrow : (g : Given) → Held g → settings_fit g ≡ true → Narrow g
unfolding settings_fit counts_fit capacity_fits division_fits zero_range_fits tracking_fits stability_fits delays_fit flow_fits address_fits discharge_fits
narrow g f h =
    let r =
    links (counts_fit g)
    (capacity_fits g ∷ division_fits g ∷ zero_range_fits g ∷ tracking_fits g ∷ stability_fits g ∷ mode_fits g ∷ delays_fit g ∷ flow_fits g ∷ address_fits g ∷ analog_fits g ∷ discharge_fits g ∷ [])
    h in
    let n = links (within count_limit g.zero) (within count_limit g.span ∷ le_z (g.weight *ℤ pos 10) (g.span -ℤ g.zero) ∷ []) r.0 in
    let c = links (from_to 1 capacity_limit g.capacity) (le_z (pos 1) g.weight ∷ le_z g.weight g.capacity ∷ []) r.1.0 in
    let t = links (from_to 0 track_time_limit g.tracktime) (from_to 0 track_width_limit g.trackwidth ∷ from_to 0 allowance_limit g.allowance ∷ []) r.1.1.1.1.0 in
    let s = links (from_to stable_time_least stable_time_limit g.stabletime) (from_to 0 stable_width_limit g.stablewidth ∷ []) r.1.1.1.1.1.0 in
    let d =
    links (from_to 0 delay_limit g.start)
    (from_to 0 delay_limit g.large ∷ from_to 0 delay_limit g.medium ∷ from_to 0 delay_limit g.small ∷ from_to 0 delay_limit g.judge ∷ [])
    r.1.1.1.1.1.1.1.0 in
    let e =
    links (from_to 0 delay_limit g.dischargestart) (from_to 0 delay_limit g.dischargeend ∷ from_to 1 discharge_limit g.dischargelimit ∷ [])
    r.1.1.1.1.1.1.1.1.1.1.1.0 in
    record {
      counts = counts_fit_lem g.zero g.span g.weight n.0 n.1.0 c.1.0 n.1.1.0;
      weight = cast_of f.weight (weight_fits g.weight g.capacity c.1.0 c.1.1.0 (and_right (le_z (pos 1) g.capacity) (le_z g.capacity (pos capacity_limit)) c.0));
      capacity = cast_of f.capacity (from_to_lem w16 1 capacity_limit g.capacity tt c.0);
      division = cast_of f.division (one_of g.division r.1.1.0);
      zeroing = cast_of f.zeroing (from_to_lem w8 1 zero_range_limit g.zeroing tt r.1.1.1.0);
      tracktime = cast_of f.tracktime (from_to_lem w16 0 track_time_limit g.tracktime tt t.0);
      trackwidth = cast_of f.trackwidth (from_to_lem w8 0 track_width_limit g.trackwidth tt t.1.0);
      allowance = cast_of f.allowance (from_to_lem w16 0 allowance_limit g.allowance tt t.1.1.0);
      stabletime = cast_of f.stabletime (from_to_lem w16 stable_time_least stable_time_limit g.stabletime tt s.0);
      stablewidth = cast_of f.stablewidth (from_to_lem w8 0 stable_width_limit g.stablewidth tt s.1.0);
      start = cast_of f.start (from_to_lem w16 0 delay_limit g.start tt d.0);
      large = cast_of f.large (from_to_lem w16 0 delay_limit g.large tt d.1.0);
      medium = cast_of f.medium (from_to_lem w16 0 delay_limit g.medium tt d.1.1.0);
      small = cast_of f.small (from_to_lem w16 0 delay_limit g.small tt d.1.1.1.0);
      judge = cast_of f.judge (from_to_lem w16 0 delay_limit g.judge tt d.1.1.1.1.0);
      flow = cast_of f.flow (from_to_lem w16 1 flow_limit g.flow tt r.1.1.1.1.1.1.1.1.0);
      address = cast_of f.address (from_to_lem w8 0 address_limit g.address tt r.1.1.1.1.1.1.1.1.1.0);
      dischargestart = cast_of f.dischargestart (from_to_lem w16 0 delay_limit g.dischargestart tt e.0);
      dischargeend = cast_of f.dischargeend (from_to_lem w16 0 delay_limit g.dischargeend tt e.1.0);
      dischargelimit = cast_of f.dischargelimit (from_to_lem w16 1 discharge_limit g.dischargelimit tt e.1.1.0);
    }
