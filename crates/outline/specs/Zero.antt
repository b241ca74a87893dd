-- The outline's section "Zero and tracking".
use Rattle.std.specs.Prelude.{ℕ, suc, ◌*◌, Bool, cond, not, ◌&&◌, leb, ltb, ℤ, pos, nat_abs, ◌+ℤ◌}
use Rattle.types.specs.declared.settings.Range.{Range}
use Rattle.types.specs.declared.settings.Tracking.{Tracking}
use Rattle.types.specs.declared.settings.Settings.{Settings}
use Rattle.types.specs.declared.weight.Weighing.{Weighing}
use Rattle.types.specs.declared.weight.Weights.{Weights}
use Rattle.outline.specs.Settings.{from_to, within}
use Rattle.outline.specs.Weight.{fit_of}

-- "Zero: accepted when 10·|raw| is at most C·p"; tracking asks it too
abbrev pub in_zero_range : Range → ℤ → Bool
in_zero_range r raw = leb (10 * nat_abs raw) (r.capacity * r.zeroing)

-- "zero in force becomes raw, tracked becomes 0." Step 5 then makes the counter 0.
abbrev pub zeroed_of : Weighing → ℤ → Weighing
zeroed_of w raw = record { zero = raw; tracked = pos 0; tare = w.tare; counter = w.counter }

-- "Tare: accepted when gross divisions lie in 0..C"
abbrev pub in_tare_range : Range → ℤ → Bool
in_tare_range r divisions = from_to 0 r.capacity divisions

-- "tare becomes gross."
abbrev pub tared_of : Weighing → ℤ → Weighing
tared_of w gross = record { zero = w.zero; tracked = w.tracked; tare = gross; counter = w.counter }

-- "Tracking is off if q or w is 0."
abbrev pub tracking_on : Tracking → Bool
tracking_on t = ltb 0 t.time && ltb 0 t.width

-- "a tick that is good, not overloaded, in stage 00, without an accepted zero, with |gross fine| at most w"; A6: and with the refill
-- contact open, since "the tracking counter returns to 0 at each closed tick"
abbrev pub calm_of : Tracking → Bool → Bool → Weights → Bool
calm_of t idle keyed x = fit_of x && idle && not keyed && not x.contact && within t.width x.fine

-- "the zero moves to raw if 10·|raw| is at most C·p and |tracked + gross fine| is at most L"
abbrev pub may_move : Settings → Weighing → Weights → Bool
may_move s w x = in_zero_range s.range x.raw && within s.tracking.allowance (w.tracked +ℤ x.fine)

abbrev pub with_counter : Weighing → ℕ → Weighing
with_counter w n = record { zero = w.zero; tracked = w.tracked; tare = w.tare; counter = n }

-- "tracked changes by gross fine"
abbrev pub moved_of : Weighing → Weights → Weighing
moved_of w x = record { zero = x.raw; tracked = w.tracked +ℤ x.fine; tare = w.tare; counter = 0 }

-- "At q the counter returns to 0, and the zero moves .. Otherwise nothing moves."
abbrev pub counted_up : Settings → Weighing → Weights → Weighing
counted_up s w x =
    cond (leb s.tracking.time (suc w.counter))
    (cond (may_move s w x) (moved_of w x) (with_counter w 0))
    (with_counter w (suc w.counter))

-- Step 5. "Its counter adds one at a tick that is [calm]; any other tick makes it 0." With tracking off no tick counts.
unfoldable pub tracked_of : Settings → Bool → Bool → Weights → Weighing → Weighing
tracked_of s idle keyed x w = cond (tracking_on s.tracking && calm_of s.tracking idle keyed x) (counted_up s w x) (with_counter w 0)
