-- The zero in force, made of what each tick shows: its raw, its refill contact, whether its stage is 00 as step 4 leaves it, whether a zero
-- was keyed.
use Rattle.std.specs.Prelude.{ℕ, suc, ◌+◌, ◌*◌, ◌%◌, ◌≤◌, Bool, cond, not, ◌&&◌, List, [], ◌∷◌, leb, ltb, eqb, ℤ, pos, nat_abs, ◌+ℤ◌}
use Rattle.std.specs.Prelude.{◌-ℤ◌, Option, None, Some}
use Rattle.types.specs.declared.settings.Settings.{Settings}
use Rattle.types.specs.declared.machine.State.{State}
use Rattle.types.specs.declared.machine.Input.{Input}
use Rattle.outline.specs.Limits.{overload_margin}
use Rattle.outline.specs.Weight.{raw_of, divisions_of}
use Rattle.outline.specs.Requests.{done_of, idle_now}
use Rattle.outline.specs.Tick.{settled_of}
use Rattle.outline.specs.Kinds.{request_kind}
use Rattle.outline.specs.Run.{History, start, ◌▷◌, run_of}

pub record Seen : Type 0 where
  pub raw : Option ℤ
  pub contact : Bool
  pub idle : Bool
  pub keyed : Bool

-- what a tick shows; a zero is keyed where it was asked for and answered 0
unfoldable pub seen_of : Settings → State → Input → Seen
seen_of s st i = record {
  raw = raw_of s.calibration i.count;
  contact = i.contact;
  idle = idle_now (settled_of s st i).state;
  keyed = done_of (settled_of s st i).outcome && (request_kind i.request).zeroes;
}

abbrev pub seen_run : Settings → History Input → History Seen
seen_run s start = start
seen_run s (h ▷ i) = seen_run s h ▷ seen_of s (run_of s h) i

-- the zero last keyed, the tracking moves since, the newest first, and the calm ticks in a row
pub record Zeroing : Type 0 where
  pub keyed : ℤ
  pub moves : List ℤ
  pub calm : ℕ

abbrev pub sum_of : List ℤ → ℤ
sum_of [] = pos 0
sum_of (x ∷ xs) = sum_of xs +ℤ x

-- after each of the moves, the sum up to it is within ±n
abbrev pub AllWithin : ℕ → List ℤ → Type 0
AllWithin n [] = Unit {0}
AllWithin n (x ∷ xs) = (nat_abs (sum_of (x ∷ xs)) ≤ n) × AllWithin n xs

abbrev pub in_force : Zeroing → ℤ
in_force z = z.keyed +ℤ sum_of z.moves

-- a good tick without a keyed zero is calm if it is not overloaded, its stage is 00, its refill contact is open (A6), and gross fine is
-- within ±w
abbrev pub is_calm : Settings → Zeroing → Seen → ℤ → Bool
is_calm s z t x =
    not (ltb (s.range.capacity + overload_margin) (nat_abs (divisions_of (x -ℤ in_force z))))
    && t.idle && not t.contact && leb (nat_abs (x -ℤ in_force z)) s.tracking.width

-- at each q-th calm tick in a row the zero moves to raw, if raw lies in the zero range and the moves' sum stays within the allowance
abbrev pub is_move : Settings → Zeroing → ℤ → Bool
is_move s z x =
    ltb 0 s.tracking.time && ltb 0 s.tracking.width && eqb (suc z.calm % s.tracking.time) 0
    && leb (10 * nat_abs x) (s.range.capacity * s.range.zeroing)
    && leb (nat_abs (sum_of z.moves +ℤ (x -ℤ in_force z))) s.tracking.allowance

abbrev pub calm_step : Settings → Zeroing → ℤ → Zeroing
calm_step s z x = record { keyed = z.keyed; moves = cond (is_move s z x) ((x -ℤ in_force z) ∷ z.moves) z.moves; calm = suc z.calm }

abbrev pub restless : Zeroing → Zeroing
restless z = record { keyed = z.keyed; moves = z.moves; calm = 0 }

abbrev pub zero_step : Settings → Zeroing → Seen → Option ℤ → Zeroing
zero_step s z t None = restless z
zero_step s z t (Some x) =
    cond t.keyed (record { keyed = x; moves = []; calm = 0 })
    (cond (is_calm s z t x) (calm_step s z x) (restless z))

abbrev pub zeroing_of : Settings → History Seen → Zeroing
zeroing_of s start = record { keyed = pos 0; moves = []; calm = 0 }
zeroing_of s (h ▷ t) = zero_step s (zeroing_of s h) t t.raw
