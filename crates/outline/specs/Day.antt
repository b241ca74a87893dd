-- The day book's sums, made of the tick history: counts, the refill contact and the accepted day closes, and nothing else.
use Rattle.std.specs.Prelude.{ℕ, suc, min, Bool, true, false, cond, not, ◌&&◌, ◌||◌, List, [], ◌∷◌, leb, ℤ, pos, neg_ℤ, nat_abs, ◌+ℤ◌, ◌-ℤ◌}
use Rattle.types.specs.declared.settings.Calibration.{Calibration}
use Rattle.types.specs.declared.daybook.Book.{Book}
use Rattle.types.specs.declared.machine.Input.{Input}
use Rattle.outline.specs.Limits.{count_limit, day_ticks}
use Rattle.outline.specs.Weight.{tenths_of}
use Rattle.outline.specs.Kinds.{request_kind}
use Rattle.outline.specs.Run.{History, start, ◌▷◌}

-- ---- the tape: what the day book may know of a tick
abbrev pub good_of : ℤ → Bool
good_of count = leb (nat_abs count) count_limit

pub record Noted : Type 0 where
  pub count : ℤ
  pub contact : Bool
  pub closes : Bool

-- a day close is accepted in every good tick and in no other
abbrev pub noted : Input → Noted
noted i = record { count = i.count; contact = i.contact; closes = good_of i.count && (request_kind i.request).closes }

abbrev pub tape_of : History Input → History Noted
tape_of start = start
tape_of (h ▷ i) = tape_of h ▷ noted i

-- ---- the day so far
-- its ticks, bad ones too; the closing tick is the old day's
abbrev pub ticks_of : History Noted → ℕ
ticks_of start = 0
ticks_of (h ▷ t) = cond t.closes 0 (suc (ticks_of h))

-- a good tick: its raw, its contact, its number in the day that it was booked to. The tick of a close keeps its old number in the day that
-- it opens, where nothing asks for it.
pub record Good : Type 0 where
  pub raw : ℤ
  pub contact : Bool
  pub number : ℕ

abbrev pub good_at : Calibration → Noted → ℕ → Good
good_at cal t n = record { raw = tenths_of cal t.count; contact = t.contact; number = n }

-- the day's good ticks, the newest first; the oldest is the one that opened it: the tick of the last close, or the first good tick of all
abbrev pub goods_of : Calibration → History Noted → List Good
goods_of cal start = []
goods_of cal (h ▷ t) = cond (good_of t.count) (good_at cal t (suc (ticks_of h)) ∷ cond t.closes [] (goods_of cal h)) (goods_of cal h)

-- ---- sums over the day's good ticks
-- the rise from the good tick before; 0 for the one that opened the day
abbrev pub rise_of : Good → List Good → ℤ
rise_of g [] = pos 0
rise_of g (before ∷ gs) = g.raw -ℤ before.raw

-- the sum of the rises at the good ticks that p picks; p is given the tick, and the good ticks of the day before it, the opening one too
abbrev pub rises_of : (Good → List Good → Bool) → List Good → ℤ
rises_of p [] = pos 0
rises_of p (g ∷ gs) = rises_of p gs +ℤ cond (p g gs) (rise_of g gs) (pos 0)

-- one of the first 8,640,000 ticks of its day
abbrev pub early_of : Good → Bool
early_of g = leb g.number day_ticks

-- the contact at the newest of these good ticks; open where there is none
abbrev pub contact_of : List Good → Bool
contact_of [] = false
contact_of (g ∷ gs) = g.contact

-- A2: the contact was closed at this good tick or at the last good one; for the first change of a day that is the tick that closed the day
-- before
abbrev pub filled_at : Good → List Good → Bool
filled_at g before = g.contact || contact_of before

-- its change is refilled, used, unbooked
abbrev pub is_refill : Good → List Good → Bool
is_refill g before = early_of g && filled_at g before

abbrev pub is_use : Good → List Good → Bool
is_use g before = early_of g && not (filled_at g before)

abbrev pub is_late : Good → List Good → Bool
is_late g before = not (early_of g)

abbrev pub refilled_of : List Good → ℤ
refilled_of gs = rises_of is_refill gs

abbrev pub used_of : List Good → ℤ
used_of gs = neg_ℤ (rises_of is_use gs)

abbrev pub unbooked_of : List Good → ℤ
unbooked_of gs = neg_ℤ (rises_of is_late gs)

abbrev pub opening_of : List Good → ℤ
opening_of [] = pos 0
opening_of (g ∷ []) = g.raw
opening_of (g ∷ before ∷ gs) = opening_of (before ∷ gs)

abbrev pub last_of : List Good → ℤ
last_of [] = pos 0
last_of (g ∷ gs) = g.raw

abbrev pub some_of : List Good → Bool
some_of [] = false
some_of (g ∷ gs) = true

-- the book that these sums make in a day that has had n ticks so far
abbrev pub day_sums : List Good → ℕ → Book
day_sums gs n = record {
  begun = some_of gs;
  contact = contact_of gs;
  opening = opening_of gs;
  last = last_of gs;
  refilled = refilled_of gs;
  used = used_of gs;
  unbooked = unbooked_of gs;
  ticks = min n day_ticks;
}

unfoldable pub book_history : Calibration → History Noted → Book
book_history cal h = day_sums (goods_of cal h) (ticks_of h)
