-- The outline's section "Day book (house)", with request A2. Raw, the refill contact, the number of ticks and the day closes enter into it,
-- and nothing else.
use Rattle.std.specs.Prelude.{ℕ, suc, Bool, true, false, cond, not, ◌&&◌, ◌||◌, ltb, ℤ, pos, ◌+ℤ◌, ◌-ℤ◌, Option, None, Some}
use Rattle.whole.specs.Limit.{limit_to}
use Rattle.types.specs.declared.daybook.Book.{Book}
use Rattle.outline.specs.Limits.{day_ticks, book_limit}

-- no good tick yet; opening and last are answered as 0, and no closed contact is noted
abbrev pub open_book : Book
open_book = record {
  begun = false;
  contact = false;
  opening = pos 0;
  last = pos 0;
  refilled = pos 0;
  used = pos 0;
  unbooked = pos 0;
  ticks = 0;
}

-- A guard: a sum is held between the limit and minus the limit. No run gets that far.
unfoldable pub limit_of : ℤ → ℤ
limit_of x = limit_to book_limit x

-- a sum and one change more; the guard holds the sum found and the result
unfoldable pub booked_of : ℤ → ℤ → ℤ
booked_of sum change = limit_of (limit_of sum +ℤ change)

-- "Only the day's first 8,640,000 ticks are booked": whether this tick is one of them,
-- by the book before it.
abbrev pub in_day : Book → Bool
in_day b = ltb b.ticks day_ticks

-- "bad ones counted too."
abbrev pub day_count : Book → ℕ
day_count b = cond (in_day b) (suc b.ticks) b.ticks

-- a bad tick is counted; its contact is not noted
abbrev pub bad_tick : Book → Book
bad_tick b = record {
  begun = b.begun;
  contact = b.contact;
  opening = b.opening;
  last = b.last;
  refilled = b.refilled;
  used = b.used;
  unbooked = b.unbooked;
  ticks = day_count b;
}

-- "The first good tick sets the first day's opening raw." "a first opening raw set later still counts."
-- Its contact is noted.
abbrev pub first_good : Book → ℤ → Bool → Book
first_good b raw contact = record {
  begun = true;
  contact = contact;
  opening = raw;
  last = raw;
  refilled = b.refilled;
  used = b.used;
  unbooked = b.unbooked;
  ticks = day_count b;
}

-- A2: "A change is refilled when the contact was closed at this good tick or at the last good one". The contact noted is always that of the
-- last good tick: a bad tick and a day close leave it as it is.
abbrev pub of_refill : Book → Bool → Bool
of_refill b contact = contact || b.contact

-- "At each later good tick the change from the last good raw is booked: as refilled (rise positive)" where it belongs to a refill, "else as
-- used (fall positive)." Past the day's 8,640,000th tick: "Falls of later good ticks, rises negative, are summed as unbooked". The contact
-- makes no difference there, but it is still noted.
unfoldable pub later_good : Book → ℤ → Bool → Book
later_good b raw contact = record {
  begun = true;
  contact = contact;
  opening = b.opening;
  last = raw;
  refilled = cond (in_day b && of_refill b contact) (booked_of b.refilled (raw -ℤ b.last)) b.refilled;
  used = cond (in_day b && not (of_refill b contact)) (booked_of b.used (b.last -ℤ raw)) b.used;
  unbooked = cond (in_day b) b.unbooked (booked_of b.unbooked (b.last -ℤ raw));
  ticks = day_count b;
}

-- step 2
unfoldable pub book_of : Book → Option ℤ → Bool → Book
book_of b None contact = bad_tick b
book_of b (Some raw) contact = cond b.begun (later_good b raw contact) (first_good b raw contact)

-- "Day close ends the day after step 2; that tick's raw opens the next, its tick count at 0." A close is refused in a bad tick, so
-- `last` and `contact` are the closing tick's. Both are kept: the next change is from that raw, and A2 asks for that contact "also across a
-- day close".
unfoldable pub closed_of : Book → Book
closed_of b =
    record {
      begun = b.begun;
      contact = b.contact;
      opening = b.last;
      last = b.last;
      refilled = pos 0;
      used = pos 0;
      unbooked = pos 0;
      ticks = 0;
    }
