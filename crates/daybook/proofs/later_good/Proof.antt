-- One case of the definition for each sum that the change can go to.
use borrow.Author.Rules.{rules}
use borrow.Author.Tests.{ltb-true}
use mathlib.Core.Path.{◌≡◌, sym, ◌∙◌}
use mathlib.Core.Bool.{Bool, true, false}
use Prim.Native.Nat.{◌+◌}
use native.Mathlib.Numerals.{add-one}
use native.Mathlib.Omega.{arith}
use lib.IntN.{ℤ, ◌-ℤ◌}
use mir.Syntax.{w32, w64}
use mir.Val.{SFits}
use mir.Facts.{to_z-of_z}
use Rattle.whole.specs.Machine.{sfits_of, fits_of}
use Rattle.whole.specs.Bits.{got}
use Rattle.types.specs.declared.daybook.Book.{Book}
use Rattle.outline.specs.Limits.{day_ticks}
use Rattle.outline.specs.DayBook.{in_day, booked_of, of_refill, later_good}
use Rattle.daybook.proofs.later_good.Statement.{statement}
use Rattle.daybook.proofs.later_good.Tie as tie

-- what holding the book tells of the fields that a change is booked from
last_fits : (s : tie.Start) → SFits w32 s.args.b.last
last_fits s = search sfits_of

refilled_fits : (s : tie.Start) → SFits w64 s.args.b.refilled
refilled_fits s = search sfits_of

used_fits : (s : tie.Start) → SFits w64 s.args.b.used
used_fits s = search sfits_of

unbooked_fits : (s : tie.Start) → SFits w64 s.args.b.unbooked
unbooked_fits s = search sfits_of

abbrev entry : tie.After-is_in_day → tie.Start
entry d = d.before.before.before

in_day_lem : (c : tie.Then-is_in_day) → in_day (entry c.before).args.b ≡ true
in_day_lem c = sym c.is_in_day.ensures ∙ c.if-is_in_day.true

-- ---- what the code makes of each sum, and the definition
abbrev refilled_by : Book → Bool → ℤ → ℤ → Book
refilled_by b contact raw sum = record { begun = true; contact = contact; opening = b.opening; last = raw; refilled = sum; used = b.used; unbooked = b.unbooked; ticks = b.ticks + 1 }

abbrev used_by : Book → Bool → ℤ → ℤ → Book
used_by b contact raw sum = record { begun = true; contact = contact; opening = b.opening; last = raw; refilled = b.refilled; used = sum; unbooked = b.unbooked; ticks = b.ticks + 1 }

abbrev unbooked_by : Book → Bool → ℤ → ℤ → Book
unbooked_by b contact raw sum = record { begun = true; contact = contact; opening = b.opening; last = raw; refilled = b.refilled; used = b.used; unbooked = sum; ticks = b.ticks }

module _ (b : Book) (raw : ℤ) (contact : Bool) where
  refill : in_day b ≡ true → of_refill b contact ≡ true → refilled_by b contact raw (booked_of b.refilled (raw -ℤ b.last)) ≡ later_good b raw contact
  unfolding later_good
  refill h k = simp (h, k, add-one)

  use_up : in_day b ≡ true → of_refill b contact ≡ false → used_by b contact raw (booked_of b.used (b.last -ℤ raw)) ≡ later_good b raw contact
  unfolding later_good
  use_up h k = simp (h, k, add-one)

  unbook : in_day b ≡ false → unbooked_by b contact raw (booked_of b.unbooked (b.last -ℤ raw)) ≡ later_good b raw contact
  unfolding later_good
  unbook h = simp h

is_in_day-requires : tie.Need-is_in_day-requires
is_in_day-requires c κs = search rules

overflow_add-b : tie.Need-overflow_add-b
overflow_add-b c =
    let t = c.before in
    fits_of (omega (arith, ltb-true (entry t.before).args.b.ticks day_ticks (in_day_lem t)))

booked-requires : tie.Need-booked-requires
booked-requires c κs = search rules

returns-then-refill : tie.Need-returns-then-refill
returns-then-refill c =
    let d = c.before.before in
    let t = d.before.before in
    let s = entry t.before in
    let b = s.args.b in
    let new = to_z-of_z s.ranges.raw in
    let sum : c.booked.result ≡ booked_of b.refilled (s.args.raw -ℤ b.last) =
    c.booked.ensures ∙ (λ i. booked_of (to_z-of_z (refilled_fits s) i) (new i -ℤ to_z-of_z (last_fits s) i)) in
    (λ i. refilled_by b s.args.contact (new i) (((got {w = w64} c.booked.result c.booked.type_inv).read ∙ sum) i)) ∙ refill b s.args.raw s.args.contact (in_day_lem t) d.if-refill.true

booked-requires-then-is_in_day : tie.Need-booked-requires-then-is_in_day
booked-requires-then-is_in_day c κs = search rules

returns-then-is_in_day : tie.Need-returns-then-is_in_day
returns-then-is_in_day c =
    let d = c.before.before in
    let t = d.before.before in
    let s = entry t.before in
    let b = s.args.b in
    let new = to_z-of_z s.ranges.raw in
    let sum : c.booked-then-is_in_day.result ≡ booked_of b.used (b.last -ℤ s.args.raw) =
    c.booked-then-is_in_day.ensures ∙ (λ i. booked_of (to_z-of_z (used_fits s) i) (to_z-of_z (last_fits s) i -ℤ new i)) in
    (λ i. used_by b s.args.contact (new i) (((got {w = w64} c.booked-then-is_in_day.result c.booked-then-is_in_day.type_inv).read ∙ sum) i)) ∙ use_up b s.args.raw s.args.contact (in_day_lem t) d.if-refill.false

booked-requires-2 : tie.Need-booked-requires-2
booked-requires-2 c κs = search rules

returns : tie.Need-returns
returns c =
    let t = c.before.before in
    let d = t.before in
    let s = entry d in
    let b = s.args.b in
    let new = to_z-of_z s.ranges.raw in
    let sum : c.booked-2.result ≡ booked_of b.unbooked (b.last -ℤ s.args.raw) =
    c.booked-2.ensures ∙ (λ i. booked_of (to_z-of_z (unbooked_fits s) i) (to_z-of_z (last_fits s) i -ℤ new i)) in
    (λ i. unbooked_by b s.args.contact (new i) (((got {w = w64} c.booked-2.result c.booked-2.type_inv).read ∙ sum) i)) ∙ unbook b s.args.raw s.args.contact (sym d.is_in_day.ensures ∙ t.if-is_in_day.false)

pub later_good_spec : {M : Type 1} → statement M
later_good_spec =
    tie.close
    (tie.spec
    is_in_day-requires
    overflow_add-b
    booked-requires
    returns-then-refill
    booked-requires-then-is_in_day
    returns-then-is_in_day
    booked-requires-2
    returns)
