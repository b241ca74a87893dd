-- The book's sums are those of the day's good ticks, exactly: no sum meets the guard. And those sums balance. Assumes nothing.
use Rattle.std.specs.Prelude.{None, Some, ℤ, ℕ}
use Prim.Native.Nat.{ℕ, suc, ◌+◌, ◌*◌, ◌≤◌, min}
use native.Mathlib.Nat as N
use native.Mathlib.Omega.{arith}
use mathlib.Core.Path.{◌≡◌, refl, sym, ap, ◌∙◌}
use mathlib.Core.Bool.{Bool, true, false, cond, not, ◌&&◌}
use mathlib.Core.List.{List, [], ◌∷◌}
use lib.Dec.{leb}
use lib.IntN.{ℤ, pos, neg_ℤ, nat_abs, ◌+ℤ◌, ◌-ℤ◌}
use borrow.Author.Tests.{leb-true, le-leb}
use Rattle.whole.specs.Limit.{limit_plain}
use Rattle.whole.specs.Ints.{ints, linear, int_elim, ints2, ints3, ints6, abs_add}
use Rattle.outline.specs.Limits.{day_ticks, raw_limit, rise_limit, book_limit}
use Rattle.outline.specs.DayBook.{limit_of, booked_of, in_day, day_count, of_refill, later_good, book_of, closed_of}
use Rattle.outline.specs.Day.{Good, rise_of, rises_of, early_of, filled_at, is_use, is_late, refilled_of, used_of, unbooked_of, opening_of, last_of, day_sums}
use Rattle.whole.specs.Chains.{and_left}
use Rattle.outline.proofs.Parts.{cond_same, cond_turned, plus_nought, nought_plus}

-- what is known of the good ticks of a day that has had n ticks
pub record Bounded (gs : List Good) (n : ℕ) : Type 0 where
  pub sums : nat_abs (refilled_of gs) + nat_abs (used_of gs) ≤ rise_limit * min n day_ticks
  pub last : nat_abs (last_of gs) ≤ raw_limit
  pub late : nat_abs (unbooked_of gs +ℤ last_of gs) ≤ raw_limit
  pub none : n ≤ day_ticks → unbooked_of gs ≡ pos 0

-- ---- a booked change is a plain sum
within_limit : (x : ℤ) → nat_abs x ≤ book_limit → limit_of x ≡ x
unfolding limit_of
within_limit x h = limit_plain book_limit x h

pub plain : (sum change : ℤ) → nat_abs sum + nat_abs change ≤ book_limit → booked_of sum change ≡ sum +ℤ change
unfolding booked_of
plain sum change h = rw (within_limit sum (omega arith)) (within_limit (sum +ℤ change) (omega (arith, abs_add sum change)))

pub near : (x y : ℤ) → nat_abs x ≤ raw_limit → nat_abs y ≤ raw_limit → nat_abs (x -ℤ y) ≤ rise_limit
near = ints2 _ (λ a a' b b' h k. simp ints (omega (linear, simp ints at h, simp ints at k)))

-- ---- the tick's number: the book counts up to the last tick booked, the history goes on
in_day_lem : (gs : List Good) (n : ℕ) → in_day (day_sums gs n) ≡ leb (suc n) day_ticks
in_day_lem gs n = go (leb (suc n) day_ticks) refl
  where
    go : (t : Bool) → leb (suc n) day_ticks ≡ t → in_day (day_sums gs n) ≡ t
    go true e = omega (linear, e)
    go false e = omega (linear, e)

counted_by : (n : ℕ) (t : Bool) → leb (suc n) day_ticks ≡ t → cond t (suc (min n day_ticks)) (min n day_ticks) ≡ min (suc n) day_ticks
counted_by n true e = omega (linear, e)
counted_by n false e = omega (linear, e)

counted : (gs : List Good) (n : ℕ) → day_count (day_sums gs n) ≡ min (suc n) day_ticks
counted gs n = rw (in_day_lem gs n) (counted_by n (leb (suc n) day_ticks) refl)

-- ---- a sum at one tick more, which it books or does not
added : (on : Bool) (r d : ℤ) → (on ≡ true → nat_abs r + nat_abs d ≤ book_limit) → cond on (booked_of r d) r ≡ r +ℤ cond on d (pos 0)
added true r d h = plain r d (h refl)
added false r d h = sym (plus_nought r)

neg_add : (a x y : ℤ) → neg_ℤ a +ℤ (y -ℤ x) ≡ neg_ℤ (a +ℤ (x -ℤ y))
neg_add = ints3 _ (λ a a' b b' c c'. simp ints (omega linear))

taken : (on : Bool) (r x y : ℤ) → (on ≡ true → nat_abs (neg_ℤ r) + nat_abs (y -ℤ x) ≤ book_limit) → cond on (booked_of (neg_ℤ r) (y -ℤ x)) (neg_ℤ r) ≡ neg_ℤ (r +ℤ cond on (x -ℤ y) (pos 0))
taken true r x y h = plain (neg_ℤ r) (y -ℤ x) (h refl) ∙ neg_add r x y
taken false r x y h = ap neg_ℤ (sym (plus_nought r))

-- unbooked is one fall: from the last raw booked to the last good raw
pub one_fall : (u l : ℤ) → nat_abs (u +ℤ l) ≤ raw_limit → nat_abs l ≤ raw_limit → nat_abs u ≤ rise_limit
one_fall = ints2 _ (λ a a' b b' h k. simp ints (omega (linear, simp ints at h, simp ints at k)))

-- ---- the book, from tick to tick
module _ (before : Good) (gs : List Good) (n : ℕ) (x : ℤ) (contact : Bool) (b : Bounded (before ∷ gs) n) (hx : nat_abs x ≤ raw_limit) where
  up : nat_abs (x -ℤ before.raw) ≤ rise_limit
  up = near x before.raw hx b.last

  down : nat_abs (before.raw -ℤ x) ≤ rise_limit
  down = near before.raw x b.last hx

  later : later_good (day_sums (before ∷ gs) n) x contact ≡ day_sums (record { raw = x; contact = contact; number = suc n } ∷ before ∷ gs) (suc n)
  unfolding later_good
  later =
      let early = leb (suc n) day_ticks in
      let filled = of_refill (day_sums (before ∷ gs) n) contact in
      rw (in_day_lem (before ∷ gs) n)
      (λ i. record {
        begun = true;
        contact = contact;
        opening = opening_of (before ∷ gs);
        last = x;
        refilled = added (early && filled) (refilled_of (before ∷ gs)) (x -ℤ before.raw) (λ e. omega (linear, b.sums, up, leb-true (suc n) day_ticks (and_left early filled e))) i;
        used = taken (early && not filled) (rises_of is_use (before ∷ gs)) x before.raw (λ e. omega (linear, b.sums, down, leb-true (suc n) day_ticks (and_left early (not filled) e))) i;
        unbooked = (cond_turned early _ _ ∙ taken (not early) (rises_of is_late (before ∷ gs)) x before.raw (λ e. omega (linear, one_fall (unbooked_of (before ∷ gs)) before.raw b.late b.last, down))) i;
        ticks = counted_by n early refl i;
      })

pub book_good : (gs : List Good) (n : ℕ) (x : ℤ) (contact : Bool) → Bounded gs n → nat_abs x ≤ raw_limit → book_of (day_sums gs n) (Some x) contact ≡ day_sums (record { raw = x; contact = contact; number = suc n } ∷ gs) (suc n)
unfolding book_of
book_good [] n x contact b hx = simp (counted [] n, cond_same)
book_good (before ∷ gs) n x contact b hx = later before gs n x contact b hx

pub book_bad : (gs : List Good) (n : ℕ) (contact : Bool) → book_of (day_sums gs n) None contact ≡ day_sums gs (suc n)
unfolding book_of
book_bad gs n contact = simp (counted gs n)

pub book_close : (g : Good) (gs : List Good) (n : ℕ) → closed_of (day_sums (g ∷ gs) n) ≡ day_sums (g ∷ []) 0
unfolding closed_of
book_close g gs n = simp cond_same

-- ---- the bounds, from tick to tick
pub bounded_start : Bounded [] 0
bounded_start = record { sums = omega arith; last = omega arith; late = omega arith; none = λ h. refl }

pub bounded_bad : (gs : List Good) (n : ℕ) → Bounded gs n → Bounded gs (suc n)
bounded_bad gs n b = record { sums = omega (arith, b.sums); last = b.last; late = b.late; none = λ h. b.none (omega arith) }

pub bounded_close : (g : Good) → nat_abs g.raw ≤ raw_limit → Bounded (g ∷ []) 0
bounded_close g h = record { sums = simp cond_same (omega arith); last = h; late = simp (cond_same, nought_plus) h; none = λ k. simp cond_same }

rise_small : (g : Good) (gs : List Good) → nat_abs g.raw ≤ raw_limit → nat_abs (last_of gs) ≤ raw_limit → nat_abs (rise_of g gs) ≤ rise_limit
rise_small g [] h k = omega arith
rise_small g (before ∷ gs) h k = near g.raw before.raw h k

-- a rise is booked in one sum at most
share : (early filled : Bool) (d : ℤ) → nat_abs d ≤ rise_limit → nat_abs (cond (early && filled) d (pos 0)) + nat_abs (cond (early && not filled) d (pos 0)) ≤ cond early rise_limit 0
share true true d h = omega arith
share true false d h = omega arith
share false filled d h = omega arith

abs_neg : (x : ℤ) → nat_abs (neg_ℤ x) ≡ nat_abs x
abs_neg = int_elim _ (λ a a'. simp ints (omega linear))

grow : (r u c d : ℤ) (m k : ℕ) → nat_abs r + nat_abs (neg_ℤ u) ≤ m → nat_abs c + nat_abs d ≤ k → nat_abs (r +ℤ c) + nat_abs (neg_ℤ (u +ℤ d)) ≤ m + k
grow r u c d m k h l = omega (arith, abs_add r c, abs_add u d, abs_neg u, abs_neg (u +ℤ d))

room : (n : ℕ) (t : Bool) → leb (suc n) day_ticks ≡ t → rise_limit * min n day_ticks + cond t rise_limit 0 ≤ rise_limit * min (suc n) day_ticks
room n true e = omega (linear, e)
room n false e = omega (linear, e)

still : (u : ℤ) → neg_ℤ u ≡ pos 0 → neg_ℤ (u +ℤ pos 0) ≡ pos 0
still u h = ap neg_ℤ (plus_nought u) ∙ h

-- unbooked and the last good raw move against one another
late_more : (gs : List Good) (n : ℕ) (x : ℤ) (contact t : Bool) → leb (suc n) day_ticks ≡ t → Bounded gs n → nat_abs x ≤ raw_limit → nat_abs (neg_ℤ (rises_of is_late gs +ℤ cond (not t) (rise_of (record { raw = x; contact = contact; number = suc n }) gs) (pos 0)) +ℤ x) ≤ raw_limit
late_more gs n x contact true e b hx = rw (still (rises_of is_late gs) (b.none (omega (linear, e))), nought_plus x) hx
late_more [] n x contact false e b hx = rw (nought_plus x) hx
late_more (before ∷ gs) n x contact false e b hx = go (rises_of is_late (before ∷ gs)) x before.raw b.late
  where
    go : (u x y : ℤ) → nat_abs (neg_ℤ u +ℤ y) ≤ raw_limit → nat_abs (neg_ℤ (u +ℤ (x -ℤ y)) +ℤ x) ≤ raw_limit
    go = ints3 _ (λ a a' b b' c c' h. simp ints (omega (linear, simp ints at h)))

pub bounded_good : (gs : List Good) (n : ℕ) (x : ℤ) (contact : Bool) → Bounded gs n → nat_abs x ≤ raw_limit → Bounded (record { raw = x; contact = contact; number = suc n } ∷ gs) (suc n)
bounded_good gs n x contact b hx =
    let early = leb (suc n) day_ticks in
    let g : Good = record { raw = x; contact = contact; number = suc n } in
    record {
      sums = N.le_trans (grow (refilled_of gs) (rises_of is_use gs) _ _ (rise_limit * min n day_ticks) (cond early rise_limit 0) b.sums (share early (filled_at g gs) (rise_of g gs) (rise_small g gs hx b.last))) (room n early refl);
      last = hx;
      late = late_more gs n x contact early refl b hx;
      none = λ h. rw (le-leb (suc n) day_ticks h) (still (rises_of is_late gs) (b.none (omega arith)));
    }

-- ---- the balance
pub balanced : (gs : List Good) → opening_of gs +ℤ refilled_of gs -ℤ used_of gs -ℤ unbooked_of gs ≡ last_of gs
balanced [] = refl
balanced (g ∷ []) = simp (cond_same, plus_nought)
balanced (g ∷ before ∷ gs) = go (early_of g) (filled_at g (before ∷ gs)) (opening_of (before ∷ gs)) (refilled_of (before ∷ gs)) (rises_of is_use (before ∷ gs)) (rises_of is_late (before ∷ gs)) before.raw g.raw (balanced (before ∷ gs))
  where
    go : (early filled : Bool) (o r u n l x : ℤ) → o +ℤ r -ℤ neg_ℤ u -ℤ neg_ℤ n ≡ l → o +ℤ (r +ℤ cond (early && filled) (x -ℤ l) (pos 0)) -ℤ neg_ℤ (u +ℤ cond (early && not filled) (x -ℤ l) (pos 0)) -ℤ neg_ℤ (n +ℤ cond (not early) (x -ℤ l) (pos 0)) ≡ x
    go true true = ints6 _ (λ o o' r r' u u' n n' l l' x x' h. simp ints (omega (linear, simp ints at h)))
    go true false = ints6 _ (λ o o' r r' u u' n n' l l' x x' h. simp ints (omega (linear, simp ints at h)))
    go false filled = ints6 _ (λ o o' r r' u u' n n' l l' x x' h. simp ints (omega (linear, simp ints at h)))
