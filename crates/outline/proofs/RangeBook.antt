-- The day book stays in its range and in balance, from whatever book is in both: no sum meets its guard. Assumes nothing.
use Rattle.std.specs.Prelude.{Option, None, Some, ℤ, ℕ}
use Prim.Native.Nat.{ℕ, suc, ◌+◌, ◌*◌, ◌<◌, ◌≤◌}
use native.Mathlib.Omega.{arith}
use mathlib.Core.Path.{◌≡◌, refl}
use mathlib.Core.Bool.{Bool, true, false, cond, not, ◌&&◌}
use lib.Dec.{ltb}
use lib.IntN.{ℤ, pos, nat_abs, ◌+ℤ◌, ◌-ℤ◌}
use borrow.Author.Tests.{leb-true, ltb-true, lt-ltb}
use Rattle.whole.specs.Ints.{ints, linear, int_elim, ints3, ints6, abs_add}
use Rattle.types.specs.declared.settings.Calibration.{Calibration}
use Rattle.types.specs.declared.settings.Settings.{Settings}
use Rattle.types.specs.declared.weight.Weights.{Weights}
use Rattle.types.specs.declared.daybook.Book.{Book}
use Rattle.types.specs.declared.requests.Request.{Request}
use Rattle.types.specs.declared.requests.Request.TheVariants as request
use Rattle.types.specs.declared.machine.State.{State}
use Rattle.types.specs.declared.machine.Input.{Input}
use Rattle.types.specs.declared.machine.Settled.{Settled}
use Rattle.outline.specs.Limits.{raw_limit, rise_limit, day_ticks}
use Rattle.outline.specs.Settings.{within}
use Rattle.outline.specs.Weight.{good_count, tenths_of, raw_of}
use Rattle.outline.specs.DayBook.{booked_of, in_day, day_count, first_good, of_refill, later_good, book_of, closed_of}
use Rattle.outline.specs.Requests.{done_of, ruling_of, granted_of, decided_of}
use Rattle.outline.specs.Tick.{entered_of, settled_of, served_of, with_tracking, finished_of, stepped_of, ended_of, next_of}
use Rattle.outline.specs.Ranges.{BookRange, Balanced}
use Rattle.whole.specs.Chains.{and_right}
use Rattle.outline.proofs.Parts.{cond_same, cond_in, clash, nought_plus}
use Rattle.outline.proofs.DaySums.{plain, near, one_fall}

-- ---- raw
abbrev pub RawRange : Option ℤ → Type 0
RawRange None = Unit {0}
RawRange (Some raw) = nat_abs raw ≤ raw_limit

pub raw_in_lem : (cal : Calibration) (count : ℤ) → RawRange (raw_of cal count)
unfolding raw_of
raw_in_lem cal count =
    cond_in RawRange (good_count count && within raw_limit (tenths_of cal count))
    (λ e. leb-true (nat_abs (tenths_of cal count)) raw_limit (and_right (good_count count) (within raw_limit (tenths_of cal count)) e)) (λ e. tt)

-- ---- the count of the day's ticks
count_in_lem : (b : Book) → b.ticks ≤ day_ticks → day_count b ≤ day_ticks
count_in_lem b h = cond_in (λ (n : ℕ). n ≤ day_ticks) (in_day b) (λ e. omega (arith, ltb-true b.ticks day_ticks e)) (λ e. h)

count_up : (b : Book) → b.ticks ≤ day_count b
count_up b = cond_in (λ (n : ℕ). b.ticks ≤ n) (in_day b) (λ e. omega arith) (λ e. omega arith)

-- ---- a later good tick, from the book's sums r, u and n, its last raw l and its ticks t to raw x; early: it is booked, filled: as refilled
module _ (r u n l x : ℤ) (t : ℕ)
    (sums : nat_abs r + nat_abs u ≤ rise_limit * t)
    (late : nat_abs (n +ℤ l) ≤ raw_limit)
    (none : t < day_ticks → n ≡ pos 0)
    (hl : nat_abs l ≤ raw_limit)
    (hx : nat_abs x ≤ raw_limit)
  where
    booked-up : t < day_ticks → booked_of r (x -ℤ l) ≡ r +ℤ (x -ℤ l)
    booked-up e = plain r (x -ℤ l) (omega (linear, sums, near x l hx hl, e))

    booked-down : t < day_ticks → booked_of u (l -ℤ x) ≡ u +ℤ (l -ℤ x)
    booked-down e = plain u (l -ℤ x) (omega (linear, sums, near l x hl hx, e))

    unbooked-down : booked_of n (l -ℤ x) ≡ n +ℤ (l -ℤ x)
    unbooked-down = plain n (l -ℤ x) (omega (arith, one_fall n l late hl, near l x hl hx))

    sums-more : (early filled : Bool) → ltb t day_ticks ≡ early
        → nat_abs (cond (early && filled) (booked_of r (x -ℤ l)) r) + nat_abs (cond (early && not filled) (booked_of u (l -ℤ x)) u) ≤ rise_limit * cond early (suc t) t
    sums-more true true e = rw (booked-up (ltb-true t day_ticks e)) (omega (linear, sums, abs_add r (x -ℤ l), near x l hx hl))
    sums-more true false e = rw (booked-down (ltb-true t day_ticks e)) (omega (linear, sums, abs_add u (l -ℤ x), near l x hl hx))
    sums-more false filled e = sums

    late_more : (early : Bool) → ltb t day_ticks ≡ early → nat_abs (cond early n (booked_of n (l -ℤ x)) +ℤ x) ≤ raw_limit
    late_more true e = rw (none (ltb-true t day_ticks e), nought_plus x) hx
    late_more false e = rw (unbooked-down, fall-back n l x) late
      where
        fall-back : (n l x : ℤ) → n +ℤ (l -ℤ x) +ℤ x ≡ n +ℤ l
        fall-back = ints3 _ (λ a a' b b' c c'. simp ints (omega linear))

    none_more : (early : Bool) → ltb t day_ticks ≡ early → cond early (suc t) t < day_ticks → cond early n (booked_of n (l -ℤ x)) ≡ pos 0
    none_more true e k = none (ltb-true t day_ticks e)
    none_more false e k = absurd (clash (lt-ltb t day_ticks k) e)

    balance-more : (o : ℤ) → o +ℤ r -ℤ u -ℤ n ≡ l → (early filled : Bool) → ltb t day_ticks ≡ early
        → o +ℤ cond (early && filled) (booked_of r (x -ℤ l)) r -ℤ cond (early && not filled) (booked_of u (l -ℤ x)) u -ℤ cond early n (booked_of n (l -ℤ x)) ≡ x
    balance-more o h true true e = rw (booked-up (ltb-true t day_ticks e)) (go o r u n l x h)
      where
        go : (o r u n l x : ℤ) → o +ℤ r -ℤ u -ℤ n ≡ l → o +ℤ (r +ℤ (x -ℤ l)) -ℤ u -ℤ n ≡ x
        go = ints6 _ (λ o o' r r' u u' n n' l l' x x' h. simp ints (omega (linear, simp ints at h)))
    balance-more o h true false e = rw (booked-down (ltb-true t day_ticks e)) (go o r u n l x h)
      where
        go : (o r u n l x : ℤ) → o +ℤ r -ℤ u -ℤ n ≡ l → o +ℤ r -ℤ (u +ℤ (l -ℤ x)) -ℤ n ≡ x
        go = ints6 _ (λ o o' r r' u u' n n' l l' x x' h. simp ints (omega (linear, simp ints at h)))
    balance-more o h false filled e = rw unbooked-down (go o r u n l x h)
      where
        go : (o r u n l x : ℤ) → o +ℤ r -ℤ u -ℤ n ≡ l → o +ℤ r -ℤ u -ℤ (n +ℤ (l -ℤ x)) ≡ x
        go = ints6 _ (λ o o' r r' u u' n n' l l' x x' h. simp ints (omega (linear, simp ints at h)))

-- ---- step 2
book_in : (b : Book) (raw : Option ℤ) (contact : Bool) → RawRange raw → BookRange b → BookRange (book_of b raw contact)
unfolding book_of later_good
book_in b None contact r h = record {
  opening = h.opening;
  last = h.last;
  ticks = count_in_lem b h.ticks;
  sums = omega (linear, h.sums, count_up b);
  late = h.late;
  none = λ k. h.none (omega (arith, count_up b));
  blank = h.blank;
}
book_in b (Some raw) contact r h = cond_in BookRange b.begun (λ e. later) (λ e. first e)
  where
    later : BookRange (later_good b raw contact)
    later = record {
      opening = h.opening;
      last = r;
      ticks = count_in_lem b h.ticks;
      sums = sums-more b.refilled b.used b.unbooked b.last raw b.ticks h.sums h.late h.none h.last r (in_day b) (of_refill b contact) refl;
      late = late_more b.refilled b.used b.unbooked b.last raw b.ticks h.sums h.late h.none h.last r (in_day b) refl;
      none = none_more b.refilled b.used b.unbooked b.last raw b.ticks h.sums h.late h.none h.last r (in_day b) refl;
      blank = λ e. absurd (clash refl e);
    }

    first : b.begun ≡ false → BookRange (first_good b raw contact)
    first e = record {
      opening = r;
      last = r;
      ticks = count_in_lem b h.ticks;
      sums = omega (linear, h.sums, count_up b);
      late = rw ((h.blank e).5, nought_plus raw) r;
      none = λ k. (h.blank e).5;
      blank = λ e. absurd (clash refl e);
    }

book_balanced : (b : Book) (raw : Option ℤ) (contact : Bool) → RawRange raw → BookRange b → Balanced b → Balanced (book_of b raw contact)
unfolding book_of later_good
book_balanced b None contact r h e = e
book_balanced b (Some raw) contact r h e = cond_in Balanced b.begun (λ k. later) (λ k. first (h.blank k))
  where
    later : Balanced (later_good b raw contact)
    later = balance-more b.refilled b.used b.unbooked b.last raw b.ticks h.sums h.late h.none h.last r b.opening e (in_day b) (of_refill b contact) refl

    whole-raw : (x : ℤ) → x +ℤ pos 0 -ℤ pos 0 -ℤ pos 0 ≡ x
    whole-raw = int_elim _ (λ a b. simp ints (omega linear))

    first : (b.contact ≡ false) × (b.opening ≡ pos 0) × (b.last ≡ pos 0) × (b.refilled ≡ pos 0) × (b.used ≡ pos 0) × (b.unbooked ≡ pos 0) → Balanced (first_good b raw contact)
    first k = rw (k.3, k.4, k.5) (whole-raw raw)

-- ---- step 4: a day close
closed_in : (b : Book) → BookRange b → BookRange (closed_of b)
unfolding closed_of
closed_in b h = record {
  opening = h.last;
  last = h.last;
  ticks = omega arith;
  sums = omega arith;
  late = rw (nought_plus b.last) h.last;
  none = λ k. refl;
  blank = λ e. ((h.blank e).0, (h.blank e).2, (h.blank e).2, refl, refl, refl);
}

closed_balanced : (b : Book) → Balanced (closed_of b)
unfolding closed_of
closed_balanced b = go b.last
  where
    go : (x : ℤ) → x +ℤ pos 0 -ℤ pos 0 -ℤ pos 0 ≡ x
    go = int_elim _ (λ a b. simp ints (omega linear))

-- what a request leaves, with a law P of books that a close keeps
module _ (P : Book → Type 0) (close : (b : Book) → P b → P (closed_of b)) where
  granted_book : (st : State) (x : Weights) (r : Option Request) → P st.book → P (granted_of st x r).state.book
  unfolding granted_of
  granted_book st x None h = h
  granted_book st x (Some request.Zero) h = h
  granted_book st x (Some request.Tare) h = h
  granted_book st x (Some request.TareClear) h = h
  granted_book st x (Some request.Start) h = h
  granted_book st x (Some request.Stop) h = h
  granted_book st x (Some (request.Set p)) h = h
  granted_book st x (Some request.TotalClear) h = h
  granted_book st x (Some request.Undo) h = h
  granted_book st x (Some request.ShowGross) h = h
  granted_book st x (Some request.ShowNet) h = h
  granted_book st x (Some request.DayClose) h = close st.book h
  granted_book st x (Some request.Discharge) h = h

  pub settled_book : (s : Settings) (st : State) (x : Weights) (r : Option Request) → P st.book → P (decided_of s st x r).state.book
  unfolding decided_of
  settled_book s st x r h = cond_in P (done_of (ruling_of s st x r)) (λ e. granted_book st x r h) (λ e. h)

-- ---- steps 5 and 6 leave it
pub ended_book : (s : Settings) (a : Settled) (x : Weights) → (ended_of s a x).book ≡ a.state.book
unfolding ended_of stepped_of finished_of with_tracking
ended_book s a x = simp cond_same

pub tick_book : (s : Settings) (st : State) (i : Input) → BookRange st.book → BookRange (next_of s st i).book
unfolding next_of settled_of entered_of
tick_book s st i h =
    rw (ended_book s (settled_of s st i) (served_of s st i))
    (settled_book BookRange closed_in s _ _ i.request (book_in st.book (raw_of s.calibration i.count) i.contact (raw_in_lem s.calibration i.count) h))

-- from a book in its range, whoever made it
pub tick_balanced : (s : Settings) (st : State) (i : Input) → BookRange st.book → Balanced st.book → Balanced (next_of s st i).book
unfolding next_of settled_of entered_of
tick_balanced s st i h e =
    rw (ended_book s (settled_of s st i) (served_of s st i))
    (settled_book Balanced (λ b k. closed_balanced b) s _ _ i.request (book_balanced st.book (raw_of s.calibration i.count) i.contact (raw_in_lem s.calibration i.count) h e))
