-- The book of every run is its history's sums, and balances. Assumes nothing.
use Rattle.std.specs.Prelude.{Some}
use Prim.Native.Nat.{suc}
use mathlib.Core.Path.{◌≡◌, refl, sym, ap, ◌∙◌, subst}
use mathlib.Core.Bool.{Bool, true, false, cond, ◌&&◌}
use mathlib.Core.List.{[], ◌∷◌}
use lib.IntN.{◌+ℤ◌, ◌-ℤ◌}
use Rattle.types.specs.declared.settings.Settings.{Settings}
use Rattle.types.specs.declared.daybook.Book.{Book}
use Rattle.types.specs.declared.machine.Input.{Input}
use Rattle.outline.specs.Weight.{tenths_of, raw_of}
use Rattle.outline.specs.DayBook.{book_of, closed_of}
use Rattle.outline.specs.Tick.{open_state}
use Rattle.outline.specs.Owed.{Accepted}
use Rattle.outline.specs.Run.{History, start, ◌▷◌, run_of}
use Rattle.outline.specs.Kinds.{request_kind}
use Rattle.outline.specs.Day.{good_of, noted, tape_of, ticks_of, good_at, goods_of, day_sums, book_history}
use Rattle.outline.specs.StaysTrue.{Balance, SumsOfHistory, NothingElse}
use Rattle.outline.proofs.RawLaw.{raw_law}
use Rattle.outline.proofs.BookStep.{book_tick, tick_book}
use Rattle.outline.proofs.DaySums.{Bounded, bounded_start, bounded_bad, bounded_good, bounded_close, book_good, book_bad, book_close, balanced}

module _ (s : Settings) (ok : Accepted s) where
  bounded : (h : History Input) → Bounded (goods_of s.calibration (tape_of h)) (ticks_of (tape_of h))
  bounded start = bounded_start
  bounded (h ▷ i) = go (good_of i.count) (request_kind i.request).closes refl (bounded h)
    where
      go : (good asks : Bool) → good_of i.count ≡ good →
          let goods = goods_of s.calibration (tape_of h) in
          let n = ticks_of (tape_of h) in
          Bounded goods n → Bounded (cond good (good_at s.calibration (noted i) (suc n) ∷ cond (good && asks) [] goods) goods) (cond (good && asks) 0 (suc n))
      go true true e b = bounded_close _ ((raw_law s ok i.count).small e)
      go true false e b = bounded_good _ _ _ i.contact b ((raw_law s ok i.count).small e)
      go false asks e b = bounded_bad _ _ b

  -- a tick takes the sums of a history to those of the history with that tick
  book_more : (h : History Input) (i : Input) → book_tick (raw_of s.calibration i.count) i.contact (request_kind i.request).closes (book_history s.calibration (tape_of h)) ≡ book_history s.calibration (tape_of (h ▷ i))
  unfolding book_history
  book_more h i = go (good_of i.count) (request_kind i.request).closes refl
    where
      good-tick : good_of i.count ≡ true →
          let goods = goods_of s.calibration (tape_of h) in
          let n = ticks_of (tape_of h) in
          book_of (day_sums goods n) (Some (tenths_of s.calibration i.count)) i.contact ≡ day_sums (good_at s.calibration (noted i) (suc n) ∷ goods) (suc n)
      good-tick e = book_good (goods_of s.calibration (tape_of h)) (ticks_of (tape_of h)) _ i.contact (bounded h) ((raw_law s ok i.count).small e)

      go : (good asks : Bool) → good_of i.count ≡ good →
          let goods = goods_of s.calibration (tape_of h) in
          let n = ticks_of (tape_of h) in
          book_tick (raw_of s.calibration i.count) i.contact asks (day_sums goods n)
          ≡ day_sums (cond good (good_at s.calibration (noted i) (suc n) ∷ cond (good && asks) [] goods) goods) (cond (good && asks) 0 (suc n))
      go true true e = rw ((raw_law s ok i.count).good e) (ap closed_of (good-tick e) ∙ book_close _ (goods_of s.calibration (tape_of h)) _)
      go true false e = rw ((raw_law s ok i.count).good e) (good-tick e)
      go false asks e = rw ((raw_law s ok i.count).bad e) (book_bad (goods_of s.calibration (tape_of h)) (ticks_of (tape_of h)) i.contact)

pub sums_law : SumsOfHistory
unfolding run_of open_state book_history
sums_law s ok start = refl
sums_law s ok (h ▷ i) = tick_book s (run_of s h) i ∙ ap (book_tick (raw_of s.calibration i.count) i.contact (request_kind i.request).closes) (sums_law s ok h) ∙ book_more s ok h i

pub balance_law : Balance
unfolding book_history
balance_law s ok h = subst (λ (b : Book). b.opening +ℤ b.refilled -ℤ b.used -ℤ b.unbooked ≡ b.last) (sym (sums_law s ok h)) (balanced (goods_of s.calibration (tape_of h)))

pub nothing_else : NothingElse
nothing_else s s' ok ok' h h' e f = sums_law s ok h ∙ (λ i. book_history (e i) (f i)) ∙ sym (sums_law s' ok' h')
