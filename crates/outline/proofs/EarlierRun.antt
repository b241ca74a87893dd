-- A6 narrows no range: the states that the program before it could reach are in range, and their days balance. Assumes nothing.
use Rattle.std.specs.Prelude.{Option, None, Some, ℤ}
use mathlib.Core.Path.{◌≡◌, refl, sym, ap, ◌∙◌}
use mathlib.Core.Bool.{Bool, true, false, cond}
use mathlib.Core.List.{List, [], ◌∷◌, foldl}
use lib.IntN.{ℤ}
use Rattle.types.specs.declared.settings.Settings.{Settings}
use Rattle.types.specs.declared.daybook.Book.{Book}
use Rattle.types.specs.declared.machine.State.{State}
use Rattle.types.specs.declared.machine.Input.{Input}
use Rattle.outline.specs.Weight.{raw_of}
use Rattle.outline.specs.DayBook.{first_good, later_good, book_of, closed_of}
use Rattle.outline.specs.Tick.{open_state}
use Rattle.outline.specs.Kinds.{request_kind}
use Rattle.outline.specs.Run.{run_from, contact_open}
use Rattle.outline.specs.Ranges.{Balanced, StateRange}
use Rattle.outline.specs.StaysTrue.{Keeps, earlier_tick, EarlierKeeps}
use Rattle.outline.proofs.BookStep as step
use Rattle.outline.proofs.RangeBook.{tick_book, tick_balanced}
use Rattle.outline.proofs.RangeRun.{open_in, tick_in, from_range}

-- whatever the contact, a good tick begins the book
begins : (b : Book) (x : ℤ) (contact : Bool) → (book_of b (Some x) contact).begun ≡ true
unfolding book_of later_good
begins b x contact = go b.begun
  where
    go : (t : Bool) → (cond t (later_good b x contact) (first_good b x contact)).begun ≡ true
    go true = refl
    go false = refl

begun_alike : (raw : Option ℤ) (contact closes : Bool) (b : Book) → (step.book_tick raw contact closes b).begun ≡ (step.book_tick raw false closes b).begun
unfolding book_of closed_of
begun_alike None contact closes b = refl
begun_alike (Some x) contact true b = begins b x contact ∙ sym (begins b x false)
begun_alike (Some x) contact false b = begins b x contact ∙ sym (begins b x false)

tick_begun : (s : Settings) (st : State) (i : Input) → (earlier_tick s st i).book.begun ≡ (earlier_tick s st (contact_open i)).book.begun
tick_begun s st i =
    ap (λ (b : Book). b.begun) (step.tick_book s st i)
    ∙ begun_alike (raw_of s.calibration i.count) i.contact (request_kind i.request).closes st.book
    ∙ sym (ap (λ (b : Book). b.begun) (step.tick_book s st (contact_open i)))

-- the book is in range by the tick with its own contact, all else by the tick with the contact open
earlier_in : (s : Settings) (st : State) (i : Input) → StateRange s st → StateRange s (earlier_tick s st i)
earlier_in s st i h =
    let o = tick_in s st (contact_open i) h in
    record {
      book = tick_book s st i h.book;
      stability = o.stability;
      weighing = o.weighing;
      setpoints = o.setpoints;
      waiting = o.waiting;
      sequence = o.sequence;
      totals = o.totals;
      together = record {
        begun = λ e. tick_begun s st i ∙ o.together.begun e;
        under_way = o.together.under_way;
        resting = o.together.resting;
        unbroken = o.together.unbroken;
        flow = o.together.flow;
        none_waits = o.together.none_waits;
      };
    }

earlier_run : (s : Settings) (st : State) → StateRange s st → Balanced st.book → (is : List Input) → Keeps s (foldl (earlier_tick s) st is)
unfolding run_from
earlier_run s st h e [] = from_range s st h e []
earlier_run s st h e (i ∷ is) = earlier_run s (earlier_tick s st i) (earlier_in s st i h) (tick_balanced s st i h.book e) is

pub earlier_keeps : EarlierKeeps
unfolding open_state
earlier_keeps s is = earlier_run s open_state (open_in s) refl is
