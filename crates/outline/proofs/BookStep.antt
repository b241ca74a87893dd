-- What a tick does to the day book, whatever it does to the rest. Assumes nothing.
use Rattle.std.specs.Prelude.{Option, None, Some, Ok, Err, ℤ}
use mathlib.Core.Path.{◌≡◌, refl, ◌∙◌}
use mathlib.Core.Bool.{Bool, true, false, cond, not, ◌&&◌}
use Rattle.types.specs.declared.settings.Settings.{Settings}
use Rattle.types.specs.declared.weight.Weights.{Weights}
use Rattle.types.specs.declared.daybook.Book.{Book}
use Rattle.types.specs.declared.requests.Request.{Request}
use Rattle.types.specs.declared.requests.Request.TheVariants as request
use Rattle.types.specs.declared.requests.Refusal.TheVariants as refusal
use Rattle.types.specs.declared.machine.State.{State}
use Rattle.types.specs.declared.machine.Input.{Input}
use Rattle.types.specs.declared.machine.Settled.{Settled}
use Rattle.outline.specs.Weight.{raw_of, weigh_of}
use Rattle.outline.specs.DayBook.{book_of, closed_of}
use Rattle.outline.specs.Requests.{done_of, ruling_of, granted_of, decided_of}
use Rattle.outline.specs.Tick.{entered_of, weights_of, settled_of, with_tracking, finished_of, stepped_of, ended_of, next_of}
use Rattle.outline.specs.Kinds.{request_kind}
use Rattle.outline.proofs.Parts.{cond_same, and_no, and_yes}

-- step 2
pub entered_book : (s : Settings) (st : State) (raw : Option ℤ) (contact : Bool) → (entered_of s st raw contact).book ≡ book_of st.book raw contact
unfolding entered_of
entered_book s st raw contact = refl

-- a day close is accepted in a good tick
close_done : (good : Bool) → done_of (cond (not good) (Err refusal.BadTick) (Ok tt)) ≡ good
close_done true = refl
close_done false = refl

-- step 4 changes the book at an accepted day close alone
settled_book : (s : Settings) (st : State) (x : Weights) (r : Option Request) → (decided_of s st x r).state.book ≡ cond (x.good && (request_kind r).closes) (closed_of st.book) st.book
unfolding decided_of ruling_of granted_of
settled_book s st x None = simp (and_no, cond_same)
settled_book s st x (Some request.Zero) = simp (and_no, cond_same)
settled_book s st x (Some request.Tare) = simp (and_no, cond_same)
settled_book s st x (Some request.TareClear) = simp (and_no, cond_same)
settled_book s st x (Some request.Start) = simp (and_no, cond_same)
settled_book s st x (Some request.Stop) = simp (and_no, cond_same)
settled_book s st x (Some (request.Set p)) = simp (and_no, cond_same)
settled_book s st x (Some request.TotalClear) = simp (and_no, cond_same)
settled_book s st x (Some request.Undo) = simp (and_no, cond_same)
settled_book s st x (Some request.ShowGross) = simp (and_no, cond_same)
settled_book s st x (Some request.ShowNet) = simp (and_no, cond_same)
settled_book s st x (Some request.DayClose) = simp (and_yes, close_done)
settled_book s st x (Some request.Discharge) = simp (and_no, cond_same)

-- steps 5 and 6 leave it
ended_book : (s : Settings) (a : Settled) (x : Weights) → (ended_of s a x).book ≡ a.state.book
unfolding ended_of with_tracking stepped_of finished_of
ended_book s a x = simp cond_same

-- the book's part of a tick: what came in, and whether a day close was asked
abbrev pub book_tick : Option ℤ → Bool → Bool → Book → Book
book_tick None contact asks b = book_of b None contact
book_tick (Some x) contact true b = closed_of (book_of b (Some x) contact)
book_tick (Some x) contact false b = book_of b (Some x) contact

-- the step law
pub tick_book : (s : Settings) (st : State) (i : Input) → (next_of s st i).book ≡ book_tick (raw_of s.calibration i.count) i.contact (request_kind i.request).closes st.book
unfolding next_of settled_of entered_of weights_of weigh_of
tick_book s st i = ended_book s _ _ ∙ settled_book s _ _ i.request ∙ go (raw_of s.calibration i.count) (request_kind i.request).closes
  where
    go : (raw : Option ℤ) (asks : Bool) →
        let entered = entered_of s st raw i.contact in
        cond ((weights_of s entered raw i.contact).good && asks) (closed_of entered.book) entered.book ≡ book_tick raw i.contact asks st.book
    go None asks = refl
    go (Some x) true = refl
    go (Some x) false = refl
