-- What a day close answers is the book that the same tick without the close would have left. Assumes nothing.
use Rattle.std.specs.Prelude.{Option, None, Some, Result, Ok, ℤ}
use mathlib.Core.Path.{◌≡◌, refl, sym, ap, ◌∙◌}
use mathlib.Core.Bool.{Bool, false}
use Rattle.types.specs.declared.requests.Refusal.{Refusal}
use Rattle.types.specs.declared.weight.Weights.{Weights}
use Rattle.types.specs.declared.daybook.Book.{Book}
use Rattle.types.specs.declared.requests.Request.{Request}
use Rattle.types.specs.declared.requests.Request.TheVariants as request
use Rattle.types.specs.declared.machine.State.{State}
use Rattle.outline.specs.Weight.{raw_of}
use Rattle.outline.specs.DayBook.{book_of}
use Rattle.outline.specs.Requests.{granted_of, unless_refused, decided_of}
use Rattle.outline.specs.Tick.{settled_of, outputs_of, tick_of}
use Rattle.outline.specs.Run.{without_request}
use Rattle.outline.specs.StaysTrue.{Ticket}
use Rattle.outline.proofs.BookStep.{entered_book, book_tick, tick_book}

-- an accepted close answers the book as step 2 left it
answered : (o : Result (Unit {0}) Refusal) (st : State) (x : Weights) (r : Option Request) → r ≡ Some request.DayClose → o ≡ Ok tt → (unless_refused o st (granted_of st x r)).closed ≡ Some st.book
unfolding granted_of
answered o st x r asks done = rw (done, asks)

-- and without the close that book is left
unclosed : (raw : Option ℤ) (contact : Bool) (b : Book) → book_of b raw contact ≡ book_tick raw contact false b
unclosed None contact b = refl
unclosed (Some x) contact b = refl

pub ticket : Ticket
unfolding tick_of outputs_of settled_of decided_of
ticket s st i asks done =
    let raw = raw_of s.calibration i.count in
    answered _ _ _ i.request asks done
    ∙ ap Some (entered_book s st raw i.contact ∙ unclosed raw i.contact st.book ∙ sym (tick_book s st (without_request i)))
