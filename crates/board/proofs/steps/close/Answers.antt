-- The day that the buffer holds, put into the answer, and the next one begun.
use Rattle.std.proofs.Common.{Some, ap, ◌∙◌}
use Rattle.types.specs.declared.machine.State.{State}
use Rattle.types.specs.declared.daybook.Book.{Book}
use Rattle.outline.specs.DayBook.{closed_of}
use Rattle.outline.specs.Parts.{with_book}
use Rattle.board.specs.InPlace.{closed_put}
use Rattle.board.proofs.Held.{read_part, held_as}
use Rattle.board.proofs.steps.close.Goals as goal

pub returns-clause-state : goal.returns-clause-state
returns-clause-state c st h =
    let b = read_part (λ (t : State). t.book) c.book_at-day.ensures h in
    held_as (λ i. with_book st ((c.closed_book.ensures ∙ ap closed_of b) i)) (c.put_book.ensures.state st h)

pub returns-clause-day : goal.returns-clause-day
returns-clause-day c st h =
    c.put_closed.ensures ∙ ap (λ (b : Book). closed_put (Some b) c.args.answer.now) (read_part (λ (t : State). t.book) c.book_at-day.ensures h)
