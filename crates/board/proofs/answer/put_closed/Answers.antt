-- Each row is written over the bytes that the rows before it left.
use Rattle.std.proofs.Common.{◌≡◌, refl, rules, ap, ◌∙◌, Option, None, Some}
use Rattle.std.specs.Option.{is_some, unwrap_or}
use Rattle.types.specs.declared.daybook.Book.{Book}
use Rattle.outline.specs.DayBook.{open_book}
use Rattle.places.specs.Places.{put_all, flag_tag, coded}
use Rattle.board.specs.AnswerImage.{closed_flag, closed_book}
use Rattle.board.specs.InPlace.{closed_put}
use Rattle.board.proofs.answer.put_closed.Goals as goal

book_else : (c : Option Book) → unwrap_or c open_book ≡ closed_book c
unfolding closed_book
book_else None = refl
book_else (Some b) = refl

flag_else : (c : Option Book) → is_some c ≡ closed_flag c
unfolding closed_flag
flag_else None = refl
flag_else (Some b) = refl

pub returns : goal.returns
unfolding closed_put put_all flag_tag coded
returns c =
    let b = c.unwrap_or-b.ensures ∙ ap (unwrap_or c.args.closed) c.open_book.ensures ∙ book_else c.args.closed in
    let f = c.is_some.ensures ∙ flag_else c.args.closed in
    simp (← b, ← f) (search rules)
