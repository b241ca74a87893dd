-- The last good raw is kept as it is.
use mir.Syntax.{w32}
use mir.Val.{SFits}
use mir.Facts.{to_z-of_z}
use Rattle.whole.specs.Machine.{sfits_of}
use Rattle.outline.specs.DayBook.{closed_of}
use Rattle.daybook.proofs.closed_book.Statement.{statement}
use Rattle.daybook.proofs.closed_book.Tie as tie

returns : tie.Need-returns
unfolding closed_of
returns c =
    let f : SFits w32 c.args.b.last = search sfits_of in
    simp (to_z-of_z f)

pub closed_book_spec : {M : Type 1} → statement M
closed_book_spec = tie.close (tie.spec returns)
