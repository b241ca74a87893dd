-- By whether there was a good tick before.
use borrow.Author.Rules.{rules}
use mir.Facts.{to_z-of_z}
use Rattle.outline.specs.DayBook.{book_of}
use Rattle.daybook.proofs.good_tick.Statement.{statement}
use Rattle.daybook.proofs.good_tick.Tie as tie

later_good-requires : tie.Need-later_good-requires
later_good-requires c κs = search rules

returns-then-b : tie.Need-returns-then-b
unfolding book_of
returns-then-b c = simp (c.later_good.ensures, to_z-of_z c.ranges.raw, c.if-b.true)

counted-ticks-requires : tie.Need-counted-ticks-requires
counted-ticks-requires c κs = search rules

returns : tie.Need-returns
unfolding book_of
returns c =
    let e = c.before in
    simp (to_z-of_z e.ranges.raw, c.counted-ticks.ensures, e.if-b.false)

pub good_tick_spec : {M : Type 1} → statement M
good_tick_spec = tie.close (tie.spec later_good-requires returns-then-b counted-ticks-requires returns)
