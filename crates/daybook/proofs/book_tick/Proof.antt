-- By the two forms of a raw.
use borrow.Author.Rules.{rules}
use mir.Syntax.{w32}
use mir.Val.{SFits}
use mir.Facts.{to_z-of_z}
use Rattle.whole.specs.Machine.{sfits_of}
use Rattle.outline.specs.DayBook.{book_of}
use Rattle.daybook.proofs.book_tick.Statement.{statement}
use Rattle.daybook.proofs.book_tick.Tie as tie

enum_told-1 : tie.Need-enum_told-1
enum_told-1 c = search rules

counted-ticks-requires : tie.Need-counted-ticks-requires
counted-ticks-requires c κs = search rules

enum_known-raw : tie.Need-enum_known-raw
enum_known-raw c = search rules

good_tick-requires : tie.Need-good_tick-requires
good_tick-requires c κs = search rules

returns-in-None : tie.Need-returns-in-None
unfolding book_of
returns-in-None c = simp (c.counted-ticks.ensures, c.in-None.is)

returns-in-Some : tie.Need-returns-in-Some
returns-in-Some c =
    let g = c.before in
    let f : SFits w32 g.in-Some.t = search sfits_of in
    simp (c.good_tick.ensures, to_z-of_z f, g.in-Some.is)

pub book_tick_spec : {M : Type 1} → statement M
book_tick_spec =
    tie.close
    (tie.spec enum_told-1 counted-ticks-requires enum_known-raw good_tick-requires returns-in-None returns-in-Some)
