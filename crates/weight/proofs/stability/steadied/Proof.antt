-- By the two forms of a raw.
use borrow.Author.Rules.{rules}
use mir.Syntax.{w32}
use mir.Val.{SFits}
use mir.Facts.{to_z-of_z}
use Rattle.whole.specs.Machine.{sfits_of}
use Rattle.outline.specs.Weight.{steadied_of}
use Rattle.weight.proofs.stability.steadied.Statement.{statement}
use Rattle.weight.proofs.stability.steadied.Tie as tie

enum_told-1 : tie.Need-enum_told-1
enum_told-1 c = search rules

enum_known-raw : tie.Need-enum_known-raw
enum_known-raw c = search rules

run_after-requires : tie.Need-run_after-requires
run_after-requires c κs = search rules

returns-in-None : tie.Need-returns-in-None
unfolding steadied_of
returns-in-None c = simp c.in-None.is

returns-in-Some : tie.Need-returns-in-Some
unfolding steadied_of
returns-in-Some c =
    let g = c.before in
    let f : SFits w32 g.in-Some.t = search sfits_of in
    simp (c.run_after.ensures, to_z-of_z g.ranges.last, to_z-of_z f, g.in-Some.is)

pub steadied_spec : {M : Type 1} → statement M
steadied_spec =
    tie.close (tie.spec enum_told-1 enum_known-raw run_after-requires returns-in-None returns-in-Some)
