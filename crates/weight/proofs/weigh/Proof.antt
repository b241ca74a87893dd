-- By the two forms of a raw.
use borrow.Author.Rules.{rules}
use mir.Syntax.{w32}
use mir.Val.{SFits}
use mir.Facts.{to_z-of_z}
use Rattle.whole.specs.Machine.{sfits_of}
use Rattle.outline.specs.Weight.{weigh_of}
use Rattle.weight.proofs.weigh.Statement.{statement}
use Rattle.weight.proofs.weigh.Tie as tie

enum_told-1 : tie.Need-enum_told-1
enum_told-1 c = search rules

is_stable-stable-requires : tie.Need-is_stable-stable-requires
is_stable-stable-requires c κs = search rules

enum_known-raw : tie.Need-enum_known-raw
enum_known-raw c = search rules

weigh_good-requires : tie.Need-weigh_good-requires
weigh_good-requires c κs = search rules

returns-in-None : tie.Need-returns-in-None
unfolding weigh_of
returns-in-None c = simp (c.in-None.is, c.is_stable-stable.ensures)

returns-in-Some : tie.Need-returns-in-Some
returns-in-Some c =
    let g = c.before in
    let f : SFits w32 g.in-Some.t = search sfits_of in
    simp (c.weigh_good.ensures, to_z-of_z f, g.in-Some.is)

pub weigh_spec : {M : Type 1} → statement M
weigh_spec =
    tie.close
    (tie.spec enum_told-1 is_stable-stable-requires enum_known-raw weigh_good-requires returns-in-None returns-in-Some)
