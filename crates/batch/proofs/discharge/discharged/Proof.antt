-- 14 goes by its delay, with no clock; past it 15 and 16 are left.
use mathlib.Core.Path.{refl, sym, ◌∙◌}
use borrow.Author.Rules.{rules}
use mir.Facts.{to_z-of_z}
use Rattle.outline.specs.Stages.{move_of}
use Rattle.batch.proofs.StageLaws.{emptying_left, delay_to}
use Rattle.batch.proofs.discharge.discharged.Statement.{statement}
use Rattle.batch.proofs.discharge.discharged.Tie as tie

enum_known-stage : tie.Need-enum_known-stage
enum_known-stage c = search rules

emptied-requires : tie.Need-emptied-requires
emptied-requires c κs = emptying_left c.args.q.stage c.in_default.in_default-own.keys2 c.requires

returns-in_default : tie.Need-returns-in_default
returns-in_default c = λ s v. simp (to_z-of_z c.ranges.gross) at (c.emptied.ensures s v)

wait-requires : tie.Need-wait-requires
wait-requires c κs = search rules

enum_known-u : tie.Need-enum_known-u
enum_known-u c = search rules

to-requires : tie.Need-to-requires
to-requires c κs = search rules

returns-in-Some : tie.Need-returns-in-Some
unfolding move_of
returns-in-Some c = λ s v.
    let w = c.before.before in
    let g = w.in-DischargeStart.is in
    c.to.ensures ∙ delay_to _ _ _ _ refl _ g refl refl refl _ (simp (sym w.wait.ensures ∙ c.in-Some.is))

enum_told-1 : tie.Need-enum_told-1
enum_told-1 c = search rules

to-requires-in-None : tie.Need-to-requires-in-None
to-requires-in-None c κs = search rules

returns-in-None : tie.Need-returns-in-None
unfolding move_of
returns-in-None c = λ s v.
    let w = c.before.before in
    let g = w.in-DischargeStart.is in
    c.to-in-None.ensures ∙ delay_to _ _ _ _ refl _ g refl refl refl _ (simp (sym w.wait.ensures ∙ c.in-None.is))

pub discharged_spec : {M : Type 1} → statement M
discharged_spec =
    tie.close
    (tie.spec
    enum_known-stage
    emptied-requires
    returns-in_default
    wait-requires
    enum_known-u
    to-requires
    returns-in-Some
    enum_told-1
    to-requires-in-None
    returns-in-None)
