-- 03 goes by its delay, with no clock; past it 04 to 11 are left.
use mathlib.Core.Path.{refl, sym, ◌∙◌}
use borrow.Author.Rules.{rules}
use mir.Facts.{to_z-of_z}
use Rattle.outline.specs.Stages.{move_of}
use Rattle.batch.proofs.StageLaws.{flow_left, delay_to, start_over}
use Rattle.batch.proofs.stages.batched.Statement.{statement}
use Rattle.batch.proofs.stages.batched.Tie as tie

enum_known-stage : tie.Need-enum_known-stage
enum_known-stage c = search rules

flowed-requires : tie.Need-flowed-requires
flowed-requires c κs = flow_left c.args.q.stage c.in_default.in_default-own.keys2 c.requires.0 c.requires.1

returns-in_default : tie.Need-returns-in_default
returns-in_default c = λ x. simp (to_z-of_z c.ranges.v) at (c.flowed.ensures x)

wait-requires : tie.Need-wait-requires
wait-requires c κs = search rules

enum_known-u : tie.Need-enum_known-u
enum_known-u c = search rules

to-requires : tie.Need-to-requires
to-requires c κs = search rules

returns-in-Some : tie.Need-returns-in-Some
unfolding move_of
returns-in-Some c = λ x.
    let w = c.before.before in
    let g = w.in-StartDelay.is in
    c.to.ensures ∙ delay_to _ _ _ _ refl _ g refl refl refl _ (simp (sym w.wait.ensures ∙ c.in-Some.is))

enum_told-1 : tie.Need-enum_told-1
enum_told-1 c = search rules

after_start-requires : tie.Need-after_start-requires
after_start-requires c κs = simp c.in-StartDelay.is

returns-in-None : tie.Need-returns-in-None
returns-in-None c = λ x.
    let w = c.before.before in
    let g = w.in-StartDelay.is in
    let a = w.before.before in
    let e = simp (to_z-of_z a.ranges.v) at (c.after_start.ensures a.args.stable x) in
    start_over _ _ _ _ refl _ g (sym w.wait.ensures ∙ c.in-None.is) _ e

pub batched_spec : {M : Type 1} → statement M
batched_spec =
    tie.close
    (tie.spec
    enum_known-stage
    flowed-requires
    returns-in_default
    wait-requires
    enum_known-u
    to-requires
    returns-in-Some
    enum_told-1
    after_start-requires
    returns-in-None)
