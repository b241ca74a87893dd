-- At the clock's limit error 6; below it one case for each stage, and for each answer of `wait` or of the stage's test: the move that it
-- makes, with the clock one more.
use Prim.Native.Nat.{◌+◌}
use mathlib.Core.Bool.{false}
use mathlib.Core.Path.{◌≡◌, refl, sym, ◌∙◌}
use borrow.Author.Rules.{rules}
use lib.IntN.{ℤ}
use mir.Facts.{to_z-of_z}
use Rattle.types.specs.declared.stages.Advanced.{Advanced}
use Rattle.types.specs.declared.stages.Move.TheVariants.{To}
use Rattle.types.specs.declared.stages.Stage.{Stage}
use Rattle.outline.specs.Stages.{facts_at, move_of, land_of, advance_of}
use Rattle.batch.proofs.StageLaws.{flow-late, flow-on, flow-to, none_left}
use Rattle.batch.proofs.stages.flowed.Statement.{statement}
use Rattle.batch.proofs.stages.flowed.Tie as tie

-- the place below the limit, where the stages are told apart
abbrev start : tie.After-struct_known-3-1 → tie.Start
start k = k.before.before.before.before

moves : (k : tie.After-struct_known-3-1) (x : ℤ) (g : Stage) →
    let a = (start k).args in
    let f = facts_at a.p false a.stable a.v x in
    move_of a.b a.p a.q.stage f ≡ To g
    → ◌≡◌ {A = Advanced} (record { sequence = record { stage = g; clock = a.q.clock + 1; error = a.q.error; judgement = a.q.judgement }; finished = false })
    (advance_of a.b a.p a.q f)
moves k x g m = flow-to _ _ _ _ refl (start k).requires k.if-b-q.false g m

fail-requires : tie.Need-fail-requires
fail-requires c κs = search rules

returns-then-b-q : tie.Need-returns-then-b-q
returns-then-b-q c = λ x. c.fail.ensures ∙ flow-late _ _ _ _ refl c.requires c.if-b-q.true

overflow_add-clock : tie.Need-overflow_add-clock
overflow_add-clock c = search rules

enum_known-stage : tie.Need-enum_known-stage
enum_known-stage c = search rules

wait-requires : tie.Need-wait-requires
wait-requires c κs = search rules

enum_known-u : tie.Need-enum_known-u
enum_known-u c = search rules

to-requires : tie.Need-to-requires
to-requires c κs = search rules

returns-in-Some : tie.Need-returns-in-Some
unfolding move_of
returns-in-Some c = λ x. c.to.ensures ∙ moves c.before.before.before.before x _ (simp (sym c.wait.ensures ∙ c.in-Some.is, c.in-LargeDisable.is))

enum_told-1 : tie.Need-enum_told-1
enum_told-1 c = search rules

to-requires-in-None : tie.Need-to-requires-in-None
to-requires-in-None c κs = search rules

returns-in-None : tie.Need-returns-in-None
unfolding move_of
returns-in-None c = λ x. c.to-in-None.ensures ∙ moves c.before.before.before.before x _ (simp (sym c.wait.ensures ∙ c.in-None.is, c.in-LargeDisable.is))

enum_told-in-LargeFlow : tie.Need-enum_told-in-LargeFlow
enum_told-in-LargeFlow c = search rules

is_reached-requires : tie.Need-is_reached-requires
is_reached-requires c κs = search rules

after_large-requires : tie.Need-after_large-requires
after_large-requires c κs = search rules

to-requires-then-is_reached : tie.Need-to-requires-then-is_reached
to-requires-then-is_reached c κs = search rules

returns-then-is_reached : tie.Need-returns-then-is_reached
unfolding move_of
returns-then-is_reached c = λ x.
    let k = c.before.before.before.before.before in
    let e = simp (to_z-of_z (start k).ranges.v) at c.is_reached.ensures in
    c.to-then-is_reached.ensures ∙ moves k x _ (simp (c.after_large.ensures, c.if-is_reached.true, ← e, c.in-LargeFlow.is))

to-requires-in-LargeFlow : tie.Need-to-requires-in-LargeFlow
to-requires-in-LargeFlow c κs = search rules

returns-in-LargeFlow : tie.Need-returns-in-LargeFlow
unfolding move_of
returns-in-LargeFlow c = λ x.
    let k = c.before.before.before.before in
    let e = simp (to_z-of_z (start k).ranges.v) at c.is_reached.ensures in
    c.to-in-LargeFlow.ensures ∙ moves k x _ (simp (c.if-is_reached.false, ← e, c.in-LargeFlow.is))

enum_known-stage-in-MediumDisable-1 : tie.Need-enum_known-stage-in-MediumDisable-1
enum_known-stage-in-MediumDisable-1 c = search rules

wait-requires-in-MediumDisable : tie.Need-wait-requires-in-MediumDisable
wait-requires-in-MediumDisable c κs = search rules

enum_known-u-in-Some-wait-2 : tie.Need-enum_known-u-in-Some-wait-2
enum_known-u-in-Some-wait-2 c = search rules

to-requires-in-Some-wait : tie.Need-to-requires-in-Some-wait
to-requires-in-Some-wait c κs = search rules

returns-in-Some-wait : tie.Need-returns-in-Some-wait
unfolding move_of
returns-in-Some-wait c = λ x. c.to-in-Some-wait.ensures ∙ moves c.before.before.before.before x _ (simp (sym c.wait-in-MediumDisable.ensures ∙ c.in-Some-wait.is, c.in-MediumDisable.is))

enum_told-in-None-wait : tie.Need-enum_told-in-None-wait
enum_told-in-None-wait c = search rules

to-requires-in-None-wait : tie.Need-to-requires-in-None-wait
to-requires-in-None-wait c κs = search rules

returns-in-None-wait : tie.Need-returns-in-None-wait
unfolding move_of
returns-in-None-wait c = λ x. c.to-in-None-wait.ensures ∙ moves c.before.before.before.before x _ (simp (sym c.wait-in-MediumDisable.ensures ∙ c.in-None-wait.is, c.in-MediumDisable.is))

enum_told-in-MediumFlow : tie.Need-enum_told-in-MediumFlow
enum_told-in-MediumFlow c = search rules

is_reached-requires-in-MediumFlow : tie.Need-is_reached-requires-in-MediumFlow
is_reached-requires-in-MediumFlow c κs = search rules

to-requires-then-is_reached-2 : tie.Need-to-requires-then-is_reached-2
to-requires-then-is_reached-2 c κs = search rules

returns-then-is_reached-2 : tie.Need-returns-then-is_reached-2
unfolding move_of
returns-then-is_reached-2 c = λ x.
    let k = c.before.before.before.before in
    let e = simp (to_z-of_z (start k).ranges.v) at c.is_reached-in-MediumFlow.ensures in
    c.to-then-is_reached-2.ensures ∙ moves k x _ (simp (c.if-is_reached-2.true, ← e, c.in-MediumFlow.is))

to-requires-in-MediumFlow : tie.Need-to-requires-in-MediumFlow
to-requires-in-MediumFlow c κs = search rules

returns-in-MediumFlow : tie.Need-returns-in-MediumFlow
unfolding move_of
returns-in-MediumFlow c = λ x.
    let k = c.before.before.before.before in
    let e = simp (to_z-of_z (start k).ranges.v) at c.is_reached-in-MediumFlow.ensures in
    c.to-in-MediumFlow.ensures ∙ moves k x _ (simp (c.if-is_reached-2.false, ← e, c.in-MediumFlow.is))

enum_known-stage-in-SmallDisable-1 : tie.Need-enum_known-stage-in-SmallDisable-1
enum_known-stage-in-SmallDisable-1 c = search rules

wait-requires-in-SmallDisable : tie.Need-wait-requires-in-SmallDisable
wait-requires-in-SmallDisable c κs = search rules

enum_known-u-in-Some-wait-3 : tie.Need-enum_known-u-in-Some-wait-3
enum_known-u-in-Some-wait-3 c = search rules

to-requires-in-Some-wait-2 : tie.Need-to-requires-in-Some-wait-2
to-requires-in-Some-wait-2 c κs = search rules

returns-in-Some-wait-2 : tie.Need-returns-in-Some-wait-2
unfolding move_of
returns-in-Some-wait-2 c = λ x. c.to-in-Some-wait-2.ensures ∙ moves c.before.before.before.before x _ (simp (sym c.wait-in-SmallDisable.ensures ∙ c.in-Some-wait-2.is, c.in-SmallDisable.is))

enum_told-in-None-wait-2 : tie.Need-enum_told-in-None-wait-2
enum_told-in-None-wait-2 c = search rules

to-requires-in-None-wait-2 : tie.Need-to-requires-in-None-wait-2
to-requires-in-None-wait-2 c κs = search rules

returns-in-None-wait-2 : tie.Need-returns-in-None-wait-2
unfolding move_of
returns-in-None-wait-2 c = λ x. c.to-in-None-wait-2.ensures ∙ moves c.before.before.before.before x _ (simp (sym c.wait-in-SmallDisable.ensures ∙ c.in-None-wait-2.is, c.in-SmallDisable.is))

enum_told-in-SmallFlow : tie.Need-enum_told-in-SmallFlow
enum_told-in-SmallFlow c = search rules

is_reached-requires-in-SmallFlow : tie.Need-is_reached-requires-in-SmallFlow
is_reached-requires-in-SmallFlow c κs = search rules

to-requires-then-is_reached-3 : tie.Need-to-requires-then-is_reached-3
to-requires-then-is_reached-3 c κs = search rules

returns-then-is_reached-3 : tie.Need-returns-then-is_reached-3
unfolding move_of
returns-then-is_reached-3 c = λ x.
    let k = c.before.before.before.before in
    let e = simp (to_z-of_z (start k).ranges.v) at c.is_reached-in-SmallFlow.ensures in
    c.to-then-is_reached-3.ensures ∙ moves k x _ (simp (c.if-is_reached-3.true, ← e, c.in-SmallFlow.is))

to-requires-in-SmallFlow : tie.Need-to-requires-in-SmallFlow
to-requires-in-SmallFlow c κs = search rules

returns-in-SmallFlow : tie.Need-returns-in-SmallFlow
unfolding move_of
returns-in-SmallFlow c = λ x.
    let k = c.before.before.before.before in
    let e = simp (to_z-of_z (start k).ranges.v) at c.is_reached-in-SmallFlow.ensures in
    c.to-in-SmallFlow.ensures ∙ moves k x _ (simp (c.if-is_reached-3.false, ← e, c.in-SmallFlow.is))

enum_known-stage-in-JudgeDelay-1 : tie.Need-enum_known-stage-in-JudgeDelay-1
enum_known-stage-in-JudgeDelay-1 c = search rules

wait-requires-in-JudgeDelay : tie.Need-wait-requires-in-JudgeDelay
wait-requires-in-JudgeDelay c κs = search rules

enum_known-u-in-Some-wait-4 : tie.Need-enum_known-u-in-Some-wait-4
enum_known-u-in-Some-wait-4 c = search rules

to-requires-in-Some-wait-3 : tie.Need-to-requires-in-Some-wait-3
to-requires-in-Some-wait-3 c κs = search rules

returns-in-Some-wait-3 : tie.Need-returns-in-Some-wait-3
unfolding move_of
returns-in-Some-wait-3 c = λ x. c.to-in-Some-wait-3.ensures ∙ moves c.before.before.before.before x _ (simp (sym c.wait-in-JudgeDelay.ensures ∙ c.in-Some-wait-3.is, c.in-JudgeDelay.is))

enum_told-in-None-wait-3 : tie.Need-enum_told-in-None-wait-3
enum_told-in-None-wait-3 c = search rules

to-requires-in-None-wait-3 : tie.Need-to-requires-in-None-wait-3
to-requires-in-None-wait-3 c κs = search rules

returns-in-None-wait-3 : tie.Need-returns-in-None-wait-3
unfolding move_of
returns-in-None-wait-3 c = λ x. c.to-in-None-wait-3.ensures ∙ moves c.before.before.before.before x _ (simp (sym c.wait-in-JudgeDelay.ensures ∙ c.in-None-wait-3.is, c.in-JudgeDelay.is))

enum_told-in-JudgeWait : tie.Need-enum_told-in-JudgeWait
enum_told-in-JudgeWait c = search rules

judge-requires : tie.Need-judge-requires
judge-requires c κs = search rules

finish-requires : tie.Need-finish-requires
finish-requires c κs = search rules

returns-then-stable : tie.Need-returns-then-stable
unfolding move_of land_of
returns-then-stable c = λ x.
    let k = c.before.before.before.before in
    let a = start k in
    let j = simp (to_z-of_z a.ranges.v) at (c.judge.ensures a.args.stable x) in
    (simp (c.finish.ensures, j, c.if-stable.true, c.in-JudgeWait.is)) ∙ flow-on _ _ _ _ refl a.requires k.if-b-q.false

to-requires-in-JudgeWait : tie.Need-to-requires-in-JudgeWait
to-requires-in-JudgeWait c κs = search rules

returns-in-JudgeWait : tie.Need-returns-in-JudgeWait
unfolding move_of
returns-in-JudgeWait c = λ x.
    c.to-in-JudgeWait.ensures ∙ moves c.before.before.before x _ (simp (c.if-stable.false, c.in-JudgeWait.is))

returns-in_default : tie.Need-returns-in_default
returns-in_default c = none_left (start c.before).args.q.stage c.in_default.in_default-own.keys9 (start c.before).requires

pub flowed_spec : {M : Type 1} → statement M
flowed_spec =
    tie.close
    (tie.spec
    fail-requires
    returns-then-b-q
    overflow_add-clock
    enum_known-stage
    wait-requires
    enum_known-u
    to-requires
    returns-in-Some
    enum_told-1
    to-requires-in-None
    returns-in-None
    enum_told-in-LargeFlow
    is_reached-requires
    after_large-requires
    to-requires-then-is_reached
    returns-then-is_reached
    to-requires-in-LargeFlow
    returns-in-LargeFlow
    enum_known-stage-in-MediumDisable-1
    wait-requires-in-MediumDisable
    enum_known-u-in-Some-wait-2
    to-requires-in-Some-wait
    returns-in-Some-wait
    enum_told-in-None-wait
    to-requires-in-None-wait
    returns-in-None-wait
    enum_told-in-MediumFlow
    is_reached-requires-in-MediumFlow
    to-requires-then-is_reached-2
    returns-then-is_reached-2
    to-requires-in-MediumFlow
    returns-in-MediumFlow
    enum_known-stage-in-SmallDisable-1
    wait-requires-in-SmallDisable
    enum_known-u-in-Some-wait-3
    to-requires-in-Some-wait-2
    returns-in-Some-wait-2
    enum_told-in-None-wait-2
    to-requires-in-None-wait-2
    returns-in-None-wait-2
    enum_told-in-SmallFlow
    is_reached-requires-in-SmallFlow
    to-requires-then-is_reached-3
    returns-then-is_reached-3
    to-requires-in-SmallFlow
    returns-in-SmallFlow
    enum_known-stage-in-JudgeDelay-1
    wait-requires-in-JudgeDelay
    enum_known-u-in-Some-wait-4
    to-requires-in-Some-wait-3
    returns-in-Some-wait-3
    enum_told-in-None-wait-3
    to-requires-in-None-wait-3
    returns-in-None-wait-3
    enum_told-in-JudgeWait
    judge-requires
    finish-requires
    returns-then-stable
    to-requires-in-JudgeWait
    returns-in-JudgeWait
    returns-in_default)
