-- At the clock's limit error 8; below it what is left is 15, or 16 with its delay: the move that it makes, with the clock one more, or the end.
use Prim.Native.Nat.{◌+◌}
use mathlib.Core.Bool.{Bool, false}
use mathlib.Core.Path.{◌≡◌, refl, sym, ◌∙◌}
use native.Mathlib.Omega.{arith}
use borrow.Author.Rules.{rules}
use lib.IntN.{ℤ}
use mir.Facts.{to_z-of_z}
use Rattle.types.specs.declared.stages.Advanced.{Advanced}
use Rattle.types.specs.declared.stages.Move.TheVariants.{To}
use Rattle.types.specs.declared.stages.Stage.{Stage}
use Rattle.outline.specs.Stages.{facts_at, move_of, advance_of}
use Rattle.batch.proofs.StageLaws.{empty-slow, empty-to, empty-over, open_left}
use Rattle.batch.proofs.discharge.emptied.Statement.{statement}
use Rattle.batch.proofs.discharge.emptied.Tie as tie

-- the place below the limit, where the stages part
abbrev start : tie.After-struct_known-3-1 → tie.Start
start k = k.before.before.before.before

moves : (k : tie.After-struct_known-3-1) (s : Bool) (v : ℤ) (g : Stage) →
    let a = (start k).args in
    let f = facts_at a.p false s v a.gross in
    move_of a.b a.p a.q.stage f ≡ To g
    → ◌≡◌ {A = Advanced} (record { sequence = record { stage = g; clock = a.q.clock + 1; error = a.q.error; judgement = a.q.judgement }; finished = false })
    (advance_of a.b a.p a.q f)
moves k s v g m = empty-to _ _ _ _ refl (start k).requires k.if-b-q.false g m

fail-requires : tie.Need-fail-requires
fail-requires c κs = search rules

returns-then-b-q : tie.Need-returns-then-b-q
returns-then-b-q c = λ s v. c.fail.ensures ∙ empty-slow _ _ _ _ refl c.requires c.if-b-q.true

overflow_add-clock : tie.Need-overflow_add-clock
overflow_add-clock c = record { fits = omega (arith, c.if-b-q.false, c.well_formed.0.1.1.1.1.1.1.1.1.1.0) }

enum_known-stage : tie.Need-enum_known-stage
enum_known-stage c = search rules

is_at_near-requires : tie.Need-is_at_near-requires
is_at_near-requires c κs = search rules

to-requires : tie.Need-to-requires
to-requires c κs = search rules

returns-then-is_at_near : tie.Need-returns-then-is_at_near
unfolding move_of
returns-then-is_at_near c = λ s v.
    let m = c.before.before.before in
    let k = m.before in
    let e = simp (to_z-of_z (start k).ranges.gross) at c.is_at_near.ensures in
    c.to.ensures ∙ moves k s v _ (simp (c.if-is_at_near.true, ← e, open_left (start k).args.q.stage m.in_default.in_default-own.keys2 (start k).requires))

to-requires-in_default : tie.Need-to-requires-in_default
to-requires-in_default c κs = search rules

returns-in_default : tie.Need-returns-in_default
unfolding move_of
returns-in_default c = λ s v.
    let m = c.before.before.before in
    let k = m.before in
    let e = simp (to_z-of_z (start k).ranges.gross) at c.is_at_near.ensures in
    c.to-in_default.ensures ∙ moves k s v _ (simp (c.if-is_at_near.false, ← e, open_left (start k).args.q.stage m.in_default.in_default-own.keys2 (start k).requires))

wait-requires : tie.Need-wait-requires
wait-requires c κs = search rules

enum_known-u : tie.Need-enum_known-u
enum_known-u c = search rules

to-requires-in-Some : tie.Need-to-requires-in-Some
to-requires-in-Some c κs = search rules

returns-in-Some : tie.Need-returns-in-Some
unfolding move_of
returns-in-Some c = λ s v.
    let w = c.before.before in
    let g = w.before in
    c.to-in-Some.ensures ∙ moves g.before s v _ (simp (sym w.wait.ensures ∙ c.in-Some.is, g.in-DischargeEnd.is))

enum_told-1 : tie.Need-enum_told-1
enum_told-1 c = search rules

to-requires-in-None : tie.Need-to-requires-in-None
to-requires-in-None c κs = search rules

returns-in-None : tie.Need-returns-in-None
unfolding move_of
returns-in-None c = λ s v.
    let w = c.before.before in
    let g = w.before in
    let k = g.before in
    c.to-in-None.ensures ∙ empty-over _ _ _ _ refl (start k).requires k.if-b-q.false (simp (sym w.wait.ensures ∙ c.in-None.is, g.in-DischargeEnd.is))

pub emptied_spec : {M : Type 1} → statement M
emptied_spec =
    tie.close
    (tie.spec
    fail-requires
    returns-then-b-q
    overflow_add-clock
    enum_known-stage
    is_at_near-requires
    to-requires
    returns-then-is_at_near
    to-requires-in_default
    returns-in_default
    wait-requires
    enum_known-u
    to-requires-in-Some
    returns-in-Some
    enum_told-1
    to-requires-in-None
    returns-in-None)
