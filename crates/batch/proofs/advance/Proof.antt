-- The tests stand in the order of the definition; past error 9 a discharge and a batch are each what their own part makes of them, whatever
-- the other's facts are.
use borrow.Author.Rules.{rules}
use mir.Facts.{to_z-of_z}
use Rattle.outline.specs.Stages.{advance_of}
use Rattle.batch.proofs.advance.Statement.{statement}
use Rattle.batch.proofs.advance.Tie as tie

is_idle-requires : tie.Need-is_idle-requires
is_idle-requires c κs = search rules

returns-then-is_idle : tie.Need-returns-then-is_idle
unfolding advance_of
returns-then-is_idle c = simp (c.if-is_idle.true, ← c.is_idle.ensures)

fail-requires : tie.Need-fail-requires
fail-requires c κs = search rules

returns-then-unfit : tie.Need-returns-then-unfit
unfolding advance_of
returns-then-unfit c = simp (c.fail.ensures, c.if-unfit.true, c.if-is_idle.false, ← c.is_idle.ensures)

is_discharging-requires : tie.Need-is_discharging-requires
is_discharging-requires c κs = search rules

discharged-requires : tie.Need-discharged-requires
discharged-requires c κs = search rules

returns-then-is_discharging : tie.Need-returns-then-is_discharging
returns-then-is_discharging c =
    let f = c.before.before.before in
    let a = f.before.before.before in
    let e = simp (to_z-of_z a.ranges.gross) at (c.discharged.ensures a.args.stable a.args.v) in
    simp (e, f.if-unfit.false)

batched-requires : tie.Need-batched-requires
batched-requires c κs = search rules

returns : tie.Need-returns
returns c =
    let f = c.before.before.before in
    let a = f.before.before.before in
    let e = simp (to_z-of_z a.ranges.v) at (c.batched.ensures a.args.gross) in
    simp (e, f.if-unfit.false)

pub advance_spec : {M : Type 1} → statement M
advance_spec =
    tie.close
    (tie.spec
    is_idle-requires
    returns-then-is_idle
    fail-requires
    returns-then-unfit
    is_discharging-requires
    discharged-requires
    returns-then-is_discharging
    batched-requires
    returns)
