-- Off in an unfit tick and in mode 1; else full against gross.
use native.Mathlib.Omega.{arith}
use lib.Signed.{lt_z}
use mir.Syntax.{w32, w64}
use mir.Val.{SFits}
use Rattle.whole.specs.Bits.{nat, widened}
use Rattle.whole.specs.Machine.{sfits_of}
use Rattle.outline.specs.Setpoints.{full_of}
use Rattle.setpoints.proofs.levels.is_full.Goals as goal

pub returns-then-not-is_fit : goal.returns-then-not-is_fit
unfolding full_of
returns-then-not-is_fit c = simp (c.if-not-is_fit.true, ← c.is_fit.ensures)

pub returns-in-Normal : goal.returns-in-Normal
unfolding full_of
returns-in-Normal c = simp (c.in-Normal.is, c.if-not-is_fit.false, ← c.is_fit.ensures)

pub returns-in-Loss : goal.returns-in-Loss
unfolding full_of
returns-in-Loss c =
    let gross : SFits w32 c.args.x.gross = search sfits_of in
    simp
    (c.in-Loss.is, c.if-not-is_fit.false, ← c.is_fit.ensures)
    (λ i. lt_z ((nat {w = w64} {n = c.args.p.optional} (omega arith)).read i) ((widened gross).read i))
