-- The quotient is that of `nearest_half`, and m leaves room for half of d; a step of 0 is answered first.
use Rattle.std.proofs.Common.{sym, ap, ◌∙◌, arith}
use Rattle.whole.specs.Nearest.{nearest_n, nearest_zero, nearest_half}
use Rattle.whole.proofs.nearest_magnitude.Goals as goal

pub returns-then-d-eq0 : goal.returns-then-d-eq0
returns-then-d-eq0 c = sym (ap (nearest_n c.args.m) c.if-d-eq0.true ∙ nearest_zero c.args.m)

pub returns : goal.returns
returns c = simp c.from-d.ensures (sym (nearest_half c.args.m c.args.d (omega arith)))
