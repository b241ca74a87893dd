-- The search from byte i on finds what the search from the line's beginning finds.
use Rattle.std.proofs.Common.{◌≡◌, drop}
use Rattle.outline.specs.Log.{lf_from, next_lf}
use Rattle.logs.proofs.pieces.next_lf.Given as goal

abbrev pub invariant-loop-i : goal.invariant-loop-i
invariant-loop-i l = lf_from l.i (drop l.i l.piece) ≡ next_lf l.piece l.from
