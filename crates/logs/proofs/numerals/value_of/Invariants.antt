-- The number of the digits passed.
use Rattle.std.proofs.Common.{◌≡◌, take}
use Rattle.outline.specs.Log.{value_from}
use Rattle.logs.proofs.numerals.value_of.Given as goal

abbrev pub invariant-loop-i : goal.invariant-loop-i
invariant-loop-i l = l.v ≡ value_from 0 (take l.i l.part)
