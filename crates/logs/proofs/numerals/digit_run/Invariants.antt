-- The digits passed and the run that is left make the whole run.
use Rattle.std.proofs.Common.{◌≡◌, ◌+◌, drop}
use Rattle.outline.specs.Log.{digit_run}
use Rattle.logs.proofs.numerals.digit_run.Given as goal

abbrev pub invariant-loop-i : goal.invariant-loop-i
invariant-loop-i l = l.i + digit_run (drop l.i l.part) ≡ digit_run l.part
