-- The bytes counted, and those of the numbers that are left, are all.
use Rattle.std.proofs.Common.{◌≡◌, ◌+◌, length, drop}
use Rattle.logs.specs.Amounts.{number_lines}
use Rattle.logs.proofs.pairs.numbers_length.Given as goal

abbrev pub invariant-loop-a : goal.invariant-loop-a
invariant-loop-a l = l.n + length (number_lines (drop l.a-index l.amounts)) ≡ length (number_lines l.amounts)
