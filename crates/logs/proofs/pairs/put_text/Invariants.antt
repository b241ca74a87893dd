-- What is still to be put, from the place reached on, gives the whole text.
use Rattle.std.proofs.Common.{◌≡◌, ◌≤◌, ◌+◌, length, drop}
use Rattle.std.proofs.lemmas.List.Edits.{sets}
use Rattle.logs.specs.Amounts.{marks, filled}
use Rattle.logs.proofs.pairs.put_text.Given as goal

abbrev pub invariant-loop-byte : goal.invariant-loop-byte
invariant-loop-byte l =
    (l.line + marks (drop l.byte-index l.keys) ≤ length l.amounts)
    × (l.at + length (filled (drop l.byte-index l.keys) (drop l.line l.amounts)) ≡ length (filled l.keys l.amounts))
    × (sets l.out l.at (filled (drop l.byte-index l.keys) (drop l.line l.amounts)) ≡ sets l.fn.out 0 (filled l.keys l.amounts))
