-- The search from byte i on finds what the search from the start finds.
use Rattle.std.proofs.Common.{◌≡◌, drop}
use Rattle.outline.specs.Lines.{line_end_from, line_end_of}
use Rattle.commands.proofs.line.line_end.Given as goal

abbrev pub invariant-loop-i : goal.invariant-loop-i
invariant-loop-i l = line_end_from l.i (drop l.i l.buf) ≡ line_end_of l.buf
