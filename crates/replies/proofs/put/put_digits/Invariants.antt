-- The k digits of v, once stored, give what all digits of the value would have given.
use Rattle.std.proofs.Common.{◌≡◌}
use Rattle.std.proofs.lemmas.List.Edits.{sets}
use Rattle.outline.specs.Replies.{digits_of}
use Rattle.replies.proofs.put.put_digits.Given as goal

abbrev pub invariant-loop-k : goal.invariant-loop-k
invariant-loop-k l = sets l.buffer l.at (digits_of l.k l.v) ≡ sets l.fn.buffer l.at (digits_of l.width l.value)
