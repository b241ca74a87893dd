-- The end that was found lies within the buffer.
use Rattle.std.proofs.Common.{sym}
use Rattle.std.proofs.lemmas.List.{length-take-le}
use Rattle.commands.proofs.EndLaws.{ended}
use Rattle.commands.proofs.line.line_of.Goals as goal

pub slice_bounds-result-end : goal.slice_bounds-result-end
slice_bounds-result-end c = sym (length-take-le _ _ (ended _ _ c.in-Ok.ensures))
