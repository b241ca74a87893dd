-- Each turn leaves less room.
use Rattle.std.proofs.Common.{length, ◌-◌}
use Rattle.replay.proofs.input.read_on.Given as goal

abbrev pub decreases-loop-held : goal.decreases-loop-held
decreases-loop-held g l = length l.space - l.held
