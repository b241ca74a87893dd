-- The buffer holds the fold over the counts passed.
use Rattle.std.proofs.Common.{take}
use mathlib.Core.List.{foldl}
use Rattle.types.specs.declared.machine.State.{State}
use Rattle.outline.specs.Tick.{count_in}
use Rattle.images.specs.Holds.{Turns}
use Rattle.board.proofs.run_block.Given as goal

abbrev pub invariant-loop-count : goal.invariant-loop-count
invariant-loop-count l = Turns l.fn.state l.state (λ (st : State). foldl (count_in l.s l.contact) st (take l.count-index l.counts))
