-- The state is the fold over the counts passed. In a stage that compares, the setpoints are still those that the block began with.
use Rattle.std.proofs.Common.{◌≡◌, false, take}
use mathlib.Core.List.{foldl}
use Rattle.outline.specs.Stages.{idle_of}
use Rattle.outline.specs.Tick.{count_in}
use Rattle.controller.proofs.block.run_block.Given as goal

abbrev pub invariant-loop-count : goal.invariant-loop-count
invariant-loop-count l = record {
  folded : l.st ≡ foldl (count_in l.s l.contact) l.fn.st (take l.count-index l.counts);
  compared : idle_of l.st.sequence.stage ≡ false → l.st.setpoints ≡ l.fn.st.setpoints;
}
