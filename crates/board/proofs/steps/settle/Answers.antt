-- What `settle_batch` has changes nothing here; the rest is found.
use Rattle.std.proofs.Common.{arith}
use Rattle.std.proofs.lemmas.Grind.{common_steps}
use Rattle.outline.specs.Requests.{granted_of}
use Rattle.board.proofs.Held.{held_as}
use Rattle.board.proofs.steps.settle.Goals as goal

pub returns-clause-state : goal.returns-clause-state
unfolding granted_of
returns-clause-state c st h = held_as (grind (arith, common_steps)) h
