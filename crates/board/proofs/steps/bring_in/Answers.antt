-- By what waits in the state that the buffer holds: nothing, or setpoints.
use Rattle.std.proofs.Common.{sym}
use Rattle.board.proofs.Held.{read_waiting, held_as, came_none, came_points}
use Rattle.board.proofs.steps.bring_in.Goals as goal

pub returns-in-Some : goal.returns-in-Some
returns-in-Some c st h =
    held_as (came_points st _ (sym (read_waiting c.in-Some.ensures h))) (c.clear_waiting.ensures.state _ (c.put_setpoints.ensures.state st h))

pub returns-in_default : goal.returns-in_default
returns-in_default c st h = held_as (came_none st (sym (read_waiting c.in_default.ensures h))) h
