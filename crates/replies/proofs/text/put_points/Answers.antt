-- Seven parts, each behind the other.
use Rattle.outline.specs.Replies.{points_text}
use Rattle.replies.specs.Writers.{more}
use Rattle.replies.proofs.text.put_points.Goals as goal

pub returns : goal.returns
unfolding points_text
returns c =
    let three = more (more c.put_setpoint-n.ensures c.put_setpoint-n-2.ensures) c.put_setpoint-n-3.ensures in
    more (more (more (more three c.put_setpoint-n-4.ensures) c.put_setpoint-n-5.ensures) c.put_setpoint-n-6.ensures) c.put_setpoint.ensures
