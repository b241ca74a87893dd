-- Three parts, each behind the other.
use Rattle.std.proofs.Common.{ap}
use Rattle.outline.specs.Replies.{total_text, digits_of}
use Rattle.replies.specs.Writers.{more, same}
use Rattle.replies.proofs.text.put_total.Goals as goal

pub returns : goal.returns
unfolding total_text
returns c = more (more c.put_digits-n.ensures c.put_bytes-n.ensures) (same (ap (digits_of 8) c.from.ensures) c.put_digits.ensures)
