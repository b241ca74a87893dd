-- The reply that is due asks for four parts of the state, which are those that the buffer holds.
use Rattle.std.proofs.Common.{◌∙◌, ap, Option}
use Rattle.types.specs.declared.machine.State.{State}
use Rattle.types.specs.declared.machine.Reading.{Reading}
use Rattle.types.specs.declared.lines.Reply.{Reply}
use Rattle.outline.specs.Replies.{reply_text, reply_due, written_of}
use Rattle.replies.specs.Wrote.{wrote_of}
use Rattle.board.proofs.Held.{read_part, read_waiting}
use Rattle.board.proofs.Replied.{due_shown}
use Rattle.board.proofs.steps.reply.Goals as goal

pub returns-clause-wrote : goal.returns-clause-wrote
returns-clause-wrote c st h =
    let a = c.args in
    let due = c.reply_due-due.ensures
    ∙ due_shown _ st _ a.outcome (read_part (λ (t : State). t.panel) c.panel_at.ensures h) (read_part (λ (t : State). t.totals) c.totals_at.ensures h)
    (read_part (λ (t : State). t.setpoints) c.setpoints_at.ensures h) (read_waiting c.waiting_at.ensures h) a.command
    ∙ ap (λ (x : Reading). reply_due a.command st x a.outcome) c.reading.ensures in
    c.write_reply.ensures.answer ∙ ap (λ (r : Option Reply). wrote_of (reply_text a.s.address r) a.reply.now) due

pub returns-clause-bytes : goal.returns-clause-bytes
returns-clause-bytes c st h =
    let a = c.args in
    let due = c.reply_due-due.ensures
    ∙ due_shown _ st _ a.outcome (read_part (λ (t : State). t.panel) c.panel_at.ensures h) (read_part (λ (t : State). t.totals) c.totals_at.ensures h)
    (read_part (λ (t : State). t.setpoints) c.setpoints_at.ensures h) (read_waiting c.waiting_at.ensures h) a.command
    ∙ ap (λ (x : Reading). reply_due a.command st x a.outcome) c.reading.ensures in
    c.write_reply.ensures.bytes ∙ ap (λ (r : Option Reply). written_of (reply_text a.s.address r) a.reply.now) due
