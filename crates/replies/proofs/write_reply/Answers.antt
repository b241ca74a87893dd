-- No reply, no byte; else the test is on the whole length, and where it fits three parts stand behind each other from the start on.
use Rattle.std.specs.Prelude.{Some}
use Rattle.std.proofs.Common.{◌<◌, length, arith}
use Rattle.outline.specs.Replies.{framed, reply_text}
use Rattle.outline.specs.Texts.{text_of}
use Rattle.outline.proofs.Lengths.{length_framed}
use Rattle.replies.specs.Writers.{more, fitted_bytes, short_bytes, silent_bytes}
use Rattle.replies.proofs.Whole.{due_text, silent_answer, short_answer, fitted_answer}
use Rattle.replies.proofs.write_reply.Goals as goal

pub returns-in_default : goal.returns-in_default
unfolding reply_text
returns-in_default c = simp c.in_default.is (record { answer = silent_answer _; bytes = silent_bytes _ })

pub returns-then-buffer-prefix : goal.returns-then-buffer-prefix
returns-then-buffer-prefix c =
    let a = c.args in
    let r = c.in-Some.due in
    let xs = framed a.address (text_of (Some r)) in
    let h : length a.buffer.now < length xs = rw (length_framed a.address (Some r)) (omega arith) in
    simp (c.in-Some.is, due_text) (record { answer = short_answer xs a.buffer.now h; bytes = short_bytes xs a.buffer.now h })

pub returns : goal.returns
unfolding framed
returns c =
    let all = more (more c.put_prefix-n.ensures c.put_text-n.ensures) c.put_bytes.ensures in
    simp (c.in-Some.is, due_text) (record { answer = fitted_answer all (omega arith); bytes = fitted_bytes all (omega arith) })
