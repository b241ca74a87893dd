-- What each part gives, handed to the law of the case that the writer's answer names.
use Rattle.std.proofs.Common.{◌≡◌, ◌∙◌, ℕ, List, Bool, ap, refl}
use Rattle.std.specs.Prelude.{ℤ}
use mir.Facts.{to_z-of_z}
use Rattle.types.specs.declared.settings.Settings.{Settings}
use Rattle.types.specs.declared.machine.State.{State}
use Rattle.types.specs.declared.lines.LineTick.{LineTick}
use Rattle.outline.specs.Numbers.{told_number}
use Rattle.outline.specs.Replies.{line_tick_of}
use Rattle.outline.specs.Answers.{line_due}
use Rattle.outline.proofs.AnswerLaws.{line_number}
use Rattle.serial.proofs.Parts.{fitted, short}
use Rattle.serial.proofs.line_tick.Goals as goal

-- the number that the line is told
number : (s : Settings) (st : State) (count : ℤ) (contact : Bool) (receive buffer : List ℕ) {r : LineTick} → r ≡ line_tick_of s st count contact receive buffer → told_number r.told ≡ line_due s st count contact receive buffer
number s st count contact receive buffer e = ap (λ (t : LineTick). told_number t.told) e ∙ line_number s st count contact receive buffer

pub returns-in-Ok : goal.returns-in-Ok
returns-in-Ok c =
    let a = c.args in
    let w = c.write_reply.ensures in
    let asked = simp (to_z-of_z c.ranges.count) at c.tick-t.ensures.ticked in
    let e = fitted a.s a.st a.count a.contact a.receive.now a.reply.now _ _ _ _ _ _ c.command_of-command.ensures c.request_of-request.ensures asked c.reply_due-due.ensures w.answer w.bytes _ c.in-Ok.is _ c.told_of.ensures _ refl in
    record { answer = e.0; bytes = e.1; number = number a.s a.st a.count a.contact a.receive.now a.reply.now e.0 }

pub returns-in-Err : goal.returns-in-Err
returns-in-Err c =
    let a = c.args in
    let w = c.write_reply.ensures in
    let asked = simp (to_z-of_z c.ranges.count) at c.tick-t.ensures.ticked in
    let e = short a.s a.st a.count a.contact a.receive.now a.reply.now _ _ _ _ _ _ c.command_of-command.ensures c.request_of-request.ensures asked c.reply_due-due.ensures w.answer w.bytes c.in-Err.is _ (simp (to_z-of_z c.ranges.count) at c.silent_tick.ensures) in
    record { answer = e.0; bytes = e.1; number = number a.s a.st a.count a.contact a.receive.now a.reply.now e.0 }
