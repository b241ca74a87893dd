-- No room for the answer, or the steps, one after the other, with the line's request where its reply fits.
use Rattle.std.proofs.Common.{refl, ap, ◌∙◌, Option}
use mir.Facts.{to_z-of_z}
use Rattle.types.specs.declared.daybook.Book.{Book}
use Rattle.types.specs.declared.machine.State.{State}
use Rattle.outline.specs.Numbers.{told_number}
use Rattle.images.specs.Holds.{Holds}
use Rattle.board.specs.InPlace.{closed_put}
use Rattle.board.specs.Board.{input_of}
use Rattle.board.proofs.Cases.{is_room}
use Rattle.board.proofs.Held.{held_as, keyed_as, held_on}
use Rattle.board.proofs.InOrder.{leaves, unasked-leaves, batch_granted, batch_closed}
use Rattle.board.proofs.Replied.{lined, lined-short}
use Rattle.board.proofs.run_line.Goals as goal

pub returns-in-Ok : goal.returns-in-Ok
returns-in-Ok c =
    let a = c.args in
    let room = c.if-answer-lt-ANSWER_LENGTH.false in
    let e = simp (to_z-of_z c.ranges.count) at c.enter-x.ensures in
    let fits = λ (st : State) (h : Holds a.state.now st).
    let h1 = e.state st h in
    let h2 = held_as (batch_granted _ _ _) (c.settle_batch.ensures _ (c.settle.ensures.state _ h1)) in
    let h3 = keyed_as _ _ _ c.is_keyed.ensures (c.track.ensures _ h2) in
    let h4 = held_on _ _ _ c.is_held.ensures (c.step.ensures _ h3) in
    let r = leaves a.s st (input_of a.count a.contact c.request_of-request.result) c.enter-x.result c.ruled-outcome.result c.granted-done.result c.again-x.result c.told_number-n.result c.in-Ok.length
    a.answer.now c.step.new.state c.settle.new.answer c.answer.new.answer
    (e.weights st h) (c.ruled-outcome.ensures _ h1) c.granted-done.ensures (c.again-x.ensures _ h2) h4
    (c.settle.ensures.day _ h1 ∙ ap (λ (d : Option Book). closed_put d a.answer.now) (batch_closed _ _ _)) (c.answer.ensures _ h4) in
    lined a.s st a.count a.contact a.receive.now a.reply.now c.command_of-command.result c.request_of-request.result c.enter-x.result c.ruled-outcome.result c.reply.result c.reply.new.reply
    c.command_of-command.ensures c.request_of-request.ensures (e.weights st h) (c.ruled-outcome.ensures _ h1) (c.reply.ensures.wrote _ h1) (c.reply.ensures.bytes _ h1)
    c.told_number-n.result a.answer.now c.step.new.state c.answer.new.answer
    c.in-Ok.length c.in-Ok.is (c.told_number-n.ensures ∙ ap told_number c.told_of.ensures) r in
    record {
      told = λ st h. (fits st h).told ∙ is_room a.answer.now _ 14 room;
      image = λ st h. (fits st h).next ∙ is_room a.answer.now _ a.state.now room;
      replied = λ st h. (fits st h).replied ∙ is_room a.answer.now _ a.reply.now room;
      outputs = λ st h. (fits st h).shown ∙ is_room a.answer.now _ a.answer.now room;
    }

pub returns-in-Err : goal.returns-in-Err
returns-in-Err c =
    let a = c.args in
    let room = c.if-answer-lt-ANSWER_LENGTH.false in
    let e = simp (to_z-of_z c.ranges.count) at c.enter-x.ensures in
    let short = λ (st : State) (h : Holds a.state.now st).
    let h1 = e.state st h in
    let h3 = c.step-in-Err.ensures _ (c.track-in-Err.ensures _ h1) in
    let r = unasked-leaves a.s st a.count a.contact c.enter-x.result (e.weights st h) 14 0
    a.answer.now c.step-in-Err.new.state c.put_closed.new.s c.answer-in-Err.new.answer
    h3 c.put_closed.ensures (c.answer-in-Err.ensures _ h3) in
    lined-short a.s st a.count a.contact a.receive.now a.reply.now c.command_of-command.result c.request_of-request.result c.enter-x.result c.ruled-outcome.result c.reply.result c.reply.new.reply
    c.command_of-command.ensures c.request_of-request.ensures (e.weights st h) (c.ruled-outcome.ensures _ h1) (c.reply.ensures.wrote _ h1) (c.reply.ensures.bytes _ h1)
    14 a.answer.now c.step-in-Err.new.state c.answer-in-Err.new.answer
    c.in-Err.is refl r in
    record {
      told = λ st h. (short st h).told ∙ is_room a.answer.now _ 14 room;
      image = λ st h. (short st h).next ∙ is_room a.answer.now _ a.state.now room;
      replied = λ st h. (short st h).replied ∙ is_room a.answer.now _ a.reply.now room;
      outputs = λ st h. (short st h).shown ∙ is_room a.answer.now _ a.answer.now room;
    }
