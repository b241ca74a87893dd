-- No room for the answer, or the steps, one after the other.
use Rattle.std.proofs.Common.{◌≡◌, sym, ap, ◌∙◌, cond, Option, None, Ok, Err, Result, refl, subst}
use mir.Facts.{to_z-of_z}
use Rattle.std.specs.Result.{result_unwrap_or}
use Rattle.types.specs.declared.daybook.Book.{Book}
use Rattle.types.specs.declared.requests.Request.{Request}
use Rattle.types.specs.declared.machine.State.{State}
use Rattle.types.specs.declared.machine.Input.{Input}
use Rattle.outline.specs.Numbers.{outcome_number}
use Rattle.outline.specs.Tick.{tick_of}
use Rattle.images.specs.Holds.{Holds}
use Rattle.board.specs.declared.asked.NoRequest.{NoRequest}
use Rattle.board.specs.AskedBy.{is_known, request_in}
use Rattle.board.specs.AnswerImage.{answer_buffer}
use Rattle.board.specs.InPlace.{closed_put}
use Rattle.board.specs.Board.{input_of, told_of}
use Rattle.board.proofs.Cases.{is_room}
use Rattle.board.proofs.Held.{held_as, keyed_as, held_on}
use Rattle.board.proofs.InOrder.{Ran, leaves, batch_granted, batch_closed}
use Rattle.board.proofs.run_tick.Goals as goal

-- what is no request asks nothing
none_asked : (r : Result (Option Request) NoRequest) → result_unwrap_or r None ≡ request_in r
none_asked (Ok q) = refl
none_asked (Err e) = refl

pub returns : goal.returns
unfolding told_of
returns c =
    let a = c.args in
    let room = c.if-answer-lt-ANSWER_LENGTH.false in
    let r = c.unwrap_or-request.ensures ∙ none_asked a.asked in
    let i : Input = input_of a.count a.contact (request_in a.asked) in
    let e = simp (to_z-of_z c.ranges.count) at c.enter-x.ensures in
    let done = λ (st : State) (h : Holds a.state.now st).
    let h1 = e.state st h in
    let h2 = held_as (batch_granted _ _ _) (c.settle_batch.ensures _ (c.settle.ensures.state _ h1)) in
    let h3 = keyed_as _ _ _ c.is_keyed.ensures (c.track.ensures _ h2) in
    let h4 = held_on _ _ _ c.is_held.ensures (c.step.ensures _ h3) in
    let ran = leaves a.s st (input_of a.count a.contact c.unwrap_or-request.result) c.enter-x.result c.ruled-outcome.result c.granted-done.result c.again-x.result c.asked_number-n.result 0
    a.answer.now c.step.new.state c.settle.new.answer c.answer.new.answer
    (e.weights st h) (c.ruled-outcome.ensures _ h1) c.granted-done.ensures (c.again-x.ensures _ h2) h4
    (c.settle.ensures.day _ h1 ∙ ap (λ (d : Option Book). closed_put d a.answer.now) (batch_closed _ _ _)) (c.answer.ensures _ h4) in
    subst (λ (q : Option Request). Ran a.s st (input_of a.count a.contact q) c.ruled-outcome.result c.asked_number-n.result 0 a.answer.now c.step.new.state c.answer.new.answer) r ran in
    let told = λ (st : State) (h : Holds a.state.now st).
    c.asked_number-n.ensures ∙ sym (λ k. cond (is_known a.asked) (outcome_number ((done st h).outcome k)) 13) in
    record {
      told = λ st h. told st h ∙ is_room a.answer.now _ 14 room;
      image = λ st h. (done st h).next ∙ is_room a.answer.now _ a.state.now room;
      outputs = λ st h.
          (done st h).shown ∙ (λ k. answer_buffer (told st h k) 0 (tick_of a.s st i).answer a.answer.now) ∙ is_room a.answer.now _ a.answer.now room;
    }
