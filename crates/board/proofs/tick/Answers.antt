-- Refused, or what was asked is run in the buffer of the state.
use Rattle.std.proofs.Common.{rules, ◌≡◌, refl, sym, ap, ◌∙◌, ℕ, Err}
use mir.Facts.{to_z-of_z}
use Rattle.images.specs.StateImage.{image_of}
use Rattle.board.specs.AnswerImage.{answer_buffer}
use Rattle.board.specs.declared.CallRefusal.{CallRefusal}
use Rattle.board.specs.Board.{if_room, tick_by}
use Rattle.board.specs.Called.{refusal_number, judged_number}
use Rattle.board.proofs.Cases.{same_input, same_tick, same_told, tick_kept, tick-done}
use Rattle.board.proofs.Refused.{refused, judged_state, bytes_image, buffer_held}
use Rattle.board.proofs.tick.Goals as goal

pub judged-requires : goal.judged-requires
judged-requires c e = bytes_image c.args.state.now (sym c.bytes_refusal.ensures ∙ e)

pub returns-in_err-judged : goal.returns-in_err-judged
returns-in_err-judged c =
    let a = c.args in
    let n : CallRefusal = c.in_err-judged.field-0.0 in
    let e = c.in_err-judged.ensures.number ∙ ap (λ (b : ℕ). judged_number a.settings.now b a.state.now) c.bytes_refusal.ensures ∙ judged_state a.settings.now a.state.now in
    let r = tick_kept a.settings.now a.state.now a.count a.contact a.request a.points.now a.answer.now (refusal_number n) (sym e) (refused n) in
    let k : c.from_residual.result ≡ Err n = search rules in
    record { told = rw k r.0; image = r.1; outputs = r.2 }

pub returns-in_err-s : goal.returns-in_err-s
returns-in_err-s c =
    let a = c.args in
    let n : CallRefusal = c.in_err-s.field-0.0 in
    let e = c.in_err-s.ensures.number c.in_ok-judged.ensures.number.0 ∙ c.in_ok-judged.ensures.number.1 ∙ ap (λ (b : ℕ). judged_number a.settings.now b a.state.now) c.bytes_refusal.ensures ∙ judged_state a.settings.now a.state.now in
    let r = tick_kept a.settings.now a.state.now a.count a.contact a.request a.points.now a.answer.now (refusal_number n) (sym e) (refused n) in
    let k : c.from_residual-in_err-s.result ≡ Err n = search rules in
    record { told = rw k r.0; image = r.1; outputs = r.2 }

pub returns : goal.returns
unfolding tick_by
returns c =
    let a = c.args in
    let u = sym (c.in_ok-s.ensures.number c.in_ok-judged.ensures.number.0 ∙ c.in_ok-judged.ensures.number.1 ∙ ap (λ (b : ℕ). judged_number a.settings.now b a.state.now) c.bytes_refusal.ensures ∙ judged_state a.settings.now a.state.now) in
    let h = buffer_held a.settings.now a.state.now c.judged.ensures.bytes u in
    let r = tick-done a.settings.now a.state.now a.count a.contact a.request a.points.now a.answer.now u in
    let k = c.run_tick.ensures in
    let same = same_tick (c.in_ok-s.ensures.settings c.in_ok-judged.ensures.number.0) refl (same_input a.contact (to_z-of_z c.ranges.count) c.asked.ensures.request) in
    let told = same_told c.asked.ensures.known same in
    record {
      told = k.told _ h ∙ (λ i. if_room a.answer.now (told i) 14) ∙ r.0;
      image = k.image _ h ∙ (λ i. if_room a.answer.now (image_of (same i).state) a.state.now) ∙ r.1;
      outputs = k.outputs _ h ∙ (λ i. if_room a.answer.now (answer_buffer (told i) 0 (same i).answer a.answer.now) a.answer.now) ∙ r.2;
    }
