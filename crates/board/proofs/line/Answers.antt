-- Refused, or the line is obeyed in the buffer of the state.
use Rattle.std.proofs.Common.{rules, ◌≡◌, refl, sym, ap, ◌∙◌, ℕ, Err}
use mir.Facts.{to_z-of_z}
use Rattle.images.specs.StateImage.{image_of}
use Rattle.board.specs.AnswerImage.{answer_buffer}
use Rattle.board.specs.declared.CallRefusal.{CallRefusal}
use Rattle.outline.specs.Numbers.{told_number}
use Rattle.board.specs.Board.{if_room, line_by}
use Rattle.board.specs.Called.{refusal_number, judged_number}
use Rattle.board.proofs.Cases.{same_line, same_reply, line_kept, line-done}
use Rattle.board.proofs.Refused.{refused, judged_state, bytes_image, buffer_held}
use Rattle.board.proofs.line.Goals as goal

pub judged-requires : goal.judged-requires
judged-requires c e = bytes_image c.args.state.now (sym c.bytes_refusal.ensures ∙ e)

pub returns-in_err-judged : goal.returns-in_err-judged
returns-in_err-judged c =
    let a = c.args in
    let n : CallRefusal = c.in_err-judged.field-0.0 in
    let e = c.in_err-judged.ensures.number ∙ ap (λ (b : ℕ). judged_number a.settings.now b a.state.now) c.bytes_refusal.ensures ∙ judged_state a.settings.now a.state.now in
    let r = line_kept a.settings.now a.state.now a.count a.contact a.receive.now a.reply.now a.answer.now (refusal_number n) (sym e) (refused n) in
    let k : c.from_residual.result ≡ Err n = search rules in
    record { told = rw k r.0; image = r.1; replied = r.2; outputs = r.3 }

pub returns-in_err-s : goal.returns-in_err-s
returns-in_err-s c =
    let a = c.args in
    let n : CallRefusal = c.in_err-s.field-0.0 in
    let e = c.in_err-s.ensures.number c.in_ok-judged.ensures.number.0 ∙ c.in_ok-judged.ensures.number.1 ∙ ap (λ (b : ℕ). judged_number a.settings.now b a.state.now) c.bytes_refusal.ensures ∙ judged_state a.settings.now a.state.now in
    let r = line_kept a.settings.now a.state.now a.count a.contact a.receive.now a.reply.now a.answer.now (refusal_number n) (sym e) (refused n) in
    let k : c.from_residual-in_err-s.result ≡ Err n = search rules in
    record { told = rw k r.0; image = r.1; replied = r.2; outputs = r.3 }

pub returns : goal.returns
unfolding line_by
returns c =
    let a = c.args in
    let u = sym (c.in_ok-s.ensures.number c.in_ok-judged.ensures.number.0 ∙ c.in_ok-judged.ensures.number.1 ∙ ap (λ (b : ℕ). judged_number a.settings.now b a.state.now) c.bytes_refusal.ensures ∙ judged_state a.settings.now a.state.now) in
    let h = buffer_held a.settings.now a.state.now c.judged.ensures.bytes u in
    let r = line-done a.settings.now a.state.now a.count a.contact a.receive.now a.reply.now a.answer.now u in
    let k = c.run_line.ensures in
    let same = same_line a.contact a.receive.now a.reply.now (c.in_ok-s.ensures.settings c.in_ok-judged.ensures.number.0) refl (to_z-of_z c.ranges.count) in
    let text = same_reply a.contact a.receive.now a.reply.now (c.in_ok-s.ensures.settings c.in_ok-judged.ensures.number.0) refl (to_z-of_z c.ranges.count) in
    record {
      told = k.told _ h ∙ (λ i. if_room a.answer.now (told_number (same i).told) 14) ∙ r.0;
      image = k.image _ h ∙ (λ i. if_room a.answer.now (image_of (same i).state) a.state.now) ∙ r.1;
      replied = k.replied _ h ∙ (λ i. if_room a.answer.now (text i) a.reply.now) ∙ r.2;
      outputs = k.outputs _ h ∙ (λ i. if_room a.answer.now (answer_buffer (told_number (same i).told) (same i).length (same i).answer a.answer.now) a.answer.now) ∙ r.3;
    }
