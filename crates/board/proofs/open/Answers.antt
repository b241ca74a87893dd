-- The images refuse, the settings do, or every byte is made 0, which is the opening state's image.
use Rattle.std.proofs.Common.{rules, ◌≡◌, sym, ap, ◌∙◌, Err}
use Rattle.board.specs.declared.CallRefusal.{CallRefusal}
use Rattle.images.specs.GivenImage.{given_in}
use Rattle.board.specs.Board.{images_refusal}
use Rattle.board.proofs.Cases.{open_given}
use Rattle.board.proofs.Refused.{open_kept, open_settings, open_good}
use Rattle.board.proofs.open.Goals as goal

pub returns-in_err-first_refusal : goal.returns-in_err-first_refusal
returns-in_err-first_refusal c =
    let a = c.args in
    let n : CallRefusal = c.in_err-first_refusal.field-0.0 in
    let e = c.in_err-first_refusal.ensures ∙ ap (images_refusal (given_in a.settings.now).refusal) c.length_refusal.ensures in
    let r = open_kept a.settings.now a.state.now n e in
    let k : c.from_residual.result ≡ Err n = search rules in
    record { told = rw k r.0; image = r.1 }

pub returns-in_err-opened : goal.returns-in_err-opened
returns-in_err-opened c =
    let a = c.args in
    let n : CallRefusal = c.in_err-opened.field-0.0 in
    let w = sym (c.in_ok-first_refusal.ensures ∙ ap (images_refusal (given_in a.settings.now).refusal) c.length_refusal.ensures) in
    let r = open_settings a.settings.now a.state.now n w (c.in_err-opened.ensures.number (open_given a.settings.now a.state.now w)) in
    let k : c.from_residual-in_err-opened.result ≡ Err n = search rules in
    record { told = rw k r.0; image = r.1 }

pub returns : goal.returns
returns c =
    let a = c.args in
    let w = sym (c.in_ok-first_refusal.ensures ∙ ap (images_refusal (given_in a.settings.now).refusal) c.length_refusal.ensures) in
    let r = open_good a.settings.now a.state.now w (c.in_ok-opened.ensures.number (open_given a.settings.now a.state.now w)) in
    record { told = r.0; image = c.clear.ensures ∙ r.1 }
