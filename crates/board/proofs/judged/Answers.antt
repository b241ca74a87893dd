-- The lengths and the bytes refuse, then the ranges, then the settings.
use Rattle.std.proofs.Common.{rules, ◌≡◌, sym, ◌∙◌, Err}
use Rattle.images.specs.GivenImage.{given_in}
use Rattle.images.specs.StateImage.{state_at}
use Rattle.images.specs.Possible.{possible}
use Rattle.images.proofs.Buffers.{possible_here}
use Rattle.board.specs.declared.CallRefusal.{CallRefusal}
use Rattle.board.specs.Board.{given_by, settings_by}
use Rattle.board.specs.Called.{judged_number}
use Rattle.board.proofs.Cases.{given_passes, state_passes, given_long}
use Rattle.board.proofs.Refused.{judged_first, judged_ranges, judged_settings}
use Rattle.board.proofs.judged.Goals as goal

pub returns-in_err-first_refusal-clause-number : goal.returns-in_err-first_refusal-clause-number
unfolding judged_number
returns-in_err-first_refusal-clause-number c =
    let l = c.args.settings.now in
    let n : CallRefusal = c.in_err-first_refusal.field-0.0 in
    let k : c.from_residual.result ≡ Err n = search rules in
    rw k (judged_first _ _ (given_by l) _ (possible (settings_by l) (state_at c.args.image.now)) c.in_err-first_refusal.ensures)

pub returns-then-not-is_possible-clause-number : goal.returns-then-not-is_possible-clause-number
unfolding judged_number given_in
returns-then-not-is_possible-clause-number c =
    let l = c.args.settings.now in
    let w = sym c.in_ok-first_refusal.ensures in
    let long = given_long l (given_passes _ _ w) in
    let p = sym (c.is_possible.ensures ∙ possible_here l _ long (c.requires (state_passes _ _ (given_by l) w))) ∙ c.if-not-is_possible.true in
    judged_ranges _ _ (given_by l) w _ p

pub returns-clause-number : goal.returns-clause-number
unfolding judged_number given_in
returns-clause-number c =
    let l = c.args.settings.now in
    let w = sym c.in_ok-first_refusal.ensures in
    let long = given_long l (given_passes _ _ w) in
    let p = sym (c.is_possible.ensures ∙ possible_here l _ long (c.requires (state_passes _ _ (given_by l) w))) ∙ c.if-not-is_possible.false in
    (long, judged_settings _ _ (given_by l) w _ p)
