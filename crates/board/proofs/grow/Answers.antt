-- The images refuse, the ranges or the settings do, or the earlier image grows to that of its state.
use Rattle.std.proofs.Common.{rules, ◌≡◌, sym, ap, ◌∙◌, ℕ, Err, length, replicate}
use Rattle.outline.specs.Tick.{open_state}
use Rattle.images.proofs.InPlace.{open_holds}
use Rattle.board.specs.declared.CallRefusal.{CallRefusal}
use Rattle.board.specs.Board.{images_refusal, given_by}
use Rattle.board.specs.Called.{judged_number}
use Rattle.board.proofs.Held.{grown_bytes, held_as_bytes}
use Rattle.board.proofs.Refused.{judged_earlier, earlier_image, grow_refused, grow_done, grow_state}
use Rattle.board.proofs.grow.Goals as goal

pub judged-requires : goal.judged-requires
judged-requires c e =
    let same = c.images_refusal-bytes.ensures ∙ (λ i. images_refusal (c.length_refusal.ensures i) (c.earlier_refusal.ensures i)) in
    earlier_image c.args.earlier.now _ (given_by c.args.settings.now) (sym same ∙ e)

pub returns-in_err-judged : goal.returns-in_err-judged
returns-in_err-judged c =
    let a = c.args in
    let n : CallRefusal = c.in_err-judged.field-0.0 in
    let same = c.images_refusal-bytes.ensures ∙ (λ i. images_refusal (c.length_refusal.ensures i) (c.earlier_refusal.ensures i)) in
    let e = c.in_err-judged.ensures.number ∙ ap (λ (b : ℕ). judged_number a.settings.now b a.earlier.now) same ∙ judged_earlier a.settings.now a.earlier.now (length a.state.now) in
    let k : c.from_residual.result ≡ Err n = search rules in
    record { told = rw k e; image = grow_refused a.settings.now a.earlier.now a.state.now n e }

pub returns-in_err-opened : goal.returns-in_err-opened
returns-in_err-opened c =
    let a = c.args in
    let n : CallRefusal = c.in_err-opened.field-0.0 in
    let same = c.images_refusal-bytes.ensures ∙ (λ i. images_refusal (c.length_refusal.ensures i) (c.earlier_refusal.ensures i)) in
    let e = c.in_err-opened.ensures.number c.in_ok-judged.ensures.number.0 ∙ c.in_ok-judged.ensures.number.1 ∙ ap (λ (b : ℕ). judged_number a.settings.now b a.earlier.now) same ∙ judged_earlier a.settings.now a.earlier.now (length a.state.now) in
    let k : c.from_residual-in_err-opened.result ≡ Err n = search rules in
    record { told = rw k e; image = grow_refused a.settings.now a.earlier.now a.state.now n e }

pub returns : goal.returns
unfolding open_state
returns c =
    let a = c.args in
    let same = c.images_refusal-bytes.ensures ∙ (λ i. images_refusal (c.length_refusal.ensures i) (c.earlier_refusal.ensures i)) in
    let e = c.in_ok-opened.ensures.number c.in_ok-judged.ensures.number.0 ∙ c.in_ok-judged.ensures.number.1 ∙ ap (λ (b : ℕ). judged_number a.settings.now b a.earlier.now) same ∙ judged_earlier a.settings.now a.earlier.now (length a.state.now) in
    let z = grow_state a.settings.now a.earlier.now a.state.now (sym e) in
    let cleared = held_as_bytes (c.clear.ensures ∙ ap (λ (n : ℕ). replicate n 0) z.2) open_holds in
    record {
      told = e;
      image = grown_bytes a.earlier.now z.0 (c.put_batched.ensures z.1 _ (c.put_weighed.ensures z.1 _ cleared)) ∙ grow_done a.settings.now a.earlier.now a.state.now (sym e);
    }
