-- Six parts, each behind the other; the letters and the sign are those that the definition picks.
use Rattle.std.proofs.Common.{ℕ, ap, ◌∷◌, []}
use Rattle.outline.specs.Replies.{letters_text, weight_text}
use Rattle.replies.specs.Writers.{more, same}
use Rattle.replies.proofs.text.put_weight.Goals as goal

pub returns : goal.returns
unfolding weight_text
returns c =
    let status = same (ap letters_text c.status_letters.ensures) c.put_letters-n.ensures in
    let display = same (ap letters_text c.display_letters.ensures) c.put_letters-n-2.ensures in
    let sign = more c.put_byte-n.ensures (same (ap (λ (s : ℕ). s ∷ []) c.sign_byte.ensures) c.put_byte-n-2.ensures) in
    more (more (more (more (more status c.put_bytes-n.ensures) display) sign) c.put_amount-n.ensures) c.put_letters.ensures
