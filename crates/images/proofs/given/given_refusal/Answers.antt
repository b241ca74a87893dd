-- By the length, then by the bytes behind the numbers.
use Rattle.std.proofs.Common.{◌≡◌, sym, ◌∙◌}
use Rattle.places.specs.Places.{same_bytes}
use Rattle.images.specs.GivenImage.{given_image, given_at, given_in}
use Rattle.images.proofs.Tests.{given_length_lem, given_bytes, given_good}
use Rattle.images.proofs.Read.{given_again}
use Rattle.images.proofs.given.given_refusal.Goals as goal

pub returns-then-s-ne-GIVEN_LENGTH : goal.returns-then-s-ne-GIVEN_LENGTH
unfolding given_in
returns-then-s-ne-GIVEN_LENGTH c = given_length_lem _ (given_at _) c.if-s-ne-GIVEN_LENGTH.true

pub returns-then-not-are_zero : goal.returns-then-not-are_zero
unfolding given_in
returns-then-not-are_zero c =
    let l = c.args.s.now in
    let same : same_bytes (given_image (given_at l)) l ≡ c.are_zero.result =
    sym (c.are_zero.ensures ∙ given_again l (λ i. (c.type_inv.s i).fits) c.if-s-ne-GIVEN_LENGTH.false) in
    given_bytes l (given_at l) c.if-s-ne-GIVEN_LENGTH.false (same ∙ c.if-not-are_zero.true)

pub returns : goal.returns
unfolding given_in
returns c =
    let l = c.args.s.now in
    let same : same_bytes (given_image (given_at l)) l ≡ c.are_zero.result =
    sym (c.are_zero.ensures ∙ given_again l (λ i. (c.type_inv.s i).fits) c.if-s-ne-GIVEN_LENGTH.false) in
    given_good l (given_at l) c.if-s-ne-GIVEN_LENGTH.false (same ∙ c.if-not-are_zero.false)
