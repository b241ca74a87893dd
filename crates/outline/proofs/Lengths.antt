-- How long each kind of reply is, and that 64 bytes hold any. Crates that lend a buffer cite these laws. Assumes nothing.
use Rattle.std.specs.Prelude.{ℕ, zero, suc, ◌+◌, ◌/◌, ◌≤◌, ◌≡◌, refl, Bool, true, false, cond, [], ◌∷◌, length, replicate, Option, None, Some}
use Rattle.std.proofs.Common.{add-one, arith, ◌∙◌, length-append}
use Rattle.types.specs.declared.lines.Shown.{Shown}
use Rattle.types.specs.declared.lines.Reply.{Reply}
use Rattle.types.specs.declared.lines.Reply.TheVariants.{Letters, Weight, Total, Points, Refused}
use Rattle.outline.specs.Lines.{has_prefix, prefix_length, tens_digit, units_digit}
use Rattle.outline.specs.Replies.{digits_of, amount_text, weight_text, total_text, points_text, refused_text, prefix_text, framed, reply_text}
use Rattle.outline.specs.Texts.{text_of, text_length}
use Rattle.outline.specs.Lengths.{reply_limit, reply_length, ExactLength, WithinLimit}

-- ---- the parts of a reply
pub length_digits : (n v : ℕ) → length (digits_of n v) ≡ n
unfolding digits_of
length_digits zero v = refl
length_digits (suc n) v = length-append (digits_of n (v / 10)) (units_digit v ∷ []) ∙ rw (length_digits n (v / 10)) (add-one n)

length_amount : (w : Shown) → length (amount_text w) ≡ 7
length_amount w = go w.fit
  where
    go : (t : Bool) → length (cond t (digits_of 7 w.amount) (replicate 7 32)) ≡ 7
    go true = length_digits 7 w.amount
    go false = refl

pub length_text : (r : Option Reply) → length (text_of r) ≡ text_length r
unfolding weight_text total_text points_text refused_text
length_text None = refl
length_text (Some (Letters k)) = refl
length_text (Some (Weight w)) = simp (length-append, length_amount)
length_text (Some (Total total count)) = simp (length-append, length_digits)
length_text (Some (Points p)) = simp (length-append, length_digits)
length_text (Some (Refused n)) = simp (length-append, length_digits)

length_prefix : (address : ℕ) → length (prefix_text address) ≡ prefix_length address
unfolding prefix_length
length_prefix address = go (has_prefix address)
  where
    go : (t : Bool) → length (cond t (64 ∷ tens_digit address ∷ units_digit address ∷ []) []) ≡ cond t 3 0
    go true = refl
    go false = refl

pub prefix_short : (address : ℕ) → prefix_length address ≤ 3
unfolding prefix_length
prefix_short address = go (has_prefix address)
  where
    go : (t : Bool) → cond t 3 0 ≤ 3
    go true = omega arith
    go false = omega arith

pub text_short : (r : Option Reply) → text_length r ≤ 42
text_short None = omega arith
text_short (Some (Letters k)) = omega arith
text_short (Some (Weight w)) = omega arith
text_short (Some (Total total count)) = omega arith
text_short (Some (Points p)) = omega arith
text_short (Some (Refused n)) = omega arith

pub length_framed : (address : ℕ) (r : Option Reply) → length (framed address (text_of r)) ≡ prefix_length address + text_length r + 2
unfolding framed
length_framed address r = simp (length-append, length_prefix, length_text)

-- ---- whole replies
pub exact_length : ExactLength
unfolding reply_text
exact_length address None = refl
exact_length address (Some (Letters k)) = omega (arith, length_framed address (Some (Letters k)))
exact_length address (Some (Weight w)) = omega (arith, length_framed address (Some (Weight w)))
exact_length address (Some (Total total count)) = omega (arith, length_framed address (Some (Total total count)))
exact_length address (Some (Points p)) = omega (arith, length_framed address (Some (Points p)))
exact_length address (Some (Refused n)) = omega (arith, length_framed address (Some (Refused n)))

pub within_limit : WithinLimit
within_limit address r = rw (exact_length address r) (go r)
  where
    go : (r : Option Reply) → reply_length address r ≤ reply_limit
    go None = omega arith
    go (Some (Letters k)) = omega (arith, prefix_short address)
    go (Some (Weight w)) = omega (arith, prefix_short address)
    go (Some (Total total count)) = omega (arith, prefix_short address)
    go (Some (Points p)) = omega (arith, prefix_short address)
    go (Some (Refused n)) = omega (arith, prefix_short address)
