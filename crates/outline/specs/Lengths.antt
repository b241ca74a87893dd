-- How long each kind of reply is, and that 64 bytes hold any: statements, which proofs/Lengths.antt proves. Assumes nothing.
use Rattle.std.specs.Prelude.{ℕ, ◌+◌, ◌≤◌, ◌≡◌, length, Option, None, Some}
use Rattle.types.specs.declared.lines.Reply.{Reply}
use Rattle.types.specs.declared.lines.Reply.TheVariants.{Letters, Weight, Total, Points, Refused}
use Rattle.outline.specs.Lines.{prefix_length}
use Rattle.outline.specs.Replies.{reply_text}

-- the longest reply that any buffer is asked to hold
abbrev pub reply_limit : ℕ
reply_limit = 64

-- the two bytes of CR LF stand with the text
abbrev pub reply_length : ℕ → Option Reply → ℕ
reply_length address None = 0
reply_length address (Some (Letters k)) = prefix_length address + 4
reply_length address (Some (Weight w)) = prefix_length address + 18
reply_length address (Some (Total total count)) = prefix_length address + 19
reply_length address (Some (Points p)) = prefix_length address + 44
reply_length address (Some (Refused n)) = prefix_length address + 6

abbrev pub ExactLength : Type 0
ExactLength = (address : ℕ) (r : Option Reply) → length (reply_text address r) ≡ reply_length address r

abbrev pub WithinLimit : Type 0
WithinLimit = (address : ℕ) (r : Option Reply) → length (reply_text address r) ≤ reply_limit
