-- The text of each kind of reply, between prefix and CR LF, and how many bytes it has. No kind but the silent one has none.
use Rattle.std.specs.Prelude.{ℕ, List, [], Option, None, Some}
use Rattle.types.specs.declared.lines.Reply.{Reply}
use Rattle.types.specs.declared.lines.Reply.TheVariants.{Letters, Weight, Total, Points, Refused}
use Rattle.outline.specs.Replies.{letters_text, weight_text, total_text, points_text, refused_text}

abbrev pub text_of : Option Reply → List ℕ
text_of None = []
text_of (Some (Letters k)) = letters_text k
text_of (Some (Weight w)) = weight_text w
text_of (Some (Total total count)) = total_text total count
text_of (Some (Points p)) = points_text p
text_of (Some (Refused n)) = refused_text n

abbrev pub text_length : Option Reply → ℕ
text_length None = 0
text_length (Some (Letters k)) = 2
text_length (Some (Weight w)) = 16
text_length (Some (Total total count)) = 17
text_length (Some (Points p)) = 42
text_length (Some (Refused n)) = 4
