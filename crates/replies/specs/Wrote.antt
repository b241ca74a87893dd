-- What the writer of a reply answers: how many bytes the reply has, or that the buffer is shorter than that.
use Rattle.std.specs.Prelude.{ℕ, List, cond, length, leb, Result, Ok, Err}
use Rattle.replies.specs.declared.ShortBuffer.{ShortBuffer}

unfoldable pub wrote_of : List ℕ → List ℕ → Result ℕ ShortBuffer
wrote_of text buffer = cond (leb (length text) (length buffer)) (Ok (length text)) (Err (record {}))
