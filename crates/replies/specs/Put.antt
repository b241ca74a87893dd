-- What a writer inside the buffer promises, so that writers chain: each starts at the place where the one before it stopped.
use Rattle.std.specs.Prelude.{ℕ, ◌+◌, List, ◌≡◌, cond, leb, length}
use Rattle.std.proofs.lemmas.List.Edits.{sets}

-- the text, of so many bytes, went into the list `before` from place `at` on; `next` is the place behind it
pub record Put (before : List ℕ) (at : ℕ) (text after : List ℕ) (next bytes : ℕ) : Type 0 where
  pub stored : after ≡ sets before at text
  pub behind : next ≡ at + bytes
  pub long : length text ≡ bytes

-- a text at a place of a buffer that may be too short for it: put whole or not at all, and the place behind it
unfoldable pub put_in : List ℕ → ℕ → List ℕ → List ℕ
put_in buffer at text = cond (leb (at + length text) (length buffer)) (sets buffer at text) buffer

unfoldable pub place_in : List ℕ → ℕ → List ℕ → ℕ
place_in buffer at text = cond (leb (at + length text) (length buffer)) (at + length text) at
