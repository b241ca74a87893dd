-- A whole reply at the buffer's start: what is answered. Assumes nothing.
use Rattle.std.specs.Prelude.{Some, Ok, Err}
use Prim.Native.Nat.{ℕ, ◌≤◌, ◌<◌}
use native.Mathlib.Omega.{arith}
use mathlib.Core.Path.{◌≡◌, refl, ap}
use mathlib.Core.List.{List, []}
use lib.Dec.{leb-zero}
use lib.ListN.{length}
use borrow.Author.Tests.{le-leb, lt-leb}
use Rattle.types.specs.declared.lines.Reply.{Reply}
use Rattle.types.specs.declared.lines.Reply.TheVariants.{Letters, Weight, Total, Points, Refused}
use Rattle.outline.specs.Replies.{framed, reply_text}
use Rattle.replies.specs.Wrote.{wrote_of}
use Rattle.replies.specs.Put.{Put}
use Rattle.outline.specs.Texts.{text_of}

-- ---- what is answered
pub fitted_answer : {d xs l : List ℕ} {n w : ℕ} → Put d 0 xs l n w → w ≤ length d → Ok n ≡ wrote_of xs d
unfolding wrote_of
fitted_answer {d} {xs} {n = n} p h =
    let room : length xs ≤ length d = omega arith in
    let e : n ≡ length xs = omega arith in
    simp (le-leb _ _ room) (ap Ok e)

pub short_answer : (xs d : List ℕ) → length d < length xs → Err (record {}) ≡ wrote_of xs d
unfolding wrote_of
short_answer xs d h = simp (lt-leb _ _ h)

pub silent_answer : (d : List ℕ) → Ok 0 ≡ wrote_of [] d
unfolding wrote_of
silent_answer d = simp leb-zero

-- ---- a reply that is due
pub due_text : (a : ℕ) (r : Reply) → reply_text a (Some r) ≡ framed a (text_of (Some r))
unfolding reply_text
due_text a (Letters k) = refl
due_text a (Weight w) = refl
due_text a (Total total count) = refl
due_text a (Points p) = refl
due_text a (Refused n) = refl
