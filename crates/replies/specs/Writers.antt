-- Laws on writers, which other crates that write into a lent buffer cite too. Assumes nothing.
use Rattle.std.specs.Prelude.{ℕ, suc, ◌+◌, ◌≤◌, ◌<◌, ◌≡◌, List, [], ◌∷◌, ◌++◌, drop, set}
use Rattle.std.proofs.Common.{add-zero, zero-add, add-suc, suc-add, ◌∙◌, length-append}
use native.Mathlib.Omega.{arith}
use Rattle.std.proofs.Math.Path.{refl}
use Rattle.std.proofs.Math.Dec.{leb-zero}
use Rattle.std.proofs.Math.ListN.{length}
use Rattle.std.proofs.lemmas.List.Edits.{sets, sets-eq}
use borrow.Author.Tests.{le-leb, lt-leb}
use Rattle.outline.specs.Replies.{written_of}
use Rattle.replies.specs.Put.{Put, put_in, place_in}

-- ---- writers in a chain
sets_append : (l : List ℕ) (i : ℕ) (xs ys : List ℕ) → sets (sets l i xs) (i + length xs) ys ≡ sets l i (xs ++ ys)
sets_append l i [] ys = rw add-zero
sets_append l i (x ∷ xs) ys = rw (add-suc, ← suc-add) (sets_append (set l i x) (suc i) xs ys)

-- a second writer that starts where the first stopped
pub more : {d xs l ys m : List ℕ} {at n w k v : ℕ} → Put d at xs l n w → Put l n ys m k v → Put d at (xs ++ ys) m k (w + v)
more {d} {xs} {ys = ys} {at = at} p q = record {
  stored = q.stored ∙ rw (p.stored, p.behind, ← p.long) (sets_append d at xs ys);
  behind = omega arith;
  long = rw length-append (omega arith);
}

-- the text by what it is equal to
pub same : {d xs ys l : List ℕ} {at n w : ℕ} → xs ≡ ys → Put d at xs l n w → Put d at ys l n w
same e p = record { stored = rw (← e) p.stored; behind = p.behind; long = rw (← e) p.long }

-- ---- a text at any place of any buffer
module _ (d : List ℕ) (at : ℕ) (xs : List ℕ) where
  pub put_fits : at + length xs ≤ length d → {l : List ℕ} {n : ℕ} → n ≡ place_in d at xs → l ≡ put_in d at xs → Put d at xs l n (length xs)
  unfolding put_in place_in
  put_fits h e f =
      let t = le-leb (at + length xs) (length d) h in
      record { stored = f ∙ simp t; behind = e ∙ simp t; long = refl }

  pub fits_put : at + length xs ≤ length d → {l : List ℕ} {n w : ℕ} → Put d at xs l n w → (n ≡ place_in d at xs) × (l ≡ put_in d at xs)
  unfolding put_in place_in
  fits_put h {n = n} p =
      let t = le-leb (at + length xs) (length d) h in
      let e : n ≡ at + length xs = omega arith in
      (simp t e, simp t p.stored)

  pub too_long : length d < at + length xs → (at ≡ place_in d at xs) × (d ≡ put_in d at xs)
  unfolding put_in place_in
  too_long h = let t = lt-leb (at + length xs) (length d) h in (simp t, simp t)

-- ---- a text at the buffer's start
at_start : (l xs : List ℕ) → length xs ≤ length l → sets l 0 xs ≡ xs ++ drop (length xs) l
at_start l xs h = sets-eq xs l 0 (rw zero-add h) ∙ rw zero-add

pub fitted_bytes : {d xs l : List ℕ} {n w : ℕ} → Put d 0 xs l n w → w ≤ length d → l ≡ written_of xs d
unfolding written_of
fitted_bytes {d} {xs} p h =
    let room : length xs ≤ length d = omega arith in
    simp (le-leb _ _ room) (p.stored ∙ at_start d xs room)

pub short_bytes : (xs d : List ℕ) → length d < length xs → d ≡ written_of xs d
unfolding written_of
short_bytes xs d h = simp (lt-leb _ _ h)

pub silent_bytes : (d : List ℕ) → d ≡ written_of [] d
unfolding written_of
silent_bytes d = simp leb-zero
