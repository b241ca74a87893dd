-- A text by its keys and numbers: how long it is, what is still to be put of it, and that a ticket is one. Assumes nothing.
use Rattle.std.specs.Prelude.{Option, None, Some, ℕ}
use Prim.Native.Nat.{ℕ, suc, ◌+◌, ◌*◌, ◌≤◌, ◌<◌, zero-le}
use native.Mathlib.Nat.{add-zero, add-suc, suc-add}
use native.Mathlib.Numerals.{add-one}
use native.Mathlib.Omega.{arith}
use mathlib.Core.Path.{◌≡◌, refl, sym, ap, ◌∙◌}
use mathlib.Core.List.{List, [], ◌∷◌, ◌++◌, append_assoc}
use mathlib.Core.Bool.{Bool, true, false, cond}
use borrow.Author.Tests.{le-leb, lt-leb}
use lib.Dec.{leb-zero, eqb}
use lib.ListN.{length, get_or, take, drop, set, length-set, length-append, drop_of_length-le}
use lib.Seq.{sets, length-sets, set-set, drop-cons, take_all}
use Rattle.types.specs.declared.daybook.Book.{Book}
use Rattle.types.specs.declared.weight.Weighing.{Weighing}
use Rattle.types.specs.declared.stages.Totals.{Totals}
use Rattle.outline.specs.Replies.{written_of, digits_of}
use Rattle.outline.proofs.Lengths.{length_digits}
use Rattle.outline.specs.Worked.{ascii}
use Rattle.outline.specs.Ticket.{decimal_text, pair_text, day_text, left_text, ticket_text, refused_text, fitted_in}
use Rattle.replies.specs.Put.{Put, put_in, place_in}
use Rattle.replies.specs.Writers.{fitted_bytes, short_bytes, silent_bytes, same, put_fits}
use Rattle.logs.specs.declared.pairs.Amount.{Amount}
use Rattle.logs.specs.Amounts.{count_of, amounts_of, number_line, number_lines, marks, filled}
use Rattle.logs.proofs.DecimalLaws.{decimal_short, decimal_some, decimal_digits_lem}

-- ---- a number and LF
pub sign_length : (minus : Bool) → length {A = ℕ} (cond minus (45 ∷ []) []) ≡ cond minus 1 0
sign_length true = refl
sign_length false = refl

sign_short : (minus : Bool) → cond minus 1 0 ≤ 1
sign_short true = omega arith
sign_short false = omega arith

pub number_length : (a : Amount) → length (number_line a) ≡ cond a.minus 1 0 + length (decimal_text a.size) + 1
unfolding number_line
number_length a = simp (length-append, sign_length)

number_short : (a : Amount) → length (number_line a) ≤ 22
number_short a = omega (arith, number_length a, sign_short a.minus, decimal_short a.size)

-- a minus that was put where there is none is written over by the first digit
pub signed_sets : (minus : Bool) (d : List ℕ) (at : ℕ) (xs : List ℕ) → 1 ≤ length xs → sets (set d at 45) (at + cond minus 1 0) xs ≡ sets d at (cond minus (45 ∷ []) [] ++ xs)
signed_sets true d at xs h = rw add-one
signed_sets false d at [] h = absurd (omega arith)
signed_sets false d at (x ∷ xs) h = rw (add-zero, set-set)

-- ---- the numbers' bytes
numbers_short : (s : List Amount) → length (number_lines s) ≤ 22 * length s
unfolding number_lines
numbers_short [] = zero-le
numbers_short (a ∷ s) = rw length-append (omega (arith, number_short a, numbers_short s))

pub numbers_few : (s : List Amount) → length s ≤ 8 → length (number_lines s) ≤ 176
numbers_few s h = omega (arith, numbers_short s)

pub numbers_end : (s : List Amount) (i : ℕ) → length s ≤ i → length (number_lines (drop i s)) ≡ 0
unfolding number_lines
numbers_end s i h = rw (drop_of_length-le s h)

next_line : (s : List Amount) (i : ℕ) (z : Amount) → i < length s → length (number_lines (drop i s)) ≡ length (number_line (get_or s i z)) + length (number_lines (drop (i + 1) s))
unfolding number_lines
next_line s i z h = rw (drop-cons s i z h, add-one) (length-append (number_line (get_or s i z)) (number_lines (drop (suc i) s)))

pub numbers_more : (s : List Amount) (i : ℕ) (z : Amount) → i < length s → length (number_lines (drop i s)) ≡ cond (get_or s i z).minus 1 0 + length (decimal_text (get_or s i z).size) + 1 + length (number_lines (drop (i + 1) s))
numbers_more s i z h = omega (arith, next_line s i z h, number_length (get_or s i z))

-- ---- the text's length
pub filled_length : (keys : List ℕ) (s : List Amount) → marks keys ≤ length s → length (filled keys s) ≡ length keys + length (number_lines (take (marks keys) s))
unfolding filled marks number_lines
filled_length [] s h = refl
filled_length (x ∷ keys) [] h = go (eqb x 61) h (λ k. filled_length keys [] k)
  where
    go : (t : Bool) → cond t (suc (marks keys)) (marks keys) ≤ 0 → (marks keys ≤ 0 → length (filled keys []) ≡ length keys + length (number_lines (take (marks keys) []))) → suc (length (filled keys [])) ≡ suc (length keys) + length (number_lines (take (cond t (suc (marks keys)) (marks keys)) []))
    go true k r = absurd (omega arith)
    go false k r = omega (arith, r k)
filled_length (x ∷ keys) (a ∷ s) h = go (eqb x 61) h (λ k. filled_length keys s k) (λ k. filled_length keys (a ∷ s) k)
  where
    go : (t : Bool) → cond t (suc (marks keys)) (marks keys) ≤ suc (length s) → (marks keys ≤ length s → length (filled keys s) ≡ length keys + length (number_lines (take (marks keys) s))) → (marks keys ≤ suc (length s) → length (filled keys (a ∷ s)) ≡ length keys + length (number_lines (take (marks keys) (a ∷ s)))) → suc (length (cond t (number_line a ++ filled keys s) (filled keys (a ∷ s)))) ≡ suc (length keys) + length (number_lines (take (cond t (suc (marks keys)) (marks keys)) (a ∷ s)))
    go true k p q = rw (length-append (number_line a) (filled keys s), length-append (number_line a) (number_lines (take (marks keys) s))) (omega (arith, p (omega arith)))
    go false k p q = omega (arith, q k)

pub filled_all : (keys : List ℕ) (s : List Amount) → marks keys ≡ length s → length (filled keys s) ≡ length keys + length (number_lines s)
filled_all keys s e = filled_length keys s (omega arith) ∙ ap (λ (l : List Amount). length keys + length (number_lines l)) (take_all (marks keys) s (omega arith))

-- ---- what is still to be put of it
sets_append : (l : List ℕ) (i : ℕ) (xs ys : List ℕ) → sets (sets l i xs) (i + length xs) ys ≡ sets l i (xs ++ ys)
sets_append l i [] ys = rw add-zero
sets_append l i (x ∷ xs) ys = rw (add-suc, ← suc-add) (sets_append (set l i x) (suc i) xs ys)

-- the keys from byte i on, which is x
module _ (keys : List ℕ) (i : ℕ) (h : i < length keys) where
  abbrev x : ℕ
  x = get_or keys i 0

  front : drop i keys ≡ x ∷ drop (i + 1) keys
  front = drop-cons keys i 0 h ∙ rw add-one

  pub marks_plain : eqb x 61 ≡ false → marks (drop i keys) ≡ marks (drop (i + 1) keys)
  unfolding marks
  marks_plain k = rw front (simp k)

  pub marks_mark : eqb x 61 ≡ true → marks (drop i keys) ≡ suc (marks (drop (i + 1) keys))
  unfolding marks
  marks_mark k = rw front (simp k)

  pub filled_some : (s : List Amount) → 1 ≤ length (filled (drop i keys) s)
  unfolding filled
  filled_some s = rw front (go s)
    where
      go : (r : List Amount) → 1 ≤ length (filled (x ∷ drop (i + 1) keys) r)
      go [] = omega arith
      go (a ∷ r) = omega arith

  -- a byte that is no `=`
  pub filled_plain : (s : List Amount) → eqb x 61 ≡ false → filled (drop i keys) s ≡ x ∷ filled (drop (i + 1) keys) s
  unfolding filled
  filled_plain s k = rw front (go s)
    where
      go : (r : List Amount) → filled (x ∷ drop (i + 1) keys) r ≡ x ∷ filled (drop (i + 1) keys) r
      go [] = refl
      go (a ∷ r) = simp k

  -- a `=`, and the number behind it
  pub filled_mark : (s : List Amount) (line : ℕ) (z : Amount) → eqb x 61 ≡ true → line < length s → filled (drop i keys) (drop line s) ≡ x ∷ (number_line (get_or s line z) ++ filled (drop (i + 1) keys) (drop (line + 1) s))
  unfolding filled
  filled_mark s line z k l = rw (front, drop-cons s line z l, add-one line) (simp k)

pub put_byte : (d : List ℕ) (at x : ℕ) (xs ys : List ℕ) → xs ≡ x ∷ ys → sets (set d at x) (at + 1) ys ≡ sets d at xs
put_byte d at x xs ys e = rw (e, add-one)

pub put_end : (d keys : List ℕ) (s : List Amount) (at i : ℕ) → length keys ≤ i → sets d at (filled (drop i keys) s) ≡ d
unfolding filled
put_end d keys s at i h = rw (drop_of_length-le keys h)

pub filled_end : (keys : List ℕ) (s : List Amount) (i : ℕ) → length keys ≤ i → length (filled (drop i keys) s) ≡ 0
unfolding filled
filled_end keys s i h = rw (drop_of_length-le keys h)

pub put_more : {d l : List ℕ} (xs ys : List ℕ) {at n w : ℕ} → Put d at xs l n w → sets l n ys ≡ sets d at (xs ++ ys)
put_more {d} xs ys {at} p = rw (p.stored, p.behind, ← p.long) (sets_append d at xs ys)

-- ---- the outline's texts
ticket_text_lem : (b : Book) (w : Weighing) (t : Totals) → filled (ascii "opening=refilled=used=unbooked=closing=tracked=batches=total=") (amounts_of b w t) ≡ day_text b ++ left_text w t
unfolding filled day_text left_text pair_text number_line
ticket_text_lem b w t = simp append_assoc

pub ticket_none : (w : Weighing) (t : Totals) → ticket_text None w t ≡ []
unfolding ticket_text
ticket_none w t = refl

pub ticket_lines : (w : Weighing) (t : Totals) (b : Book) {c : Option Book} {s : List Amount} → c ≡ Some b → s ≡ amounts_of b w t → filled (ascii "opening=refilled=used=unbooked=closing=tracked=batches=total=") s ≡ ticket_text c w t
unfolding ticket_text
ticket_lines w t b e q = rw (e, q) (ticket_text_lem b w t)

pub refused_line : (n : ℕ) → filled (ascii "refused=") (count_of n ∷ []) ≡ refused_text n
unfolding filled refused_text pair_text number_line
refused_line n = simp append_assoc

-- ---- in a buffer
-- the text's own length for the count of its bytes
pub measured : {d xs l : List ℕ} {at n w : ℕ} → Put d at xs l n w → Put d at xs l n (length xs)
measured {at = at} p = record { stored = p.stored; behind = p.behind ∙ ap (λ (k : ℕ). at + k) (sym p.long); long = refl }

pub put_length : {d xs l : List ℕ} {at n w : ℕ} → Put d at xs l n w → length l ≡ length d
put_length {d} {xs} {at = at} p = ap length p.stored ∙ length-sets d at xs

-- the digits behind the place that a minus has
pub signed_put : {d out : List ℕ} (a : Amount) {at sign count next : ℕ} → sign ≡ cond a.minus 1 0 → count ≡ length (decimal_text a.size) → at + length (number_line a) ≤ length d
    → next ≡ place_in (set d at 45) (at + sign) (digits_of count a.size) → out ≡ put_in (set d at 45) (at + sign) (digits_of count a.size)
    → Put d at (cond a.minus (45 ∷ []) [] ++ decimal_text a.size) out next (cond a.minus 1 0 + length (decimal_text a.size))
signed_put {d} {out} a {at} {sign} {count} {next} e k h n o =
    let digits : digits_of count a.size ≡ decimal_text a.size = ap (λ (m : ℕ). digits_of m a.size) k ∙ decimal_digits_lem a.size in
    let room : at + sign + length (digits_of count a.size) ≤ length (set d at 45) = rw length-set (omega (arith, length_digits count a.size, number_length a)) in
    let put = same digits (put_fits (set d at 45) (at + sign) (digits_of count a.size) room n o) in
    record {
      stored =
          put.stored
          ∙ ap (λ (m : ℕ). sets (set d at 45) (at + m) (decimal_text a.size)) e
          ∙ signed_sets a.minus d at (decimal_text a.size) (decimal_some a.size);
      behind = omega (arith, put.behind, put.long);
      long = simp (length-append, sign_length);
    }

pub fitted : {d xs l : List ℕ} {n w : ℕ} → Put d 0 xs l n w → w ≤ length d → (n ≡ fitted_in xs d) × (l ≡ written_of xs d)
unfolding fitted_in
fitted {d} {xs} {n = n} p h =
    let room : length xs ≤ length d = omega arith in
    let e : n ≡ length xs = omega arith in
    (simp (le-leb _ _ room) e, fitted_bytes p h)

pub unfitted : (xs d : List ℕ) → length d < length xs → (◌≡◌ {A = ℕ} 0 (fitted_in xs d)) × (d ≡ written_of xs d)
unfolding fitted_in
unfitted xs d h = (simp (lt-leb _ _ h), short_bytes xs d h)

pub nothing : (d : List ℕ) → (◌≡◌ {A = ℕ} 0 (fitted_in [] d)) × (d ≡ written_of [] d)
unfolding fitted_in
nothing d = (simp leb-zero, silent_bytes d)
