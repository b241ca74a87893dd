-- Runs of stores: a part that is copied, and a run that begins with its last byte. Assumes nothing.
use Prim.Native.Nat.{ℕ, suc, ◌+◌, ◌-◌, ◌/◌, ◌≤◌, ◌<◌}
use native.Mathlib.Nat.{add-zero, add-suc, suc-add}
use native.Mathlib.Omega.{arith}
use mathlib.Core.Path.{◌≡◌, refl, sym, ap, ◌∙◌}
use mathlib.Core.List.{List, [], ◌∷◌, ◌++◌}
use lib.ListN.{length, set, take, drop}
use lib.Seq.{sets, set_comm}
use borrow.Rule.Slice.PartMut.{put_mid}
use Rattle.std.proofs.Common.{append_assoc}
use Rattle.std.proofs.lemmas.List.{drop-drop}
use Rattle.std.proofs.lemmas.List.Edits.{sets-eq}
use Rattle.outline.specs.Lines.{units_digit}
use Rattle.outline.specs.Replies.{digits_of}
use Rattle.outline.proofs.Lengths.{length_digits}
use Rattle.replies.specs.Put.{Put}

-- the bytes xs in the place of as many
pub part : (d ys xs : List ℕ) (at : ℕ) → at + length xs ≤ length d → ys ≡ xs → Put d at xs (put_mid at (at + length xs - at) d ys) (at + length xs) (length xs)
part d ys xs at h e =
    let k : at + length xs - at ≡ length xs = omega arith in
    record {
      stored =
          rw (e, k, drop-drop (length xs) at d) (sym (append_assoc (take at d) xs (drop (at + length xs) d)) ∙ sym (sets-eq xs d at h));
      behind = refl;
      long = refl;
    }

-- ---- right to left
sets_last : (l : List ℕ) (i : ℕ) (xs : List ℕ) (b : ℕ) → sets (set l (i + length xs) b) i xs ≡ sets l i (xs ++ b ∷ [])
sets_last l i [] b = rw add-zero
sets_last l i (x ∷ xs) b =
    ap (λ (m : List ℕ). sets m (suc i) xs) (set_comm l (i + suc (length xs)) i b x (λ e. omega (arith, e)))
    ∙ rw (add-suc, ← suc-add) (sets_last (set l i x) (suc i) xs b)

-- the last digit, stored before the others
pub digit_down : (l : List ℕ) (at k v : ℕ) → 0 < k → sets (set l (at + (k - 1)) (units_digit v)) at (digits_of (k - 1) (v / 10)) ≡ sets l at (digits_of k v)
unfolding digits_of
digit_down l at k v h =
    let e : suc (k - 1) ≡ k = omega arith in
    let others = digits_of (k - 1) (v / 10) in
    ap (λ (n : ℕ). sets (set l (at + n) (units_digit v)) at others) (sym (length_digits (k - 1) (v / 10)))
    ∙ sets_last l at others (units_digit v)
    ∙ ap (λ (n : ℕ). sets l at (digits_of n v)) e

pub no_digits : (v : ℕ) → digits_of 0 v ≡ []
unfolding digits_of
no_digits v = refl
