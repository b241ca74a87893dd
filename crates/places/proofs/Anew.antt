-- A part of a layout written anew, over numbers that were written to the whole: the same as the whole written with the part's new numbers. So a state's
-- image is changed part by part, in place. Assumes nothing.
use mathlib.Core.Path.{◌≡◌, refl, sym, ap, ◌∙◌}
use mathlib.Core.List.{List, [], ◌∷◌, ◌++◌}
use Prim.Native.Nat.{ℕ, zero, suc, ◌+◌, ◌/◌, ◌%◌, ◌≤◌, ◌<◌}
use native.Mathlib.Nat.{ne_of_lt}
use native.Mathlib.Omega.{arith}
use lib.Dec.{T, leb, leb→le, le→leb}
use lib.Ieee.Fits.{and_l, and_r, and_i}
use lib.ListN.{length, set}
use lib.Seq.{set-set, set_comm}
use Rattle.places.specs.Places.{put_be, Place, put_all, tidy}

-- ---- numbers
put_set : (n v : ℕ) (l : List ℕ) (at j x : ℕ) → at + n ≤ j → put_be n v (set l j x) at ≡ set (put_be n v l at) j x
unfolding put_be
put_set zero v l at j x h = refl
put_set (suc n) v l at j x h =
    let k : at + n < j = omega arith in
    ap (λ (t : List ℕ). set t (at + n) (v % 256)) (put_set n (v / 256) l at j x (omega arith)) ∙ set_comm (put_be n (v / 256) l at) j (at + n) x (v % 256) (λ e. ne_of_lt k (sym e))

put_over : (n v w : ℕ) (l : List ℕ) (at : ℕ) → put_be n v (put_be n w l at) at ≡ put_be n v l at
unfolding put_be
put_over zero v w l at = refl
put_over (suc n) v w l at =
    ap (λ (t : List ℕ). set t (at + n) (v % 256)) (put_set n (v / 256) (put_be n (w / 256) l at) at (at + n) (w % 256) (omega arith))
    ∙ set-set (put_be n (v / 256) (put_be n (w / 256) l at) at) (at + n) (w % 256) (v % 256)
    ∙ ap (λ (t : List ℕ). set t (at + n) (v % 256)) (put_over n (v / 256) (w / 256) l at)

put_past : (n v m w : ℕ) (l : List ℕ) (at on : ℕ) → at + n ≤ on → put_be n v (put_be m w l on) at ≡ put_be m w (put_be n v l at) on
unfolding put_be
put_past n v zero w l at on h = refl
put_past n v (suc m) w l at on h =
    put_set n v (put_be m (w / 256) l on) at (on + m) (w % 256) (omega arith) ∙ ap (λ (t : List ℕ). set t (on + m) (w % 256)) (put_past n v m (w / 256) l at on h)

-- ---- tables
module _ (k : ℕ) where
  closer : (qs : List Place) (from near : ℕ) → near ≤ from → T (tidy from k qs) → T (tidy near k qs)
  closer [] from near h t =
      let a = leb→le from k t in
      le→leb near k (omega arith)
  closer (q ∷ qs) from near h t =
      let a = leb→le from q.at (and_l (leb from q.at) (tidy (q.at + q.bytes) k qs) t) in
      and_i (leb near q.at) (tidy (q.at + q.bytes) k qs) (le→leb near q.at (omega arith)) (and_r (leb from q.at) (tidy (q.at + q.bytes) k qs) t)

  behind : (mid post : List Place) (from : ℕ) → T (tidy from k (mid ++ post)) → T (tidy from k post)
  behind [] post from t = t
  behind (p ∷ mid) post from t =
      let a = leb→le from p.at (and_l (leb from p.at) (tidy (p.at + p.bytes) k (mid ++ post)) t) in
      closer post (p.at + p.bytes) from (omega arith) (behind mid post (p.at + p.bytes) (and_r (leb from p.at) (tidy (p.at + p.bytes) k (mid ++ post)) t))

  past_all : (n v at : ℕ) (qs : List Place) (ws l : List ℕ) → T (tidy (at + n) k qs) → put_be n v (put_all qs ws l) at ≡ put_all qs ws (put_be n v l at)
  unfolding put_all
  past_all n v at [] ws l t = refl
  past_all n v at (q ∷ qs) [] l t = refl
  past_all n v at (q ∷ qs) (w ∷ ws) l t =
      let a = leb→le (at + n) q.at (and_l (leb (at + n) q.at) (tidy (q.at + q.bytes) k qs) t) in
      past_all n v at qs ws (put_be q.bytes w l q.at) (closer qs (q.at + q.bytes) (at + n) (omega arith) (and_r (leb (at + n) q.at) (tidy (q.at + q.bytes) k qs) t))
      ∙ ap (put_all qs ws) (put_past n v q.bytes w l at q.at a)

  pub all_past : (mid post : List Place) (vs ws l : List ℕ) (from : ℕ) → T (tidy from k (mid ++ post)) → put_all mid vs (put_all post ws l) ≡ put_all post ws (put_all mid vs l)
  unfolding put_all
  all_past [] post vs ws l from t = refl
  all_past (p ∷ mid) post [] ws l from t = refl
  all_past (p ∷ mid) post (v ∷ vs) ws l from t =
      let r = and_r (leb from p.at) (tidy (p.at + p.bytes) k (mid ++ post)) t in
      ap (put_all mid vs) (past_all p.bytes v p.at post ws l (behind mid post (p.at + p.bytes) r))
      ∙ all_past mid post vs ws (put_be p.bytes v l p.at) (p.at + p.bytes) r

  pub over_all : (mid : List Place) (vs us l : List ℕ) (from : ℕ) → T (tidy from k mid) → length us ≡ length mid → length vs ≡ length mid
      → put_all mid vs (put_all mid us l) ≡ put_all mid vs l
  unfolding put_all
  over_all [] vs us l from t e f = refl
  over_all (p ∷ mid) [] us l from t e f = absurd (omega (arith, f))
  over_all (p ∷ mid) (v ∷ vs) [] l from t e f = absurd (omega (arith, e))
  over_all (p ∷ mid) (v ∷ vs) (u ∷ us) l from t e f =
      let r = and_r (leb from p.at) (tidy (p.at + p.bytes) k mid) t in
      ap (put_all mid vs) (past_all p.bytes v p.at mid us (put_be p.bytes u l p.at) r ∙ ap (put_all mid us) (put_over p.bytes v u l p.at))
      ∙ over_all mid vs us (put_be p.bytes v l p.at) (p.at + p.bytes) r (omega (arith, e)) (omega (arith, f))

put_both : (ps qs : List Place) (us vs l : List ℕ) → length us ≡ length ps → put_all (ps ++ qs) (us ++ vs) l ≡ put_all qs vs (put_all ps us l)
unfolding put_all
put_both [] qs [] vs l e = refl
put_both [] qs (u ∷ us) vs l e = absurd (omega (arith, e))
put_both (p ∷ ps) qs [] vs l e = absurd (omega (arith, e))
put_both (p ∷ ps) qs (u ∷ us) vs l e = put_both ps qs us vs (put_be p.bytes u l p.at) (omega (arith, e))

-- the law: between the tables `pre` and `post`
pub part_anew : (k : ℕ) (pre mid post : List Place) (us vs new ws l : List ℕ) (from on : ℕ) → T (tidy from k mid) → T (tidy on k (mid ++ post))
    → length us ≡ length pre → length vs ≡ length mid → length new ≡ length mid
    → put_all mid new (put_all (pre ++ (mid ++ post)) (us ++ (vs ++ ws)) l) ≡ put_all (pre ++ (mid ++ post)) (us ++ (new ++ ws)) l
part_anew k pre mid post us vs new ws l from on t r a b c =
    ap (put_all mid new) (put_both pre (mid ++ post) us (vs ++ ws) l a ∙ put_both mid post vs ws (put_all pre us l) b)
    ∙ all_past k mid post new ws (put_all mid vs (put_all pre us l)) on r
    ∙ ap (put_all post ws) (over_all k mid new vs (put_all pre us l) from t b c)
    ∙ sym (put_both pre (mid ++ post) us (new ++ ws) l a ∙ put_both mid post new ws (put_all pre us l) c)
