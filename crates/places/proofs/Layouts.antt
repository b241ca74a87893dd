-- Laws of a layout, for every layout that is `tidy`: what was written to its places is read back, whole, and an image whose numbers are read and written
-- back is unchanged. A state's image is one case of both. Assumes nothing.
use mathlib.Core.Path.{◌≡◌, refl, ap, ◌∙◌}
use mathlib.Core.List.{List, [], ◌∷◌}
use mathlib.Core.Bool.{Bool, true, false, ◌||◌}
use mathlib.Core.Logic.{◌⊎◌, inl, inr, ◌≢◌}
use Prim.Native.Nat.{ℕ, zero, suc, ◌+◌, ◌/◌, ◌%◌, ◌≤◌, ◌<◌}
use native.Mathlib.Nat.{ne_of_lt}
use native.Mathlib.Omega.{arith}
use lib.Dec.{T, leb, ltb, leb→le, ltb→lt, le→leb, lt→ltb}
use lib.Ieee.Fits.{and_l, and_r}
use lib.ListN.{length, get_or}
use lib.Seq.{get_or-set_other}
use Rattle.places.specs.Places.{be_at, put_be, Place, get_all, put_all, tidy, unused, Numbers}
use Rattle.places.proofs.Numbers.{be_set, put_length, read_put, put_read}

pub or_l : (a b : Bool) → T a → T (a || b)
or_l true b t = tt
or_l false b t = elim t [ ]

pub or_r : (a b : Bool) → T b → T (a || b)
or_r true b t = tt
or_r false b t = t

pub apart : (at n i : ℕ) → T (ltb i at || leb (at + n) i) → (i < at) ⊎ (at + n ≤ i)
apart at n i h = go (ltb i at) (ltb→lt i at) h
  where
    go : (t : Bool) → (T t → i < at) → T (t || leb (at + n) i) → (i < at) ⊎ (at + n ≤ i)
    go true f h = inl (f tt)
    go false f h = inr (leb→le (at + n) i h)

-- a number written further on does not count
be_put : (m v : ℕ) (l : List ℕ) (on n at : ℕ) → at + n ≤ on → be_at n (put_be m v l on) at ≡ be_at n l at
unfolding put_be
be_put zero v l on n at h = refl
be_put (suc m) v l on n at h = be_set n (put_be m (v / 256) l on) at (on + m) (v % 256) (omega arith) ∙ be_put m (v / 256) l on n at h

be_all : (ps : List Place) (vs l : List ℕ) (from k n at : ℕ) → T (tidy from k ps) → at + n ≤ from → be_at n (put_all ps vs l) at ≡ be_at n l at
unfolding put_all
be_all [] vs l from k n at t h = refl
be_all (p ∷ ps) [] l from k n at t h = refl
be_all (p ∷ ps) (v ∷ vs) l from k n at t h =
    let a = leb→le from p.at (and_l (leb from p.at) (tidy (p.at + p.bytes) k ps) t) in
    be_all ps vs (put_be p.bytes v l p.at) (p.at + p.bytes) k n at (and_r (leb from p.at) (tidy (p.at + p.bytes) k ps) t) (omega arith)
    ∙ be_put p.bytes v l p.at n at (omega arith)

-- a tidy layout ends within its k bytes, from its start on
tidy_ends : (ps : List Place) (from k : ℕ) → T (tidy from k ps) → from ≤ k
tidy_ends [] from k t = leb→le from k t
tidy_ends (p ∷ ps) from k t =
    let a = leb→le from p.at (and_l (leb from p.at) (tidy (p.at + p.bytes) k ps) t) in
    omega (arith, tidy_ends ps (p.at + p.bytes) k (and_r (leb from p.at) (tidy (p.at + p.bytes) k ps) t))

pub get_put_all : (ps : List Place) (vs l : List ℕ) (from k : ℕ) → T (tidy from k ps) → k ≤ length l → Numbers ps vs → get_all ps (put_all ps vs l) ≡ vs
unfolding get_all put_all
get_put_all [] [] l from k t h f = refl
get_put_all [] (v ∷ vs) l from k t h f = absurd f
get_put_all (p ∷ ps) [] l from k t h f = absurd f
get_put_all (p ∷ ps) (v ∷ vs) l from k t h f =
    let r = and_r (leb from p.at) (tidy (p.at + p.bytes) k ps) t in
    let l' = put_be p.bytes v l p.at in
    let e = tidy_ends ps (p.at + p.bytes) k r in
    ap (λ (x : ℕ). x ∷ get_all ps (put_all ps vs l')) (be_all ps vs l' (p.at + p.bytes) k p.bytes p.at r (omega arith) ∙ read_put p.bytes v l p.at (omega arith) f.0)
    ∙ ap (λ (xs : List ℕ). v ∷ xs) (get_put_all ps vs l' (p.at + p.bytes) k r (omega (arith, put_length p.bytes v l p.at)) f.1)

pub put_get_all : (ps : List Place) (l : List ℕ) → ((i : ℕ) → get_or l i 0 < 256) → put_all ps (get_all ps l) l ≡ l
unfolding get_all put_all
put_get_all [] l h = refl
put_get_all (p ∷ ps) l h = ap (λ (x : List ℕ). put_all ps (get_all ps l) x) (put_read p.bytes l p.at h) ∙ put_get_all ps l h

pub put_all_length : (ps : List Place) (vs l : List ℕ) → length (put_all ps vs l) ≡ length l
unfolding put_all
put_all_length [] vs l = refl
put_all_length (p ∷ ps) [] l = refl
put_all_length (p ∷ ps) (v ∷ vs) l = put_all_length ps vs (put_be p.bytes v l p.at) ∙ put_length p.bytes v l p.at

-- a byte before a number, or past it, stays
pub put_beside : (n v : ℕ) (l : List ℕ) (at i : ℕ) → T (ltb i at || leb (at + n) i) → get_or (put_be n v l at) i 0 ≡ get_or l i 0
unfolding put_be
put_beside zero v l at i h = refl
put_beside (suc n) v l at i h =
    get_or-set_other (put_be n (v / 256) l at) (at + n) i (v % 256) 0 (other (apart at (suc n) i h))
    ∙ put_beside n (v / 256) l at i (closer (apart at (suc n) i h))
  where
    other : (i < at) ⊎ (at + suc n ≤ i) → i ≢ at + n
    other (inl k) = ne_of_lt (omega arith)
    other (inr k) = λ e. omega arith

    closer : (i < at) ⊎ (at + suc n ≤ i) → T (ltb i at || leb (at + n) i)
    closer (inl k) = or_l (ltb i at) (leb (at + n) i) (lt→ltb i at k)
    closer (inr k) = or_r (ltb i at) (leb (at + n) i) (le→leb (at + n) i (omega arith))

-- a byte in none of the places stays as it was: in an image that began as 0, it is 0
pub put_unused : (ps : List Place) (vs l : List ℕ) (i : ℕ) → T (unused ps i) → get_or (put_all ps vs l) i 0 ≡ get_or l i 0
unfolding put_all
put_unused [] vs l i h = refl
put_unused (p ∷ ps) [] l i h = refl
put_unused (p ∷ ps) (v ∷ vs) l i h =
    put_unused ps vs (put_be p.bytes v l p.at) i (and_r (ltb i p.at || leb (p.at + p.bytes) i) (unused ps i) h)
    ∙ put_beside p.bytes v l p.at i (and_l (ltb i p.at || leb (p.at + p.bytes) i) (unused ps i) h)
