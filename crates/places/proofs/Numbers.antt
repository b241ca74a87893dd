-- Laws of numbers at a place, over the count of bytes n: two numbers side by side are one, what was written is read back, and what was read
-- and written back changes nothing. And the bits of a width to a signed number and back. Assumes nothing.
use mathlib.Core.Path.{◌≡◌, refl, sym, ap, ◌∙◌, subst}
use mathlib.Core.List.{List, [], ◌∷◌, ◌++◌}
use mathlib.Core.Bool.{Bool, true, false, ◌&&◌, true≢false}
use Prim.Native.Nat.{ℕ, zero, suc, ◌+◌, ◌*◌, ◌/◌, ◌%◌, ◌^◌, ◌≤◌, ◌<◌}
use native.Mathlib.Nat.{add-zero, add-suc, add_assoc, add-mul, mul-one, mul_assoc, pow-suc, pow-succ', div-one, div-div-eq-div-mul, div-add-mod', div-lt_iff_lt-mul, mod-lt, zero-lt-suc, ne_of_lt}
use native.Mathlib.Omega.{arith}
use lib.Arith.{digits_div, digits_mod, mod-mul}
use lib.Dec.{eqb}
use lib.IntN.{ℤ}
use lib.ListN.{length, get_or, set, replicate, length-set}
use lib.Seq.{get_or-set_same, get_or-set_other, set-get_or}
use borrow.Author.Tests.{eqb-true, eq-eqb}
use mir.Syntax.{Width}
use mir.Val.{SFits, bits}
use mir.ValLaws.{to_z-of_z, of_z-to_z, of_z_fits, to_z-Fits}
use Rattle.places.specs.Places.{be_at, put_be, signed, coded, same_bytes}

pow_pos256 : (n : ℕ) → 0 < 256 ^ n
pow_pos256 zero = zero-lt-suc 0
pow_pos256 (suc n) = subst (λ (x : ℕ). 0 < x) (sym (pow-suc 256 n)) (omega (arith, pow_pos256 n))

-- ---- side by side
pub be_add : (m n : ℕ) (l : List ℕ) (at : ℕ) → be_at (m + n) l at ≡ be_at m l at * 256 ^ n + be_at n l (at + m)
unfolding be_at
be_add m zero l at = ap (λ (k : ℕ). be_at k l at) (add-zero m) ∙ sym (add-zero (be_at m l at * 1) ∙ mul-one (be_at m l at))
be_add m (suc n) l at =
    ap (λ (k : ℕ). be_at k l at) (add-suc m n)
    ∙ ap (λ (x : ℕ). x * 256 + get_or l (at + (m + n)) 0) (be_add m n l at)
    ∙ ap (λ (k : ℕ). (be_at m l at * 256 ^ n + be_at n l (at + m)) * 256 + get_or l k 0) (sym (add_assoc at m n))
    ∙ ap (λ (x : ℕ). x + get_or l (at + m + n) 0) (add-mul (be_at m l at * 256 ^ n) (be_at n l (at + m)) 256 ∙ ap (λ (x : ℕ). x + be_at n l (at + m) * 256) (mul_assoc (be_at m l at) (256 ^ n) 256 ∙ ap (λ (x : ℕ). be_at m l at * x) (sym (pow-suc 256 n))))
    ∙ add_assoc (be_at m l at * 256 ^ suc n) (be_at n l (at + m) * 256) (get_or l (at + m + n) 0)

pub put_add : (m n v : ℕ) (l : List ℕ) (at : ℕ) → put_be (m + n) v l at ≡ put_be n v (put_be m (v / 256 ^ n) l at) (at + m)
unfolding put_be
put_add m zero v l at = ap (λ (k : ℕ). put_be k v l at) (add-zero m) ∙ ap (λ (x : ℕ). put_be m x l at) (sym (div-one v))
put_add m (suc n) v l at =
    ap (λ (k : ℕ). put_be k v l at) (add-suc m n)
    ∙ ap (λ (x : List ℕ). set x (at + (m + n)) (v % 256)) (put_add m n (v / 256) l at)
    ∙ ap (λ (x : ℕ). set (put_be n (v / 256) (put_be m x l at) (at + m)) (at + (m + n)) (v % 256)) (div-div-eq-div-mul v 256 (256 ^ n) ∙ ap (λ (x : ℕ). v / x) (sym (pow-succ' 256 n)))
    ∙ ap (λ (k : ℕ). set (put_be n (v / 256) (put_be m (v / 256 ^ suc n) l at) (at + m)) k (v % 256)) (sym (add_assoc at m n))

-- only the n low bytes are written
pub put_mod : (n v : ℕ) (l : List ℕ) (at : ℕ) → put_be n (v % 256 ^ n) l at ≡ put_be n v l at
unfolding put_be
put_mod zero v l at = refl
put_mod (suc n) v l at =
    let e : v % 256 ^ suc n ≡ (v / 256 % 256 ^ n) * 256 + v % 256 = ap (λ (x : ℕ). v % x) (pow-suc 256 n) ∙ mod-mul v (pow_pos256 n) (zero-lt-suc 255) in
    let b : v % 256 < 256 = mod-lt v (zero-lt-suc 255) in
    ap (λ (x : ℕ). set (put_be n (x / 256) l at) (at + n) (x % 256)) e
    ∙ ap (λ (x : ℕ). set (put_be n x l at) (at + n) (((v / 256 % 256 ^ n) * 256 + v % 256) % 256)) (digits_div (v / 256 % 256 ^ n) b)
    ∙ ap (λ (x : ℕ). set (put_be n (v / 256 % 256 ^ n) l at) (at + n) x) (digits_mod (v / 256 % 256 ^ n) b)
    ∙ ap (λ (x : List ℕ). set x (at + n) (v % 256)) (put_mod n (v / 256) l at)

-- ---- there and back
pub put_length : (n v : ℕ) (l : List ℕ) (at : ℕ) → length (put_be n v l at) ≡ length l
unfolding put_be
put_length zero v l at = refl
put_length (suc n) v l at = length-set (put_be n (v / 256) l at) (at + n) (v % 256) ∙ put_length n (v / 256) l at

-- a byte past the number does not count
pub be_set : (n : ℕ) (l : List ℕ) (at j x : ℕ) → at + n ≤ j → be_at n (set l j x) at ≡ be_at n l at
unfolding be_at
be_set zero l at j x h = refl
be_set (suc n) l at j x h =
    let k : at + n < j = omega arith in
    ap (λ (y : ℕ). y * 256 + get_or (set l j x) (at + n) 0) (be_set n l at j x (omega arith))
    ∙ ap (λ (y : ℕ). be_at n l at * 256 + y) (get_or-set_other l j (at + n) x 0 (ne_of_lt k))

pub read_put : (n v : ℕ) (l : List ℕ) (at : ℕ) → at + n ≤ length l → v < 256 ^ n → be_at n (put_be n v l at) at ≡ v
unfolding be_at put_be
read_put zero v l at h b = omega arith
read_put (suc n) v l at h b =
    let p = put_be n (v / 256) l at in
    let w : v / 256 < 256 ^ n = (div-lt_iff_lt-mul (zero-lt-suc 255)).1 (subst (λ (x : ℕ). v < x) (pow-suc 256 n) b) in
    let i : at + n < length p = subst (λ (x : ℕ). at + n < x) (sym (put_length n (v / 256) l at)) (omega arith) in
    ap (λ (y : ℕ). y * 256 + get_or (set p (at + n) (v % 256)) (at + n) 0) (be_set n p at (at + n) (v % 256) (omega arith) ∙ read_put n (v / 256) l at (omega arith) w)
    ∙ ap (λ (y : ℕ). v / 256 * 256 + y) (get_or-set_same p (at + n) (v % 256) 0 i)
    ∙ div-add-mod' v 256

pub put_read : (n : ℕ) (l : List ℕ) (at : ℕ) → ((i : ℕ) → get_or l i 0 < 256) → put_be n (be_at n l at) l at ≡ l
unfolding be_at put_be
put_read zero l at h = refl
put_read (suc n) l at h =
    let b = h (at + n) in
    ap (λ (x : ℕ). set (put_be n x l at) (at + n) ((be_at n l at * 256 + get_or l (at + n) 0) % 256)) (digits_div (be_at n l at) b)
    ∙ ap (λ (x : ℕ). set (put_be n (be_at n l at) l at) (at + n) x) (digits_mod (be_at n l at) b)
    ∙ ap (λ (x : List ℕ). set x (at + n) (get_or l (at + n) 0)) (put_read n l at h)
    ∙ set-get_or l (at + n) 0

-- n bytes are a number below 256 ^ n
pub be_lt : (n : ℕ) (l : List ℕ) (at : ℕ) → ((i : ℕ) → get_or l i 0 < 256) → be_at n l at < 256 ^ n
unfolding be_at
be_lt zero l at h = zero-lt-suc 0
be_lt (suc n) l at h = subst (λ (x : ℕ). be_at n l at * 256 + get_or l (at + n) 0 < x) (sym (pow-suc 256 n)) (omega (arith, be_lt n l at h, h (at + n)))

-- ---- signed numbers, at every width
pub coded_lt : {w : Width} {z : ℤ} → SFits w z → coded w z < 2 ^ bits w
unfolding coded
coded_lt {w} {z} f = (of_z_fits w z f).fits

pub signed_coded : (w : Width) (z : ℤ) → SFits w z → signed w (coded w z) ≡ z
unfolding signed coded
signed_coded w z f = to_z-of_z w z f

pub coded_signed : (w : Width) {n : ℕ} → n < 2 ^ bits w → coded w (signed w n) ≡ n
unfolding signed coded
coded_signed w {n} h = of_z-to_z w n (record { fits = h })

pub signed_fits : (w : Width) {n : ℕ} → n < 2 ^ bits w → SFits w (signed w n)
unfolding signed
signed_fits w {n} h = to_z-Fits w n (record { fits = h })

-- ---- the same bytes
pub same_yes : (a b : List ℕ) → same_bytes a b ≡ true → a ≡ b
unfolding same_bytes
same_yes [] [] h = refl
same_yes [] (y ∷ ys) h = absurd (true≢false (sym h))
same_yes (x ∷ xs) [] h = absurd (true≢false (sym h))
same_yes (x ∷ xs) (y ∷ ys) h = go (eqb x y) refl h (same_yes xs ys)
  where
    go : (t : Bool) → eqb x y ≡ t → t && same_bytes xs ys ≡ true → (same_bytes xs ys ≡ true → xs ≡ ys) → x ∷ xs ≡ y ∷ ys
    go true e k f = (λ i. eqb-true x y e i ∷ f k i)
    go false e k f = absurd (true≢false (sym k))

pub same_self : (a : List ℕ) → same_bytes a a ≡ true
unfolding same_bytes
same_self [] = refl
same_self (x ∷ xs) = ap (λ (t : Bool). t && same_bytes xs xs) (eq-eqb x x refl) ∙ same_self xs

-- ---- zeros behind the bytes change nothing that is read
pub pad_get : (l : List ℕ) (n i : ℕ) → get_or (l ++ replicate n 0) i 0 ≡ get_or l i 0
pad_get [] zero i = refl
pad_get [] (suc n) zero = refl
pad_get [] (suc n) (suc i) = pad_get [] n i
pad_get (x ∷ l) n zero = refl
pad_get (x ∷ l) n (suc i) = pad_get l n i
