-- Numbers at a place of a buffer: n bytes from `at`, the highest first. A byte past the end reads as 0, and is not written.
use Rattle.std.specs.Prelude.{ℕ, zero, suc, ◌+◌, ◌-◌, ◌*◌, ◌/◌, ◌%◌, ◌^◌, ◌<◌, List, [], ◌∷◌, Bool, true, false, cond, ◌&&◌, ◌||◌, eqb}
use Rattle.std.specs.Prelude.{ltb, leb, ℤ, get_or, set}
use Rattle.std.specs.Int.{Width}
use Rattle.std.proofs.Common.{to_z, of_z}

unfoldable pub be_at : ℕ → List ℕ → ℕ → ℕ
be_at zero l at = 0
be_at (suc n) l at = be_at n l at * 256 + get_or l (at + n) 0

unfoldable pub put_be : ℕ → ℕ → List ℕ → ℕ → List ℕ
put_be zero v l at = l
put_be (suc n) v l at = set (put_be n (v / 256) l at) (at + n) (v % 256)

-- the bits of a width as a signed number, two's complement, and back
unfoldable pub signed : Width → ℕ → ℤ
signed w n = to_z w n

unfoldable pub coded : Width → ℤ → ℕ
coded w z = of_z w z

-- a yes or no as a byte
unfoldable pub flag_of : ℕ → Bool
flag_of n = eqb n 1

unfoldable pub flag_tag : Bool → ℕ
flag_tag b = cond b 1 0

-- what a slice of bytes holds: each is below 256, and past the end it reads as 0
abbrev pub Bytes : List ℕ → Type 0
Bytes l = (i : ℕ) → get_or l i 0 < 256

-- the same bytes, and the same numbers
unfoldable pub same_bytes : List ℕ → List ℕ → Bool
same_bytes [] [] = true
same_bytes [] (y ∷ ys) = false
same_bytes (x ∷ xs) [] = false
same_bytes (x ∷ xs) (y ∷ ys) = eqb x y && same_bytes xs ys

-- ---- a layout: where each number of an image stands, and how many bytes it has
pub record Place : Type 0 where
  pub at : ℕ
  pub bytes : ℕ

abbrev pub row : ℕ → ℕ → Place
row a n = record { at = a; bytes = n }

unfoldable pub get_all : List Place → List ℕ → List ℕ
get_all [] l = []
get_all (p ∷ ps) l = be_at p.bytes l p.at ∷ get_all ps l

unfoldable pub put_all : List Place → List ℕ → List ℕ → List ℕ
put_all [] vs l = l
put_all (p ∷ ps) [] l = l
put_all (p ∷ ps) (v ∷ vs) l = put_all ps vs (put_be p.bytes v l p.at)

-- the places follow each other from `from` on, without overlap, and end within n bytes
abbrev pub tidy : ℕ → ℕ → List Place → Bool
tidy from n [] = leb from n
tidy from n (p ∷ ps) = leb from p.at && tidy (p.at + p.bytes) n ps

-- byte i stands in none of the places
abbrev pub unused : List Place → ℕ → Bool
unused [] i = true
unused (p ∷ ps) i = (ltb i p.at || leb (p.at + p.bytes) i) && unused ps i

-- none of the n bytes from `at` on is other than 0; past the end there is none
unfoldable pub zeros_at : ℕ → ℕ → List ℕ → Bool
zeros_at zero at l = true
zeros_at (suc n) at l = zeros_at n at l && eqb (get_or l (at + n) 0) 0

-- the bytes of a tidy layout that stand in none of its places: before each place, from the end of the one before, and behind the last
abbrev pub gaps : ℕ → ℕ → List Place → List Place
gaps from n [] = row from (n - from) ∷ []
gaps from n (p ∷ ps) = row from (p.at - from) ∷ gaps (p.at + p.bytes) n ps

abbrev pub zeros_in : List Place → List ℕ → Bool
zeros_in [] l = true
zeros_in (p ∷ ps) l = zeros_at p.bytes p.at l && zeros_in ps l

-- a number for each place, that fits it
abbrev pub Numbers : List Place → List ℕ → Type 0
Numbers [] [] = Unit {0}
Numbers [] (v ∷ vs) = ⊥
Numbers (p ∷ ps) [] = ⊥
Numbers (p ∷ ps) (v ∷ vs) = (v < 256 ^ p.bytes) × Numbers ps vs
