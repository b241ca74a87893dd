-- The settings image: 128 bytes, as docs/IMAGES.md has them. The numbers of the table as they are given, each an i32, in the order of
-- replay's settings line; a byte that no row has is 0.
use Rattle.std.specs.Prelude.{ℕ, List, [], ◌∷◌, ◌++◌, cond, eqb, length, get_or, replicate}
use Rattle.std.specs.Int.{w32}
use Rattle.places.specs.Places.{Place, row, get_all, put_all, signed, coded, same_bytes}
use Rattle.types.specs.declared.settings.Given.{Given}

-- the bytes of a settings image
abbrev pub given_length : ℕ
given_length = 128

-- Z, S, C, W, d and p
abbrev pub count_rows : List Place
count_rows = row 0 4 ∷ row 4 4 ∷ row 8 4 ∷ row 12 4 ∷ row 16 4 ∷ row 20 4 ∷ []

abbrev pub count_numbers : Given → List ℕ
count_numbers g =
    coded w32 g.zero ∷ coded w32 g.span ∷ coded w32 g.capacity ∷ coded w32 g.weight ∷ coded w32 g.division
    ∷ coded w32 g.zeroing ∷ []

-- tracking, stability and the mode
abbrev pub rule_rows : List Place
rule_rows = row 24 4 ∷ row 28 4 ∷ row 32 4 ∷ row 36 4 ∷ row 40 4 ∷ row 44 4 ∷ []

abbrev pub rule_numbers : Given → List ℕ
rule_numbers g =
    coded w32 g.tracktime ∷ coded w32 g.trackwidth ∷ coded w32 g.allowance ∷ coded w32 g.stabletime ∷ coded w32 g.stablewidth
    ∷ coded w32 g.mode ∷ []

-- the five delays and Q
abbrev pub delay_rows : List Place
delay_rows = row 48 4 ∷ row 52 4 ∷ row 56 4 ∷ row 60 4 ∷ row 64 4 ∷ row 68 4 ∷ []

abbrev pub delay_numbers : Given → List ℕ
delay_numbers g =
    coded w32 g.start ∷ coded w32 g.large ∷ coded w32 g.medium ∷ coded w32 g.small ∷ coded w32 g.judge
    ∷ coded w32 g.flow ∷ []

-- the address, the analog board and the discharge
abbrev pub end_rows : List Place
end_rows = row 72 4 ∷ row 76 4 ∷ row 80 4 ∷ row 84 4 ∷ row 88 4 ∷ row 92 4 ∷ row 96 4 ∷ []

abbrev pub end_numbers : Given → List ℕ
end_numbers g =
    coded w32 g.address ∷ coded w32 g.board ∷ coded w32 g.low ∷ coded w32 g.high ∷ coded w32 g.dischargestart
    ∷ coded w32 g.dischargeend ∷ coded w32 g.dischargelimit ∷ []

abbrev pub given_rows : List Place
given_rows = count_rows ++ rule_rows ++ delay_rows ++ end_rows

abbrev pub given_numbers : Given → List ℕ
given_numbers g = count_numbers g ++ rule_numbers g ++ delay_numbers g ++ end_numbers g

abbrev pub given_of : List ℕ → Given
given_of ns = record {
  zero = signed w32 (get_or ns 0 0);
  span = signed w32 (get_or ns 1 0);
  capacity = signed w32 (get_or ns 2 0);
  weight = signed w32 (get_or ns 3 0);
  division = signed w32 (get_or ns 4 0);
  zeroing = signed w32 (get_or ns 5 0);
  tracktime = signed w32 (get_or ns 6 0);
  trackwidth = signed w32 (get_or ns 7 0);
  allowance = signed w32 (get_or ns 8 0);
  stabletime = signed w32 (get_or ns 9 0);
  stablewidth = signed w32 (get_or ns 10 0);
  mode = signed w32 (get_or ns 11 0);
  start = signed w32 (get_or ns 12 0);
  large = signed w32 (get_or ns 13 0);
  medium = signed w32 (get_or ns 14 0);
  small = signed w32 (get_or ns 15 0);
  judge = signed w32 (get_or ns 16 0);
  flow = signed w32 (get_or ns 17 0);
  address = signed w32 (get_or ns 18 0);
  board = signed w32 (get_or ns 19 0);
  low = signed w32 (get_or ns 20 0);
  high = signed w32 (get_or ns 21 0);
  dischargestart = signed w32 (get_or ns 22 0);
  dischargeend = signed w32 (get_or ns 23 0);
  dischargelimit = signed w32 (get_or ns 24 0);
}

unfoldable pub put_given : Given → List ℕ → List ℕ
put_given g l = put_all given_rows (given_numbers g) l

unfoldable pub given_image : Given → List ℕ
given_image g = put_given g (replicate given_length 0)

-- what stands at the places of any bytes
unfoldable pub given_at : List ℕ → Given
given_at l = given_of (get_all given_rows l)

-- "20 wrong image length, then 21 impossible field": here 21 is an unused byte that is not 0. The settings written again must give the same
-- bytes.
unfoldable pub given_refusal : List ℕ → Given → ℕ
given_refusal l g = cond (eqb (length l) given_length) (cond (same_bytes (given_image g) l) 0 21) 20

pub record GivenRead : Type 0 where
  pub refusal : ℕ
  pub given : Given

-- the refusal, or 0, and the settings; where it is refused they are only what stands at the places
unfoldable pub given_in : List ℕ → GivenRead
given_in l = record { refusal = given_refusal l (given_at l); given = given_at l }
