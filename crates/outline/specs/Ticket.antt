-- The outline's section "Figures on both sides", its last part: what the ticket program prints. A text is the list of its bytes.
use Rattle.std.specs.Prelude.{ℕ, zero, suc, ◌/◌, List, [], ◌∷◌, ◌++◌, Bool, false, cond, length, leb, ltb, ℤ, pos, nat_abs, Option, None}
use Rattle.std.specs.Prelude.{Some}
use Rattle.std.specs.Int.Signed.{lt_z}
use Rattle.types.specs.declared.daybook.Book.{Book}
use Rattle.types.specs.declared.weight.Weighing.{Weighing}
use Rattle.types.specs.declared.stages.Totals.{Totals}
use Rattle.outline.specs.Limits.{decimal_digits}
use Rattle.outline.specs.Lines.{units_digit}
use Rattle.outline.specs.Worked.{ascii}

-- ---- a number
-- n in decimal: the digits of its tenth, where it has one, and then its last; at most k of them
unfoldable pub decimal_in : ℕ → ℕ → List ℕ
decimal_in zero n = []
decimal_in (suc k) n = cond (ltb n 10) [] (decimal_in k (n / 10)) ++ (units_digit n ∷ [])

unfoldable pub decimal_text : ℕ → List ℕ
decimal_text n = decimal_in decimal_digits n

-- a minus, or none, and the digits
abbrev pub number_text : Bool → ℕ → List ℕ
number_text minus n = cond minus (45 ∷ []) [] ++ decimal_text n

-- ---- a line: its key, its number, LF
unfoldable pub pair_text : List ℕ → Bool → ℕ → List ℕ
pair_text key minus n = key ++ number_text minus n ++ (10 ∷ [])

abbrev pub signed_text : List ℕ → ℤ → List ℕ
signed_text key z = pair_text key (lt_z z (pos 0)) (nat_abs z)

abbrev pub count_text : List ℕ → ℕ → List ℕ
count_text key n = pair_text key false n

-- ---- a ticket
-- "opening=0 refilled=90 used=30 unbooked=0 closing=60", as A2 has it: the day that was closed, whose last raw is its closing
unfoldable pub day_text : Book → List ℕ
day_text day =
    signed_text (ascii "opening=") day.opening ++ signed_text (ascii "refilled=") day.refilled
    ++ signed_text (ascii "used=") day.used ++ signed_text (ascii "unbooked=") day.unbooked
    ++ signed_text (ascii "closing=") day.last

-- "tracked=0 batches=0 total=0": "tracked, batches and total are as the tick leaves them"
unfoldable pub left_text : Weighing → Totals → List ℕ
left_text w t =
    signed_text (ascii "tracked=") w.tracked ++ count_text (ascii "batches=") t.count ++ count_text (ascii "total=") t.total

-- "it prints a ticket at each accepted DC"
unfoldable pub ticket_text : Option Book → Weighing → Totals → List ℕ
ticket_text None w t = []
ticket_text (Some day) w t = day_text day ++ left_text w t

-- "ends at a line it can't read with `refused=` and the line's number"
unfoldable pub refused_text : ℕ → List ℕ
refused_text number = count_text (ascii "refused=") number

-- ---- a text in a buffer
-- how many bytes it takes there: none where it does not fit
unfoldable pub fitted_in : List ℕ → List ℕ → ℕ
fitted_in text buffer = cond (leb (length text) (length buffer)) (length text) 0
