-- The answer of a tick in 64 bytes: docs/IMAGES.md, 'The answer'. One row an output; every byte has one.
use Rattle.std.specs.Prelude.{ℕ, List, [], ◌∷◌, ◌++◌, Bool, true, false, cond, ltb, Float, Option, None, Some}
use Rattle.std.specs.Float.{binary64}
use Rattle.std.specs.Float.Ieee.{to_bits, ne}
use Rattle.std.specs.Int.{w32, w64}
use Rattle.places.specs.Places.{Place, row, put_all, coded, flag_tag}
use Rattle.types.specs.declared.analog.Analog.{Analog}
use Rattle.types.specs.declared.analog.Analog.TheVariants as analog
use Rattle.types.specs.declared.daybook.Book.{Book}
use Rattle.types.specs.declared.stages.Gates.{Gates}
use Rattle.types.specs.declared.machine.Reading.{Reading}
use Rattle.types.specs.declared.machine.Answer.{Answer}
use Rattle.outline.specs.DayBook.{open_book}
use Rattle.outline.specs.Numbers.{stage_number, error_number, judgement_number, analog_number}

-- the bytes of an answer
abbrev pub answer_length : ℕ
answer_length = 64

-- ---- the call's answer and the weights: number, good, overload, stable
abbrev pub weight_rows : List Place
weight_rows = row 0 1 ∷ row 1 1 ∷ row 2 1 ∷ row 3 1 ∷ []

abbrev pub weight_numbers : ℕ → Reading → List ℕ
weight_numbers n x = n ∷ flag_tag x.good ∷ flag_tag x.overload ∷ flag_tag x.stable ∷ []

-- ---- the stage and the gates: large, medium, small, discharge
abbrev pub gate_rows : List Place
gate_rows = row 4 1 ∷ row 5 1 ∷ row 6 1 ∷ row 7 1 ∷ row 8 1 ∷ []

abbrev pub gate_numbers : ℕ → Gates → List ℕ
gate_numbers stage g = stage ∷ flag_tag g.large ∷ flag_tag g.medium ∷ flag_tag g.small ∷ flag_tag g.discharge ∷ []

-- ---- judgement, error, near zero, full
abbrev pub signal_rows : List Place
signal_rows = row 9 1 ∷ row 10 1 ∷ row 11 1 ∷ row 12 1 ∷ []

abbrev pub signal_numbers : Answer → List ℕ
signal_numbers a = judgement_number a.judgement ∷ error_number a.error ∷ flag_tag a.near ∷ flag_tag a.full ∷ []

-- ---- what else there is: an analog value, a closed day, a reply of so many bytes
-- no reply has as many as 256
unfoldable pub length_byte : ℕ → ℕ
length_byte n = cond (ltb n 256) n 255

unfoldable pub closed_flag : Option Book → Bool
closed_flag None = false
closed_flag (Some b) = true

abbrev pub part_rows : List Place
part_rows = row 13 1 ∷ row 14 1 ∷ row 15 1 ∷ []

abbrev pub part_numbers : ℕ → Answer → List ℕ
part_numbers length a = analog_number a.analog ∷ flag_tag (closed_flag a.closed) ∷ length_byte length ∷ []

-- ---- gross and net
abbrev pub gross_rows : List Place
gross_rows = row 16 4 ∷ row 20 4 ∷ []

abbrev pub gross_numbers : Reading → List ℕ
gross_numbers x = coded w32 x.gross ∷ coded w32 x.net ∷ []

-- ---- the closed day: opening, closing, refilled, used, unbooked; 0 where there is none
unfoldable pub closed_book : Option Book → Book
closed_book None = open_book
closed_book (Some b) = b

abbrev pub day_rows : List Place
day_rows = row 24 4 ∷ row 28 4 ∷ row 32 8 ∷ row 40 8 ∷ row 48 8 ∷ []

abbrev pub day_numbers : Book → List ℕ
day_numbers b = coded w32 b.opening ∷ coded w32 b.last ∷ coded w64 b.refilled ∷ coded w64 b.used ∷ coded w64 b.unbooked ∷ []

-- ---- the analog value, as the bits of a double; 0 for a NaN, which alone is not equal to itself
unfoldable pub float_bits : Float → ℕ
float_bits x = cond (ne x x) 0 (to_bits binary64 x)

unfoldable pub analog_bits : Option Analog → ℕ
analog_bits None = 0
analog_bits (Some (analog.Current mA)) = float_bits mA
analog_bits (Some (analog.Voltage volts)) = float_bits volts

abbrev pub value_rows : List Place
value_rows = row 56 8 ∷ []

abbrev pub value_numbers : Answer → List ℕ
value_numbers a = analog_bits a.analog ∷ []

-- ---- the whole
abbrev pub answer_rows : List Place
answer_rows = weight_rows ++ gate_rows ++ signal_rows ++ part_rows ++ gross_rows ++ day_rows ++ value_rows

-- n: what the call answers; length: the reply's
abbrev pub answer_numbers : ℕ → ℕ → Answer → List ℕ
answer_numbers n length a =
    weight_numbers n a.reading ++ gate_numbers (stage_number a.stage) a.gates ++ signal_numbers a ++ part_numbers length a
    ++ gross_numbers a.reading ++ day_numbers (closed_book a.closed) ++ value_numbers a

-- bytes past the 64th stay
unfoldable pub answer_buffer : ℕ → ℕ → Answer → List ℕ → List ℕ
answer_buffer n length a buffer = put_all answer_rows (answer_numbers n length a) buffer
