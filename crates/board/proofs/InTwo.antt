-- An answer that is put in two, the closed day first and all the rest later, is the answer. Assumes nothing.
use Rattle.std.specs.Prelude.{Option, ℕ}
use Prim.Native.Nat.{ℕ}
use mathlib.Core.Path.{◌≡◌, refl, ap, ◌∙◌}
use mathlib.Core.List.{List, [], ◌∷◌, ◌++◌}
use Rattle.places.specs.Places.{Place, row, put_all, flag_tag}
use Rattle.places.proofs.Anew.{all_past, over_all}
use Rattle.types.specs.declared.daybook.Book.{Book}
use Rattle.types.specs.declared.machine.Answer.{Answer}
use Rattle.outline.specs.Numbers.{stage_number, analog_number}
use Rattle.board.specs.AnswerImage.{answer_length, weight_rows, weight_numbers, gate_rows, gate_numbers, signal_rows, signal_numbers, length_byte, closed_flag, gross_rows, gross_numbers, closed_book, day_rows, day_numbers, value_rows, value_numbers, answer_buffer}
use Rattle.board.specs.InPlace.{closed_rows, closed_numbers, closed_put, outputs_put}

-- the answer with another closed day
abbrev pub with_closed : Answer → Option Book → Answer
with_closed a c = record {
  outcome = a.outcome;
  reading = a.reading;
  stage = a.stage;
  gates = a.gates;
  judgement = a.judgement;
  error = a.error;
  near = a.near;
  full = a.full;
  analog = a.analog;
  closed = c;
}

-- the rows before the flag of a closed day, and those between it and the day
abbrev first_rows : List Place
first_rows = weight_rows ++ gate_rows ++ signal_rows ++ (row 13 1 ∷ [])

abbrev second_rows : List Place
second_rows = row 15 1 ∷ gross_rows

module _ (n length : ℕ) (a : Answer) (c : Option Book) (l : List ℕ) where
  abbrev first : List ℕ
  first = weight_numbers n a.reading ++ gate_numbers (stage_number a.stage) a.gates ++ signal_numbers a ++ (analog_number a.analog ∷ [])

  abbrev second : List ℕ
  second = length_byte length ∷ gross_numbers a.reading

  abbrev day : List ℕ
  day = day_numbers (closed_book c)

  pub in_two : outputs_put n length a (closed_put c l) ≡ answer_buffer n length (with_closed a c) l
  unfolding outputs_put closed_put answer_buffer put_all
  in_two =
      ap (put_all value_rows (value_numbers a)) (all_past answer_length (first_rows ++ second_rows) day_rows (first ++ second) day (put_all (row 14 1 ∷ []) (flag_tag (closed_flag c) ∷ []) l) 0 tt)
      ∙ ap (λ (t : List ℕ). put_all value_rows (value_numbers a) (put_all day_rows day (put_all second_rows second t))) (all_past answer_length first_rows (row 14 1 ∷ []) first (flag_tag (closed_flag c) ∷ []) l 0 tt)

-- a closed day over none
pub over_none : (b c : Option Book) (l : List ℕ) → closed_put c (closed_put b l) ≡ closed_put c l
unfolding closed_put
over_none b c l = over_all answer_length closed_rows (closed_numbers c) (closed_numbers b) l 0 tt refl refl
