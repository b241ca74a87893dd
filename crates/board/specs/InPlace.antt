-- What the steps of a tick in the buffer of its state hand on from one to the next: what the request that is done tells, and the weights;
-- step 4, done in two: the requests of the batch, and those beside them; and the answer, which they put in two. No promise of a C call
-- names these.
use Rattle.std.specs.Prelude.{ℕ, Bool, cond, List, [], ◌∷◌, ◌++◌, Option, None, Some, ℤ}
use Rattle.places.specs.Places.{Place, row, put_all, flag_tag}
use Rattle.types.specs.declared.daybook.Book.{Book}
use Rattle.types.specs.declared.machine.Answer.{Answer}
use Rattle.types.specs.declared.machine.State.{State}
use Rattle.outline.specs.Stages.{start_sequence, discharge_sequence}
use Rattle.outline.specs.Parts.{with_sequence}
use Rattle.outline.specs.Requests.{stopped_of, stored_of}
use Rattle.outline.specs.Kinds.{request_kind}
use Rattle.outline.specs.Numbers.{stage_number, analog_number}
use Rattle.board.specs.AnswerImage.{weight_rows, weight_numbers, gate_rows, gate_numbers, signal_rows, signal_numbers, length_byte}
use Rattle.board.specs.AnswerImage.{closed_flag, gross_rows, gross_numbers, closed_book, day_rows, day_numbers, value_rows, value_numbers}
use Rattle.types.specs.declared.weight.Weights.{Weights}
use Rattle.types.specs.declared.requests.Request.{Request}
use Rattle.types.specs.declared.requests.Request.TheVariants as request

-- the raw that was weighed
unfoldable pub raw_in : Weights → Option ℤ
raw_in x = cond x.good (Some x.raw) None

-- step 6 is passed over
abbrev pub held_by : Option Request → Bool
held_by r = (request_kind r).skips

-- a zero was keyed
abbrev pub keyed_by : Option Request → Bool
keyed_by r = (request_kind r).zeroes

-- the request but for those of the batch, which turn the sequence or write setpoints, and what these make of the state
abbrev pub beside_batch : Option Request → Option Request
beside_batch None = None
beside_batch (Some request.Zero) = Some request.Zero
beside_batch (Some request.Tare) = Some request.Tare
beside_batch (Some request.TareClear) = Some request.TareClear
beside_batch (Some request.Start) = None
beside_batch (Some request.Stop) = None
beside_batch (Some (request.Set p)) = None
beside_batch (Some request.TotalClear) = Some request.TotalClear
beside_batch (Some request.Undo) = Some request.Undo
beside_batch (Some request.ShowGross) = Some request.ShowGross
beside_batch (Some request.ShowNet) = Some request.ShowNet
beside_batch (Some request.DayClose) = Some request.DayClose
beside_batch (Some request.Discharge) = None

abbrev pub batch_done : State → Option Request → State
batch_done st None = st
batch_done st (Some request.Zero) = st
batch_done st (Some request.Tare) = st
batch_done st (Some request.TareClear) = st
batch_done st (Some request.Start) = with_sequence st start_sequence
batch_done st (Some request.Stop) = stopped_of st
batch_done st (Some (request.Set p)) = stored_of st p
batch_done st (Some request.TotalClear) = st
batch_done st (Some request.Undo) = st
batch_done st (Some request.ShowGross) = st
batch_done st (Some request.ShowNet) = st
batch_done st (Some request.DayClose) = st
batch_done st (Some request.Discharge) = with_sequence st (discharge_sequence st.sequence)

-- ---- the answer in two: the closed day, put where step 4 closes it, and all the rest, put at the end
abbrev pub closed_rows : List Place
closed_rows = row 14 1 ∷ day_rows

abbrev pub closed_numbers : Option Book → List ℕ
closed_numbers c = flag_tag (closed_flag c) ∷ day_numbers (closed_book c)

unfoldable pub closed_put : Option Book → List ℕ → List ℕ
closed_put c buffer = put_all closed_rows (closed_numbers c) buffer

-- beside the closed day: the analog value's kind and the reply's length
abbrev pub beside_rows : List Place
beside_rows = row 13 1 ∷ row 15 1 ∷ []

abbrev pub beside_numbers : ℕ → Answer → List ℕ
beside_numbers length a = analog_number a.analog ∷ length_byte length ∷ []

abbrev pub output_rows : List Place
output_rows = weight_rows ++ gate_rows ++ signal_rows ++ beside_rows ++ gross_rows ++ value_rows

abbrev pub output_numbers : ℕ → ℕ → Answer → List ℕ
output_numbers n length a =
    weight_numbers n a.reading ++ gate_numbers (stage_number a.stage) a.gates ++ signal_numbers a ++ beside_numbers length a
    ++ gross_numbers a.reading ++ value_numbers a

unfoldable pub outputs_put : ℕ → ℕ → Answer → List ℕ → List ℕ
outputs_put n length a buffer = put_all output_rows (output_numbers n length a) buffer
