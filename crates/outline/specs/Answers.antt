-- The number that each call has to answer, worked out as a number from the outline's own tables and sentences. Numbers gives the number of
-- each case of an answer; the calls promise that the two are the same.
use Rattle.std.specs.Prelude.{ℕ, suc, Bool, true, false, cond, not, ◌&&◌, ◌||◌, List, [], ◌∷◌, leb, eqb, length, get_or, ℤ, Float, Option}
use Rattle.std.specs.Prelude.{None, Some, Result, Ok, Err}
use Rattle.types.specs.declared.stages.Setpoints.{Setpoints}
use Rattle.types.specs.declared.settings.Given.{Given}
use Rattle.types.specs.declared.settings.Mode.{Mode}
use Rattle.types.specs.declared.settings.Mode.TheVariants as mode
use Rattle.types.specs.declared.settings.Settings.{Settings}
use Rattle.types.specs.declared.analog.Board.{Board}
use Rattle.types.specs.declared.analog.Board.TheVariants as board
use Rattle.types.specs.declared.analog.Scale.{Scale}
use Rattle.types.specs.declared.weight.Weights.{Weights}
use Rattle.types.specs.declared.requests.Request.{Request}
use Rattle.types.specs.declared.requests.Request.TheVariants as request
use Rattle.types.specs.declared.lines.Order.{Order}
use Rattle.types.specs.declared.lines.LineFault.{LineFault}
use Rattle.types.specs.declared.lines.Order.TheVariants as order
use Rattle.types.specs.declared.lines.LineFault.TheVariants as fault
use Rattle.types.specs.declared.machine.State.{State}
use Rattle.types.specs.declared.machine.Input.{Input}
use Rattle.outline.specs.Limits.{block_limit, line_limit}
use Rattle.outline.specs.Settings.{settings_fit}
use Rattle.outline.specs.Weight.{raw_of}
use Rattle.outline.specs.Zero.{in_zero_range, in_tare_range}
use Rattle.outline.specs.Setpoints.{setpoints_fit}
use Rattle.outline.specs.Totals.{none_back}
use Rattle.outline.specs.Analog.{distance_of, current_of, voltage_of}
use Rattle.outline.specs.Tick.{entered_of, weights_of}
use Rattle.outline.specs.Numbers.{stage_number}
use Rattle.outline.specs.Kinds.{request_kind}
use Rattle.outline.specs.Lines.{is_cr_lf, line_of, is_prefixed, prefix_length, body_of}
use Rattle.outline.specs.Replies.{asked_of, due_text}

-- ---- an opening: "Any value outside its range gives answer 10"
abbrev pub opening_due : Given → ℕ
opening_due g = cond (settings_fit g) 0 10

-- ---- a block: "answers 0 and the state"; "A longer block is refused with 15"
abbrev pub block_due : List ℤ → ℕ
block_due counts = cond (leb (length counts) block_limit) 0 15

-- ---- a request: the table "No. | Given when | To"
-- the requests that the column "To" names, with a label each, which is no number of the paper's; the others are "never refused here"
abbrev pub zero : ℕ
zero = 1

abbrev pub tare : ℕ
tare = 2

abbrev pub tare_clear : ℕ
tare_clear = 3

abbrev pub start : ℕ
start = 4

abbrev pub setpoints : ℕ
setpoints = 5

abbrev pub undo : ℕ
undo = 6

abbrev pub day_close_lem : ℕ
day_close_lem = 7

abbrev pub discharge : ℕ
discharge = 8

abbrev pub name_of : Option Request → ℕ
name_of None = 0
name_of (Some request.Zero) = zero
name_of (Some request.Tare) = tare
name_of (Some request.TareClear) = tare_clear
name_of (Some request.Start) = start
name_of (Some request.Stop) = 0
name_of (Some (request.Set p)) = setpoints
name_of (Some request.TotalClear) = 0
name_of (Some request.Undo) = undo
name_of (Some request.ShowGross) = 0
name_of (Some request.ShowNet) = 0
name_of (Some request.DayClose) = day_close_lem
name_of (Some request.Discharge) = discharge

abbrev pub is_in : ℕ → List ℕ → Bool
is_in n [] = false
is_in n (m ∷ ms) = eqb n m || is_in n ms

-- row 5, "outside the rules above": those of zero, and of tare
abbrev pub is_outside : Settings → Weights → ℕ → Bool
is_outside s x name = cond (eqb name zero) (not (in_zero_range s.range x.raw)) (not (in_tare_range s.range x.divisions))

-- row 6, "setpoint rules broken"
abbrev pub is_broken : Settings → Option Setpoints → Bool
is_broken s None = false
is_broken s (Some p) = not (setpoints_fit s.batching.mode p)

-- A1, row 9: "in mode 2"
abbrev pub is_loss : Mode → Bool
is_loss mode.Normal = false
is_loss mode.Loss = true

-- a row: its number, whether it is given now, and its column "To"
pub record GivenWhen : Type 0 where
  pub number : ℕ
  pub given : Bool
  pub to : List ℕ

abbrev pub row : ℕ → Bool → List ℕ → GivenWhen
row n given to = record { number = n; given = given; to = to }

-- the table, row by row; A1: "BD takes 1, 2, 3 as start does, then 9 in mode 2."; A5: "setpoints no longer answer 3; 6 stands."; A6: "8,
-- contact closed, to zero only, tested after 3 and before 4"
abbrev pub table_of : Settings → State → Weights → Option Request → List GivenWhen
table_of s st x r =
    row 1 (not x.good) (zero ∷ tare ∷ start ∷ day_close_lem ∷ discharge ∷ [])
    ∷ row 2 x.overload (zero ∷ tare ∷ start ∷ discharge ∷ [])
    ∷ row 3 (not (eqb (stage_number st.sequence.stage) 0)) (zero ∷ tare ∷ tare_clear ∷ start ∷ discharge ∷ [])
    ∷ row 8 x.contact (zero ∷ [])
    ∷ row 4 (not x.stable) (zero ∷ tare ∷ [])
    ∷ row 5 (is_outside s x (name_of r)) (zero ∷ tare ∷ [])
    ∷ row 6 (is_broken s (request_kind r).writes) (setpoints ∷ [])
    ∷ row 7 (none_back st.totals.back) (undo ∷ [])
    ∷ row 9 (is_loss s.batching.mode) (discharge ∷ [])
    ∷ []

-- "0 is accepted or nothing asked. Otherwise the first that applies, in numerical order."; 8 comes between 3 and 4 (A6)
abbrev pub first_given : ℕ → List GivenWhen → ℕ
first_given name [] = 0
first_given name (l ∷ ls) = cond (is_in name l.to && l.given) l.number (first_given name ls)

-- of a request that a tick asks of the state and the weights that it finds
abbrev pub request_due : Settings → State → Weights → Option Request → ℕ
request_due s st x r = first_given (name_of r) (table_of s st x r)

-- of a tick: its request finds what steps 1 to 3 leave
unfoldable pub tick_due : Settings → State → Input → ℕ
tick_due s st i =
    let raw = raw_of s.calibration i.count in
    let entered = entered_of s st raw i.contact in
    request_due s entered (weights_of s entered raw i.contact) i.request

-- ---- a line
-- there is a CR LF, and so many bytes stand before the first
abbrev pub has_end : List ℕ → Bool
has_end [] = false
has_end (x ∷ s) = is_cr_lf x (get_or s 0 0) || has_end s

abbrev pub bytes_before : List ℕ → ℕ
bytes_before [] = 0
bytes_before (x ∷ s) = cond (is_cr_lf x (get_or s 0 0)) 0 (suc (bytes_before s))

-- "A second answer tells no line, a long line, an empty line and another apart.": 0, 1, 2, 3
unfoldable pub kind_due : List ℕ → ℕ
kind_due receive = cond (has_end receive) (cond (leb (bytes_before receive) line_limit) (cond (eqb (bytes_before receive) 0) 2 3) 1) 0

-- "A line is the bytes before the first CR LF, at most 64 of them"
abbrev pub has_line : List ℕ → Bool
has_line receive = has_end receive && leb (bytes_before receive) line_limit

-- what stands after the prefix: 11, 13, or what the tick of its command answers
abbrev pub body_due : Result Order LineFault → ℕ → ℕ
body_due (Ok (order.Do w)) n = n
body_due (Ok (order.Set p)) n = n
body_due (Err fault.NoLine) n = 11
body_due (Err fault.LongLine) n = 11
body_due (Err fault.OtherAddress) n = 12
body_due (Err fault.Malformed) n = 11
body_due (Err fault.Unknown) n = 13

-- "Refusals in order: 12 prefix missing or of another address; 11 ..; 13 unknown command; 14 reply buffer shorter than the reply due ..
-- It replaces a number whose NG does not fit. The tests for no line and for 64 bytes come before 12." Those two and 12 have an empty reply,
-- which always fits.
unfoldable pub line_due : Settings → State → ℤ → Bool → List ℕ → List ℕ → ℕ
line_due s st count contact receive buffer =
    cond (has_line receive)
    (cond (is_prefixed (line_of receive) s.address)
    (cond (leb (length (due_text s st count contact receive)) (length buffer))
    (body_due (body_of (line_of receive) (prefix_length s.address)) (tick_due s st (asked_of s count contact receive)))
    14)
    12)
    11

-- ---- an analog answer: none, a current, a voltage, and its value
abbrev pub board_number : Option Board → ℕ
board_number None = 0
board_number (Some board.Current) = 1
board_number (Some board.Voltage) = 2

abbrev pub values_on : Option Board → Float → Float → List Float
values_on None x d = []
values_on (Some board.Current) x d = current_of x d ∷ []
values_on (Some board.Voltage) x d = voltage_of x d ∷ []

-- "no value in a bad or overloaded tick or without a board"
unfoldable pub analog_due : Option Board → Bool → ℕ
analog_due b fit = cond fit (board_number b) 0

unfoldable pub analog_values_due : Option Board → Scale → ℤ → Bool → List Float
analog_values_due b scale displayed fit = cond fit (values_on b (distance_of scale displayed) scale.span) []
