-- The ticket program, worked by hand: which lines can be read and which can't, the lines of an input, the text of a ticket. Statements;
-- they are computed in proofs/LogFigures.antt.
use Rattle.std.specs.Prelude.{ℕ, ◌≡◌, Bool, true, false, List, [], ◌∷◌, ◌++◌, replicate, pos, None, Option, Some}
use Prim.Native.String.{String}
use Rattle.types.specs.declared.requests.Request.TheVariants as request
use Rattle.types.specs.declared.machine.Ticked.{Ticked}
use Rattle.types.specs.declared.log.LogLine.{LogLine}
use Rattle.types.specs.declared.log.Line.{Line}
use Rattle.outline.specs.Limits.{line_number_limit}
use Rattle.outline.specs.Figures.{minus, settings_a, tick_at, before_close, last_of_falls, one_batch}
use Rattle.outline.specs.Log.{tick_line, unreadable, log_line_of, is_none, line_at, line_behind, number_behind, next_line, kept_in}
use Rattle.outline.specs.Ticket.{decimal_text, left_text, ticket_text, refused_text}
use Rattle.outline.specs.Worked.{ascii}

pub record Logs : Type 0 where
  -- the outline's own lines
  pub first : log_line_of (ascii "0 0 --") ≡ tick_line (pos 0) false 4
  pub minus : log_line_of (ascii "-30 0 --") ≡ tick_line (minus 30) false 6
  pub closed : log_line_of (ascii "100 1 --") ≡ tick_line (pos 100) true 6
  pub close : log_line_of (ascii "60 0 DC") ≡ tick_line (pos 60) false 5
  -- what else can be read
  pub minus_zero_lem : log_line_of (ascii "-0 0 --") ≡ tick_line (pos 0) false 5
  pub zeros : log_line_of (ascii "007 1 RW") ≡ tick_line (pos 7) true 6
  pub nine_digits : log_line_of (ascii "999999999 0 --") ≡ tick_line (pos 999999999) false 12
  pub two_spaces_behind : log_line_of (ascii "0 0  X") ≡ tick_line (pos 0) false 4
  pub request_100 : log_line_of (ascii "0 0 " ++ replicate 100 65) ≡ tick_line (pos 0) false 4
  -- what can't
  pub empty : log_line_of [] ≡ unreadable
  pub no_request : log_line_of (ascii "0 0") ≡ unreadable
  pub no_byte : log_line_of (ascii "0 0 ") ≡ unreadable
  pub leading_space : log_line_of (ascii " 0 0 --") ≡ unreadable
  pub two_spaces : log_line_of (ascii "0  0 --") ≡ unreadable
  pub plus : log_line_of (ascii "+5 0 --") ≡ unreadable
  pub sign_alone : log_line_of (ascii "- 0 --") ≡ unreadable
  pub ten_digits : log_line_of (ascii "1000000000 0 --") ≡ unreadable
  pub contact_2 : log_line_of (ascii "0 2 --") ≡ unreadable
  pub request_101 : log_line_of (ascii "0 0 " ++ replicate 101 65) ≡ unreadable
  -- none, and what is a command
  pub none : is_none (ascii "--") ≡ true
  pub three_minuses : is_none (ascii "---") ≡ false
  pub minuses_cr : is_none (ascii "--" ++ (13 ∷ [])) ≡ false
  pub one_minus : is_none (ascii "-") ≡ false

-- ---- an input in a buffer
-- a line with its LF, as it is read and as it is printed
abbrev pub printed : String → List ℕ
printed s = ascii s ++ (10 ∷ [])

-- the outline's input, of 32 bytes, without a last LF; two bytes behind it are not held
abbrev pub input : List ℕ
input = printed "0 0 --" ++ printed "-30 0 --" ++ printed "100 1 --" ++ ascii "60 0 DC" ++ (10 ∷ 10 ∷ [])

-- the line of this number among the first `all` bytes
abbrev pub line_in : ℕ → ℕ → ℕ → ℕ → Bool → Bool → Option LogLine → Line
line_in number all from end here whole said =
    record { from = from; end = end; all = all; number = number; here = here; whole = whole; said = said }

abbrev pub line1 : Line
line1 = line_in 1 32 0 6 true true (tick_line (pos 0) false 4)

abbrev pub line2 : Line
line2 = line_in 2 32 7 15 true true (tick_line (minus 30) false 6)

abbrev pub line3 : Line
line3 = line_in 3 32 16 24 true true (tick_line (pos 100) true 6)

-- "a last one without it counts"
abbrev pub line4 : Line
line4 = line_in 4 32 25 32 true false (tick_line (pos 60) false 5)

pub record Inputs : Type 0 where
  pub at_1 : line_at input 0 32 1 ≡ line1
  pub behind_1 : line_behind input line1 ≡ line2
  pub behind_2 : line_behind input line2 ≡ line3
  pub behind_3 : line_behind input line3 ≡ line4
  pub behind_4 : line_behind input line4 ≡ line_in 5 32 32 32 false false unreadable
  -- its LF begins no further line, and an empty line is one
  pub last_lf : line_behind input (line_in 4 33 25 32 true true unreadable) ≡ line_in 5 33 33 33 false false unreadable
  pub empty_line : line_behind input (line_in 4 34 25 32 true true unreadable) ≡ line_in 5 34 33 33 true true unreadable
  -- a line that is held in part says what that part says
  pub part_held : line_at input 7 10 2 ≡ line_in 2 10 7 10 true false unreadable
  -- one that is read on stands at the start of the buffer then
  pub read-on :
      next_line input (printed "-30 0 --") 9 (line_in 1 10 0 6 true true (tick_line (pos 0) false 4))
      ≡ line_in 2 9 0 8 true true (tick_line (minus 30) false 6)
  pub last_number_lem : number_behind line_number_limit ≡ line_number_limit
  pub kept : kept_in (ascii "abcdefgh") 3 6 ≡ ascii "defdefgh"
  pub kept_none : kept_in (ascii "abcdefgh") 6 6 ≡ ascii "abcdefgh"

-- ---- what is printed
abbrev pub ticket_after : Ticked → List ℕ
ticket_after t = ticket_text t.answer.closed t.state.weighing t.state.totals

pub record Tickets : Type 0 where
  -- "prints, whole", with A2: "refilled=90, used=30, the rest as printed"
  pub worked :
      ticket_after (tick_at settings_a before_close (pos 60) (Some request.DayClose))
      ≡ printed "opening=0" ++ printed "refilled=90" ++ printed "used=30" ++ printed "unbooked=0" ++ printed "closing=60"
      ++ printed "tracked=0" ++ printed "batches=0" ++ printed "total=0"
  -- below zero: the five falls closed, and the day of one batch, which rises with the contact open
  pub falls :
      ticket_after (tick_at settings_a last_of_falls.state (minus 25) (Some request.DayClose))
      ≡ printed "opening=0" ++ printed "refilled=0" ++ printed "used=25" ++ printed "unbooked=0" ++ printed "closing=-25"
      ++ printed "tracked=-20" ++ printed "batches=0" ++ printed "total=0"
  pub one_batch_lem :
      ticket_after (tick_at settings_a one_batch (pos 100) (Some request.DayClose))
      ≡ printed "opening=0" ++ printed "refilled=0" ++ printed "used=-100" ++ printed "unbooked=0" ++ printed "closing=100"
      ++ printed "tracked=0" ++ printed "batches=1" ++ printed "total=10"
  -- a close that is refused, here in a bad tick
  pub none : ticket_after (tick_at settings_a before_close (pos 2000001) (Some request.DayClose)) ≡ []
  -- tracked, and not the zero, of which a keyed one is a part
  pub left :
      left_text (record { zero = pos 7; tracked = minus 3; tare = pos 5; counter = 2 })
      (record { total = 12; count = 2; back = None })
      ≡ printed "tracked=-3" ++ printed "batches=2" ++ printed "total=12"
  pub refused : refused_text 12 ≡ printed "refused=12"
  -- numbers
  pub nought : decimal_text 0 ≡ ascii "0"
  pub nine : decimal_text 9 ≡ ascii "9"
  pub ten : decimal_text 10 ≡ ascii "10"
  pub noughts : decimal_text 1000500 ≡ ascii "1000500"
  pub greatest : decimal_text 18446744073709551615 ≡ ascii "18446744073709551615"
