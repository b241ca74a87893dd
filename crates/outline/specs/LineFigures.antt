-- Worked by hand from the outline, section "Serial lines": which bytes are the line, of which kind it is, what it is told and replied; and
-- the requests of a log's lines. Statements; they are computed in proofs/LineFigures.antt.
use Rattle.std.specs.Prelude.{ℕ, ◌≡◌, true, false, List, [], ◌∷◌, ◌++◌, replicate, set, take, ℤ, pos}
use Rattle.types.specs.declared.settings.Settings.{Settings}
use Rattle.types.specs.declared.stages.Setpoints.{Setpoints}
use Rattle.types.specs.declared.machine.State.{State}
use Rattle.types.specs.declared.lines.LineKind.TheVariants as kind
use Rattle.types.specs.declared.lines.LineTick.{LineTick}
use Rattle.outline.specs.Settings.{settings_of}
use Rattle.outline.specs.Tick.{open_state}
use Rattle.outline.specs.Lines.{line_of, kind_of}
use Rattle.outline.specs.Log.{unreadable, log_line_of, is_none, received_of, request_tick, request_buffer}
use Rattle.outline.specs.Numbers.{kind_number, told_number, closed_values}
use Rattle.outline.specs.Figures.{minus, given_of, list_a, settings_a, setpoints}
use Rattle.outline.specs.Worked.{ascii, line, room, ask, reply, settings7}

-- ---- the line
abbrev pub cr : List ℕ
cr = 13 ∷ []

-- so many X, then CR LF
abbrev pub xs : ℕ → List ℕ
xs n = replicate n 88 ++ line ""

-- what a line is told, then its reply: the bytes that it takes of a buffer of 64
abbrev pub heard : Settings → State → ℤ → List ℕ → List ℕ
heard s st count receive =
    let tick = ask s st count receive 64 in
    told_number tick.told ∷ take tick.length (reply s st count receive 64)

-- the same in the first tick, at count 0
abbrev pub first : Settings → List ℕ → List ℕ
first s receive = heard s open_state (pos 0) receive

-- RW's reply in that tick: not stable, gross, plus for 0
abbrev pub weightless : List ℕ
weightless = line "US,GS,+0000000kg"

pub record Received : Type 0 where
  -- "the bytes before the first CR LF": a CR without LF is one of them
  pub cr_within : line_of (ascii "RW" ++ cr ++ line "X") ≡ ascii "RW" ++ cr ++ ascii "X"
  pub cr_within_told : first settings_a (ascii "RW" ++ cr ++ line "X") ≡ 11 ∷ line "NG11"
  pub cr_twice : line_of (ascii "RW" ++ cr ++ line "") ≡ ascii "RW" ++ cr
  pub cr_twice_told : first settings_a (ascii "RW" ++ cr ++ line "") ≡ 11 ∷ line "NG11"
  pub cr_cr : first settings_a (ascii "RW" ++ cr ++ cr) ≡ 11 ∷ []
  -- what stands behind it is no part of it
  pub two_lines : line_of (line "RW" ++ line "MZ") ≡ ascii "RW"
  pub two_lines_told : first settings_a (line "RW" ++ line "MZ") ≡ 0 ∷ weightless
  pub bytes_behind : line_of (line "RW" ++ ascii "XX") ≡ ascii "RW"
  pub bytes_behind_told : first settings_a (line "RW" ++ ascii "XX") ≡ 0 ∷ weightless
  -- "With no CR LF, or more than 64 bytes before it, the part is empty"
  pub none_empty : line_of (ascii "RW") ≡ []
  pub long_empty : line_of (xs 70) ≡ []
  pub long_told : first settings_a (xs 70) ≡ 11 ∷ []
  -- "A second answer tells no line, a long line, an empty line and another apart.": its cases, and the house's numbers
  pub kind_none : kind_of (ascii "RW") ≡ kind.NoLine
  pub kind_cr_cr : kind_of (ascii "RW" ++ cr ++ cr) ≡ kind.NoLine
  pub kind_long : kind_of (xs 65) ≡ kind.Long
  pub kind_64 : kind_of (xs 64) ≡ kind.Text
  pub kind_empty : kind_of (line "") ≡ kind.Empty
  pub kind_one : kind_of (line "R") ≡ kind.Text
  pub kind-numbers :
      (kind_number (kind_of (ascii "RW")) ∷ kind_number (kind_of (xs 65)) ∷ kind_number (kind_of (line ""))
      ∷ kind_number (kind_of (xs 64)) ∷ [])
      ≡ 0 ∷ 1 ∷ 2 ∷ 3 ∷ []

-- ---- prefix, length, weight shown
-- settings A with this address
abbrev pub settings_at : ℕ → Settings
settings_at n = settings_of (given_of (set list_a 18 (pos n)))

-- the setpoints after a line in the first tick
abbrev pub set_by : List ℕ → Setpoints
set_by receive = (ask settings_a open_state (pos 0) receive 64).state.setpoints

-- SS, F 10 and so many zeros behind it: 36 are the six other fields
abbrev pub set_ten : ℕ → List ℕ
set_ten n = ascii "SS000010" ++ replicate n 48 ++ line ""

pub record Spoken : Type 0 where
  -- "Address 0 looks for no prefix; 1..99 needs "@" and two digits."; 12 has an empty reply
  pub address_1_missing : first (settings_at 1) (line "RW") ≡ 12 ∷ []
  pub address_1 : first (settings_at 1) (line "@01RW") ≡ 0 ∷ line "@01US,GS,+0000000kg"
  pub not_at : first settings7 (line "A07RW") ≡ 12 ∷ []
  pub other_tens : first settings7 (line "@17RW") ≡ 12 ∷ []
  pub address_42 : first (settings_at 42) (line "@42RW") ≡ 0 ∷ line "@42US,GS,+0000000kg"
  pub address_42_tens_0 : first (settings_at 42) (line "@02RW") ≡ 12 ∷ []
  pub address_42_tens_3 : first (settings_at 42) (line "@32RW") ≡ 12 ∷ []
  pub address_42_tens_5 : first (settings_at 42) (line "@52RW") ≡ 12 ∷ []
  pub address_99 : first (settings_at 99) (line "@99RW") ≡ 0 ∷ line "@99US,GS,+0000000kg"
  -- 11: "under two after the prefix"
  pub one_byte : first settings_a (line "R") ≡ 11 ∷ line "NG11"
  pub one_behind_prefix : first settings7 (line "@07R") ≡ 11 ∷ line "@07NG11"
  pub none_behind_prefix : first settings7 (line "@07") ≡ 11 ∷ line "@07NG11"
  -- 11: "a known command with wrong length": seven fields are 42 digits, not 41, 43 or 48
  pub digits_42 : first settings_a (set_ten 36) ≡ 0 ∷ line "SS"
  pub digits_41 : first settings_a (set_ten 35) ≡ 11 ∷ line "NG11"
  pub digits_43 : first settings_a (set_ten 37) ≡ 11 ∷ line "NG11"
  pub digits_48 : first settings_a (set_ten 42) ≡ 11 ∷ line "NG11"
  pub digits_42_set : set_by (set_ten 36) ≡ setpoints 10 0 0 0
  pub digits_43_not_set : set_by (set_ten 37) ≡ setpoints 0 0 0 0
  pub digits_48_not_set : set_by (set_ten 42) ≡ setpoints 0 0 0 0
  -- "the sign minus only for negative overload"
  pub overload_plus : heard settings_a open_state (pos 110000) (line "RW") ≡ 0 ∷ line "OL,GS,+       kg"
  pub overload_minus : heard settings_a open_state (minus 110000) (line "RW") ≡ 0 ∷ line "OL,GS,-       kg"

-- ---- the requests of a log's lines
-- the first tick with this request, at count 0 and the contact open: what it is told, then the reply's bytes
abbrev pub logged : List ℕ → List ℕ
logged request =
    let tick = request_tick settings_a open_state (pos 0) false request (room 20) in
    told_number tick.told ∷ take tick.length (request_buffer settings_a open_state (pos 0) false request (room 20))

-- a tick at 0, one at 100 with the contact closed and no request, one at 130 with the contact closed and DC
abbrev pub at_rest : State
at_rest = (request_tick settings_a open_state (pos 0) false (ascii "--") (room 20)).state

abbrev pub refilling : LineTick
refilling = request_tick settings_a at_rest (pos 100) true (ascii "--") (room 20)

abbrev pub closing : LineTick
closing = request_tick settings_a refilling.state (pos 130) true (ascii "DC") (room 20)

pub record Logged : Type 0 where
  -- "parted by single spaces"
  pub parted_by_x : log_line_of (ascii "0 0X--") ≡ unreadable
  pub parted_by_minus : log_line_of (ascii "0 0-RW") ≡ unreadable
  pub parted_by_tab : log_line_of (ascii "0 0" ++ (9 ∷ ascii "RW")) ≡ unreadable
  -- "`--` for none or else a serial command"
  pub minus_x : is_none (ascii "-X") ≡ false
  pub x_minus : is_none (ascii "X-") ≡ false
  pub minus_x_told : logged (ascii "-X") ≡ 13 ∷ line "NG13"
  pub x_minus_told : logged (ascii "X-") ≡ 13 ∷ line "NG13"
  pub none_told : logged (ascii "--") ≡ 0 ∷ []
  -- "given with CR LF"
  pub received : received_of (ascii "RW") ≡ line "RW"
  pub received_told : logged (ascii "RW") ≡ 0 ∷ weightless
  pub received_buffer : request_buffer settings_a open_state (pos 0) false (ascii "RW") (room 20) ≡ weightless ++ (255 ∷ 255 ∷ [])
  -- "of 1 to 100 bytes": all of them are the line, which is long from 65 on
  pub of_64 : logged (replicate 64 88) ≡ 13 ∷ line "NG13"
  pub of_65 : logged (replicate 65 88) ≡ 11 ∷ []
  pub of_100 : logged (replicate 100 88) ≡ 11 ∷ []
  pub of_65_received : received_of (replicate 65 88) ≡ xs 65
  pub of_100_received : received_of (replicate 100 88) ≡ xs 100
  -- "0 or 1 (closed)": a rise with the contact closed is refilled
  pub none_refilled : refilling.state.book.refilled ≡ pos 100
  pub none_used : refilling.state.book.used ≡ pos 0
  pub closed_told : told_number closing.told ≡ 0
  -- opening, refilled, used, unbooked, closing
  pub closed_day : closed_values closing.answer.closed ≡ pos 0 ∷ pos 130 ∷ pos 0 ∷ pos 0 ∷ pos 130 ∷ []
