-- The outline's section "Serial lines", first part: what a receive buffer asks for. A buffer is the list of its bytes.
use Rattle.std.specs.Prelude.{ℕ, suc, ◌+◌, ◌-◌, ◌*◌, ◌/◌, ◌%◌, List, [], ◌∷◌, Bool, true, cond, ◌&&◌, length, get_or, take, drop, leb}
use Rattle.std.specs.Prelude.{ltb, eqb, Option, None, Some, Result, Ok, Err}
use Rattle.types.specs.declared.stages.Setpoints.{Setpoints}
use Rattle.types.specs.declared.lines.NoEnd.{NoEnd}
use Rattle.types.specs.declared.lines.NoEnd.TheVariants.{Missing, Beyond}
use Rattle.types.specs.declared.lines.LineKind.{LineKind}
use Rattle.types.specs.declared.lines.LineKind.TheVariants as kind
use Rattle.types.specs.declared.lines.Word.{Word}
use Rattle.types.specs.declared.lines.Word.TheVariants as word
use Rattle.types.specs.declared.lines.Letters.{Letters}
use Rattle.types.specs.declared.lines.Letters.TheVariants as letters
use Rattle.types.specs.declared.lines.Order.{Order}
use Rattle.types.specs.declared.lines.LineFault.{LineFault}
use Rattle.types.specs.declared.lines.Order.TheVariants as order
use Rattle.types.specs.declared.lines.LineFault.TheVariants as fault
use Rattle.outline.specs.Limits.{line_limit}

-- ---- the line
-- CR, then LF
abbrev pub is_cr_lf : ℕ → ℕ → Bool
is_cr_lf a b = eqb a 13 && eqb b 10

-- the end of a line of n bytes: "at most 64 of them"
abbrev pub end_at : ℕ → Result ℕ NoEnd
end_at n = cond (leb n line_limit) (Ok n) (Err Beyond)

-- the first CR LF of s, where n bytes stand before s
abbrev pub line_end_from : ℕ → List ℕ → Result ℕ NoEnd
line_end_from n [] = Err Missing
line_end_from n (x ∷ s) = cond (is_cr_lf x (get_or s 0 0)) (end_at n) (line_end_from (suc n) s)

unfoldable pub line_end_of : List ℕ → Result ℕ NoEnd
line_end_of buffer = line_end_from 0 buffer

-- "With no CR LF, or more than 64 bytes before it, the part is empty, at the buffer's start."
abbrev pub length_at : Result ℕ NoEnd → ℕ
length_at (Err Missing) = 0
length_at (Err Beyond) = 0
length_at (Ok n) = n

-- "A line is the bytes before the first CR LF, at most 64 of them"
unfoldable pub line_of : List ℕ → List ℕ
line_of buffer = take (length_at (line_end_of buffer)) buffer

-- "A second answer tells no line, a long line, an empty line and another apart."
abbrev pub kind_at : Result ℕ NoEnd → LineKind
kind_at (Err Missing) = kind.NoLine
kind_at (Err Beyond) = kind.Long
kind_at (Ok n) = cond (eqb n 0) kind.Empty kind.Text

unfoldable pub kind_of : List ℕ → LineKind
kind_of buffer = kind_at (line_end_of buffer)

-- ---- the prefix: "Address 0 looks for no prefix; 1..99 needs "@" and two digits."
abbrev pub has_prefix : ℕ → Bool
has_prefix address = ltb 0 address

unfoldable pub prefix_length : ℕ → ℕ
prefix_length address = cond (has_prefix address) 3 0

abbrev pub tens_digit : ℕ → ℕ
tens_digit n = 48 + n / 10 % 10

abbrev pub units_digit : ℕ → ℕ
units_digit n = 48 + n % 10

unfoldable pub is_prefixed : List ℕ → ℕ → Bool
is_prefixed line address =
    cond (has_prefix address)
    (eqb (get_or line 0 0) 64 && eqb (get_or line 1 0) (tens_digit address) && eqb (get_or line 2 0) (units_digit address))
    true

-- ---- the command's two letters, as one number of two bytes
abbrev pub letters_for : Word → ℕ
letters_for word.ReadWeight = 0x5257  -- RW
letters_for word.ReadTotal = 0x5254  -- RT
letters_for word.ReadSetpoints = 0x5253  -- RS
letters_for word.Zero = 0x4D5A  -- MZ
letters_for word.Tare = 0x4D54  -- MT
letters_for word.TareClear = 0x4354  -- CT
letters_for word.ShowGross = 0x4D47  -- MG
letters_for word.ShowNet = 0x4D4E  -- MN
letters_for word.Start = 0x4242  -- BB
letters_for word.Stop = 0x4842  -- HB
letters_for word.TotalClear = 0x4454  -- DT
letters_for word.Undo = 0x4341  -- CA
letters_for word.DayClose = 0x4443  -- DC
letters_for word.Discharge = 0x4244  -- BD

-- SS
abbrev pub set_letters : ℕ
set_letters = 0x5353

-- "Commands: RW, RT, RS, MZ, MT, CT, MG, MN, BB, HB, DT, CA, SS, and house DC (day close)."; A1: BD
abbrev pub named : ℕ → Option Letters
named k =
    cond (eqb k (letters_for word.ReadWeight)) (Some (letters.One word.ReadWeight))
    (cond (eqb k (letters_for word.ReadTotal)) (Some (letters.One word.ReadTotal))
    (cond (eqb k (letters_for word.ReadSetpoints)) (Some (letters.One word.ReadSetpoints))
    (cond (eqb k (letters_for word.Zero)) (Some (letters.One word.Zero))
    (cond (eqb k (letters_for word.Tare)) (Some (letters.One word.Tare))
    (cond (eqb k (letters_for word.TareClear)) (Some (letters.One word.TareClear))
    (cond (eqb k (letters_for word.ShowGross)) (Some (letters.One word.ShowGross))
    (cond (eqb k (letters_for word.ShowNet)) (Some (letters.One word.ShowNet))
    (cond (eqb k (letters_for word.Start)) (Some (letters.One word.Start))
    (cond (eqb k (letters_for word.Stop)) (Some (letters.One word.Stop))
    (cond (eqb k (letters_for word.TotalClear)) (Some (letters.One word.TotalClear))
    (cond (eqb k (letters_for word.Undo)) (Some (letters.One word.Undo))
    (cond (eqb k (letters_for word.DayClose)) (Some (letters.One word.DayClose))
    (cond (eqb k (letters_for word.Discharge)) (Some (letters.One word.Discharge))
    (cond (eqb k set_letters) (Some letters.Set)
    None))))))))))))))

unfoldable pub letters_of : ℕ → ℕ → Option Letters
letters_of a b = named (a * 256 + b)

-- ---- digits
abbrev pub is_digit : ℕ → Bool
is_digit b = leb 48 b && leb b 57

-- the number whose first digits say v and whose other digits are the list
abbrev pub number_from : ℕ → List ℕ → Option ℕ
number_from v [] = Some v
number_from v (x ∷ s) = cond (is_digit x) (number_from (v * 10 + (x - 48)) s) None

-- a part of six bytes, "each field is read out of the middle of the line"
unfoldable pub field_of : List ℕ → ℕ → Option ℕ
field_of line at = cond (leb (at + 6) (length line)) (number_from 0 (take 6 (drop at line))) None

-- seven numbers in the order of the setpoints
abbrev pub seven_of : Option ℕ → Option ℕ → Option ℕ → Option ℕ → Option ℕ → Option ℕ → Option ℕ → Option Setpoints
seven_of (Some f) (Some ff) (Some p) (Some op) (Some over) (Some under) (Some near) =
    Some (record { target = f; fall = ff; preliminary = p; optional = op; over = over; under = under; near = near })
seven_of (Some f) (Some ff) (Some p) (Some op) (Some over) (Some under) None = None
seven_of (Some f) (Some ff) (Some p) (Some op) (Some over) None near = None
seven_of (Some f) (Some ff) (Some p) (Some op) None under near = None
seven_of (Some f) (Some ff) (Some p) None over under near = None
seven_of (Some f) (Some ff) None op over under near = None
seven_of (Some f) None p op over under near = None
seven_of None ff p op over under near = None

-- "SS is followed at once by seven fields of six digits, in the order above"
unfoldable pub fields_of : List ℕ → ℕ → Option Setpoints
fields_of line at =
    seven_of (field_of line at) (field_of line (at + 6)) (field_of line (at + 12)) (field_of line (at + 18))
    (field_of line (at + 24)) (field_of line (at + 30)) (field_of line (at + 36))

-- ---- the command
-- 11: "a non-digit field"
abbrev pub set_of : Option Setpoints → Result Order LineFault
set_of (Some p) = Ok (order.Set p)
set_of None = Err fault.Malformed

-- 11: "a known command with wrong length"; 13: "unknown command". `at` is where the letters stand.
unfoldable pub decode_of : Option Letters → List ℕ → ℕ → Result Order LineFault
decode_of (Some (letters.One w)) line at = cond (eqb (length line) (at + 2)) (Ok (order.Do w)) (Err fault.Malformed)
decode_of (Some letters.Set) line at = cond (eqb (length line) (at + 44)) (set_of (fields_of line (at + 2))) (Err fault.Malformed)
decode_of None line at = Err fault.Unknown

-- 11: "under two after the prefix"
unfoldable pub body_of : List ℕ → ℕ → Result Order LineFault
body_of line at =
    cond (ltb (length line) (at + 2)) (Err fault.Malformed)
    (decode_of (letters_of (get_or line at 0) (get_or line (at + 1) 0)) line at)

-- 12: "prefix missing or of another address"
unfoldable pub spoken_of : List ℕ → ℕ → Result Order LineFault
spoken_of line address = cond (is_prefixed line address) (body_of line (prefix_length address)) (Err fault.OtherAddress)

-- 11: "no line where one is asked for, more than 64 bytes". "The tests for no line and for 64 bytes come before 12."
abbrev pub command_at : LineKind → Result Order LineFault → Result Order LineFault
command_at kind.NoLine spoken = Err fault.NoLine
command_at kind.Long spoken = Err fault.LongLine
command_at kind.Empty spoken = spoken
command_at kind.Text spoken = spoken

unfoldable pub command_of : List ℕ → ℕ → Result Order LineFault
command_of buffer address = command_at (kind_of buffer) (spoken_of (line_of buffer) address)
