-- The outline's section "Figures on both sides", its last part: the lines that the ticket program reads. A line is the list of its bytes,
-- without the LF that ends it.
use Rattle.std.specs.Prelude.{ℕ, suc, ◌+◌, ◌-◌, ◌*◌, List, [], ◌∷◌, ◌++◌, Bool, cond, ◌&&◌, ◌||◌, length, get_or, take, drop, leb, ltb}
use Rattle.std.specs.Prelude.{eqb, ℤ, pos, neg_ℤ, Option, Some, None, Ok}
use Rattle.types.specs.declared.settings.Settings.{Settings}
use Rattle.types.specs.declared.machine.State.{State}
use Rattle.types.specs.declared.lines.LineTick.{LineTick}
use Rattle.types.specs.declared.log.LogNumber.{LogNumber}
use Rattle.types.specs.declared.log.LogLine.{LogLine}
use Rattle.types.specs.declared.log.Line.{Line}
use Rattle.outline.specs.Limits.{number_digits, request_limit, line_number_limit}
use Rattle.outline.specs.Lines.{is_digit}
use Rattle.outline.specs.Tick.{tick_of, unasked_of}
use Rattle.outline.specs.Replies.{line_ticked, line_tick_of, reply_buffer}

-- ---- a whole number
-- "an optional minus"
abbrev pub is_minus : List ℕ → ℕ → Bool
is_minus line at = eqb (get_or line at 0) 45

-- where the digits begin
abbrev pub digits_from : List ℕ → ℕ → ℕ
digits_from line at = cond (is_minus line at) (suc at) at

-- how many digits a list begins with
abbrev pub digit_run : List ℕ → ℕ
digit_run [] = 0
digit_run (x ∷ s) = cond (is_digit x) (suc (digit_run s)) 0

-- the number whose first digits say v and whose other digits are the list
abbrev pub value_from : ℕ → List ℕ → ℕ
value_from v [] = v
value_from v (x ∷ s) = value_from (v * 10 + (x - 48)) s

abbrev pub signed_of : Bool → ℕ → ℤ
signed_of minus v = cond minus (neg_ℤ (pos v)) (pos v)

-- "an optional minus and 1 to 9 digits", from a place of the line on, as far as the digits go
unfoldable pub number_at : List ℕ → ℕ → Option LogNumber
number_at line at =
    let from = digits_from line at in
    let n = digit_run (drop from line) in
    cond (leb 1 n && leb n number_digits)
    (Some (record { value = signed_of (is_minus line at) (value_from 0 (take n (drop from line))); end = from + n }))
    None

-- ---- a line
-- "0 or 1 (closed)"
abbrev pub is_contact : ℕ → Bool
is_contact b = eqb b 48 || eqb b 49

-- what stands behind the count: a space, the contact, a space, and "a serial command of 1 to 100 bytes, running to the line's end"
abbrev pub is_rest : List ℕ → ℕ → Bool
is_rest line at =
    eqb (get_or line at 0) 32 && is_contact (get_or line (at + 1) 0) && eqb (get_or line (at + 2) 0) 32
    && leb (at + 4) (length line) && leb (length line) (at + 3 + request_limit)

-- a line of this count and contact, with its request from a place on
abbrev pub tick_line : ℤ → Bool → ℕ → Option LogLine
tick_line count contact at = Some (record { count = count; contact = contact; request = at })

-- a line that can't be read says nothing
abbrev pub unreadable : Option LogLine
unreadable = None

abbrev pub behind_count : List ℕ → Option LogNumber → Option LogLine
behind_count line (Some n) = cond (is_rest line n.end) (tick_line n.value (eqb (get_or line (n.end + 1) 0) 49) (n.end + 3)) unreadable
behind_count line None = unreadable

-- "lines `count contact request` .., parted by single spaces"
unfoldable pub log_line_of : List ℕ → Option LogLine
log_line_of line = behind_count line (number_at line 0)

-- ---- the lines of an input, of which a buffer holds a piece: the first `all` of its bytes
-- the bytes from a place to an end, as far as there are any
abbrev pub between : List ℕ → ℕ → ℕ → List ℕ
between bytes from end = take (end - from) (drop from bytes)

-- the next LF, where n bytes stand before the list; without one, the list's end
abbrev pub lf_from : ℕ → List ℕ → ℕ
lf_from n [] = n
lf_from n (x ∷ s) = cond (eqb x 10) n (lf_from (suc n) s)

-- the next LF from a place on, where the line that begins there ends
unfoldable pub next_lf : List ℕ → ℕ → ℕ
next_lf bytes from = lf_from from (drop from bytes)

-- the line that begins at a place: "Lines end in LF; a last one without it counts." It is there if a byte of it, or its LF, is held, and
-- whole if its LF is
unfoldable pub line_at : List ℕ → ℕ → ℕ → ℕ → Line
line_at space from all number =
    let held = take all space in
    let end = next_lf held from in record {
      from = from;
      end = end;
      all = all;
      number = number;
      here = ltb from (length held);
      whole = ltb end (length held);
      said = log_line_of (between space from end);
    }

-- "Lines are numbered from 1": the first is `line_at space 0 all 1`, and each has one more than the line before it
abbrev pub number_behind : ℕ → ℕ
number_behind n = cond (ltb n line_number_limit) (suc n) n

-- behind the line's LF, or where the bytes held end
abbrev pub place_behind : Line → ℕ
place_behind line = cond (ltb line.end line.all) (suc line.end) line.all

-- the line that follows another
unfoldable pub line_behind : List ℕ → Line → Line
line_behind space line = line_at space (place_behind line) line.all (number_behind line.number)

-- the same where the input is read on for a line that is not whole: it stands at the start of the buffer as it is after that, of which
-- `all` bytes are then held
unfoldable pub next_line : List ℕ → List ℕ → ℕ → Line → Line
next_line space after all line =
    let next = line_behind space line in
    cond next.whole next (line_at after 0 all next.number)

-- the bytes held from a place on, brought to the start of the buffer; those that they do not cover stay
unfoldable pub kept_in : List ℕ → ℕ → ℕ → List ℕ
kept_in space from all = between space from all ++ drop (length (between space from all)) space

-- ---- its request
-- where it begins; the line's own beginning where it can't be read
abbrev pub request_place : Option LogLine → ℕ
request_place (Some said) = said.request
request_place None = 0

-- "`--` for none"
unfoldable pub is_none : List ℕ → Bool
is_none request = eqb (length request) 2 && eqb (get_or request 0 0) 45 && eqb (get_or request 1 0) 45

-- ---- its tick
-- "given with CR LF"
abbrev pub with_cr_lf : List ℕ → List ℕ
with_cr_lf command = command ++ (13 ∷ 10 ∷ [])

-- "a serial command of 1 to 100 bytes": no line that can be read has a longer one
abbrev pub received_of : List ℕ → List ℕ
received_of request = with_cr_lf (take request_limit request)

-- the tick of a count, a contact and a request; without a request it has no line and no reply
unfoldable pub request_tick : Settings → State → ℤ → Bool → List ℕ → List ℕ → LineTick
request_tick s st count contact request buffer =
    cond (is_none request) (line_ticked (Ok tt) 0 (tick_of s st (unasked_of count contact)))
    (line_tick_of s st count contact (received_of request) buffer)

-- the reply buffer after it
unfoldable pub request_buffer : Settings → State → ℤ → Bool → List ℕ → List ℕ → List ℕ
request_buffer s st count contact request buffer =
    cond (is_none request) buffer (reply_buffer s st count contact (received_of request) buffer)
