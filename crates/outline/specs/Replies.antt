-- The outline's section "Serial lines", second part: the bytes of each reply, the caller's reply buffer, and the tick with a line.
use Rattle.std.specs.Prelude.{ℕ, zero, suc, ◌/◌, ◌%◌, List, [], ◌∷◌, ◌++◌, Bool, true, false, cond, not, ◌&&◌, length, drop, replicate}
use Rattle.std.specs.Prelude.{leb, ℤ, pos, nat_abs, Result, Ok, Err, Option, None, Some}
use Rattle.std.specs.Int.Signed.{lt_z}
use Rattle.types.specs.declared.requests.Refusal.{Refusal}
use Rattle.types.specs.declared.settings.Settings.{Settings}
use Rattle.types.specs.declared.weight.Display.{Display}
use Rattle.types.specs.declared.weight.Display.TheVariants as display
use Rattle.types.specs.declared.stages.Setpoints.{Setpoints}
use Rattle.types.specs.declared.requests.Request.{Request}
use Rattle.types.specs.declared.requests.Request.TheVariants as request
use Rattle.types.specs.declared.machine.State.{State}
use Rattle.types.specs.declared.machine.Input.{Input}
use Rattle.types.specs.declared.machine.Reading.{Reading}
use Rattle.types.specs.declared.machine.Ticked.{Ticked}
use Rattle.types.specs.declared.lines.Word.{Word}
use Rattle.types.specs.declared.lines.Word.TheVariants as word
use Rattle.types.specs.declared.lines.Order.{Order}
use Rattle.types.specs.declared.lines.LineFault.{LineFault}
use Rattle.types.specs.declared.lines.Order.TheVariants as order
use Rattle.types.specs.declared.lines.LineFault.TheVariants as fault
use Rattle.types.specs.declared.lines.Shown.{Shown}
use Rattle.types.specs.declared.lines.Reply.{Reply}
use Rattle.types.specs.declared.lines.Reply.TheVariants as reply
use Rattle.types.specs.declared.lines.LineRefusal.{LineRefusal}
use Rattle.types.specs.declared.lines.LineRefusal.TheVariants as told
use Rattle.types.specs.declared.lines.LineTick.{LineTick}
use Rattle.outline.specs.Setpoints.{latest_of}
use Rattle.outline.specs.Tick.{settled_of, served_of, reading_of, unasked_of, tick_of}
use Rattle.outline.specs.Lines.{has_prefix, tens_digit, units_digit, letters_for, set_letters, command_of}
use Rattle.outline.specs.Numbers.{refusal_number, told_number}

-- ---- texts
-- the last n decimal digits of v
unfoldable pub digits_of : ℕ → ℕ → List ℕ
digits_of zero v = []
digits_of (suc n) v = digits_of n (v / 10) ++ (units_digit v ∷ [])

-- two letters
abbrev pub letters_text : ℕ → List ℕ
letters_text k = k / 256 % 256 ∷ k % 256 ∷ []

-- ST stable, "US when unstable; in a bad tick or overload OL stands for ST"
abbrev pub status_text : Shown → List ℕ
status_text w = letters_text (cond w.fit (cond w.stable 0x5354 0x5553) 0x4F4C)

-- GS, "NT for net"
abbrev pub display_text : Shown → List ℕ
display_text w = letters_text (cond w.net 0x4E54 0x4753)

abbrev pub comma : ℕ
comma = 44

-- minus or plus
abbrev pub sign_byte : Shown → ℕ
sign_byte w = cond w.negative 45 43

-- "and seven spaces for the digits"
abbrev pub amount_text : Shown → List ℕ
amount_text w = cond w.fit (digits_of 7 w.amount) (replicate 7 32)

-- "RW as `ST,GS,+0004421kg`"
unfoldable pub weight_text : Shown → List ℕ
weight_text w = status_text w ++ (comma ∷ []) ++ display_text w ++ (comma ∷ sign_byte w ∷ []) ++ amount_text w ++ letters_text 0x6B67

-- "RT eight digits of total, comma, eight of count"
unfoldable pub total_text : ℕ → ℕ → List ℕ
total_text total count = digits_of 8 total ++ (comma ∷ []) ++ digits_of 8 count

-- "RS 42 digits"
unfoldable pub points_text : Setpoints → List ℕ
points_text p =
    digits_of 6 p.target ++ digits_of 6 p.fall ++ digits_of 6 p.preliminary ++ digits_of 6 p.optional
    ++ digits_of 6 p.over ++ digits_of 6 p.under ++ digits_of 6 p.near

-- "NG and two digits (house)"
unfoldable pub refused_text : ℕ → List ℕ
refused_text n = letters_text 0x4E47 ++ digits_of 2 n

abbrev pub prefix_text : ℕ → List ℕ
prefix_text address = cond (has_prefix address) (64 ∷ tens_digit address ∷ units_digit address ∷ []) []

-- "Replies, prefixed as the command was, ending CR LF"
unfoldable pub framed : ℕ → List ℕ → List ℕ
framed address text = prefix_text address ++ text ++ (13 ∷ 10 ∷ [])

-- the whole reply; an empty one has neither prefix nor CR LF
unfoldable pub reply_text : ℕ → Option Reply → List ℕ
reply_text address None = []
reply_text address (Some (reply.Letters k)) = framed address (letters_text k)
reply_text address (Some (reply.Weight w)) = framed address (weight_text w)
reply_text address (Some (reply.Total total count)) = framed address (total_text total count)
reply_text address (Some (reply.Points p)) = framed address (points_text p)
reply_text address (Some (reply.Refused n)) = framed address (refused_text n)

-- ---- what a command asks of its tick, what reply is due to it, what it is told
-- "A line comes with a tick and is that tick's request": "CT, DT, CA are tare clear, total clear, undo." A read asks for nothing.
abbrev pub word_request : Word → Option Request
word_request word.ReadWeight = None
word_request word.ReadTotal = None
word_request word.ReadSetpoints = None
word_request word.Zero = Some request.Zero
word_request word.Tare = Some request.Tare
word_request word.TareClear = Some request.TareClear
word_request word.ShowGross = Some request.ShowGross
word_request word.ShowNet = Some request.ShowNet
word_request word.Start = Some request.Start
word_request word.Stop = Some request.Stop
word_request word.TotalClear = Some request.TotalClear
word_request word.Undo = Some request.Undo
word_request word.DayClose = Some request.DayClose
word_request word.Discharge = Some request.Discharge

-- "After any of 11 to 14 the request is not done and the tick runs as if it had none."
unfoldable pub request_of : Result Order LineFault → Option Request
request_of (Ok (order.Do w)) = word_request w
request_of (Ok (order.Set p)) = Some (request.Set p)
request_of (Err fault.NoLine) = None
request_of (Err fault.LongLine) = None
request_of (Err fault.OtherAddress) = None
request_of (Err fault.Malformed) = None
request_of (Err fault.Unknown) = None

abbrev pub shows_net : Display → Bool
shows_net display.Gross = false
shows_net display.Net = true

-- a good tick without overload
abbrev pub is_fit : Reading → Bool
is_fit x = x.good && not x.overload

abbrev pub shown_weight : Display → Reading → ℤ
shown_weight display.Gross x = x.gross
shown_weight display.Net x = x.net

-- "the displayed weight, plus for 0"; where OL stands "the sign minus only for negative overload", which is of gross
unfoldable pub shown_of : Display → Reading → Shown
shown_of d x = record {
  fit = is_fit x;
  stable = x.stable;
  net = shows_net d;
  negative = cond (is_fit x) (lt_z (shown_weight d x) (pos 0)) (x.overload && lt_z x.gross (pos 0));
  amount = nat_abs (shown_weight d x);
}

-- "an accepted request its two letters; a refused one NG and two digits"
abbrev pub request_reply : ℕ → Result (Unit {0}) Refusal → Option Reply
request_reply k (Ok tt) = Some (reply.Letters k)
request_reply k (Err n) = Some (reply.Refused (refusal_number n))

-- "a read shows the state as step 4 leaves it", and the weights that serve its tick
abbrev pub word_reply : Word → State → Reading → Result (Unit {0}) Refusal → Option Reply
word_reply word.ReadWeight st x o = Some (reply.Weight (shown_of st.panel.display x))
word_reply word.ReadTotal st x o = Some (reply.Total st.totals.total st.totals.count)
-- A5: "RS reads the waiting set if there is one."
word_reply word.ReadSetpoints st x o = Some (reply.Points (latest_of st.setpoints st.waiting))
word_reply word.Zero st x o = request_reply (letters_for word.Zero) o
word_reply word.Tare st x o = request_reply (letters_for word.Tare) o
word_reply word.TareClear st x o = request_reply (letters_for word.TareClear) o
word_reply word.ShowGross st x o = request_reply (letters_for word.ShowGross) o
word_reply word.ShowNet st x o = request_reply (letters_for word.ShowNet) o
word_reply word.Start st x o = request_reply (letters_for word.Start) o
word_reply word.Stop st x o = request_reply (letters_for word.Stop) o
word_reply word.TotalClear st x o = request_reply (letters_for word.TotalClear) o
word_reply word.Undo st x o = request_reply (letters_for word.Undo) o
word_reply word.DayClose st x o = request_reply (letters_for word.DayClose) o
word_reply word.Discharge st x o = request_reply (letters_for word.Discharge) o

-- "A 12, no line and a line over 64 bytes have an empty reply; another 11, and 13, reply with NG and the number."
unfoldable pub reply_due : Result Order LineFault → State → Reading → Result (Unit {0}) Refusal → Option Reply
reply_due (Ok (order.Do w)) st x o = word_reply w st x o
reply_due (Ok (order.Set p)) st x o = request_reply set_letters o
reply_due (Err fault.NoLine) st x o = None
reply_due (Err fault.LongLine) st x o = None
reply_due (Err fault.OtherAddress) st x o = None
reply_due (Err fault.Malformed) st x o = Some (reply.Refused (told_number (Err told.Malformed)))
reply_due (Err fault.Unknown) st x o = Some (reply.Refused (told_number (Err told.Unknown)))

-- what the line is answered, where the reply due fits
abbrev pub outcome_told : Result (Unit {0}) Refusal → Result (Unit {0}) LineRefusal
outcome_told (Ok tt) = Ok tt
outcome_told (Err n) = Err (told.Request n)

unfoldable pub told_of : Result Order LineFault → Result (Unit {0}) Refusal → Result (Unit {0}) LineRefusal
told_of (Ok (order.Do w)) o = outcome_told o
told_of (Ok (order.Set p)) o = outcome_told o
told_of (Err fault.NoLine) o = Err told.Malformed
told_of (Err fault.LongLine) o = Err told.Malformed
told_of (Err fault.OtherAddress) o = Err told.OtherAddress
told_of (Err fault.Malformed) o = Err told.Malformed
told_of (Err fault.Unknown) o = Err told.Unknown

-- ---- the tick with a line
-- the tick that the line asks for
abbrev pub asked_of : Settings → ℤ → Bool → List ℕ → Input
asked_of s count contact receive = record { count = count; contact = contact; request = request_of (command_of receive s.address) }

-- the bytes of the reply due to the line
unfoldable pub due_text : Settings → State → ℤ → Bool → List ℕ → List ℕ
due_text s st count contact receive =
    let i = asked_of s count contact receive in
    let a = settled_of s st i in
    reply_text s.address (reply_due (command_of receive s.address) a.state (reading_of (served_of s st i)) a.outcome)

abbrev pub line_ticked : Result (Unit {0}) LineRefusal → ℕ → Ticked → LineTick
line_ticked t n tick = record { told = t; length = n; answer = tick.answer; state = tick.state }

-- "14 reply buffer shorter than the reply due .. It replaces a number whose NG does not fit."
unfoldable pub line_tick_of : Settings → State → ℤ → Bool → List ℕ → List ℕ → LineTick
line_tick_of s st count contact receive buffer =
    let i = asked_of s count contact receive in
    let text = due_text s st count contact receive in
    cond (leb (length text) (length buffer))
    (line_ticked (told_of (command_of receive s.address) (settled_of s st i).outcome) (length text) (tick_of s st i))
    (line_ticked (Err told.ShortBuffer) 0 (tick_of s st (unasked_of count contact)))

-- a text at a buffer's start: "Bytes past the reply stay." Where it does not fit, "every byte of it unchanged".
unfoldable pub written_of : List ℕ → List ℕ → List ℕ
written_of text buffer = cond (leb (length text) (length buffer)) (text ++ drop (length text) buffer) buffer

-- the reply buffer after the tick with a line
unfoldable pub reply_buffer : Settings → State → ℤ → Bool → List ℕ → List ℕ → List ℕ
reply_buffer s st count contact receive buffer = written_of (due_text s st count contact receive) buffer
