-- The state image: 288 bytes, as docs/IMAGES.md has them. Each part of the state has a table of rows, a place and a count of bytes for each
-- field; beside it stand the numbers that the part has for its rows, and the part that numbers make. A byte that no row has is 0.
use Rattle.std.specs.Prelude.{ℕ, ◌+◌, ◌-◌, List, [], ◌∷◌, ◌++◌, cond, eqb, get_or, drop, replicate, Option, None, Some}
use Rattle.std.specs.Int.{w32, w64}
use Rattle.places.specs.Places.{Place, row, get_all, put_all, signed, coded, flag_of, flag_tag}
use Rattle.types.specs.declared.daybook.Book.{Book}
use Rattle.types.specs.declared.weight.Stability.{Stability}
use Rattle.types.specs.declared.weight.Weighing.{Weighing}
use Rattle.types.specs.declared.weight.Display.{Display}
use Rattle.types.specs.declared.weight.Display.TheVariants as display
use Rattle.types.specs.declared.weight.Panel.{Panel}
use Rattle.types.specs.declared.stages.Setpoints.{Setpoints}
use Rattle.types.specs.declared.stages.Stage.{Stage}
use Rattle.types.specs.declared.stages.Stage.TheVariants as stage
use Rattle.types.specs.declared.stages.SequenceError.{SequenceError}
use Rattle.types.specs.declared.stages.SequenceError.TheVariants as error
use Rattle.types.specs.declared.stages.Judgement.{Judgement}
use Rattle.types.specs.declared.stages.Judgement.TheVariants as judgement
use Rattle.types.specs.declared.stages.Sequence.{Sequence}
use Rattle.types.specs.declared.stages.Totals.{Totals}
use Rattle.types.specs.declared.machine.State.{State}
use Rattle.outline.specs.Setpoints.{open_setpoints, written_else}
use Rattle.outline.specs.Numbers.{stage_number, error_number, judgement_number}

-- the bytes of a state image, and of one before A5, which has the rows from 0 to 119 alone
abbrev pub state_length : ℕ
state_length = 288

abbrev pub earlier_length : ℕ
earlier_length = 256

-- A5: "an old image opens with none waiting": its bytes, and 0 from its end on
unfoldable pub grown_of : List ℕ → List ℕ
grown_of e = e ++ replicate (state_length - earlier_length) 0

-- ---- what has a name, as a number and back. A number that names nothing reads as the first name; written again it gives another byte.
unfoldable pub display_number : Display → ℕ
display_number display.Gross = 0
display_number display.Net = 1

unfoldable pub display_of : ℕ → Display
display_of n = cond (eqb n 1) display.Net display.Gross

-- a stage by the outline's number; t is the timer of a timed one
unfoldable pub stage_of : ℕ → ℕ → Stage
stage_of n t =
    cond (eqb n 3) (stage.StartDelay t)
    (cond (eqb n 4) (stage.LargeDisable t)
    (cond (eqb n 5) stage.LargeFlow
    (cond (eqb n 6) (stage.MediumDisable t)
    (cond (eqb n 7) stage.MediumFlow
    (cond (eqb n 8) (stage.SmallDisable t)
    (cond (eqb n 9) stage.SmallFlow
    (cond (eqb n 10) (stage.JudgeDelay t)
    (cond (eqb n 11) stage.JudgeWait
    (cond (eqb n 14) (stage.DischargeStart t)
    (cond (eqb n 15) stage.Discharge
    (cond (eqb n 16) (stage.DischargeEnd t) stage.Idle)))))))))))

-- a timer without use is 0 (D113)
unfoldable pub stage_timer : Stage → ℕ
stage_timer stage.Idle = 0
stage_timer (stage.StartDelay t) = t
stage_timer (stage.LargeDisable t) = t
stage_timer stage.LargeFlow = 0
stage_timer (stage.MediumDisable t) = t
stage_timer stage.MediumFlow = 0
stage_timer (stage.SmallDisable t) = t
stage_timer stage.SmallFlow = 0
stage_timer (stage.JudgeDelay t) = t
stage_timer stage.JudgeWait = 0
stage_timer (stage.DischargeStart t) = t
stage_timer stage.Discharge = 0
stage_timer (stage.DischargeEnd t) = t

unfoldable pub error_of : ℕ → SequenceError
error_of n =
    cond (eqb n 1) error.NoFinal
    (cond (eqb n 2) error.Reached
    (cond (eqb n 4) error.Stopped
    (cond (eqb n 6) error.FlowTime
    (cond (eqb n 9) error.BadWeight
    (cond (eqb n 10) error.NotBooked
    (cond (eqb n 7) error.DischargeStopped
    (cond (eqb n 8) error.DischargeTime error.None)))))))

unfoldable pub judgement_of : ℕ → Judgement
judgement_of n = cond (eqb n 1) judgement.Ok (cond (eqb n 2) judgement.Over (cond (eqb n 3) judgement.Under judgement.None))

-- whether a batch can be taken back, and its weight, which is 0 where there is none (D113)
unfoldable pub back_tag : Option ℕ → ℕ
back_tag None = 0
back_tag (Some v) = 1

unfoldable pub back_weight : Option ℕ → ℕ
back_weight None = 0
back_weight (Some v) = v

unfoldable pub back_of : ℕ → ℕ → Option ℕ
back_of n v = cond (eqb n 1) (Some v) None

-- whether setpoints are written, and which, all 0 where there are none (D113)
unfoldable pub write_tag : Option Setpoints → ℕ
write_tag None = 0
write_tag (Some p) = 1

unfoldable pub write_points : Option Setpoints → Setpoints
write_points w = written_else w open_setpoints

unfoldable pub write_of : ℕ → Setpoints → Option Setpoints
write_of n p = cond (eqb n 1) (Some p) None

-- ---- the day book: opening, last, refilled, used, unbooked, ticks, begun, contact
abbrev pub book_rows : List Place
book_rows = row 0 4 ∷ row 4 4 ∷ row 8 8 ∷ row 16 8 ∷ row 24 8 ∷ row 32 4 ∷ row 36 1 ∷ row 37 1 ∷ []

abbrev pub book_numbers : Book → List ℕ
book_numbers b =
    coded w32 b.opening ∷ coded w32 b.last ∷ coded w64 b.refilled ∷ coded w64 b.used ∷ coded w64 b.unbooked ∷ b.ticks
    ∷ flag_tag b.begun ∷ flag_tag b.contact ∷ []

abbrev pub book_of : List ℕ → Book
book_of ns = record {
  opening = signed w32 (get_or ns 0 0);
  last = signed w32 (get_or ns 1 0);
  refilled = signed w64 (get_or ns 2 0);
  used = signed w64 (get_or ns 3 0);
  unbooked = signed w64 (get_or ns 4 0);
  ticks = get_or ns 5 0;
  begun = flag_of (get_or ns 6 0);
  contact = flag_of (get_or ns 7 0);
}

-- ---- stability: the last tick was good, the run
abbrev pub stability_rows : List Place
stability_rows = row 40 1 ∷ row 42 2 ∷ []

abbrev pub stability_numbers : Stability → List ℕ
stability_numbers q = flag_tag q.good ∷ q.run ∷ []

abbrev pub stability_of : List ℕ → Stability
stability_of ns = record { good = flag_of (get_or ns 0 0); run = get_or ns 1 0 }

-- ---- zero, tracked, tare, the tracking counter
abbrev pub weighing_rows : List Place
weighing_rows = row 44 4 ∷ row 48 4 ∷ row 52 4 ∷ row 56 2 ∷ []

abbrev pub weighing_numbers : Weighing → List ℕ
weighing_numbers w = coded w32 w.zero ∷ coded w32 w.tracked ∷ coded w32 w.tare ∷ w.counter ∷ []

abbrev pub weighing_of : List ℕ → Weighing
weighing_of ns = record {
  zero = signed w32 (get_or ns 0 0);
  tracked = signed w32 (get_or ns 1 0);
  tare = signed w32 (get_or ns 2 0);
  counter = get_or ns 3 0;
}

-- ---- the displayed weight
abbrev pub panel_rows : List Place
panel_rows = row 58 1 ∷ []

abbrev pub panel_numbers : Panel → List ℕ
panel_numbers p = display_number p.display ∷ []

abbrev pub panel_of : List ℕ → Panel
panel_of ns = record { display = display_of (get_or ns 0 0) }

-- ---- seven numbers of four bytes, one behind the other: so setpoints stand, in use and waiting
abbrev pub seven_rows : ℕ → List Place
seven_rows at = row at 4 ∷ row (at + 4) 4 ∷ row (at + 8) 4 ∷ row (at + 12) 4 ∷ row (at + 16) 4 ∷ row (at + 20) 4 ∷ row (at + 24) 4 ∷ []

-- ---- setpoints in use: F, FF, P, OP, over, under, near zero
abbrev pub setpoint_rows : List Place
setpoint_rows = row 60 4 ∷ row 64 4 ∷ row 68 4 ∷ row 72 4 ∷ row 76 4 ∷ row 80 4 ∷ row 84 4 ∷ []

abbrev pub setpoint_numbers : Setpoints → List ℕ
setpoint_numbers p = p.target ∷ p.fall ∷ p.preliminary ∷ p.optional ∷ p.over ∷ p.under ∷ p.near ∷ []

abbrev pub setpoints_of : List ℕ → Setpoints
setpoints_of ns = record {
  target = get_or ns 0 0;
  fall = get_or ns 1 0;
  preliminary = get_or ns 2 0;
  optional = get_or ns 3 0;
  over = get_or ns 4 0;
  under = get_or ns 5 0;
  near = get_or ns 6 0;
}

-- ---- the sequence: stage, its timer, the clock, error, judgement
abbrev pub sequence_rows : List Place
sequence_rows = row 88 1 ∷ row 90 2 ∷ row 92 2 ∷ row 94 1 ∷ row 95 1 ∷ []

abbrev pub sequence_numbers : Sequence → List ℕ
sequence_numbers q = stage_number q.stage ∷ stage_timer q.stage ∷ q.clock ∷ error_number q.error ∷ judgement_number q.judgement ∷ []

abbrev pub sequence_of : List ℕ → Sequence
sequence_of ns = record {
  stage = stage_of (get_or ns 0 0) (get_or ns 1 0);
  clock = get_or ns 2 0;
  error = error_of (get_or ns 3 0);
  judgement = judgement_of (get_or ns 4 0);
}

-- ---- totals: total, count, whether a batch can be taken back, its weight
abbrev pub totals_rows : List Place
totals_rows = row 96 8 ∷ row 104 4 ∷ row 108 1 ∷ row 112 8 ∷ []

abbrev pub totals_numbers : Totals → List ℕ
totals_numbers t = t.total ∷ t.count ∷ back_tag t.back ∷ back_weight t.back ∷ []

abbrev pub totals_of : List ℕ → Totals
totals_of ns = record { total = get_or ns 0 0; count = get_or ns 1 0; back = back_of (get_or ns 2 0) (get_or ns 3 0) }

-- ---- A5: whether setpoints are waiting; F, FF, P, OP, over, under, near zero
abbrev pub waiting_rows : List Place
waiting_rows = row 256 1 ∷ row 260 4 ∷ row 264 4 ∷ row 268 4 ∷ row 272 4 ∷ row 276 4 ∷ row 280 4 ∷ row 284 4 ∷ []

abbrev pub waiting_numbers : Option Setpoints → List ℕ
waiting_numbers w = write_tag w ∷ setpoint_numbers (write_points w)

abbrev pub waiting_of : List ℕ → Option Setpoints
waiting_of ns = write_of (get_or ns 0 0) (setpoints_of (drop 1 ns))

-- ---- the whole
abbrev pub state_rows : List Place
state_rows = book_rows ++ stability_rows ++ weighing_rows ++ panel_rows ++ setpoint_rows ++ sequence_rows ++ totals_rows ++ waiting_rows

abbrev pub state_numbers : State → List ℕ
state_numbers st =
    book_numbers st.book ++ stability_numbers st.stability ++ weighing_numbers st.weighing ++ panel_numbers st.panel
    ++ setpoint_numbers st.setpoints ++ sequence_numbers st.sequence ++ totals_numbers st.totals ++ waiting_numbers st.waiting

-- "fixed places, big-endian, unused bytes 0"
unfoldable pub put_state : State → List ℕ → List ℕ
put_state st l = put_all state_rows (state_numbers st) l

unfoldable pub image_of : State → List ℕ
image_of st = put_state st (replicate state_length 0)

-- what stands at the places of any bytes, part by part
unfoldable pub state_at : List ℕ → State
state_at l = record {
  book = book_of (get_all book_rows l);
  stability = stability_of (get_all stability_rows l);
  weighing = weighing_of (get_all weighing_rows l);
  panel = panel_of (get_all panel_rows l);
  setpoints = setpoints_of (get_all setpoint_rows l);
  sequence = sequence_of (get_all sequence_rows l);
  totals = totals_of (get_all totals_rows l);
  waiting = waiting_of (get_all waiting_rows l);
}
