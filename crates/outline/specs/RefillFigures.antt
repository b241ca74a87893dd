-- Worked by hand from request A2 and the outline's day book: what the book has after each tick. Under settings A raw is the count.
-- Statements; they are computed in proofs/RefillFigures.antt.
use Rattle.std.specs.Prelude.{ℕ, ◌≡◌, Bool, true, false, List, [], ◌∷◌, ℤ, pos, Option, None, Some}
use Rattle.types.specs.declared.daybook.Book.{Book}
use Rattle.types.specs.declared.requests.Request.TheVariants as request
use Rattle.types.specs.declared.machine.State.{State}
use Rattle.types.specs.declared.machine.Input.{Input}
use Rattle.outline.specs.Parts.{with_book}
use Rattle.outline.specs.Tick.{open_state, tick_of}
use Rattle.outline.specs.Numbers.{closed_values}
use Rattle.outline.specs.Figures.{minus, settings_a}

-- ---- ticks: with the contact open, with it closed; a day close in each of them; a bad tick, and a day close in one
abbrev pub draw : ℤ → Input
draw count = record { count = count; contact = false; request = None }

abbrev pub fill : ℤ → Input
fill count = record { count = count; contact = true; request = None }

abbrev pub close : ℤ → Input
close count = record { count = count; contact = false; request = Some request.DayClose }

abbrev pub close_filling : ℤ → Input
close_filling count = record { count = count; contact = true; request = Some request.DayClose }

abbrev pub bad : Bool → Input
bad contact = record { count = pos 2000001; contact = contact; request = None }

abbrev pub bad_close : Bool → Input
bad_close contact = record { count = pos 2000001; contact = contact; request = Some request.DayClose }

-- ---- what stands in the book, in the order of a ticket: opening, refilled, used, unbooked, last or closing
abbrev pub row : ℤ → ℤ → ℤ → ℤ → ℤ → List ℤ
row opening refilled used unbooked last = opening ∷ refilled ∷ used ∷ unbooked ∷ last ∷ []

-- the day that a tick closed, before what it leaves
abbrev pub ended : Option Book → List (List ℤ) → List (List ℤ)
ended None rows = rows
ended (Some b) rows = closed_values (Some b) ∷ rows

-- after each tick what stands in the book, and before it the day that the tick closed
abbrev pub rows_of : State → List Input → List (List ℤ)
rows_of st [] = []
rows_of st (i ∷ l) =
    let tick = tick_of settings_a st i in
    ended tick.answer.closed (closed_values (Some tick.state.book) ∷ rows_of tick.state l)

-- after each tick the ticks of its day
abbrev pub ticks_in : State → List Input → List ℕ
ticks_in st [] = []
ticks_in st (i ∷ l) =
    let tick = tick_of settings_a st i in
    tick.state.book.ticks ∷ ticks_in tick.state l

-- a day of so many ticks, filled from 0 to 100, with the contact of its last good tick
abbrev pub late : Bool → ℕ → State
late contact n = with_book open_state (record {
  begun = true;
  contact = contact;
  opening = pos 0;
  last = pos 100;
  refilled = pos 100;
  used = pos 0;
  unbooked = pos 0;
  ticks = n;
})

-- as many ticks as are booked in a day, all of them bad
abbrev pub unbegun : State
unbegun = with_book open_state (record {
  begun = false;
  contact = false;
  opening = pos 0;
  last = pos 0;
  refilled = pos 0;
  used = pos 0;
  unbooked = pos 0;
  ticks = 8640000;
})

pub record Refills : Type 0 where
  -- the outline's ticket, and a tick of the next day
  pub ticket :
      rows_of open_state (draw (pos 0) ∷ draw (minus 30) ∷ fill (pos 100) ∷ close (pos 60) ∷ draw (pos 50) ∷ [])
      ≡ row (pos 0) (pos 0) (pos 0) (pos 0) (pos 0) ∷ row (pos 0) (pos 0) (pos 30) (pos 0) (minus 30)
      ∷ row (pos 0) (pos 130) (pos 30) (pos 0) (pos 100) ∷ row (pos 0) (pos 90) (pos 30) (pos 0) (pos 60)
      ∷ row (pos 60) (pos 0) (pos 0) (pos 0) (pos 60) ∷ row (pos 60) (pos 0) (pos 10) (pos 0) (pos 50) ∷ []
  -- a splash that rises; the tick after it is use again
  pub rising :
      rows_of open_state (draw (pos 1000) ∷ fill (pos 1500) ∷ draw (pos 1537) ∷ draw (pos 1526) ∷ draw (pos 1523) ∷ [])
      ≡ row (pos 1000) (pos 0) (pos 0) (pos 0) (pos 1000) ∷ row (pos 1000) (pos 500) (pos 0) (pos 0) (pos 1500)
      ∷ row (pos 1000) (pos 537) (pos 0) (pos 0) (pos 1537) ∷ row (pos 1000) (pos 537) (pos 11) (pos 0) (pos 1526)
      ∷ row (pos 1000) (pos 537) (pos 14) (pos 0) (pos 1523) ∷ []
  -- a valve that opens again
  pub reopened :
      rows_of open_state (fill (pos 200) ∷ draw (pos 203) ∷ fill (pos 220) ∷ draw (pos 209) ∷ draw (pos 258) ∷ [])
      ≡ row (pos 200) (pos 0) (pos 0) (pos 0) (pos 200) ∷ row (pos 200) (pos 3) (pos 0) (pos 0) (pos 203)
      ∷ row (pos 200) (pos 20) (pos 0) (pos 0) (pos 220) ∷ row (pos 200) (pos 9) (pos 0) (pos 0) (pos 209)
      ∷ row (pos 200) (pos 9) (minus 49) (pos 0) (pos 258) ∷ []
  -- "the last good one": bad ticks lie between, the last of them with the contact open
  pub over-bad :
      rows_of open_state (fill (pos 700) ∷ bad true ∷ bad false ∷ draw (pos 663) ∷ draw (pos 656) ∷ [])
      ≡ row (pos 700) (pos 0) (pos 0) (pos 0) (pos 700) ∷ row (pos 700) (pos 0) (pos 0) (pos 0) (pos 700)
      ∷ row (pos 700) (pos 0) (pos 0) (pos 0) (pos 700) ∷ row (pos 700) (minus 37) (pos 0) (pos 0) (pos 663)
      ∷ row (pos 700) (minus 37) (pos 7) (pos 0) (pos 656) ∷ []
  -- the same with the last of them closed, and a closed one between two good ticks that are open
  pub over-bad-closed :
      rows_of open_state (fill (pos 700) ∷ bad false ∷ bad true ∷ draw (pos 711) ∷ bad true ∷ draw (pos 692) ∷ [])
      ≡ row (pos 700) (pos 0) (pos 0) (pos 0) (pos 700) ∷ row (pos 700) (pos 0) (pos 0) (pos 0) (pos 700)
      ∷ row (pos 700) (pos 0) (pos 0) (pos 0) (pos 700) ∷ row (pos 700) (pos 11) (pos 0) (pos 0) (pos 711)
      ∷ row (pos 700) (pos 11) (pos 0) (pos 0) (pos 711) ∷ row (pos 700) (pos 11) (pos 19) (pos 0) (pos 692) ∷ []
  -- closed at bad ticks alone
  pub bad-closed :
      rows_of open_state (draw (pos 800) ∷ bad true ∷ bad true ∷ draw (pos 777) ∷ draw (pos 782) ∷ [])
      ≡ row (pos 800) (pos 0) (pos 0) (pos 0) (pos 800) ∷ row (pos 800) (pos 0) (pos 0) (pos 0) (pos 800)
      ∷ row (pos 800) (pos 0) (pos 0) (pos 0) (pos 800) ∷ row (pos 800) (pos 0) (pos 23) (pos 0) (pos 777)
      ∷ row (pos 800) (pos 0) (pos 18) (pos 0) (pos 782) ∷ []
  -- "also across a day close": the last closed tick closes the day
  pub close-filling :
      rows_of open_state (draw (pos 100) ∷ fill (pos 350) ∷ close_filling (pos 410) ∷ draw (pos 397) ∷ draw (pos 391) ∷ [])
      ≡ row (pos 100) (pos 0) (pos 0) (pos 0) (pos 100) ∷ row (pos 100) (pos 250) (pos 0) (pos 0) (pos 350)
      ∷ row (pos 100) (pos 310) (pos 0) (pos 0) (pos 410) ∷ row (pos 410) (pos 0) (pos 0) (pos 0) (pos 410)
      ∷ row (pos 410) (minus 13) (pos 0) (pos 0) (pos 397) ∷ row (pos 410) (minus 13) (pos 6) (pos 0) (pos 391) ∷ []
  -- bad ticks after such a close
  pub close-then-bad :
      rows_of open_state (draw (pos 100) ∷ close_filling (pos 260) ∷ bad false ∷ bad false ∷ draw (pos 231) ∷ draw (pos 226) ∷ [])
      ≡ row (pos 100) (pos 0) (pos 0) (pos 0) (pos 100) ∷ row (pos 100) (pos 160) (pos 0) (pos 0) (pos 260)
      ∷ row (pos 260) (pos 0) (pos 0) (pos 0) (pos 260) ∷ row (pos 260) (pos 0) (pos 0) (pos 0) (pos 260)
      ∷ row (pos 260) (pos 0) (pos 0) (pos 0) (pos 260) ∷ row (pos 260) (minus 29) (pos 0) (pos 0) (pos 231)
      ∷ row (pos 260) (minus 29) (pos 5) (pos 0) (pos 226) ∷ []
  -- the day closed in the tick of the splash
  pub close-in-splash :
      rows_of open_state (draw (pos 50) ∷ fill (pos 170) ∷ close (pos 151) ∷ draw (pos 144) ∷ [])
      ≡ row (pos 50) (pos 0) (pos 0) (pos 0) (pos 50) ∷ row (pos 50) (pos 120) (pos 0) (pos 0) (pos 170)
      ∷ row (pos 50) (pos 101) (pos 0) (pos 0) (pos 151) ∷ row (pos 151) (pos 0) (pos 0) (pos 0) (pos 151)
      ∷ row (pos 151) (pos 0) (pos 7) (pos 0) (pos 144) ∷ []
  -- the first good tick is closed
  pub first-filling :
      rows_of open_state (fill (pos 300) ∷ draw (pos 284) ∷ draw (pos 275) ∷ [])
      ≡ row (pos 300) (pos 0) (pos 0) (pos 0) (pos 300) ∷ row (pos 300) (minus 16) (pos 0) (pos 0) (pos 284)
      ∷ row (pos 300) (minus 16) (pos 9) (pos 0) (pos 275) ∷ []
  -- closed at bad ticks before the first good one
  pub bad-before-first :
      rows_of open_state (bad true ∷ bad true ∷ draw (pos 640) ∷ draw (pos 627) ∷ [])
      ≡ row (pos 0) (pos 0) (pos 0) (pos 0) (pos 0) ∷ row (pos 0) (pos 0) (pos 0) (pos 0) (pos 0)
      ∷ row (pos 640) (pos 0) (pos 0) (pos 0) (pos 640) ∷ row (pos 640) (pos 0) (pos 13) (pos 0) (pos 627) ∷ []
  -- a day close that is refused, in a bad tick that is closed
  pub refused-close :
      rows_of open_state (draw (pos 90) ∷ fill (pos 210) ∷ bad_close true ∷ draw (pos 196) ∷ draw (pos 193) ∷ [])
      ≡ row (pos 90) (pos 0) (pos 0) (pos 0) (pos 90) ∷ row (pos 90) (pos 120) (pos 0) (pos 0) (pos 210)
      ∷ row (pos 90) (pos 120) (pos 0) (pos 0) (pos 210) ∷ row (pos 90) (pos 106) (pos 0) (pos 0) (pos 196)
      ∷ row (pos 90) (pos 106) (pos 3) (pos 0) (pos 193) ∷ []
  -- the same between two open ticks
  pub refused-close-open :
      rows_of open_state (draw (pos 90) ∷ bad_close true ∷ draw (pos 79) ∷ [])
      ≡ row (pos 90) (pos 0) (pos 0) (pos 0) (pos 90) ∷ row (pos 90) (pos 0) (pos 0) (pos 0) (pos 90)
      ∷ row (pos 90) (pos 0) (pos 11) (pos 0) (pos 79) ∷ []
  -- the first good tick of all is closed and closes the day; so does the splash
  pub close-first :
      rows_of open_state (close_filling (pos 300) ∷ close (pos 290) ∷ draw (pos 286) ∷ [])
      ≡ row (pos 300) (pos 0) (pos 0) (pos 0) (pos 300) ∷ row (pos 300) (pos 0) (pos 0) (pos 0) (pos 300)
      ∷ row (pos 300) (minus 10) (pos 0) (pos 0) (pos 290) ∷ row (pos 290) (pos 0) (pos 0) (pos 0) (pos 290)
      ∷ row (pos 290) (pos 0) (pos 4) (pos 0) (pos 286) ∷ []
  -- the 8,640,000th tick books a splash, the next ones book nothing; the contact is still noted, for the splash after the close
  pub past_limit :
      rows_of (late false 8639998) (fill (pos 150) ∷ draw (pos 143) ∷ draw (pos 130) ∷ fill (pos 170) ∷ draw (pos 167)
      ∷ close_filling (pos 172) ∷ draw (pos 161) ∷ draw (pos 159) ∷ [])
      ≡ row (pos 0) (pos 150) (pos 0) (pos 0) (pos 150) ∷ row (pos 0) (pos 143) (pos 0) (pos 0) (pos 143)
      ∷ row (pos 0) (pos 143) (pos 0) (pos 13) (pos 130) ∷ row (pos 0) (pos 143) (pos 0) (minus 27) (pos 170)
      ∷ row (pos 0) (pos 143) (pos 0) (minus 24) (pos 167) ∷ row (pos 0) (pos 143) (pos 0) (minus 29) (pos 172)
      ∷ row (pos 172) (pos 0) (pos 0) (pos 0) (pos 172) ∷ row (pos 172) (minus 11) (pos 0) (pos 0) (pos 161)
      ∷ row (pos 172) (minus 11) (pos 2) (pos 0) (pos 159) ∷ []
  -- closed at the 8,640,000th tick: what changes in the next is unbooked all the same
  pub filling-at-limit :
      rows_of (late false 8639998) (draw (pos 94) ∷ fill (pos 143) ∷ draw (pos 130) ∷ fill (pos 170) ∷ draw (pos 167)
      ∷ close_filling (pos 172) ∷ draw (pos 161) ∷ draw (pos 159) ∷ [])
      ≡ row (pos 0) (pos 100) (pos 6) (pos 0) (pos 94) ∷ row (pos 0) (pos 149) (pos 6) (pos 0) (pos 143)
      ∷ row (pos 0) (pos 149) (pos 6) (pos 13) (pos 130) ∷ row (pos 0) (pos 149) (pos 6) (minus 27) (pos 170)
      ∷ row (pos 0) (pos 149) (pos 6) (minus 24) (pos 167) ∷ row (pos 0) (pos 149) (pos 6) (minus 29) (pos 172)
      ∷ row (pos 172) (pos 0) (pos 0) (pos 0) (pos 172) ∷ row (pos 172) (minus 11) (pos 0) (pos 0) (pos 161)
      ∷ row (pos 172) (minus 11) (pos 2) (pos 0) (pos 159) ∷ []
  -- the contact opens past the limit, and that is noted too
  pub open-past-limit :
      rows_of (late false 8639998) (draw (pos 94) ∷ fill (pos 143) ∷ draw (pos 130) ∷ close (pos 122) ∷ draw (pos 105) ∷ [])
      ≡ row (pos 0) (pos 100) (pos 6) (pos 0) (pos 94) ∷ row (pos 0) (pos 149) (pos 6) (pos 0) (pos 143)
      ∷ row (pos 0) (pos 149) (pos 6) (pos 13) (pos 130) ∷ row (pos 0) (pos 149) (pos 6) (pos 21) (pos 122)
      ∷ row (pos 122) (pos 0) (pos 0) (pos 0) (pos 122) ∷ row (pos 122) (pos 0) (pos 17) (pos 0) (pos 105) ∷ []
  -- a bad tick is the last that is booked
  pub limit-by-bad :
      rows_of (late true 8639999) (bad false ∷ fill (pos 88) ∷ bad_close true ∷ close (pos 93) ∷ draw (pos 84) ∷ [])
      ≡ row (pos 0) (pos 100) (pos 0) (pos 0) (pos 100) ∷ row (pos 0) (pos 100) (pos 0) (pos 12) (pos 88)
      ∷ row (pos 0) (pos 100) (pos 0) (pos 12) (pos 88) ∷ row (pos 0) (pos 100) (pos 0) (pos 7) (pos 93)
      ∷ row (pos 93) (pos 0) (pos 0) (pos 0) (pos 93) ∷ row (pos 93) (pos 0) (pos 9) (pos 0) (pos 84) ∷ []
  -- the first good tick of all comes past the limit, and its contact is noted
  pub first-past-limit :
      rows_of unbegun (fill (pos 400) ∷ draw (pos 389) ∷ close (pos 396) ∷ draw (pos 393) ∷ [])
      ≡ row (pos 400) (pos 0) (pos 0) (pos 0) (pos 400) ∷ row (pos 400) (pos 0) (pos 0) (pos 11) (pos 389)
      ∷ row (pos 400) (pos 0) (pos 0) (pos 4) (pos 396) ∷ row (pos 396) (pos 0) (pos 0) (pos 0) (pos 396)
      ∷ row (pos 396) (pos 0) (pos 3) (pos 0) (pos 393) ∷ []
  -- the 8,640,000th tick closes the day
  pub close-at-limit :
      rows_of (late false 8639999) (close (pos 77) ∷ draw (pos 70) ∷ [])
      ≡ row (pos 0) (pos 100) (pos 23) (pos 0) (pos 77) ∷ row (pos 77) (pos 0) (pos 0) (pos 0) (pos 77)
      ∷ row (pos 77) (pos 0) (pos 7) (pos 0) (pos 70) ∷ []
  -- closed at a bad tick after a close with the contact open
  pub close_open :
      rows_of open_state (draw (pos 100) ∷ close (pos 140) ∷ bad true ∷ draw (pos 129) ∷ [])
      ≡ row (pos 100) (pos 0) (pos 0) (pos 0) (pos 100) ∷ row (pos 100) (pos 0) (minus 40) (pos 0) (pos 140)
      ∷ row (pos 140) (pos 0) (pos 0) (pos 0) (pos 140) ∷ row (pos 140) (pos 0) (pos 0) (pos 0) (pos 140)
      ∷ row (pos 140) (pos 0) (pos 11) (pos 0) (pos 129) ∷ []
  -- overloaded ticks, and the last counts that are good on either side
  pub overloaded :
      rows_of open_state (draw (pos 1000) ∷ fill (pos 150000) ∷ close (pos 149980) ∷ draw (pos 2000000) ∷ fill (minus 2000000)
      ∷ draw (minus 2000001) ∷ draw (minus 1999990) ∷ [])
      ≡ row (pos 1000) (pos 0) (pos 0) (pos 0) (pos 1000) ∷ row (pos 1000) (pos 149000) (pos 0) (pos 0) (pos 150000)
      ∷ row (pos 1000) (pos 148980) (pos 0) (pos 0) (pos 149980) ∷ row (pos 149980) (pos 0) (pos 0) (pos 0) (pos 149980)
      ∷ row (pos 149980) (pos 0) (minus 1850020) (pos 0) (pos 2000000)
      ∷ row (pos 149980) (minus 4000000) (minus 1850020) (pos 0) (minus 2000000)
      ∷ row (pos 149980) (minus 4000000) (minus 1850020) (pos 0) (minus 2000000)
      ∷ row (pos 149980) (minus 3999990) (minus 1850020) (pos 0) (minus 1999990) ∷ []
  -- a tick without a change notes its contact too
  pub unchanged :
      rows_of open_state (draw (pos 500) ∷ fill (pos 500) ∷ draw (pos 488) ∷ draw (pos 488) ∷ draw (pos 481) ∷ fill (pos 490)
      ∷ draw (pos 490) ∷ draw (pos 486) ∷ [])
      ≡ row (pos 500) (pos 0) (pos 0) (pos 0) (pos 500) ∷ row (pos 500) (pos 0) (pos 0) (pos 0) (pos 500)
      ∷ row (pos 500) (minus 12) (pos 0) (pos 0) (pos 488) ∷ row (pos 500) (minus 12) (pos 0) (pos 0) (pos 488)
      ∷ row (pos 500) (minus 12) (pos 7) (pos 0) (pos 481) ∷ row (pos 500) (minus 3) (pos 7) (pos 0) (pos 490)
      ∷ row (pos 500) (minus 3) (pos 7) (pos 0) (pos 490) ∷ row (pos 500) (minus 3) (pos 11) (pos 0) (pos 486) ∷ []
  -- falls while the contact is closed are refilled, negative
  pub falling :
      rows_of open_state (draw (pos 600) ∷ fill (pos 588) ∷ fill (pos 571) ∷ draw (pos 593) ∷ draw (pos 601) ∷ [])
      ≡ row (pos 600) (pos 0) (pos 0) (pos 0) (pos 600) ∷ row (pos 600) (minus 12) (pos 0) (pos 0) (pos 588)
      ∷ row (pos 600) (minus 29) (pos 0) (pos 0) (pos 571) ∷ row (pos 600) (minus 7) (pos 0) (pos 0) (pos 593)
      ∷ row (pos 600) (minus 7) (minus 8) (pos 0) (pos 601) ∷ []
  -- the first good tick of all comes past the limit, is closed and closes the day
  pub close-late-first :
      rows_of unbegun (close_filling (pos 400) ∷ draw (pos 387) ∷ draw (pos 384) ∷ [])
      ≡ row (pos 400) (pos 0) (pos 0) (pos 0) (pos 400) ∷ row (pos 400) (pos 0) (pos 0) (pos 0) (pos 400)
      ∷ row (pos 400) (minus 13) (pos 0) (pos 0) (pos 387) ∷ row (pos 400) (minus 13) (pos 3) (pos 0) (pos 384) ∷ []
  -- the day's ticks: bad ones before the first good one count, a close begins at 0, and none counts past the limit
  pub ticks :
      ticks_in open_state (bad true ∷ draw (pos 640) ∷ draw (pos 627) ∷ bad false ∷ close_filling (pos 620) ∷ bad false ∷ [])
      ≡ 1 ∷ 2 ∷ 3 ∷ 4 ∷ 0 ∷ 1 ∷ []
  pub late_ticks : ticks_in (late true 8639999) (draw (pos 90) ∷ fill (pos 80) ∷ bad true ∷ []) ≡ 8640000 ∷ 8640000 ∷ 8640000 ∷ []
