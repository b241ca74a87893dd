-- Figures of images, worked out by hand from the request, the readings and docs/IMAGES.md before any definition was seen. They are proved
-- in proofs/, and `every_image` has them as its `ensures`.
use Rattle.std.specs.Prelude.{ℕ, ◌≡◌, Bool, true, false, ℤ, pos, set, replicate, None, Some}
use mathlib.Core.List.{List, [], ◌∷◌, foldl}
use Rattle.outline.specs.Figures.{minus, list_a, given_of}
use Rattle.types.specs.declared.settings.Given.{Given}
use Rattle.types.specs.declared.weight.Display.TheVariants as display
use Rattle.types.specs.declared.stages.Stage.{Stage}
use Rattle.types.specs.declared.stages.Stage.TheVariants as stage
use Rattle.types.specs.declared.stages.Setpoints.{Setpoints}
use Rattle.types.specs.declared.stages.SequenceError.{SequenceError}
use Rattle.types.specs.declared.stages.SequenceError.TheVariants as error
use Rattle.types.specs.declared.stages.Judgement.{Judgement}
use Rattle.types.specs.declared.stages.Judgement.TheVariants as judgement
use Rattle.types.specs.declared.stages.Totals.{Totals}
use Rattle.types.specs.declared.daybook.Book.{Book}
use Rattle.types.specs.declared.machine.State.{State}
use Rattle.outline.specs.Settings.{settings_of}
use Rattle.outline.specs.Setpoints.{none_waiting, waiting_for}
use Rattle.outline.specs.Parts.{with_waiting}
use Rattle.outline.specs.Tick.{open_state}
use Rattle.images.specs.StateImage.{state_length, image_of, state_at, grown_of}
use Rattle.images.specs.Images.{earlier_refusal}
use Rattle.images.specs.GivenImage.{given_length, given_image}
use Rattle.images.specs.Possible.{possible}

-- so many bytes, all 0 but those listed with their place
pub record At : Type 0 where
  pub place : ℕ
  pub byte : ℕ

abbrev pub at : ℕ → ℕ → At
at p b = record { place = p; byte = b }

abbrev pub set_at : List ℕ → At → List ℕ
set_at l b = set l b.place b.byte

abbrev pub bytes_of : ℕ → List At → List ℕ
bytes_of n bs = foldl set_at (replicate n 0) bs

-- ---- settings: A of the outline, whose discharge lasts 0, 0 and 1 ticks at most here; and B
abbrev pub given_a : Given
given_a = given_of (set list_a 24 (pos 1))

abbrev pub given_b : Given
given_b = given_of (
    minus 1000 ∷ pos 99000 ∷ pos 10000 ∷ pos 10000 ∷ pos 5 ∷ pos 2 ∷ pos 100 ∷ pos 5 ∷ pos 20 ∷ pos 300 ∷ pos 2 ∷ pos 1
    ∷ pos 50 ∷ pos 30 ∷ pos 300 ∷ pos 40 ∷ pos 70 ∷ pos 60000 ∷ pos 7 ∷ pos 1 ∷ pos 0 ∷ pos 16000
    ∷ pos 260 ∷ pos 9999 ∷ pos 60000 ∷ [])

-- A in mode 2, and A with tracking off
abbrev pub given_loss : Given
given_loss = given_of (set (set list_a 24 (pos 1)) 11 (pos 2))

abbrev pub given_off : Given
given_off = given_of (set (set list_a 24 (pos 1)) 6 (pos 0))

-- a batch under settings B, in 06 of a day whose ticks are all booked; setpoints are waiting
abbrev pub mid : State
mid = record {
  book = record {
    opening = minus 1234567;
    last = pos 19448;
    refilled = minus 9873789195;
    used = minus 9876543210;
    unbooked = pos 1500000;
    ticks = 8640000;
    begun = true;
    contact = true;
  };
  stability = record { good = true; run = 299 };
  weighing = record { zero = minus 12; tracked = minus 3; tare = pos 1230; counter = 0 };
  panel = record { display = display.Net };
  setpoints = record { target = 30000; fall = 200; preliminary = 5000; optional = 25000; over = 100; under = 150; near = 400 };
  waiting = waiting_for (record { target = 70000; fall = 301; preliminary = 6000; optional = 45000; over = 258; under = 7; near = 1000 });
  sequence = record { stage = stage.MediumDisable 299; clock = 4660; error = error.None; judgement = judgement.None };
  totals = record { total = 99999999; count = 12345678; back = Some 77777777 };
}

abbrev pub mid_bytes : List At
mid_bytes =
    at 0 255 ∷ at 1 237 ∷ at 2 41 ∷ at 3 121 ∷ at 6 75 ∷ at 7 248 ∷ at 8 255 ∷ at 9 255 ∷ at 10 255 ∷ at 11 253 ∷ at 12 179 ∷ at 13 121
    ∷ at 14 238 ∷ at 15 245 ∷ at 16 255 ∷ at 17 255 ∷ at 18 255 ∷ at 19 253 ∷ at 20 179 ∷ at 21 79 ∷ at 22 233 ∷ at 23 22
    ∷ at 29 22 ∷ at 30 227
    ∷ at 31 96 ∷ at 33 131 ∷ at 34 214 ∷ at 36 1 ∷ at 37 1 ∷ at 40 1 ∷ at 42 1 ∷ at 43 43 ∷ at 44 255 ∷ at 45 255 ∷ at 46 255 ∷ at 47 244
    ∷ at 48 255 ∷ at 49 255 ∷ at 50 255 ∷ at 51 253 ∷ at 54 4 ∷ at 55 206 ∷ at 58 1 ∷ at 62 117 ∷ at 63 48 ∷ at 67 200 ∷ at 70 19
    ∷ at 71 136
    ∷ at 74 97 ∷ at 75 168 ∷ at 79 100 ∷ at 83 150 ∷ at 86 1 ∷ at 87 144 ∷ at 88 6 ∷ at 90 1 ∷ at 91 43 ∷ at 92 18 ∷ at 93 52 ∷ at 100 5
    ∷ at 101 245 ∷ at 102 224 ∷ at 103 255 ∷ at 105 188 ∷ at 106 97 ∷ at 107 78 ∷ at 108 1 ∷ at 116 4 ∷ at 117 162 ∷ at 118 203
    ∷ at 119 113 ∷ at 256 1
    ∷ at 261 1 ∷ at 262 17 ∷ at 263 112 ∷ at 266 1 ∷ at 267 45 ∷ at 270 23 ∷ at 271 112 ∷ at 274 175 ∷ at 275 200 ∷ at 278 1
    ∷ at 279 2 ∷ at 283 7
    ∷ at 286 3 ∷ at 287 232 ∷ []

-- a batch in 09, many fields at the end of their range
abbrev pub feeding : State
feeding = record {
  book = record {
    opening = pos 65535;
    last = minus 65536;
    refilled = pos 0;
    used = pos 131071;
    unbooked = pos 0;
    ticks = 65536;
    begun = true;
    contact = false;
  };
  stability = record { good = true; run = 0 };
  weighing = record { zero = pos 2000; tracked = pos 20; tare = pos 9999; counter = 0 };
  panel = record { display = display.Net };
  setpoints = record { target = 999999; fall = 0; preliminary = 1; optional = 0; over = 999999; under = 0; near = 999999 };
  waiting = none_waiting;
  sequence = record { stage = stage.SmallFlow; clock = 6000; error = error.None; judgement = judgement.None };
  totals = record { total = 0; count = 0; back = None };
}

abbrev pub feeding_bytes : List At
feeding_bytes =
    at 2 255 ∷ at 3 255 ∷ at 4 255 ∷ at 5 255 ∷ at 21 1 ∷ at 22 255 ∷ at 23 255 ∷ at 33 1 ∷ at 36 1 ∷ at 40 1 ∷ at 46 7 ∷ at 47 208
    ∷ at 51 20 ∷ at 54 39 ∷ at 55 15 ∷ at 58 1 ∷ at 61 15 ∷ at 62 66 ∷ at 63 63 ∷ at 71 1 ∷ at 77 15 ∷ at 78 66 ∷ at 79 63 ∷ at 85 15
    ∷ at 86 66 ∷ at 87 63 ∷ at 88 9 ∷ at 92 23 ∷ at 93 112 ∷ []

-- stage 00 with a batch that can be taken back
abbrev pub idle : State
idle = record {
  book = record {
    opening = minus 300;
    last = minus 7;
    refilled = pos 1000;
    used = pos 707;
    unbooked = pos 0;
    ticks = 4321;
    begun = true;
    contact = false;
  };
  stability = record { good = true; run = 100 };
  weighing = record { zero = minus 12; tracked = minus 12; tare = pos 0; counter = 99 };
  panel = record { display = display.Gross };
  setpoints = record { target = 1000; fall = 20; preliminary = 0; optional = 300; over = 5; under = 5; near = 10 };
  waiting = none_waiting;
  sequence = record { stage = stage.Idle; clock = 0; error = error.None; judgement = judgement.Ok };
  totals = record { total = 123456; count = 3; back = Some 1003 };
}

abbrev pub idle_bytes : List At
idle_bytes =
    at 0 255 ∷ at 1 255 ∷ at 2 254 ∷ at 3 212 ∷ at 4 255 ∷ at 5 255 ∷ at 6 255 ∷ at 7 249 ∷ at 14 3 ∷ at 15 232 ∷ at 22 2 ∷ at 23 195
    ∷ at 34 16 ∷ at 35 225 ∷ at 36 1 ∷ at 40 1 ∷ at 43 100 ∷ at 44 255 ∷ at 45 255 ∷ at 46 255 ∷ at 47 244 ∷ at 48 255 ∷ at 49 255
    ∷ at 50 255
    ∷ at 51 244 ∷ at 57 99 ∷ at 62 3 ∷ at 63 232 ∷ at 67 20 ∷ at 74 1 ∷ at 75 44 ∷ at 79 5 ∷ at 83 5 ∷ at 87 10 ∷ at 95 1 ∷ at 101 1
    ∷ at 102 226 ∷ at 103 64 ∷ at 107 3 ∷ at 108 1 ∷ at 118 3 ∷ at 119 235 ∷ []

-- a discharge that failed with error 8
abbrev pub failed : State
failed = record {
  book = record {
    opening = pos 50000;
    last = pos 50003;
    refilled = pos 0;
    used = minus 3;
    unbooked = pos 0;
    ticks = 431;
    begun = true;
    contact = false;
  };
  stability = record { good = true; run = 100 };
  weighing = record { zero = pos 0; tracked = pos 0; tare = pos 10; counter = 0 };
  panel = record { display = display.Gross };
  setpoints = record { target = 5000; fall = 20; preliminary = 0; optional = 300; over = 5; under = 5; near = 100 };
  waiting = none_waiting;
  sequence = record { stage = stage.Idle; clock = 0; error = error.DischargeTime; judgement = judgement.Under };
  totals = record { total = 4990; count = 1; back = Some 4990 };
}

abbrev pub failed_bytes : List At
failed_bytes =
    at 2 195 ∷ at 3 80 ∷ at 6 195 ∷ at 7 83 ∷ at 16 255 ∷ at 17 255 ∷ at 18 255 ∷ at 19 255 ∷ at 20 255 ∷ at 21 255 ∷ at 22 255 ∷ at 23 253
    ∷ at 34 1 ∷ at 35 175 ∷ at 36 1 ∷ at 40 1 ∷ at 43 100 ∷ at 55 10 ∷ at 62 19 ∷ at 63 136 ∷ at 67 20 ∷ at 74 1 ∷ at 75 44 ∷ at 79 5
    ∷ at 83 5 ∷ at 87 100 ∷ at 94 8 ∷ at 95 3 ∷ at 102 19 ∷ at 103 126 ∷ at 107 1 ∷ at 108 1 ∷ at 118 19 ∷ at 119 126 ∷ []

-- a batch of weight 0 that can be taken back, in a day that a close has just opened
abbrev pub light : State
light = record {
  book = record {
    opening = minus 1;
    last = minus 1;
    refilled = pos 0;
    used = pos 0;
    unbooked = pos 0;
    ticks = 0;
    begun = true;
    contact = false;
  };
  stability = record { good = true; run = 100 };
  weighing = record { zero = pos 0; tracked = pos 0; tare = pos 0; counter = 0 };
  panel = record { display = display.Gross };
  setpoints = record { target = 1; fall = 0; preliminary = 0; optional = 0; over = 0; under = 0; near = 0 };
  waiting = none_waiting;
  sequence = record { stage = stage.Idle; clock = 0; error = error.None; judgement = judgement.Ok };
  totals = record { total = 0; count = 1; back = Some 0 };
}

abbrev pub light_bytes : List At
light_bytes =
    at 0 255 ∷ at 1 255 ∷ at 2 255 ∷ at 3 255 ∷ at 4 255 ∷ at 5 255 ∷ at 6 255 ∷ at 7 255 ∷ at 36 1 ∷ at 40 1 ∷ at 43 100 ∷ at 63 1
    ∷ at 95 1 ∷ at 107 1 ∷ at 108 1 ∷ []

-- a day of bad ticks alone
abbrev pub unweighed : State
unweighed = record {
  book = record {
    opening = pos 0;
    last = pos 0;
    refilled = pos 0;
    used = pos 0;
    unbooked = pos 0;
    ticks = 8640000;
    begun = false;
    contact = false;
  };
  stability = record { good = false; run = 0 };
  weighing = record { zero = pos 0; tracked = pos 0; tare = pos 0; counter = 0 };
  panel = record { display = display.Net };
  setpoints = record { target = 1000; fall = 20; preliminary = 0; optional = 0; over = 0; under = 0; near = 0 };
  waiting = none_waiting;
  sequence = record { stage = stage.Idle; clock = 0; error = error.None; judgement = judgement.None };
  totals = record { total = 0; count = 0; back = None };
}

abbrev pub unweighed_bytes : List At
unweighed_bytes =
    at 33 131 ∷ at 34 214 ∷ at 58 1 ∷ at 62 3 ∷ at 63 232 ∷ at 67 20 ∷ []

abbrev pub a_bytes : List At
a_bytes =
    at 5 1 ∷ at 6 134 ∷ at 7 160 ∷ at 10 39 ∷ at 11 16 ∷ at 14 39 ∷ at 15 16 ∷ at 19 1 ∷ at 23 2 ∷ at 27 100 ∷ at 31 5 ∷ at 35 20
    ∷ at 39 100 ∷ at 43 2 ∷ at 47 1 ∷ at 70 23 ∷ at 71 112 ∷ at 86 39 ∷ at 87 16 ∷ at 99 1 ∷ []

abbrev pub b_bytes : List At
b_bytes =
    at 0 255 ∷ at 1 255 ∷ at 2 252 ∷ at 3 24 ∷ at 5 1 ∷ at 6 130 ∷ at 7 184 ∷ at 10 39 ∷ at 11 16 ∷ at 14 39 ∷ at 15 16 ∷ at 19 5
    ∷ at 23 2 ∷ at 27 100 ∷ at 31 5 ∷ at 35 20 ∷ at 38 1 ∷ at 39 44 ∷ at 43 2 ∷ at 47 1 ∷ at 51 50 ∷ at 55 30 ∷ at 58 1 ∷ at 59 44
    ∷ at 63 40 ∷ at 67 70 ∷ at 70 234 ∷ at 71 96 ∷ at 75 7 ∷ at 79 1 ∷ at 86 62 ∷ at 87 128 ∷ at 90 1 ∷ at 91 4 ∷ at 94 39 ∷ at 95 15
    ∷ at 98 234 ∷ at 99 96 ∷ []

-- ---- images
pub record Imaged : Type 0 where
  pub settings_a_lem : given_image given_a ≡ bytes_of given_length a_bytes
  pub settings_b : given_image given_b ≡ bytes_of given_length b_bytes
  pub opening : image_of open_state ≡ bytes_of state_length []
  pub mid : image_of mid ≡ bytes_of state_length mid_bytes
  pub feeding : image_of feeding ≡ bytes_of state_length feeding_bytes
  pub idle : image_of idle ≡ bytes_of state_length idle_bytes
  pub failed : image_of failed ≡ bytes_of state_length failed_bytes
  pub light : image_of light ≡ bytes_of state_length light_bytes
  pub unweighed : image_of unweighed ≡ bytes_of state_length unweighed_bytes

-- ---- A5: earlier images, 256 of the same bytes, as the program before it wrote them; and of other lengths, and with a byte set that has
-- no place
pub record Earlier : Type 0 where
  pub feeding_read : state_at (bytes_of 256 feeding_bytes) ≡ feeding
  pub feeding_taken : earlier_refusal (bytes_of 256 feeding_bytes) ≡ 0
  pub feeding_grown : grown_of (bytes_of 256 feeding_bytes) ≡ bytes_of 288 feeding_bytes
  pub idle_read : state_at (bytes_of 256 idle_bytes) ≡ idle
  pub idle_taken : earlier_refusal (bytes_of 256 idle_bytes) ≡ 0
  pub idle_grown : grown_of (bytes_of 256 idle_bytes) ≡ bytes_of 288 idle_bytes
  pub one_short : earlier_refusal (bytes_of 255 idle_bytes) ≡ 20
  pub one_more_lem : earlier_refusal (bytes_of 257 idle_bytes) ≡ 20
  pub present : earlier_refusal (bytes_of 288 idle_bytes) ≡ 20
  pub last_unused : earlier_refusal (bytes_of 256 (at 255 1 ∷ idle_bytes)) ≡ 21
  pub no_display : earlier_refusal (bytes_of 256 (at 58 2 ∷ idle_bytes)) ≡ 21

-- ---- verdicts: a state with some fields altered, and whether it is possible
abbrev pub book : State → Book → State
book st b = record {
  book = b;
  stability = st.stability;
  weighing = st.weighing;
  panel = st.panel;
  setpoints = st.setpoints;
  waiting = st.waiting;
  sequence = st.sequence;
  totals = st.totals;
}

abbrev pub steady : State → Bool → ℕ → State
steady st good run = record {
  book = st.book;
  stability = record { good = good; run = run };
  weighing = st.weighing;
  panel = st.panel;
  setpoints = st.setpoints;
  waiting = st.waiting;
  sequence = st.sequence;
  totals = st.totals;
}

abbrev pub weighs : State → ℤ → ℤ → ℤ → ℕ → State
weighs st zero tracked tare counter = record {
  book = st.book;
  stability = st.stability;
  weighing = record { zero = zero; tracked = tracked; tare = tare; counter = counter };
  panel = st.panel;
  setpoints = st.setpoints;
  waiting = st.waiting;
  sequence = st.sequence;
  totals = st.totals;
}

abbrev pub stands : State → Stage → ℕ → SequenceError → Judgement → State
stands st g clock e j = record {
  book = st.book;
  stability = st.stability;
  weighing = st.weighing;
  panel = st.panel;
  setpoints = st.setpoints;
  waiting = st.waiting;
  sequence = record { stage = g; clock = clock; error = e; judgement = j };
  totals = st.totals;
}

abbrev pub aims : State → Setpoints → State
aims st p = record {
  book = st.book;
  stability = st.stability;
  weighing = st.weighing;
  panel = st.panel;
  setpoints = p;
  waiting = st.waiting;
  sequence = st.sequence;
  totals = st.totals;
}

abbrev pub sums : State → Totals → State
sums st t = record {
  book = st.book;
  stability = st.stability;
  weighing = st.weighing;
  panel = st.panel;
  setpoints = st.setpoints;
  waiting = st.waiting;
  sequence = st.sequence;
  totals = t;
}

-- opening, last, refilled, used, unbooked and ticks of a day with good ticks
abbrev pub day : ℤ → ℤ → ℤ → ℤ → ℤ → ℕ → Book
day opening last refilled used unbooked ticks = record {
  opening = opening;
  last = last;
  refilled = refilled;
  used = used;
  unbooked = unbooked;
  ticks = ticks;
  begun = true;
  contact = false;
}

-- the same day, with the contact closed at its last good tick
abbrev pub filling : Book → Book
filling b = record {
  opening = b.opening;
  last = b.last;
  refilled = b.refilled;
  used = b.used;
  unbooked = b.unbooked;
  ticks = b.ticks;
  begun = b.begun;
  contact = true;
}

abbrev pub points : ℕ → ℕ → ℕ → ℕ → Setpoints
points target fall preliminary optional = record {
  target = target;
  fall = fall;
  preliminary = preliminary;
  optional = optional;
  over = 5;
  under = 5;
  near = 10;
}

-- these setpoints wait
abbrev pub waits : State → Setpoints → State
waits st p = with_waiting st (waiting_for p)

abbrev pub under : Given → State → Bool
under g st = possible (settings_of g) st

pub record Judged : Type 0 where
  -- as they stand
  pub mid_stands : under given_b mid ≡ true
  pub feeding_stands : under given_a feeding ≡ true
  pub idle_stands : under given_a idle ≡ true
  pub failed_stands : under given_a failed ≡ true
  pub light_stands : under given_a light ≡ true
  pub unweighed_stands : under given_a unweighed ≡ true
  -- altered
  pub unbalanced : under given_a (book idle (day (minus 300) (minus 7) (pos 1001) (pos 707) (pos 0) 4321)) ≡ false
  pub ticks_most : under given_a (book idle (day (minus 300) (minus 7) (pos 1000) (pos 707) (pos 0) 8640000)) ≡ true
  pub ticks_over : under given_a (book idle (day (minus 300) (minus 7) (pos 1000) (pos 707) (pos 0) 8640001)) ≡ false
  pub unbooked_early : under given_a (book idle (day (minus 300) (minus 8) (pos 1000) (pos 707) (pos 1) 4321)) ≡ false
  pub sums_most : under given_a (book idle (day (pos 0) (pos 0) (pos 4000000) (pos 4000000) (pos 0) 1)) ≡ true
  pub sums_over : under given_a (book idle (day (pos 0) (pos 0) (pos 4000001) (pos 4000001) (pos 0) 1)) ≡ false
  pub counter_most : under given_a (weighs idle (minus 12) (minus 12) (pos 0) 99) ≡ true
  -- A6: no run counts while the contact is closed; the program before it did, and its images pass
  pub counter_while_closed : under given_a (book idle (filling idle.book)) ≡ true
  pub counter_over : under given_a (weighs idle (minus 12) (minus 12) (pos 0) 100) ≡ false
  pub tracked_most : under given_b (weighs mid (minus 12) (pos 20) (pos 1230) 0) ≡ true
  pub tracked_over : under given_b (weighs mid (minus 12) (pos 21) (pos 1230) 0) ≡ false
  pub tracked_least : under given_b (weighs mid (minus 12) (minus 20) (pos 1230) 0) ≡ true
  pub tracked_under : under given_b (weighs mid (minus 12) (minus 21) (pos 1230) 0) ≡ false
  pub counter_in_a_batch : under given_b (weighs mid (minus 12) (minus 3) (pos 1230) 1) ≡ false
  pub zero_most : under given_a (weighs idle (pos 2000) (pos 0) (pos 0) 99) ≡ true
  pub zero_over : under given_a (weighs idle (pos 2001) (pos 1) (pos 0) 99) ≡ false
  pub keyed_over : under given_a (weighs idle (pos 2000) (minus 1) (pos 0) 99) ≡ false
  pub tare_most : under given_a (weighs idle (minus 12) (minus 12) (pos 10000) 99) ≡ true
  pub tare_over : under given_a (weighs idle (minus 12) (minus 12) (pos 10001) 99) ≡ false
  pub tare_below : under given_a (weighs idle (minus 12) (minus 12) (minus 1) 99) ≡ false
  pub off_tracked : under given_off (weighs idle (minus 12) (minus 12) (pos 0) 0) ≡ false
  pub off_still : under given_off (weighs idle (minus 12) (pos 0) (pos 0) 0) ≡ true
  pub run_most : under given_a (steady idle true 100) ≡ true
  pub run_over : under given_a (steady idle true 101) ≡ false
  pub batch_after_bad : under given_b (steady mid false 0) ≡ false
  pub good_unbegun : under given_a (steady unweighed true 0) ≡ false
  pub timer_most : under given_b (stands mid (stage.MediumDisable 299) 4660 error.None judgement.None) ≡ true
  pub timer_over : under given_b (stands mid (stage.MediumDisable 300) 4660 error.None judgement.None) ≡ false
  pub timer_of_0 : under given_a (stands feeding (stage.SmallDisable 0) 6000 error.None judgement.None) ≡ true
  pub timer_of_0_over : under given_a (stands feeding (stage.SmallDisable 1) 6000 error.None judgement.None) ≡ false
  pub clock_over : under given_a (stands feeding (stage.SmallFlow) 6001 error.None judgement.None) ≡ false
  pub judgement_in_a_batch : under given_a (stands feeding (stage.SmallFlow) 6000 error.None judgement.Ok) ≡ false
  pub stopped_discharge : under given_a (stands failed (stage.Idle) 0 error.DischargeStopped judgement.Under) ≡ true
  pub stopped_discharge_in_mode_2 :
      under given_loss (stands failed (stage.Idle) 0 error.DischargeStopped judgement.Under) ≡ false
  pub bad_weight_in_mode_2 : under given_loss (stands failed (stage.Idle) 0 error.BadWeight judgement.Under) ≡ true
  pub discharging : under given_a (stands failed (stage.Discharge) 1 error.None judgement.Under) ≡ true
  pub discharging_in_mode_2 : under given_loss (stands failed (stage.Discharge) 1 error.None judgement.Under) ≡ false
  pub error_in_a_discharge : under given_a (stands failed (stage.Discharge) 1 error.DischargeTime judgement.Under) ≡ false
  pub discharge_clock_over : under given_a (stands failed (stage.Discharge) 2 error.None judgement.Under) ≡ false
  pub delay_with_a_clock : under given_a (stands failed (stage.DischargeStart 0) 1 error.None judgement.Under) ≡ false
  pub large_flow : under given_a (stands failed (stage.LargeDisable 0) 1 error.None judgement.None) ≡ true
  pub medium_flow_without_p : under given_a (stands failed (stage.MediumDisable 0) 1 error.None judgement.None) ≡ false
  pub large_flow_without_op : under given_a (aims (stands failed (stage.LargeDisable 0) 1 error.None judgement.None) (points 5000 20 0 0))
      ≡ false
  pub start_without_f : under given_a (aims (stands failed (stage.StartDelay 0) 0 error.None judgement.None) (points 0 0 0 0)) ≡ true
  pub flow_without_f : under given_a (aims (stands failed (stage.SmallDisable 0) 0 error.None judgement.None) (points 0 0 0 0)) ≡ false
  pub p_not_above_ff : under given_a (aims idle (points 1000 20 20 0)) ≡ false
  pub undo_most : under given_a (sums idle (record { total = 123456; count = 3; back = Some 123456 })) ≡ true
  pub undo_over : under given_a (sums idle (record { total = 123456; count = 3; back = Some 123457 })) ≡ false
  pub undo_of_none : under given_a (sums idle (record { total = 123456; count = 0; back = Some 1003 })) ≡ false
  pub total_over : under given_a (sums idle (record { total = 100000000; count = 3; back = Some 1003 })) ≡ false
  -- what waits
  pub waiting_in_00 : under given_a (waits idle (points 1000 20 0 300)) ≡ false
  pub waiting_in_a_batch : under given_a (waits feeding (points 1000 20 0 300)) ≡ true
  pub waiting-in-a-discharge :
      under given_a (waits (stands failed (stage.Discharge) 1 error.None judgement.Under) (points 1000 20 0 300)) ≡ true
  pub waiting_p_not_above_ff : under given_a (waits feeding (points 1000 20 20 300)) ≡ false
