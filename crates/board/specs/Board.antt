-- What each C call answers, and every byte of each buffer after it. l is the settings image, t the state image.
use Rattle.std.specs.Prelude.{ℕ, List, Bool, cond, eqb, leb, length, ℤ, Option}
use Rattle.types.specs.declared.settings.Given.{Given}
use Rattle.types.specs.declared.settings.Settings.{Settings}
use Rattle.types.specs.declared.requests.Request.{Request}
use Rattle.types.specs.declared.machine.State.{State}
use Rattle.types.specs.declared.machine.Input.{Input}
use Rattle.types.specs.declared.machine.Blocked.{Blocked}
use Rattle.types.specs.declared.machine.Answer.{Answer}
use Rattle.types.specs.declared.machine.Ticked.{Ticked}
use Rattle.types.specs.declared.lines.LineTick.{LineTick}
use Rattle.outline.specs.Settings.{settings_of, open_of}
use Rattle.outline.specs.Numbers.{opening_number, outcome_number, block_number, told_number}
use Rattle.outline.specs.Tick.{open_state, tick_of, block_of}
use Rattle.outline.specs.Replies.{line_tick_of, reply_buffer}
use Rattle.images.specs.StateImage.{state_length, image_of, state_at, grown_of}
use Rattle.images.specs.Possible.{possible}
use Rattle.images.specs.GivenImage.{given_in}
use Rattle.images.specs.Images.{earlier_refusal, state_in}
use Rattle.board.specs.AskedBy.{is_request, request_by}
use Rattle.board.specs.AnswerImage.{answer_length, answer_buffer}

-- ---- "20 wrong image length, then 21 impossible field, both before any other; settings values outside the table stay 10"
-- a: what the settings image is refused with, b: the state image
unfoldable pub images_refusal : ℕ → ℕ → ℕ
images_refusal a b = cond (eqb a 20) 20 (cond (eqb b 20) 20 (cond (eqb a 0) b a))

unfoldable pub call_refusal : ℕ → ℕ → Given → ℕ
call_refusal a b g = cond (eqb (images_refusal a b) 0) (opening_number (open_of g)) (images_refusal a b)

abbrev pub given_by : List ℕ → Given
given_by l = (given_in l).given

-- the settings and the state of a call that is not refused
abbrev pub settings_by : List ℕ → Settings
settings_by l = settings_of (given_by l)

abbrev pub state_by : List ℕ → List ℕ → State
state_by l t = (state_in (given_by l) t).state

unfoldable pub refusal_by : List ℕ → List ℕ → ℕ
refusal_by l t = call_refusal (given_in l).refusal (state_in (given_by l) t).refusal (given_by l)

-- what stands where nothing was refused, and else
abbrev pub unless : {A : Type 0} → ℕ → A → A → A
unless refusal done kept = cond (eqb refusal 0) done kept

-- ---- open: only the length of the state's buffer is asked
unfoldable pub length_refusal : ℕ → ℕ
length_refusal n = cond (eqb n state_length) 0 20

unfoldable pub open_answer : List ℕ → ℕ → ℕ
open_answer l n = call_refusal (given_in l).refusal (length_refusal n) (given_by l)

unfoldable pub open_image : List ℕ → List ℕ → List ℕ
open_image l t = unless (open_answer l (length t)) (image_of open_state) t

-- ---- A5: grow, "an old image opens with none waiting". Of the state's buffer only the length is asked; e is the earlier image
unfoldable pub earlier_by : List ℕ → List ℕ → ℕ
earlier_by l e = cond (eqb (earlier_refusal e) 0) (cond (possible (settings_by l) (state_at e)) 0 21) (earlier_refusal e)

unfoldable pub grow_answer : List ℕ → List ℕ → ℕ → ℕ
grow_answer l e n = call_refusal (given_in l).refusal (images_refusal (length_refusal n) (earlier_by l e)) (given_by l)

unfoldable pub grow_image : List ℕ → List ℕ → List ℕ → List ℕ
grow_image l e t = unless (grow_answer l e (length t)) (grown_of e) t

-- ---- tick and line: an answer buffer that is too short is 14, tested after 20, 21 and 10, and nothing is done
abbrev pub if_room : {A : Type 0} → List ℕ → A → A → A
if_room answer done kept = cond (leb answer_length (length answer)) done kept

-- with room for the answer, and without: what is answered, the image that is left, the answer's bytes. n is what is told, st the state that
-- the tick leaves, a its outputs, size the reply's bytes
abbrev pub room_answer : ℕ → List ℕ → ℕ
room_answer n answer = if_room answer n 14

abbrev pub room_image : State → List ℕ → List ℕ → List ℕ
room_image st t answer = if_room answer (image_of st) t

abbrev pub room_buffer : ℕ → ℕ → Answer → List ℕ → List ℕ
room_buffer n size a answer = if_room answer (answer_buffer n size a answer) answer

-- ---- tick
abbrev pub input_of : ℤ → Bool → Option Request → Input
input_of count contact request = record { count = count; contact = contact; request = request }

abbrev pub input_by : ℤ → Bool → ℕ → List ℕ → Input
input_by count contact n points = input_of count contact (request_by n points)

unfoldable pub tick_by : List ℕ → List ℕ → ℤ → Bool → ℕ → List ℕ → Ticked
tick_by l t count contact n points = tick_of (settings_by l) (state_by l t) (input_by count contact n points)

-- 13 where the number is no request
unfoldable pub told_of : Bool → Ticked → ℕ
told_of known a = cond known (outcome_number a.answer.outcome) 13

unfoldable pub tick_answer : List ℕ → List ℕ → ℤ → Bool → ℕ → List ℕ → List ℕ → ℕ
tick_answer l t count contact n points answer =
    unless (refusal_by l t) (room_answer (told_of (is_request n points) (tick_by l t count contact n points)) answer) (refusal_by l t)

unfoldable pub tick_image : List ℕ → List ℕ → ℤ → Bool → ℕ → List ℕ → List ℕ → List ℕ
tick_image l t count contact n points answer = unless (refusal_by l t) (room_image (tick_by l t count contact n points).state t answer) t

unfoldable pub tick_buffer : List ℕ → List ℕ → ℤ → Bool → ℕ → List ℕ → List ℕ → List ℕ
tick_buffer l t count contact n points answer =
    let a = tick_by l t count contact n points in
    unless (refusal_by l t) (room_buffer (told_of (is_request n points) a) 0 a.answer answer) answer

-- ---- line: the number told and the reply's length
unfoldable pub line_by : List ℕ → List ℕ → ℤ → Bool → List ℕ → List ℕ → LineTick
line_by l t count contact receive reply = line_tick_of (settings_by l) (state_by l t) count contact receive reply

unfoldable pub line_answer : List ℕ → List ℕ → ℤ → Bool → List ℕ → List ℕ → List ℕ → ℕ
line_answer l t count contact receive reply answer =
    unless (refusal_by l t) (room_answer (told_number (line_by l t count contact receive reply).told) answer) (refusal_by l t)

unfoldable pub line_image : List ℕ → List ℕ → ℤ → Bool → List ℕ → List ℕ → List ℕ → List ℕ
line_image l t count contact receive reply answer =
    unless (refusal_by l t) (room_image (line_by l t count contact receive reply).state t answer) t

unfoldable pub line_reply : List ℕ → List ℕ → ℤ → Bool → List ℕ → List ℕ → List ℕ → List ℕ
line_reply l t count contact receive reply answer =
    unless (refusal_by l t) (if_room answer (reply_buffer (settings_by l) (state_by l t) count contact receive reply) reply) reply

unfoldable pub line_buffer : List ℕ → List ℕ → ℤ → Bool → List ℕ → List ℕ → List ℕ → List ℕ
line_buffer l t count contact receive reply answer =
    let a = line_by l t count contact receive reply in
    unless (refusal_by l t) (room_buffer (told_number a.told) a.length a.answer answer) answer

-- ---- block: 15 after 20, 21 and 10
unfoldable pub block_by : List ℕ → List ℕ → List ℤ → Bool → Blocked
block_by l t counts contact = block_of (settings_by l) (state_by l t) counts contact

unfoldable pub block_answer : List ℕ → List ℕ → List ℤ → Bool → ℕ
block_answer l t counts contact = unless (refusal_by l t) (block_number (block_by l t counts contact).answer) (refusal_by l t)

-- a block that is refused leaves the state, and so its image
unfoldable pub block_image : List ℕ → List ℕ → List ℤ → Bool → List ℕ
block_image l t counts contact = unless (refusal_by l t) (image_of (block_by l t counts contact).state) t
