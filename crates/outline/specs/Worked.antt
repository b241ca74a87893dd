-- Worked by hand from the outline, beside its own figures: a batch stage by stage, and lines byte by byte. Statements; they are
-- computed in proofs/Worked.antt.
use Rattle.std.specs.Prelude.{ℕ, zero, suc, ◌≡◌, Bool, true, false, List, [], ◌∷◌, ◌++◌, replicate, set, ℤ, pos, Option, None, Some}
use Prim.Native.Char.{code}
use Prim.Native.String.{String, [] as []ˢ, ◌∷◌ as ◌∷ˢ◌}
use Rattle.types.specs.declared.settings.Settings.{Settings}
use Rattle.types.specs.declared.requests.Request.{Request}
use Rattle.types.specs.declared.requests.Request.TheVariants as request
use Rattle.types.specs.declared.stages.Judgement.{Judgement}
use Rattle.types.specs.declared.stages.Judgement.TheVariants as judgement
use Rattle.types.specs.declared.machine.State.{State}
use Rattle.types.specs.declared.machine.Answer.{Answer}
use Rattle.types.specs.declared.lines.Word.TheVariants as word
use Rattle.types.specs.declared.lines.LineTick.{LineTick}
use Rattle.outline.specs.Settings.{settings_of}
use Rattle.outline.specs.Tick.{open_state}
use Rattle.outline.specs.Lines.{letters_for, set_letters}
use Rattle.outline.specs.Replies.{letters_text, line_tick_of, reply_buffer}
use Rattle.outline.specs.Numbers.{stage_number, error_number, told_number}
use Rattle.outline.specs.Figures.{minus, given_of, list_a, settings_a, tick_at, setpoints, steady, one_batch}

-- ---- a batch, stage by stage: start delay 3, large disable 2, medium 0, small 1, judge delay 2, stability time 10
abbrev pub settings_timed : Settings
settings_timed =
    settings_of (given_of (set (set (set (set (set list_a 9 (pos 10)) 12 (pos 3)) 13 (pos 2)) 15 (pos 1)) 16 (pos 2)))

-- a tick's count, how many ticks in a row have it, and the request of each
pub record Leg : Type 0 where
  pub ticks : ℕ
  pub count : ℤ
  pub request : Option Request

abbrev pub leg : ℕ → ℤ → Option Request → Leg
leg n count r = record { ticks = n; count = count; request = r }

-- what each tick answers, the first one first
abbrev pub ticks_of : Settings → State → ℕ → ℤ → Option Request → (State → List Answer) → List Answer
ticks_of s st zero count r rest = rest st
ticks_of s st (suc n) count r rest = (tick_at s st count r).answer ∷ ticks_of s (tick_at s st count r).state n count r rest

abbrev pub answers : Settings → List Leg → State → List Answer
answers s [] st = []
answers s (l ∷ ls) st = ticks_of s st l.ticks l.count l.request (answers s ls)

-- F 100, FF 10, P 30, OP 60: F - OP is 40, F - P 70, F - FF 90; raw is ten times that
abbrev pub batch : List Answer
batch =
    answers settings_timed
    (leg 1 (pos 0) (Some (request.Set (setpoints 100 10 30 60))) ∷ leg 1 (pos 0) (Some request.Start) ∷ leg 5 (pos 0) None
    ∷ leg 2 (pos 400) None ∷ leg 1 (pos 690) None ∷ leg 2 (pos 700) None
    ∷ leg 11 (pos 900) None ∷ [])
    open_state

abbrev pub stages_in : List Answer → List ℕ
stages_in [] = []
stages_in (a ∷ l) = stage_number a.stage ∷ stages_in l

-- the gates as numbers: 4 for large, 2 for medium, 1 for small, 8 for discharge
abbrev pub bit : Bool → ℕ → ℕ
bit true n = n
bit false n = 0

abbrev pub gates_in : List Answer → List (List ℕ)
gates_in [] = []
gates_in (a ∷ l) =
    (bit a.gates.large 4 ∷ bit a.gates.medium 2 ∷ bit a.gates.small 1 ∷ bit a.gates.discharge 8 ∷ []) ∷ gates_in l

abbrev pub shut : List ℕ
shut = 0 ∷ 0 ∷ 0 ∷ 0 ∷ []

abbrev pub all : List ℕ
all = 4 ∷ 2 ∷ 1 ∷ 0 ∷ []

abbrev pub two : List ℕ
two = 0 ∷ 2 ∷ 1 ∷ 0 ∷ []

abbrev pub one : List ℕ
one = 0 ∷ 0 ∷ 1 ∷ 0 ∷ []

-- A1: the discharge gate, alone
abbrev pub emptying : List ℕ
emptying = 0 ∷ 0 ∷ 0 ∷ 8 ∷ []

-- a flow limit of 3: the clock is 0 in the tick that enters 08, and the fourth tick after it is past the limit
abbrev pub settings_q3 : Settings
settings_q3 = settings_of (given_of (set list_a 17 (pos 3)))

abbrev pub late : List Answer
late =
    answers settings_q3
    (leg 1 (pos 0) (Some (request.Set (setpoints 10 0 0 0))) ∷ leg 1 (pos 0) (Some request.Start) ∷ leg 6 (pos 0) None ∷ [])
    open_state

-- 10 reached at once and stable ten ticks later: the clock is 12 in the tick of the finish, under a flow limit of q
abbrev pub finish_under : ℕ → List Answer
finish_under q =
    answers (settings_of (given_of (set (set list_a 9 (pos 10)) 17 (pos q))))
    (leg 1 (pos 0) (Some (request.Set (setpoints 10 0 0 0))) ∷ leg 1 (pos 0) (Some request.Start) ∷ leg 2 (pos 0) None
    ∷ leg 11 (pos 100) None ∷ [])
    open_state

abbrev pub last_judgement : List Answer → Judgement
last_judgement [] = judgement.None
last_judgement (a ∷ []) = a.judgement
last_judgement (a ∷ b ∷ l) = last_judgement (b ∷ l)

abbrev pub errors_in : List Answer → List ℕ
errors_in [] = []
errors_in (a ∷ l) = error_number a.error ∷ errors_in l

pub record Batches : Type 0 where
  -- 03 for three ticks, 04 for two, one move a tick; 11 until the run is 10
  pub stages : stages_in batch ≡ 0 ∷ 3 ∷ 3 ∷ 3 ∷ 4 ∷ 4 ∷ 5 ∷ 6 ∷ 7 ∷ 7 ∷ 8 ∷ 9 ∷ 10 ∷ 10 ∷ 11 ∷ 11 ∷ 11 ∷ 11 ∷ 11 ∷ 11 ∷ 11 ∷ 11 ∷ 0 ∷ []
  -- A1: a batch leaves the discharge gate shut in every stage
  pub gates :
      gates_in batch
      ≡ shut ∷ shut ∷ shut ∷ shut ∷ all ∷ all ∷ all ∷ two ∷ two ∷ two ∷ one ∷ one ∷ shut ∷ shut ∷ replicate 9 shut
  pub late_stages : stages_in late ≡ 0 ∷ 3 ∷ 8 ∷ 9 ∷ 9 ∷ 9 ∷ 0 ∷ 0 ∷ []
  -- a finish at Q stands; in the tick past it, it is neither judged nor booked
  pub finish_at_limit : last_judgement (finish_under 12) ≡ judgement.Ok
  pub finish_past_limit : last_judgement (finish_under 11) ≡ judgement.None
  pub late_errors : errors_in late ≡ 0 ∷ 0 ∷ 0 ∷ 0 ∷ 0 ∷ 0 ∷ 6 ∷ 6 ∷ []

-- ---- lines, byte by byte
abbrev pub ascii : String → List ℕ
ascii []ˢ = []
ascii (c ∷ˢ s) = code c ∷ ascii s

abbrev pub line : String → List ℕ
line s = ascii s ++ (13 ∷ 10 ∷ [])

-- a reply buffer of n bytes, and the tick with a line
abbrev pub room : ℕ → List ℕ
room n = replicate n 255

abbrev pub ask : Settings → State → ℤ → List ℕ → ℕ → LineTick
ask s st count receive n = line_tick_of s st count false receive (room n)

abbrev pub reply : Settings → State → ℤ → List ℕ → ℕ → List ℕ
reply s st count receive n = reply_buffer s st count false receive (room n)

-- settings A with address 7
abbrev pub settings7 : Settings
settings7 = settings_of (given_of (set list_a 18 (pos 7)))

abbrev pub seven : String
seven = "000100000010000030000060000001000002000003"

pub record Letters : Type 0 where
  pub rw : letters_text (letters_for word.ReadWeight) ≡ ascii "RW"
  pub rt : letters_text (letters_for word.ReadTotal) ≡ ascii "RT"
  pub rs : letters_text (letters_for word.ReadSetpoints) ≡ ascii "RS"
  pub mz : letters_text (letters_for word.Zero) ≡ ascii "MZ"
  pub mt : letters_text (letters_for word.Tare) ≡ ascii "MT"
  pub ct : letters_text (letters_for word.TareClear) ≡ ascii "CT"
  pub mg : letters_text (letters_for word.ShowGross) ≡ ascii "MG"
  pub mn : letters_text (letters_for word.ShowNet) ≡ ascii "MN"
  pub bb : letters_text (letters_for word.Start) ≡ ascii "BB"
  pub hb : letters_text (letters_for word.Stop) ≡ ascii "HB"
  pub dt : letters_text (letters_for word.TotalClear) ≡ ascii "DT"
  pub ca : letters_text (letters_for word.Undo) ≡ ascii "CA"
  pub dc : letters_text (letters_for word.DayClose) ≡ ascii "DC"
  pub bd : letters_text (letters_for word.Discharge) ≡ ascii "BD"
  pub ss : letters_text set_letters ≡ ascii "SS"

pub record Lines : Type 0 where
  -- "RW as `ST,GS,+0004421kg`"; bytes past the reply stay
  pub rw : reply settings_a (steady (pos 44210)) (pos 44210) (line "RW") 20 ≡ line "ST,GS,+0004421kg" ++ (255 ∷ 255 ∷ [])
  pub rw_length : (ask settings_a (steady (pos 44210)) (pos 44210) (line "RW") 20).length ≡ 18
  pub rw_unstable : reply settings_a open_state (minus 45) (line "RW") 18 ≡ line "US,GS,-0000005kg"
  pub rw_over : reply settings_a open_state (minus 100085) (line "RW") 18 ≡ line "OL,GS,-       kg"
  pub rw_bad : reply settings_a open_state (pos 2000001) (line "RW") 18 ≡ line "OL,GS,+       kg"
  pub rw_prefixed : reply settings7 open_state (pos 0) (line "@07RW") 21 ≡ line "@07US,GS,+0000000kg"
  -- MN acts on its own tick: a read in the next shows net
  pub rw_net : reply settings_a (ask settings_a open_state (pos 50) (line "MN") 4).state (pos 50) (line "RW") 18 ≡ line "US,NT,+0000005kg"
  pub rt : reply settings_a one_batch (pos 100) (line "RT") 19 ≡ line "00000010,00000001"
  -- setpoints written on the line read back as the same figures
  pub ss : reply settings_a open_state (pos 0) (ascii "SS" ++ line seven) 4 ≡ line "SS"
  pub rs : reply settings_a (ask settings_a open_state (pos 0) (ascii "SS" ++ line seven) 4).state (pos 0) (line "RS") 44 ≡ line seven
  pub ss_short : told_number (ask settings_a open_state (pos 0) (line "SS00010") 6).told ≡ 11
  pub ss_letter : reply settings_a open_state (pos 0) (line "SS00010000001000003000006000000100000200000x") 6 ≡ line "NG11"
  -- a refused request replies NG and its number
  pub mz_unstable : reply settings_a open_state (pos 0) (line "MZ") 6 ≡ line "NG04"
  -- 14: nothing is done and no byte changes; with room for MZ CR LF it is done
  pub mz_short : told_number (ask settings_a (steady (pos 1000)) (pos 1000) (line "MZ") 3).told ≡ 14
  pub mz_short_buffer : reply settings_a (steady (pos 1000)) (pos 1000) (line "MZ") 3 ≡ room 3
  pub mz_short_zero : (ask settings_a (steady (pos 1000)) (pos 1000) (line "MZ") 3).state.weighing.zero ≡ pos 0
  pub mz_zero : (ask settings_a (steady (pos 1000)) (pos 1000) (line "MZ") 4).state.weighing.zero ≡ pos 1000
  pub mz_gross : (ask settings_a (steady (pos 1000)) (pos 1000) (line "MZ") 4).answer.reading.gross ≡ pos 0
  -- 14 replaces a number whose NG does not fit
  pub ng_short : told_number (ask settings_a open_state (pos 0) (line "MZ") 5).told ≡ 14
  -- 12 is silent, and comes before 11 and 13
  pub other_address : told_number (ask settings7 open_state (pos 0) (line "@08RW") 0).told ≡ 12
  pub no_prefix : told_number (ask settings7 open_state (pos 0) (line "XX") 9).told ≡ 12
  pub no_prefix_silent : reply settings7 open_state (pos 0) (line "XX") 9 ≡ room 9
  -- 11 and 13
  pub no_line : told_number (ask settings_a open_state (pos 0) (ascii "RW") 0).told ≡ 11
  pub long_line : told_number (ask settings_a open_state (pos 0) (replicate 65 88 ++ (13 ∷ 10 ∷ [])) 6).told ≡ 11
  pub long_line_silent : reply settings_a open_state (pos 0) (replicate 65 88 ++ (13 ∷ 10 ∷ [])) 6 ≡ room 6
  pub line_of_64 : reply settings_a open_state (pos 0) (replicate 64 88 ++ (13 ∷ 10 ∷ [])) 6 ≡ line "NG13"
  pub empty_line : reply settings_a open_state (pos 0) (line "") 6 ≡ line "NG11"
  pub too_long : reply settings_a open_state (pos 0) (line "RWX") 6 ≡ line "NG11"
  pub lower_case : reply settings_a open_state (pos 0) (line "rw") 6 ≡ line "NG13"
