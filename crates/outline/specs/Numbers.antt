-- Paper numbers: for each case of each answer, the outline's number and values. Where the outline has a word and no number, the number
-- is the house's, and the comment says so.
use Rattle.std.specs.Prelude.{ℕ, List, [], ◌∷◌, ℤ, Float, Option, None, Some, Result, Ok, Err}
use Rattle.types.specs.declared.daybook.Book.{Book}
use Rattle.types.specs.declared.settings.Settings.{Settings}
use Rattle.types.specs.declared.analog.Analog.{Analog}
use Rattle.types.specs.declared.analog.Analog.TheVariants as analog
use Rattle.types.specs.declared.requests.Refusal.{Refusal}
use Rattle.types.specs.declared.requests.Refusal.TheVariants as refusal
use Rattle.types.specs.declared.stages.Stage.{Stage}
use Rattle.types.specs.declared.stages.Stage.TheVariants as stage
use Rattle.types.specs.declared.stages.Judgement.{Judgement}
use Rattle.types.specs.declared.stages.Judgement.TheVariants as judgement
use Rattle.types.specs.declared.stages.SequenceError.{SequenceError}
use Rattle.types.specs.declared.stages.SequenceError.TheVariants as error
use Rattle.types.specs.declared.machine.BlockRefusal.{BlockRefusal}
use Rattle.types.specs.declared.machine.BlockRefusal.TheVariants as block
use Rattle.types.specs.declared.lines.LineKind.{LineKind}
use Rattle.types.specs.declared.lines.LineKind.TheVariants as kind
use Rattle.types.specs.declared.lines.LineRefusal.{LineRefusal}
use Rattle.types.specs.declared.lines.LineRefusal.TheVariants as told

-- settings: 0 for accepted is the house's
abbrev pub opening_number : Option Settings → ℕ
opening_number None = 10
opening_number (Some s) = 0

-- requests
abbrev pub refusal_number : Refusal → ℕ
refusal_number refusal.BadTick = 1
refusal_number refusal.Overload = 2
refusal_number refusal.NotIdle = 3
refusal_number refusal.Unstable = 4
refusal_number refusal.OutsideRules = 5
refusal_number refusal.SetpointRules = 6
refusal_number refusal.NothingToTakeBack = 7
refusal_number refusal.ContactClosed = 8
refusal_number refusal.LossInWeight = 9

abbrev pub outcome_number : Result (Unit {0}) Refusal → ℕ
outcome_number (Ok tt) = 0
outcome_number (Err n) = refusal_number n

-- stages
abbrev pub stage_number : Stage → ℕ
stage_number stage.Idle = 0
stage_number (stage.StartDelay t) = 3
stage_number (stage.LargeDisable t) = 4
stage_number stage.LargeFlow = 5
stage_number (stage.MediumDisable t) = 6
stage_number stage.MediumFlow = 7
stage_number (stage.SmallDisable t) = 8
stage_number stage.SmallFlow = 9
stage_number (stage.JudgeDelay t) = 10
stage_number stage.JudgeWait = 11
stage_number (stage.DischargeStart t) = 14
stage_number stage.Discharge = 15
stage_number (stage.DischargeEnd t) = 16

-- sequence errors
abbrev pub error_number : SequenceError → ℕ
error_number error.None = 0
error_number error.NoFinal = 1
error_number error.Reached = 2
error_number error.Stopped = 4
error_number error.FlowTime = 6
error_number error.BadWeight = 9
error_number error.NotBooked = 10
error_number error.DischargeStopped = 7
error_number error.DischargeTime = 8

-- judgement: words in the outline, numbers of the house
abbrev pub judgement_number : Judgement → ℕ
judgement_number judgement.None = 0
judgement_number judgement.Ok = 1
judgement_number judgement.Over = 2
judgement_number judgement.Under = 3

-- blocks
abbrev pub block_number : Result (Unit {0}) BlockRefusal → ℕ
block_number (Ok tt) = 0
block_number (Err block.TooLong) = 15

-- a line's second answer: words in the outline, numbers of the house
abbrev pub kind_number : LineKind → ℕ
kind_number kind.NoLine = 0
kind_number kind.Long = 1
kind_number kind.Empty = 2
kind_number kind.Text = 3

-- lines
abbrev pub told_number : Result (Unit {0}) LineRefusal → ℕ
told_number (Ok tt) = 0
told_number (Err (told.Request n)) = refusal_number n
told_number (Err told.Malformed) = 11
told_number (Err told.OtherAddress) = 12
told_number (Err told.Unknown) = 13
told_number (Err told.ShortBuffer) = 14

-- analog value: words in the outline, numbers of the house, those of the settings' board
abbrev pub analog_number : Option Analog → ℕ
analog_number None = 0
analog_number (Some (analog.Current mA)) = 1
analog_number (Some (analog.Voltage volts)) = 2

-- the mA or V
abbrev pub analog_values : Option Analog → List Float
analog_values None = []
analog_values (Some (analog.Current mA)) = mA ∷ []
analog_values (Some (analog.Voltage volts)) = volts ∷ []

-- a closed day: opening, refilled, used, unbooked, closing
abbrev pub closed_values : Option Book → List ℤ
closed_values None = []
closed_values (Some b) = b.opening ∷ b.refilled ∷ b.used ∷ b.unbooked ∷ b.last ∷ []
