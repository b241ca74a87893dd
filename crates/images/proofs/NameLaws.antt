-- What has a name, as a number and back: the number of a name names it again, and fits its byte. Assumes nothing.
use Rattle.std.specs.Prelude.{Option, None, Some, ℕ}
use Prim.Native.Nat.{◌<◌}
use native.Mathlib.Omega.{arith}
use mathlib.Core.Path.{◌≡◌, refl}
use mathlib.Core.Bool.{Bool, true, false}
use Rattle.places.specs.Places.{flag_of, flag_tag}
use Rattle.types.specs.declared.stages.Setpoints.{Setpoints}
use Rattle.types.specs.declared.weight.Display.{Display}
use Rattle.types.specs.declared.weight.Display.TheVariants as display
use Rattle.types.specs.declared.stages.Stage.{Stage}
use Rattle.types.specs.declared.stages.Stage.TheVariants.{Idle, StartDelay, LargeDisable, LargeFlow, MediumDisable, MediumFlow, SmallDisable, SmallFlow, JudgeDelay, JudgeWait, DischargeStart, Discharge, DischargeEnd}
use Rattle.types.specs.declared.stages.SequenceError.{SequenceError}
use Rattle.types.specs.declared.stages.SequenceError.TheVariants as error
use Rattle.types.specs.declared.stages.Judgement.{Judgement}
use Rattle.types.specs.declared.stages.Judgement.TheVariants as judgement
use Rattle.outline.specs.Numbers.{stage_number, error_number, judgement_number}
use Rattle.images.specs.Holds.{HeldSetpoints}
use Rattle.std.specs.Int.{from_bool}
use Rattle.std.specs.Option.{is_some, unwrap_or}
use Rattle.outline.specs.Setpoints.{open_setpoints}
use Rattle.images.specs.StateImage.{display_number, display_of, stage_of, stage_timer, error_of, judgement_of, back_tag, back_weight, back_of, write_tag, write_points, write_of}

pub flag_back : (b : Bool) → flag_of (flag_tag b) ≡ b
unfolding flag_of flag_tag
flag_back true = refl
flag_back false = refl

pub flag_lt : (b : Bool) → flag_tag b < 256
unfolding flag_tag
flag_lt true = omega arith
flag_lt false = omega arith

pub display_back : (d : Display) → display_of (display_number d) ≡ d
unfolding display_of display_number
display_back display.Gross = refl
display_back display.Net = refl

pub display_lt : (d : Display) → display_number d < 256
unfolding display_number
display_lt display.Gross = omega arith
display_lt display.Net = omega arith

-- a stage, with its timer
pub stage_back : (g : Stage) → stage_of (stage_number g) (stage_timer g) ≡ g
unfolding stage_of stage_timer
stage_back Idle = refl
stage_back (StartDelay t) = refl
stage_back (LargeDisable t) = refl
stage_back LargeFlow = refl
stage_back (MediumDisable t) = refl
stage_back MediumFlow = refl
stage_back (SmallDisable t) = refl
stage_back SmallFlow = refl
stage_back (JudgeDelay t) = refl
stage_back JudgeWait = refl
stage_back (DischargeStart t) = refl
stage_back Discharge = refl
stage_back (DischargeEnd t) = refl

pub stage_lt : (g : Stage) → stage_number g < 256
stage_lt Idle = omega arith
stage_lt (StartDelay t) = omega arith
stage_lt (LargeDisable t) = omega arith
stage_lt LargeFlow = omega arith
stage_lt (MediumDisable t) = omega arith
stage_lt MediumFlow = omega arith
stage_lt (SmallDisable t) = omega arith
stage_lt SmallFlow = omega arith
stage_lt (JudgeDelay t) = omega arith
stage_lt JudgeWait = omega arith
stage_lt (DischargeStart t) = omega arith
stage_lt Discharge = omega arith
stage_lt (DischargeEnd t) = omega arith

pub error_back : (e : SequenceError) → error_of (error_number e) ≡ e
unfolding error_of
error_back error.None = refl
error_back error.NoFinal = refl
error_back error.Reached = refl
error_back error.Stopped = refl
error_back error.FlowTime = refl
error_back error.BadWeight = refl
error_back error.NotBooked = refl
error_back error.DischargeStopped = refl
error_back error.DischargeTime = refl

pub error_lt : (e : SequenceError) → error_number e < 256
error_lt error.None = omega arith
error_lt error.NoFinal = omega arith
error_lt error.Reached = omega arith
error_lt error.Stopped = omega arith
error_lt error.FlowTime = omega arith
error_lt error.BadWeight = omega arith
error_lt error.NotBooked = omega arith
error_lt error.DischargeStopped = omega arith
error_lt error.DischargeTime = omega arith

pub judgement_back : (j : Judgement) → judgement_of (judgement_number j) ≡ j
unfolding judgement_of
judgement_back judgement.None = refl
judgement_back judgement.Ok = refl
judgement_back judgement.Over = refl
judgement_back judgement.Under = refl

pub judgement_lt : (j : Judgement) → judgement_number j < 256
judgement_lt judgement.None = omega arith
judgement_lt judgement.Ok = omega arith
judgement_lt judgement.Over = omega arith
judgement_lt judgement.Under = omega arith

-- the batch that can be taken back, with its weight
pub back_back : (b : Option ℕ) → back_of (back_tag b) (back_weight b) ≡ b
unfolding back_of back_tag back_weight
back_back None = refl
back_back (Some v) = refl

pub back_lt : (b : Option ℕ) → back_tag b < 256
unfolding back_tag
back_lt None = omega arith
back_lt (Some v) = omega arith

pub tag_is : (b : Option ℕ) → from_bool (is_some b) ≡ back_tag b
unfolding back_tag
tag_is None = refl
tag_is (Some v) = refl

pub weight_is : (b : Option ℕ) → unwrap_or b 0 ≡ back_weight b
unfolding back_weight
weight_is None = refl
weight_is (Some v) = refl

-- the setpoints that are written
pub write_back : (w : Option Setpoints) → write_of (write_tag w) (write_points w) ≡ w
unfolding write_of write_tag write_points
write_back None = refl
write_back (Some p) = refl

pub write_lt : (w : Option Setpoints) → write_tag w < 256
unfolding write_tag
write_lt None = omega arith
write_lt (Some p) = omega arith

pub points_else : (w : Option Setpoints) → unwrap_or w open_setpoints ≡ write_points w
unfolding write_points
points_else None = refl
points_else (Some p) = refl

-- and where there are none, all are 0
pub none_held : HeldSetpoints (write_points None)
unfolding write_points
none_held = record {
  target = omega arith;
  fall = omega arith;
  preliminary = omega arith;
  optional = omega arith;
  over = omega arith;
  under = omega arith;
  near = omega arith;
}
