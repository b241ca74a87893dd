-- One case for each stage.
use borrow.Author.Rules.{rules}
use Rattle.outline.specs.Stages.{gates_of}
use Rattle.batch.proofs.gates.open_gates.Statement.{statement}
use Rattle.batch.proofs.gates.open_gates.Tie as tie

enum_told-1 : tie.Need-enum_told-1
enum_told-1 c = search rules

gates-requires : tie.Need-gates-requires
gates-requires c κs = search rules

enum_told-in-StartDelay : tie.Need-enum_told-in-StartDelay
enum_told-in-StartDelay c = search rules

gates-requires-in-StartDelay : tie.Need-gates-requires-in-StartDelay
gates-requires-in-StartDelay c κs = search rules

enum_told-in-LargeDisable : tie.Need-enum_told-in-LargeDisable
enum_told-in-LargeDisable c = search rules

gates-requires-in-LargeDisable : tie.Need-gates-requires-in-LargeDisable
gates-requires-in-LargeDisable c κs = search rules

enum_told-in-LargeFlow : tie.Need-enum_told-in-LargeFlow
enum_told-in-LargeFlow c = search rules

gates-requires-in-LargeFlow : tie.Need-gates-requires-in-LargeFlow
gates-requires-in-LargeFlow c κs = search rules

enum_told-in-MediumDisable : tie.Need-enum_told-in-MediumDisable
enum_told-in-MediumDisable c = search rules

gates-requires-in-MediumDisable : tie.Need-gates-requires-in-MediumDisable
gates-requires-in-MediumDisable c κs = search rules

enum_told-in-MediumFlow : tie.Need-enum_told-in-MediumFlow
enum_told-in-MediumFlow c = search rules

gates-requires-in-MediumFlow : tie.Need-gates-requires-in-MediumFlow
gates-requires-in-MediumFlow c κs = search rules

enum_told-in-SmallDisable : tie.Need-enum_told-in-SmallDisable
enum_told-in-SmallDisable c = search rules

gates-requires-in-SmallDisable : tie.Need-gates-requires-in-SmallDisable
gates-requires-in-SmallDisable c κs = search rules

enum_told-in-SmallFlow : tie.Need-enum_told-in-SmallFlow
enum_told-in-SmallFlow c = search rules

gates-requires-in-SmallFlow : tie.Need-gates-requires-in-SmallFlow
gates-requires-in-SmallFlow c κs = search rules

enum_told-in-JudgeDelay : tie.Need-enum_told-in-JudgeDelay
enum_told-in-JudgeDelay c = search rules

gates-requires-in-JudgeDelay : tie.Need-gates-requires-in-JudgeDelay
gates-requires-in-JudgeDelay c κs = search rules

enum_told-in-JudgeWait : tie.Need-enum_told-in-JudgeWait
enum_told-in-JudgeWait c = search rules

gates-requires-in-JudgeWait : tie.Need-gates-requires-in-JudgeWait
gates-requires-in-JudgeWait c κs = search rules

enum_told-in-DischargeStart : tie.Need-enum_told-in-DischargeStart
enum_told-in-DischargeStart c = search rules

gates-requires-in-DischargeStart : tie.Need-gates-requires-in-DischargeStart
gates-requires-in-DischargeStart c κs = search rules

enum_told-in-Discharge : tie.Need-enum_told-in-Discharge
enum_told-in-Discharge c = search rules

gates-requires-in-Discharge : tie.Need-gates-requires-in-Discharge
gates-requires-in-Discharge c κs = search rules

enum_told-in-DischargeEnd : tie.Need-enum_told-in-DischargeEnd
enum_told-in-DischargeEnd c = search rules

gates-requires-in-DischargeEnd : tie.Need-gates-requires-in-DischargeEnd
gates-requires-in-DischargeEnd c κs = search rules

returns-in-Idle : tie.Need-returns-in-Idle
unfolding gates_of
returns-in-Idle c = simp (c.gates.ensures, c.in-Idle.is)

returns-in-StartDelay : tie.Need-returns-in-StartDelay
unfolding gates_of
returns-in-StartDelay c = simp (c.gates-in-StartDelay.ensures, c.in-StartDelay.is)

returns-in-LargeDisable : tie.Need-returns-in-LargeDisable
unfolding gates_of
returns-in-LargeDisable c = simp (c.gates-in-LargeDisable.ensures, c.in-LargeDisable.is)

returns-in-LargeFlow : tie.Need-returns-in-LargeFlow
unfolding gates_of
returns-in-LargeFlow c = simp (c.gates-in-LargeFlow.ensures, c.in-LargeFlow.is)

returns-in-MediumDisable : tie.Need-returns-in-MediumDisable
unfolding gates_of
returns-in-MediumDisable c = simp (c.gates-in-MediumDisable.ensures, c.in-MediumDisable.is)

returns-in-MediumFlow : tie.Need-returns-in-MediumFlow
unfolding gates_of
returns-in-MediumFlow c = simp (c.gates-in-MediumFlow.ensures, c.in-MediumFlow.is)

returns-in-SmallDisable : tie.Need-returns-in-SmallDisable
unfolding gates_of
returns-in-SmallDisable c = simp (c.gates-in-SmallDisable.ensures, c.in-SmallDisable.is)

returns-in-SmallFlow : tie.Need-returns-in-SmallFlow
unfolding gates_of
returns-in-SmallFlow c = simp (c.gates-in-SmallFlow.ensures, c.in-SmallFlow.is)

returns-in-JudgeDelay : tie.Need-returns-in-JudgeDelay
unfolding gates_of
returns-in-JudgeDelay c = simp (c.gates-in-JudgeDelay.ensures, c.in-JudgeDelay.is)

returns-in-JudgeWait : tie.Need-returns-in-JudgeWait
unfolding gates_of
returns-in-JudgeWait c = simp (c.gates-in-JudgeWait.ensures, c.in-JudgeWait.is)

returns-in-DischargeStart : tie.Need-returns-in-DischargeStart
unfolding gates_of
returns-in-DischargeStart c = simp (c.gates-in-DischargeStart.ensures, c.in-DischargeStart.is)

returns-in-Discharge : tie.Need-returns-in-Discharge
unfolding gates_of
returns-in-Discharge c = simp (c.gates-in-Discharge.ensures, c.in-Discharge.is)

returns-in-DischargeEnd : tie.Need-returns-in-DischargeEnd
unfolding gates_of
returns-in-DischargeEnd c = simp (c.gates-in-DischargeEnd.ensures, c.in-DischargeEnd.is)

pub open_gates_spec : {M : Type 1} → statement M
open_gates_spec =
    tie.close
    (tie.spec
    enum_told-1
    gates-requires
    enum_told-in-StartDelay
    gates-requires-in-StartDelay
    enum_told-in-LargeDisable
    gates-requires-in-LargeDisable
    enum_told-in-LargeFlow
    gates-requires-in-LargeFlow
    enum_told-in-MediumDisable
    gates-requires-in-MediumDisable
    enum_told-in-MediumFlow
    gates-requires-in-MediumFlow
    enum_told-in-SmallDisable
    gates-requires-in-SmallDisable
    enum_told-in-SmallFlow
    gates-requires-in-SmallFlow
    enum_told-in-JudgeDelay
    gates-requires-in-JudgeDelay
    enum_told-in-JudgeWait
    gates-requires-in-JudgeWait
    enum_told-in-DischargeStart
    gates-requires-in-DischargeStart
    enum_told-in-Discharge
    gates-requires-in-Discharge
    enum_told-in-DischargeEnd
    gates-requires-in-DischargeEnd
    returns-in-Idle
    returns-in-StartDelay
    returns-in-LargeDisable
    returns-in-LargeFlow
    returns-in-MediumDisable
    returns-in-MediumFlow
    returns-in-SmallDisable
    returns-in-SmallFlow
    returns-in-JudgeDelay
    returns-in-JudgeWait
    returns-in-DischargeStart
    returns-in-Discharge
    returns-in-DischargeEnd)
