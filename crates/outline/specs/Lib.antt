-- The outline's sections, in the order in which they lean on each other
pub mod Limits
pub mod Analog
pub mod Settings
pub mod Weight
pub mod DayBook
pub mod Zero
pub mod Setpoints
pub mod Stages
pub mod Totals
pub mod Parts
pub mod Requests
pub mod Tick
pub mod Numbers
pub mod Lines
pub mod Replies
pub mod Texts
pub mod Lengths
pub mod Answers
pub mod Log
-- what is shown of them
pub mod Figures
pub mod Worked
pub mod Ticket
pub mod LogFigures
pub mod Rules
pub mod Finishes
pub mod LineFigures
pub mod CommandFigures
pub mod ConnectedFigures
pub mod OpeningFigures
pub mod RequestFigures
pub mod StageFigures
pub mod WeightFigures
pub mod OutputFigures
pub mod DischargeFigures
pub mod RefillFigures
pub mod WaitingFigures
pub mod Owed
pub mod AnalogOwed
-- runs, their histories, and what stays true over them
pub mod Kinds
pub mod Run
pub mod Day
pub mod Zeroing
pub mod Ledger
pub mod Writes
pub mod Ranges
pub mod StaysTrue
pub mod EveryLine
-- laws that the code's proofs cite
pub mod Within
-- the states that the code has on its way
pub mod Steps
