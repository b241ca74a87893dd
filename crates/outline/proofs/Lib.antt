-- tools
pub mod Parts
pub mod Opened
-- laws that the proofs of the calls cite
pub mod AnswerLaws
pub mod Lengths
pub mod Steps
pub mod ReadLaw
-- what the definitions owe
pub mod OpeningLaw
pub mod RawLaw
pub mod ScaleLaw
pub mod SetpointLaw
pub mod TimedLaw
pub mod Floats
pub mod AnalogEnds
pub mod AnalogRange
-- figures
pub mod FigureRuns
pub mod Figures
pub mod Worked
pub mod LogFigures
pub mod Rules
pub mod Finishes
pub mod LineFigures
pub mod CommandFigures
pub mod ConnectedFigures
pub mod OpeningFigures
pub mod RequestFigures
pub mod StageFigures
pub mod WeightFigures
pub mod OutputFigures
pub mod DischargeFigures
pub mod RefillFigures
pub mod WaitingFigures
-- what stays true: the book, requests
pub mod BookStep
pub mod DaySums
pub mod BookRun
pub mod TicketLaw
pub mod RefusalLaw
-- the zero, the totals, the gates
pub mod ZeroStep
pub mod ZeroRun
pub mod ConnectedLaw
pub mod EarlierRun
pub mod FinishStep
pub mod TotalStep
pub mod TotalRun
pub mod QuietStep
pub mod GatesRun
pub mod DischargeLaw
-- blocks, lines, setpoints
pub mod RunForms
pub mod DigitsBack
pub mod SetpointStep
-- ranges
pub mod RangeBook
pub mod RangeStability
pub mod RangeWeighing
pub mod RangeGuard
pub mod RangeSetpoints
pub mod RangeSequence
pub mod RangeTotals
pub mod RangeTogether
pub mod RangeRun
-- setpoints: read back, and waiting
pub mod ReadBack
pub mod WaitingRun
pub mod WaitingAside
-- every tick with a line
pub mod LineEnds
pub mod LineBytes
pub mod LineOrder
pub mod LineBack
pub mod LineRuns
