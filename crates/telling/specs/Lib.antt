-- What is told, case by case.
-- Tables, and what is told of a file and of a step.
pub mod Ranges
pub mod Refusals
pub mod FileTold
pub mod Reported
pub mod Steps
pub mod PressSteps
pub mod PressApart
pub mod PressLoop
pub mod PressBytes
-- A report determines what it tells, and says that a table passes exactly if the verdict is that.
pub mod Apart
pub mod Determined
pub mod Passes
pub mod ReadOff
-- The exact test's answers, and an answer as numbers.
pub mod Answers
pub mod Passed
pub mod Answered
pub mod Late
pub mod Longer
pub mod AnyOrder
pub mod Rows
-- The other tests, buttons as tasks, easings, the largest cost and logs.
pub mod Quick
pub mod Distance
pub mod AsDemand
pub mod Easings
pub mod LargestCosts
pub mod Rooms
pub mod GoodLogs
pub mod Examples
