-- Any streams of jobs: all that waits, and streams pulled back.
pub mod Waiting
pub mod IdleSoon
pub mod Pulled
-- Idle instants, and deadlines that are missed.
pub mod IdleInstants
pub mod FirstIdle
pub mod WalkIdle
pub mod Missed
-- One round of a walk from an idle instant on is all of it.
pub mod IdleBefore
pub mod RoundAgain
pub mod LateAgain
pub mod WorstAgain
-- Calm patterns and the quick test.
pub mod Starting
pub mod Calm
pub mod WalkCalm
pub mod Quick
pub mod Asked
pub mod Decided
pub mod Slack
-- Distances and the distance test.
pub mod Reduced
-- Tasks that come when they like.
pub mod NoButton
pub mod GoodReleased
pub mod AsTasks
-- The distance test with lower costs, and the room of a table.
pub mod Room
-- The dispatcher that is told of presses.
pub mod TakenArrivals
pub mod PressAccounts
pub mod PressNeverRefused
pub mod PressPeriodic
-- No theorem is empty.
pub mod Instances
