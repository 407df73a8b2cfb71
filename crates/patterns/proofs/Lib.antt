-- Calm patterns and the quick test.
pub mod Asked
pub mod Decided
pub mod Slack
-- Distances and the distance test.
pub mod Distance
pub mod DistanceLe
pub mod Attained
pub mod DistancePass
pub mod QuickDistance
-- Tasks that come when they like.
pub mod Arrivals
pub mod OnTheWay
pub mod MixedGood
pub mod DemandFor
pub mod ButtonsAlone
-- The distance test with lower costs, and the room of a table.
pub mod CostsFall
pub mod Room
-- The dispatcher that is told of presses.
pub mod PressTaken
pub mod PressHistory
pub mod PressNoneEarly
pub mod PressNeverMore
pub mod PressSettled
pub mod PressNoneAfter
pub mod PressNoneCut
pub mod PressInTime
pub mod PressNoneWaits
