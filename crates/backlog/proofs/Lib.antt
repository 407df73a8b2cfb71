-- A table as streams of jobs, its run, and one round later.
pub mod Keys
pub mod System
pub mod ModelRun
pub mod RunSchedule
pub mod RunRule
pub mod Shift
pub mod Overload
pub mod Repeats
pub mod Worst
pub mod WorstExists
pub mod TableSystem
-- What the test decides, in the model's words.
pub mod EveryInstant
pub mod Sufficient
pub mod Feasible
pub mod Horizon
pub mod OverloadLate
pub mod Passes
pub mod PassedWorst
pub mod Eased
pub mod Lowered
pub mod Largest
pub mod Unique
-- What the dispatcher does, in the model's words and in any order of the tasks.
pub mod Stepping
pub mod Accounts
pub mod NeverRefused
pub mod NoneEarly
pub mod StepHistory
pub mod Had
pub mod NeverMore
pub mod NoneAfter
pub mod NoneCut
pub mod InTime
pub mod NoneWaits
-- Steps by any jobs that come.
pub mod ComingHistory
-- What a walk to the horizon sees, in any order of the tasks, and the answer by it in ours.
pub mod Walk
pub mod WalkLate
pub mod WalkWorst
pub mod Computed
-- No theorem is empty.
pub mod Instances
