-- Any streams of jobs: the backlog of a class, and the criterion.
pub mod Queue
pub mod Streams
pub mod Left
pub mod StreamRun
pub mod StreamSchedule
pub mod Agree
pub mod Finish
pub mod Ever
pub mod Criterion
-- Dispatchers of any streams that are told of early ends.
pub mod Domination
pub mod History
pub mod AtMost
pub mod NoneLate
pub mod OnTime
pub mod RunHistory
-- A table as streams of jobs, its run, and one round later.
pub mod Choice
pub mod System
pub mod Shift
-- What the test decides, in the model's words.
pub mod TooMuch
pub mod Necessary
pub mod Needed
pub mod LateStart
pub mod Verdicts
pub mod Longer
pub mod FirstChoice
pub mod AnswersSay
-- What the dispatcher does, in the model's words and in any order of the tasks.
pub mod Taken
-- Steps by any jobs that come.
pub mod Coming
-- What a walk to the horizon sees, in any order of the tasks, and the answer by it in ours.
pub mod Walk
pub mod WalkWorst
