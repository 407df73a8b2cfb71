-- The whole answer of a check as numbers in a lent buffer, and the exported call that gives it.
use Rattle.std.specs.Prelude.{List, [], ◌∷◌, ◌++◌, Bool, cond, ℕ, ◌+◌, ◌*◌, drop, replicate}
use Rattle.model.specs.Values.{Verdict, Answer, AnswerNumbers}
use Rattle.model.specs.Limits.{task_limit}
use Rattle.model.specs.TableFile.{four, eight, bytes_of}
use Rattle.model.specs.Report.{Exported, CheckedBy}
use Rattle.model.specs.StateBuffer.{halves, words_in}

-- The bytes of an answer: eight for each of eight numbers, four for each of four words and for each worst response.
abbrev pub answer_bytes : ℕ
answer_bytes = 8 * 8 + 4 * (4 + task_limit)

-- What every verdict comes with, and what only some come with: the first idle instant, the interval and its demand,
-- and the worst responses.
abbrev pub numbers_by : ℕ → Bool → Answer → ℕ → ℕ → ℕ → ℕ → ℕ → List ℕ → AnswerNumbers
numbers_by n quick a verdict idle from to demand worst =
    record {
      round = a.measure.round;
      load = a.measure.load;
      horizon = a.measure.horizon;
      settled = a.settled;
      idle = idle;
      from = from;
      to = to;
      demand = demand;
      tasks = n;
      quick = cond quick 1 0;
      verdict = verdict;
      worst = worst;
    }

-- The numbers of a verdict on a table of n tasks, which the quick test passes or not. A verdict has the number by which it
-- is said (`verdict_said`). What it leaves nothing to say of is 0.
abbrev pub numbers_of : ℕ → Bool → Answer → Verdict → AnswerNumbers
numbers_of n quick a Verdict.Overload = numbers_by n quick a 1 0 0 0 0 (replicate task_limit 0)
numbers_of n quick a Verdict.Undecided = numbers_by n quick a 2 0 0 0 0 (replicate task_limit 0)
numbers_of n quick a (Verdict.Late from to demand) = numbers_by n quick a 3 0 from to demand (replicate task_limit 0)
numbers_of n quick a Verdict.Passes = numbers_by n quick a 4 a.idle 0 0 0 a.worst

-- Their bytes. The fourth word is spare, and 0.
unfoldable pub answer_buffer : AnswerNumbers → List ℕ
answer_buffer x =
    bytes_of (halves
    (x.round ∷ x.load ∷ x.horizon ∷ x.settled ∷ x.idle ∷ x.from ∷ x.to ∷ x.demand ∷ []))
    ++ bytes_of (x.tasks ∷ x.quick ∷ x.verdict ∷ 0 ∷ x.worst)

-- The numbers in a buffer.
unfoldable pub numbers_in : List ℕ → AnswerNumbers
numbers_in buffer =
    record {
      round = eight buffer 0;
      load = eight buffer 8;
      horizon = eight buffer 16;
      settled = eight buffer 24;
      idle = eight buffer 32;
      from = eight buffer 40;
      to = eight buffer 48;
      demand = eight buffer 56;
      tasks = four buffer 64;
      quick = four buffer 68;
      verdict = four buffer 72;
      worst = words_in buffer 80;
    }

-- The numbers are written from the front of the buffer, and 0 is returned. Bytes behind them stay as found.
abbrev pub numbers_written : List ℕ → ℕ → Bool → Answer → Verdict → Exported
numbers_written buffer n quick a v =
    record { number = 0; buffer = answer_buffer (numbers_of n quick a v) ++ drop answer_bytes buffer }

-- The one permitted result of the exported call on any file and any buffer.
abbrev pub Answered : List ℕ → List ℕ → Exported → Type 0
Answered file buffer = CheckedBy answer_bytes (numbers_written buffer) file buffer
