-- The limits of the specification (sections 2.3, 4.1, 5.2, 6.1 and 7.1), each once.
use Rattle.std.specs.Prelude.{ℕ, ◌+◌, ◌*◌}

-- Tasks in a table. The same number stands for no task.
abbrev pub task_limit : ℕ
task_limit = 32

-- A period; an offset.
abbrev pub slot_limit : ℕ
slot_limit = 60000

-- H, the least common multiple of the periods.
abbrev pub round_limit : ℕ
round_limit = 1000000000000

-- A share of every cost, in thousandths.
abbrev pub share_limit : ℕ
share_limit = 1000000

-- The bytes of a report buffer.
abbrev pub report_bytes : ℕ
report_bytes = 1024

-- A number of four bytes is below this, and a budget, of eight, below its square.
abbrev pub word_limit : ℕ
word_limit = 4294967296

abbrev pub budget_limit : ℕ
budget_limit = word_limit * word_limit

-- The bytes of a budget, of a task and of a button: the kind and the body. The longest legal file: a budget,
-- every task, the kind of the end.
abbrev pub budget_bytes : ℕ
budget_bytes = 1 + 8

abbrev pub task_bytes : ℕ
task_bytes = 1 + 16

abbrev pub button_bytes : ℕ
button_bytes = 1 + 12

abbrev pub longest_file : ℕ
longest_file = budget_bytes + task_limit * task_bytes + 1

-- The longest text of a file that is not refused: a budget of twenty digits,
-- and of every task four numbers of five digits.
abbrev pub longest_text : ℕ
longest_text = 7 + 20 + 1 + task_limit * (5 + 4 * 5 + 3 + 1)

-- The slots that a dispatcher's state can count, 2^64 - 1 (T-09);
-- the place at which 8 refuses a state that counts more.
abbrev pub slot_count_limit : ℕ
slot_count_limit = 18446744073709551615

abbrev pub sum_place : ℕ
sum_place = task_limit + 1

-- The bytes of a camera's log, 2^32 - 1 (T-14); the place at which 8 refuses a log whose counts are wrong.
abbrev pub log_limit : ℕ
log_limit = 4294967295

abbrev pub count_place : ℕ
count_place = task_limit + 2
