-- The numbers by which faults and verdicts are told: sections 7.1, 7.3 and 9 of the specification.
use Rattle.std.specs.Prelude.{ℕ, ◌≢◌}
use Rattle.std.proofs.Common.{arith}
use Rattle.values.specs.declared.Fault.{Fault}
use Rattle.values.specs.declared.Verdict.{Verdict}

abbrev pub number_of : Fault → ℕ
number_of Fault.NoTasks = 1
number_of Fault.TooManyTasks = 2
number_of Fault.BadPeriod = 3
number_of Fault.BadDeadline = 4
number_of Fault.BadCost = 5
number_of Fault.BadOffset = 6
number_of Fault.LongRound = 7
number_of Fault.StrangeState = 8
number_of Fault.FullState = 9
number_of Fault.HasButton = 11
number_of Fault.NoSuchTask = 12
number_of Fault.FileCutShort = 20
number_of Fault.FileUnknownKind = 21
number_of Fault.FileNoBudget = 22
number_of Fault.FileSecondBudget = 23
number_of Fault.FileAfterEnd = 24
number_of Fault.FileTooManyTasks = 25
number_of Fault.FileNoEnd = 26
number_of Fault.ZeroBudget = 27
number_of Fault.ShortReport = 30
number_of Fault.ShortBuffer = 31
number_of Fault.LogUnknownKind = 40
number_of Fault.LogBadDone = 41
number_of Fault.LogAfterEnd = 42
number_of Fault.LogNoEnd = 43
number_of Fault.LogTooLong = 44
number_of Fault.StateLength = 50
number_of Fault.BrokenRows = 51
number_of Fault.StrangeRow = 52
number_of Fault.TextUnknownWord = 60
number_of Fault.TextNotANumber = 61
number_of Fault.TextLargeNumber = 62
number_of Fault.TextWrongCount = 63
number_of Fault.TextBudgetNotFirst = 64
number_of Fault.TextSecondBudget = 65
number_of Fault.TextTooManyTasks = 66

pub number_some : (f : Fault) → number_of f ≢ 0
number_some Fault.NoTasks e = absurd (omega arith)
number_some Fault.TooManyTasks e = absurd (omega arith)
number_some Fault.BadPeriod e = absurd (omega arith)
number_some Fault.BadDeadline e = absurd (omega arith)
number_some Fault.BadCost e = absurd (omega arith)
number_some Fault.BadOffset e = absurd (omega arith)
number_some Fault.LongRound e = absurd (omega arith)
number_some Fault.StrangeState e = absurd (omega arith)
number_some Fault.FullState e = absurd (omega arith)
number_some Fault.HasButton e = absurd (omega arith)
number_some Fault.NoSuchTask e = absurd (omega arith)
number_some Fault.FileCutShort e = absurd (omega arith)
number_some Fault.FileUnknownKind e = absurd (omega arith)
number_some Fault.FileNoBudget e = absurd (omega arith)
number_some Fault.FileSecondBudget e = absurd (omega arith)
number_some Fault.FileAfterEnd e = absurd (omega arith)
number_some Fault.FileTooManyTasks e = absurd (omega arith)
number_some Fault.FileNoEnd e = absurd (omega arith)
number_some Fault.ZeroBudget e = absurd (omega arith)
number_some Fault.ShortReport e = absurd (omega arith)
number_some Fault.ShortBuffer e = absurd (omega arith)
number_some Fault.LogUnknownKind e = absurd (omega arith)
number_some Fault.LogBadDone e = absurd (omega arith)
number_some Fault.LogAfterEnd e = absurd (omega arith)
number_some Fault.LogNoEnd e = absurd (omega arith)
number_some Fault.LogTooLong e = absurd (omega arith)
number_some Fault.StateLength e = absurd (omega arith)
number_some Fault.BrokenRows e = absurd (omega arith)
number_some Fault.StrangeRow e = absurd (omega arith)
number_some Fault.TextUnknownWord e = absurd (omega arith)
number_some Fault.TextNotANumber e = absurd (omega arith)
number_some Fault.TextLargeNumber e = absurd (omega arith)
number_some Fault.TextWrongCount e = absurd (omega arith)
number_some Fault.TextBudgetNotFirst e = absurd (omega arith)
number_some Fault.TextSecondBudget e = absurd (omega arith)
number_some Fault.TextTooManyTasks e = absurd (omega arith)

abbrev pub verdict_number : Verdict → ℕ
verdict_number Verdict.Overload = 1
verdict_number Verdict.Undecided = 2
verdict_number (Verdict.Late from to demand) = 3
verdict_number Verdict.Passes = 4
