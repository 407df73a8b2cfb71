-- The quick test (T-03) and the distance test (T-05, T-13): tables with other offsets,
-- each walked to its first idle instant.
use Rattle.values.specs.declared.ByDistance.{ByDistance}
use Rattle.values.specs.declared.Quick.{Quick}
use Rattle.std.specs.Prelude.{Bool, cond, not, ◌&&◌, ◌||◌, ℕ, suc, ◌-◌, ◌%◌, ℤ, pos, negsuc, ◌-ℤ◌, leb, eqb, Ok, Err}
use Rattle.model.specs.Notation.{some, every, last, fill}
use Rattle.model.specs.Values.{Sort, Task, Table, Judgement, QuickAnswer, DistanceAnswer}
use Rattle.model.specs.Tasks.{task, is_button, offset, round, load, judged_mixed, judged}
use Rattle.model.specs.Run.{Order, tie_order}
use Rattle.model.specs.Idle.{first_idle, missed_at}

-- The table with each task i, of whichever sort, periodic from `start i` on.
unfoldable pub starting_at : Table → (ℕ → ℕ) → Table
starting_at t start =
    record {
      count = t.count;
      tasks =
          fill t.count (λ i. record {
            sort = Sort.Periodic (start i);
            cost = (task t i).cost;
            deadline = (task t i).deadline;
            period = (task t i).period;
          }) t.tasks;
    }

-- No overload: the load is at most 1.
abbrev pub light : Table → Bool
light t = leb (load t) (round t)

-- The run, in an order of the tasks, misses no deadline up to its first idle instant after 0; and so in ours.
abbrev pub calm_by : Order → Table → Bool
calm_by rank t = every (λ u. not (missed_at t rank u)) (suc (first_idle t rank))

unfoldable pub calm : Table → Bool
calm t = calm_by (tie_order t) t

-- All tasks start at 0.
abbrev pub simultaneous : Table → Table
simultaneous t = starting_at t (λ i. 0)

-- Quick pass (T-03): no overload, and calm with all tasks started at 0.
unfoldable pub quick_pass : Table → Bool
quick_pass t = light t && calm (simultaneous t)

-- The one answer of the quick test to any table. Overload is no answer, and late is never said.
abbrev pub quick_judged : Table → Judgement → QuickAnswer
quick_judged t (Err r) = Err r
quick_judged t (Ok m) = cond (quick_pass t) (Ok Quick.Pass) (Ok Quick.NoAnswer)

unfoldable pub quick_answer : Table → QuickAnswer
quick_answer t = quick_judged t (judged t)

-- The greatest number that divides both, of which the first is not 0.
unfoldable pub common_divisor : ℕ → ℕ → ℕ
common_divisor a b = last (λ g. eqb (a % g) 0 && eqb (b % g) 0) (suc a)

-- An integer reduced upward into 0 to g - 1: the number there that differs from it by a multiple of g.
-- `negsuc n` is -(n + 1).
abbrev pub reduced : ℤ → ℕ → ℕ
reduced (pos n) g = n % g
reduced (negsuc n) g = (g - suc n % g) % g

-- The smallest distance from a release of `one` to a simultaneous or later one of `other`:
-- the difference of their offsets, reduced; a button has distance 0 from each.
unfoldable pub distance : Task → Task → ℕ
distance one other =
    cond (is_button other) 0
    (reduced (pos (offset other) -ℤ pos (offset one)) (common_divisor one.period other.period))

-- The pattern of a periodic task i: i starts at 0, and every other task at its distance from i.
abbrev pub pattern : Table → ℕ → Table
pattern t i = starting_at t (λ k. distance (task t i) (task t k))

-- The pattern of each periodic task is calm; where there is none, all starts at 0 are.
abbrev pub calm_patterns : Table → Bool
calm_patterns t =
    cond (some (λ i. not (is_button (task t i))) t.count)
    (every (λ i. is_button (task t i) || calm (pattern t i)) t.count)
    (calm (simultaneous t))

-- Distance pass: no overload, and every pattern is calm.
unfoldable pub distance_pass : Table → Bool
distance_pass t = light t && calm_patterns t

-- The one answer of the distance test to any table, of tasks of both sorts. Overload is said first.
abbrev pub distance_judged : Table → Judgement → DistanceAnswer
distance_judged t (Err r) = Err r
distance_judged t (Ok m) =
    cond (light t) (cond (distance_pass t) (Ok ByDistance.Pass) (Ok ByDistance.NoAnswer)) (Ok ByDistance.Overload)

unfoldable pub distance_answer : Table → DistanceAnswer
distance_answer t = distance_judged t (judged_mixed t)
