-- OTHER OFFSETS (`starting_mixed`): a well-formed table with all its tasks periodic, from offsets on that keep their range, is well-formed,
-- with the same H and load.
use Rattle.std.specs.Prelude.{◌≡◌, ◌&&◌, ℕ, ◌*◌, ◌/◌, ◌%◌, ◌^◌, ◌≤◌, ◌<◌, Ok}
use Rattle.std.proofs.Math.Path.{refl, ap, ap₂}
use Rattle.std.proofs.Common.{◌∙◌, arith}
use Rattle.std.proofs.Math.Dec.{ltb, eqb}
use Rattle.values.specs.declared.Sort.{Sort}
use Rattle.values.specs.declared.Task.{Task}
use Rattle.values.specs.declared.Table.{Table}
use Rattle.values.specs.declared.Measure.{Measure}
use Rattle.model.specs.Limits.{slot_limit}
use Rattle.model.specs.Tasks.{no_task, task, round, load, horizon, judged_mixed, common_multiple}
use Rattle.model.specs.Patterns.{starting_at}
use Rattle.counting.specs.Sum.{sum_eq}
use Rattle.counting.specs.Count.{count_eq}
use Rattle.counting.specs.Search.{first_eq}
use Rattle.counting.specs.Fill.{fill_passed, fill_eq, fill_again}
use Rattle.wellformed.specs.Ranges.{InRange, Ranged, holds_all}
use Rattle.wellformed.specs.WellFormed.{mixed_iff}

-- A task of whichever sort, periodic from an offset on.
abbrev pub starting_task : ℕ → Task → Task
starting_task o k = record { sort = Sort.Periodic o; cost = k.cost; deadline = k.deadline; period = k.period }

module _ (t : Table) (r : Ranged t) (start : ℕ → ℕ) where
  pub starting_task_lem : (i : ℕ) → i < t.count → task (starting_at t start) i ≡ starting_task (start i) (task t i)
  unfolding starting_at
  starting_task_lem i l = fill_passed t.count _ t.tasks i no_task l (omega (arith, holds_all t r))

  pub starting_count : (starting_at t start).count ≡ t.count
  unfolding starting_at
  starting_count = refl

  -- Its H and its load are the same.
  pub starting_round : round (starting_at t start) ≡ round t
  unfolding starting_at round
  starting_round =
      first_eq (common_multiple (starting_at t start)) (common_multiple t) 0 (slot_limit ^ t.count)
      (λ h a b. ap (λ (c : ℕ). ltb 0 h && eqb c t.count) (count_eq _ _ t.count (λ i l. ap (λ (k : Task). eqb (h % k.period) 0) (starting_task_lem i l))))

  pub starting_load : load (starting_at t start) ≡ load t
  unfolding load starting_at
  starting_load = sum_eq t.count _ _ (λ i l. ap₂ (λ (k : Task) (h : ℕ). k.cost * (h / k.period)) (starting_task_lem i l) starting_round)

  module _ (low : (i : ℕ) → i < t.count → start i ≤ slot_limit) where
    -- It keeps its ranges if the new offsets keep theirs.
    pub starting_ranged : Ranged (starting_at t start)
    starting_ranged = record {
      some = omega (arith, starting_count, r.some);
      few = omega (arith, starting_count, r.few);
      each = λ i l. let m : i < t.count = omega (arith, starting_count) in rw (starting_task_lem i m) (in_range i m (r.each i m));
    }
      where
        in_range : (i : ℕ) → i < t.count → InRange (task t i) → InRange (starting_task (start i) (task t i))
        in_range i l k = record {
          period_pos = k.period_pos;
          period_le = k.period_le;
          deadline_pos = k.deadline_pos;
          deadline_le = k.deadline_le;
          cost_pos = k.cost_pos;
          cost_le = k.cost_le;
          offset_le = low i l;
        }

-- So it is well-formed.
pub starting_mixed : (t : Table) (m : Measure) (start : ℕ → ℕ) → judged_mixed t ≡ Ok m → ((i : ℕ) → i < t.count → start i ≤ slot_limit)
    → judged_mixed (starting_at t start) ≡ Ok (record { round = m.round; load = m.load; horizon = horizon (starting_at t start) })
starting_mixed t m start e low =
    let (r, h, same) = (mixed_iff t m).0 e in
    (mixed_iff (starting_at t start) _).1 (
      starting_ranged t r start low,
      omega (arith, starting_round t r start),
      rw (starting_round t r start, starting_load t r start, same) refl,
    )

-- New offsets of new offsets.
pub starting_again : (t : Table) → Ranged t → (start start' : ℕ → ℕ) → starting_at (starting_at t start) start' ≡ starting_at t start'
unfolding starting_at
starting_again t r start start' =
    ap (λ w. record { count = t.count; tasks = w })
    (fill_eq t.count _ _ _ (λ i l. ap (starting_task (start' i)) (starting_task_lem t r start i l)) ∙ fill_again t.count _ _ t.tasks)

-- Offsets that agree.
pub starting_eq : (t : Table) (start start' : ℕ → ℕ) → ((i : ℕ) → i < t.count → start i ≡ start' i) → starting_at t start ≡ starting_at t start'
unfolding starting_at
starting_eq t start start' h =
    ap (λ w. record { count = t.count; tasks = w }) (fill_eq t.count _ _ t.tasks (λ i l. ap (λ (o : ℕ). starting_task o (task t i)) (h i l)))
