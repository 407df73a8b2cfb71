-- The ranges of the specification (section 2.3), and the tables whose tasks keep them.
use Rattle.std.specs.Prelude.{◌≡◌, refl, ◌↔◌, ◌≢◌, Bool, true, false, cond, not, ℕ, suc, ◌≤◌, ◌<◌, T, leb, eqb, length}
use Rattle.std.proofs.Math.Decide.{ℕ_discrete, dec_le}
use Rattle.std.proofs.Common.{arith, ne_eqb, leb→le, le→leb}
use Rattle.std.proofs.Math.ListN.{get_or-eq_default}
use Rattle.values.specs.declared.Task.{Task}
use Rattle.values.specs.declared.Table.{Table}
use Rattle.model.specs.Limits.{task_limit, slot_limit}
use Rattle.model.specs.Tasks.{no_task, task, offset, within, task_fault, first_faulty}
use Rattle.counting.specs.Count.{and_iff}
use Rattle.counting.specs.Search.{first_before, first_none}

-- A task keeps all its ranges.
pub record InRange (k : Task) : Type 0 where
  pub period_pos : 1 ≤ k.period
  pub period_le : k.period ≤ slot_limit
  pub deadline_pos : 1 ≤ k.deadline
  pub deadline_le : k.deadline ≤ k.period
  pub cost_pos : 1 ≤ k.cost
  pub cost_le : k.cost ≤ k.deadline
  pub offset_le : offset k ≤ slot_limit

-- A table has a task, not too many, and each keeps its ranges.
pub record Ranged (t : Table) : Type 0 where
  pub some : 0 < t.count
  pub few : t.count ≤ task_limit
  pub each : (i : ℕ) → i < t.count → InRange (task t i)

-- Such a table holds every task that it counts: what stands past the end of a list is no task in range.
pub holds_all : (t : Table) → Ranged t → t.count ≤ length t.tasks
holds_all t r = elim (dec_le t.count (length t.tasks)) [
  | yes h ↦ h
  | no h ↦
      let past : task t (length t.tasks) ≡ no_task = get_or-eq_default t.tasks no_task {n = length t.tasks} (omega arith) in
      absurd (omega (arith, rw past at (r.each (length t.tasks) (omega arith)).period_pos))
]

-- The test of a range, by its two ends.
within_iff : (a b x : ℕ) → T (within a b x) ↔ ((a ≤ x) × (x ≤ b))
within_iff a b x =
    let both = and_iff (leb a x) (leb x b) in (
      λ h. (leb→le a x (both.0 h).0, leb→le x b (both.0 h).1),
      λ h. both.1 (le→leb a x h.0, le→leb x b h.1),
    )

-- Where no fault is found, the test holds, and the checks after it find none; and the other way.
kept : (p : Bool) (n : ℕ) {m : ℕ} → cond (not p) (suc n) m ≡ 0 → T p × (m ≡ 0)
kept true n e = (tt, e)
kept false n e = absurd (omega arith)

kept_test : (p : Bool) (n : ℕ) {m : ℕ} → T p → cond (not p) n m ≡ m
kept_test true n t = refl
kept_test false n {m = m} t = elim t [ ]

-- A task without a fault keeps its ranges.
pub faultless : (k : Task) → task_fault k ≡ 0 → InRange k
unfolding task_fault
faultless k e =
    let (period, e₁) = kept (within 1 slot_limit k.period) 2 e in
    let (deadline, e₂) = kept (within 1 k.period k.deadline) 3 e₁ in
    let (cost, e₃) = kept (within 1 k.deadline k.cost) 4 e₂ in
    let (start, none) = kept (within 0 slot_limit (offset k)) 5 e₃ in
    let p = (within_iff 1 slot_limit k.period).0 period in
    let d = (within_iff 1 k.period k.deadline).0 deadline in
    let c = (within_iff 1 k.deadline k.cost).0 cost in
    record {
      period_pos = p.0;
      period_le = p.1;
      deadline_pos = d.0;
      deadline_le = d.1;
      cost_pos = c.0;
      cost_le = c.1;
      offset_le = ((within_iff 0 slot_limit (offset k)).0 start).1;
    }

-- A task that keeps its ranges has no fault.
no_fault : (k : Task) → InRange k → task_fault k ≡ 0
unfolding task_fault
no_fault k r =
    rw (
      kept_test (within 1 slot_limit k.period) 3 ((within_iff 1 slot_limit k.period).1 (r.period_pos, r.period_le)),
      kept_test (within 1 k.period k.deadline) 4 ((within_iff 1 k.period k.deadline).1 (r.deadline_pos, r.deadline_le)),
      kept_test (within 1 k.deadline k.cost) 5 ((within_iff 1 k.deadline k.cost).1 (r.cost_pos, r.cost_le)),
      kept_test (within 0 slot_limit (offset k)) 6 ((within_iff 0 slot_limit (offset k)).1 (omega arith, r.offset_le)),
    )

-- The test by which the model looks for a faulty task.
abbrev pub faulty : Table → ℕ → Bool
faulty t i = not (eqb (task_fault (task t i)) 0)

-- A number that is not 0 passes that test, and 0 does not.
pub marked : (n : ℕ) → n ≢ 0 → T (not (eqb n 0))
marked n h = rw (ne_eqb n 0 h) tt

pub unmarked : (n : ℕ) → n ≡ 0 → T (not (eqb n 0)) → ⊥
unmarked n e h = rw e at h

-- A table in which no faulty task is found keeps its ranges.
pub ranged : (t : Table) → 0 < t.count → t.count ≤ task_limit → t.count ≤ first_faulty t → Ranged t
unfolding first_faulty
ranged t some few none = record { some = some; few = few; each = λ i l. faultless (task t i) (faultless_at i l) }
  where
    faultless_at : (i : ℕ) → i < t.count → task_fault (task t i) ≡ 0
    faultless_at i l =
        elim (ℕ_discrete (task_fault (task t i)) 0) [
          | yes e ↦ e
          | no e ↦ absurd
              (first_before (faulty t) 0 t.count i (omega arith) (omega arith) (marked (task_fault (task t i)) e))
        ]

-- In a table that keeps its ranges none is found.
pub none_faulty : (t : Table) → Ranged t → first_faulty t ≡ t.count
unfolding first_faulty
none_faulty t r = omega (arith, first_none (faulty t) 0 t.count (λ i a b. unmarked (task_fault (task t i)) (no_fault (task t i) (r.each i (omega arith)))))
