-- FROM EASY TO HARD (`hardening`): a change goes in steps from 1 on; each step keeps the sort and the period of every task, costs no less
-- and is due no later than the one before.
use Rattle.std.specs.Prelude.{◌≡◌, refl, ◌≢◌, List, ℕ, suc, ◌-◌, ◌*◌, ◌≤◌, ◌<◌, set}
use Rattle.std.proofs.Common.{ap, ◌∙◌, mul-le-mul, arith, get_or-set_same, get_or-set_other}
use Rattle.std.proofs.Math.Decide.{ℕ_discrete}
use Rattle.std.proofs.lemmas.List.{set-get_or}
use Rattle.values.specs.declared.Task.{Task}
use Rattle.values.specs.declared.Table.{Table}
use Rattle.values.specs.declared.Change.{Change}
use Rattle.model.specs.Limits.{share_limit}
use Rattle.model.specs.Tasks.{no_task, task}
use Rattle.model.specs.Largest.{costing, with_cost}
use Rattle.model.specs.Fitting.{due_in, with_deadline, share_of, shared, with_share, easiest, task_of}
use Rattle.counting.specs.Fill.{fill_passed, fill_eq, fill_same}
use Rattle.wellformed.specs.Ranges.{InRange, Ranged, holds_all}

-- A table with a change at a step. A shorter deadline is a harder step: the first is the period.
abbrev pub hardened : Table → Change → ℕ → Table
hardened t (Change.Cost i) x = with_cost t i x
hardened t (Change.Deadline i) x = with_deadline t i (suc (task t i).period - x)
hardened t Change.Share x = with_share t x

-- The last step that is looked at, and the number that a step stands for, by the task that the change is about.
abbrev pub steps_of : Task → Change → ℕ
steps_of k (Change.Cost i) = k.deadline
steps_of k (Change.Deadline i) = suc k.period - k.cost
steps_of k Change.Share = share_limit

abbrev pub number_of : Task → Change → ℕ → ℕ
number_of k (Change.Cost i) x = x
number_of k (Change.Deadline i) x = suc k.period - x
number_of k Change.Share x = x

abbrev pub steps : Table → Change → ℕ
steps t c = steps_of (task t (task_of c)) c

abbrev pub number_at : Table → Change → ℕ → ℕ
number_at t c = number_of (task t (task_of c)) c

-- The code finds the task and the number first, and then makes the table.
abbrev pub made_by : Table → Change → ℕ → ℕ → Table
made_by t (Change.Cost j) i n = with_cost t i n
made_by t (Change.Deadline j) i n = with_deadline t i n
made_by t Change.Share i n = with_share t n

pub made : (t : Table) (c : Change) (i n x : ℕ) → i ≡ task_of c → n ≡ number_at t c x → made_by t c i n ≡ hardened t c x
made t (Change.Cost j) i n x e f = rw (e, f)
made t (Change.Deadline j) i n x e f = rw (e, f)
made t Change.Share i n x e f = rw f

pub share_reaches : (k : Task) (c : Change) (n x : ℕ) → c ≡ Change.Share → x ≤ steps_of k c → n ≡ number_of k c x → n ≤ share_limit
share_reaches k c n x told l f =
    let reach : x ≤ share_limit = rw told at l in
    let same : n ≡ x = rw told at f in
    omega arith

-- What holds of a task at one step, and at a step and a harder one.
pub record Kept (before now : Task) : Type 0 where
  pub sort : now.sort ≡ before.sort
  pub period : now.period ≡ before.period
  pub some : 1 ≤ now.cost
  pub due : now.deadline ≤ before.period

pub record Harder (easy hard : Task) : Type 0 where
  pub cost : easy.cost ≤ hard.cost
  pub deadline : hard.deadline ≤ easy.deadline

pub record Hardening (t : Table) (u : ℕ → Table) : Type 0 where
  pub count : (x : ℕ) → (u x).count ≡ t.count
  pub kept : (x k : ℕ) → 1 ≤ x → k < t.count → Kept (task t k) (task (u x) k)
  pub harder : (x y k : ℕ) → x ≤ y → k < t.count → Harder (task (u x) k) (task (u y) k)

-- A task as it is.
same_kept : (t : Table) → Ranged t → (k : ℕ) → k < t.count → Kept (task t k) (task t k)
same_kept t r k l = let q = r.each k l in record { sort = refl; period = refl; some = q.cost_pos; due = q.deadline_le }

same_harder : (k : Task) → Harder k k
same_harder k = record { cost = omega arith; deadline = omega arith }

module _ (t : Table) (r : Ranged t) (i : ℕ) (l : i < t.count) where
  -- One task is another, and the rest are as they were.
  own : (k : Task) → task (record { count = t.count; tasks = set t.tasks i k }) i ≡ k
  own k = get_or-set_same t.tasks i k no_task (omega (arith, holds_all t r))

  other : (k : Task) (j : ℕ) → j ≢ i → task (record { count = t.count; tasks = set t.tasks i k }) j ≡ task t j
  other k j h = get_or-set_other t.tasks i j k no_task h

  one_task : (f : ℕ → Task) → ((x : ℕ) → 1 ≤ x → Kept (task t i) (f x)) → ((x y : ℕ) → x ≤ y → Harder (f x) (f y))
      → Hardening t (λ x. record { count = t.count; tasks = set t.tasks i (f x) })
  one_task f kept harder = record {
    count = λ x. refl;
    kept = λ x k some m. elim (ℕ_discrete k i) [
      | yes e ↦ rw (e, own (f x)) (kept x some)
      | no e ↦ rw (other (f x) k e) (same_kept t r k m)
    ];
    harder = λ x y k h m. elim (ℕ_discrete k i) [
      | yes e ↦ rw (e, own (f x), own (f y)) (harder x y h)
      | no e ↦ rw (other (f x) k e, other (f y) k e) (same_harder (task t k))
    ];
  }

-- A share of a cost is some, and grows with the share.
share_some : (c p : ℕ) → 1 ≤ c → 1 ≤ p → 1 ≤ share_of c p
share_some c p a b = let w : 1 ≤ c * p = mul-le-mul a b in omega (arith, w)

share_grows : (c p q : ℕ) → p ≤ q → share_of c p ≤ share_of c q
share_grows c p q h = let w : c * p ≤ c * q = mul-le-mul (omega arith) h in omega (arith, w)

pub shared_task : (t : Table) → Ranged t → (p k : ℕ) → k < t.count → task (with_share t p) k ≡ shared t p k
shared_task t r p k l = fill_passed t.count (shared t p) t.tasks k no_task l (omega (arith, holds_all t r))

pub hardening : (t : Table) → Ranged t → (c : Change) → task_of c < t.count → Hardening t (hardened t c)
hardening t r (Change.Cost i) l =
    let q = r.each i l in
    one_task t r i l (costing (task t i)) (λ x some. record { sort = refl; period = refl; some = some; due = q.deadline_le })
    (λ x y h. record { cost = h; deadline = omega arith })
hardening t r (Change.Deadline i) l =
    let q = r.each i l in
    one_task t r i l (λ x. due_in (task t i) (suc (task t i).period - x))
    (λ x some. record { sort = refl; period = refl; some = q.cost_pos; due = omega arith })
    (λ x y h. record { cost = omega arith; deadline = omega arith })
hardening t r Change.Share l = record {
  count = λ x. refl;
  kept = λ x k some m. let q = r.each k m in rw (shared_task t r x k m) (record {
    sort = refl;
    period = refl;
    some = share_some (task t k).cost x q.cost_pos some;
    due = q.deadline_le;
  });
  harder = λ x y k h m. rw (shared_task t r x k m, shared_task t r y k m)
      (record { cost = share_grows (task t k).cost x y h; deadline = omega arith });
}

-- There is a step, and not too many.
pub steps_le : (k : Task) → InRange k → (c : Change) → steps_of k c ≤ share_limit
steps_le k q (Change.Cost i) = omega (arith, q.deadline_le, q.period_le)
steps_le k q (Change.Deadline i) = omega (arith, q.cost_pos, q.period_le)
steps_le k q Change.Share = omega arith

-- One step is the table as it is.
abbrev pub own_step : Table → Change → ℕ
own_step t (Change.Cost i) = (task t i).cost
own_step t (Change.Deadline i) = suc (task t i).period - (task t i).deadline
own_step t Change.Share = 1000

whole : (c : ℕ) → share_of c 1000 ≡ c
whole c = omega arith

pub own_step_lem : (t : Table) → Ranged t → (c : Change) → task_of c < t.count → hardened t c (own_step t c) ≡ t
own_step_lem t r (Change.Cost i) l = rw (set-get_or t.tasks i no_task)
own_step_lem t r (Change.Deadline i) l =
    let d = (task t i).deadline in
    let back : suc (task t i).period - (suc (task t i).period - d) ≡ d = omega (arith, (r.each i l).deadline_le) in
    rw (back, set-get_or t.tasks i no_task)
own_step_lem t r Change.Share l =
    ap (λ (x : List Task). record { count = t.count; tasks = x })
    (fill_eq t.count (shared t 1000) (task t) t.tasks (λ i h. ap (costing (task t i)) (whole (task t i).cost))
    ∙ fill_same t.count t.tasks no_task)

pub own_within : (t : Table) → Ranged t → (c : Change) → task_of c < t.count → (1 ≤ own_step t c) × (own_step t c ≤ steps t c)
own_within t r (Change.Cost i) l = let q = r.each i l in (q.cost_pos, q.cost_le)
own_within t r (Change.Deadline i) l = let q = r.each i l in (omega (arith, q.deadline_le), omega (arith, q.cost_le))
own_within t r Change.Share l = (omega arith, omega arith)

-- The first step is the change at its easiest.
pub first_step : (t : Table) (c : Change) → hardened t c 1 ≡ easiest t c
first_step t (Change.Cost i) = refl
first_step t (Change.Deadline i) = let e : suc (task t i).period - 1 ≡ (task t i).period = omega arith in rw e
first_step t Change.Share = refl
