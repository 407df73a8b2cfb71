-- H of a table that keeps its ranges: the least common multiple of the periods, found as far as its limit.
use Rattle.std.specs.Prelude.{◌≡◌, ℕ, ◌*◌, ◌/◌, ◌^◌, ◌≤◌, ◌<◌}
use Rattle.std.proofs.Common.{sym, ◌∙◌, le_refl, le_trans, mul_comm, mul-le-mul, mul-le-mul_right, div-le_self, arith}
use Rattle.std.specs.Int.{◌∣◌}
use Rattle.std.proofs.Math.Nat.{mul-mul-mul_comm, mul-div-le, div-mul_cancel}
use Rattle.values.specs.declared.Table.{Table}
use Rattle.model.specs.Limits.{task_limit, slot_limit, round_limit}
use Rattle.model.specs.Tasks.{task, round, load}
use Rattle.counting.specs.Sum.{sum_bound}
use Rattle.counting.specs.Divisors.{lcm_all, lcm_all_least, lcm_all_pos, lcm_all_le_product, product_le, divides_lcm_all, first_multiple}
use Rattle.wellformed.specs.Ranges.{Ranged}

-- r is H, and keeps its limit.
pub record RoundKept (t : Table) (r : ℕ) : Type 0 where
  pub is : r ≡ round t
  pub le : r ≤ round_limit

-- The period of task i.
abbrev pub period : Table → ℕ → ℕ
period t i = (task t i).period

module _ (t : Table) (ranged : Ranged t) where
  periods_pos : (i : ℕ) → i < t.count → 0 < period t i
  periods_pos i l = (ranged.each i l).period_pos

  -- The least common multiple of the periods keeps the bound up to which H is looked for.
  lcm_bound : lcm_all t.count (period t) ≤ slot_limit ^ t.count
  lcm_bound = le_trans (lcm_all_le_product t.count (period t) periods_pos) (product_le t.count (period t) slot_limit (λ i l. (ranged.each i l).period_le))

  -- H is the least common multiple of the periods.
  pub round_lcm : round t ≡ lcm_all t.count (period t)
  unfolding round
  round_lcm = first_multiple t.count (period t) (slot_limit ^ t.count) periods_pos lcm_bound

  -- H is not 0.
  pub round_pos : 0 < round t
  round_pos = rw round_lcm (lcm_all_pos t.count (period t) periods_pos)

  -- Each period divides H.
  pub period_divides : (i : ℕ) → i < t.count → period t i ∣ round t
  period_divides i l = rw round_lcm (divides_lcm_all t.count (period t) i l)

  -- No number above 0 that each period divides is smaller.
  pub round_least : (x : ℕ) → 0 < x → ((i : ℕ) → i < t.count → period t i ∣ x) → round t ≤ x
  round_least x pos h = rw round_lcm (lcm_all_least t.count (period t) x pos h)

-- Tables with the same periods have the same H.
pub round_same : (t u : Table) → Ranged t → Ranged u → u.count ≡ t.count → ((i : ℕ) → i < t.count → period u i ≡ period t i) → round u ≡ round t
round_same t u r q n e = omega (arith, below t u r q n e, below u t q r (sym n) (λ i l. sym (e i (omega arith))))
  where
    below : (a b : Table) → Ranged a → Ranged b → b.count ≡ a.count → ((i : ℕ) → i < a.count → period b i ≡ period a i) → round b ≤ round a
    below a b x y m f = round_least b y (round a) (round_pos a x) (λ i l. rw (f i (omega arith)) (period_divides a x i (omega arith)))

-- The next multiple of a number up to the limit and of a period.
pub multiple_le : (r g p : ℕ) → r ≤ round_limit → p ≤ slot_limit → r / g * p ≤ round_limit * slot_limit
multiple_le r g p a b = mul-le-mul (le_trans (div-le_self r g) a) b

-- The slots that the jobs of task i ask for in h slots: at most h.
abbrev pub share : Table → ℕ → ℕ → ℕ
share t h i = (task t i).cost * (h / (task t i).period)

pub share_le : (t : Table) → Ranged t → (h i : ℕ) → i < t.count → share t h i ≤ h
share_le t r h i l =
    let k = r.each i l in
    le_trans (mul-le-mul_right (h / (task t i).period) (le_trans k.cost_le k.deadline_le)) (mul-div-le h (task t i).period)

-- So the load is at most a whole round for each task.
pub load_le : (t : Table) → Ranged t → load t ≤ task_limit * round t
unfolding load
load_le t r =
    omega (arith, sum_bound t.count (share t (round t)) (round t) (share_le t r (round t)), mul-le-mul_right (round t) r.few)

-- For H = q · p and b periods p within x slots.
cross : (c b q p x : ℕ) → b * p ≤ x → q * p * (c * b) ≤ x * (c * q)
cross c b q p x h =
    let e : q * p * (c * b) ≡ b * p * (c * q) = rw (mul_comm c b, mul_comm c q)
    (mul-mul-mul_comm q p b c ∙ rw (mul_comm q b) (sym (mul-mul-mul_comm b p q c))) in
    rw e (mul-le-mul h (le_refl (c * q)))

-- H-fold, what b jobs of task i ask for is at most x times what it asks for in a round, where b of its periods are at most x slots.
pub shares_round : (t : Table) → Ranged t → (i : ℕ) → i < t.count → (b x : ℕ) → b * period t i ≤ x → round t * ((task t i).cost * b) ≤ x * share t (round t) i
shares_round t r i l b x h = rw (div-mul_cancel (period t i) (period_divides t r i l)) at (cross (task t i).cost b (round t / period t i) (period t i) x h)
