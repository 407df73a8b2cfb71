-- The search for the start, downwards: which starts need no look.
use Rattle.std.specs.Prelude.{◌≡◌, ◌⊎◌, cond, ℕ, suc, ◌+◌, ◌-◌, ◌*◌, ◌/◌, ◌≤◌, ◌<◌, T, leb}
use Rattle.std.proofs.Common.{ap, inl, inr, le-div_iff_mul-le, div-mul-le_self, mul-add, mul-le-mul, mul-le-mul_left, le_refl, le-leb}
use Rattle.std.proofs.Math.Nat.{le_of_mul-le-mul_left}
use Rattle.std.proofs.Math.Decide.{dec_lt, dec_le}
use native.Mathlib.Omega.{arith}
use Rattle.std.proofs.lemmas.Bool.{lt-leb}
use Rattle.values.specs.declared.Task.{Task}
use Rattle.values.specs.declared.Table.{Table}
use Rattle.model.specs.Tasks.{task, offset, release, due, round, load}
use Rattle.model.specs.Notation.{sum}
use Rattle.model.specs.Demand.{jobs_in, demand, asks_too_much}
use Rattle.counting.specs.Below.{below_same, below_below}
use Rattle.counting.specs.Sum.{sum_le, sum_add, sum_mul, sum_zero, sum_bound}
use Rattle.wellformed.specs.Ranges.{InRange, Ranged}
use Rattle.wellformed.specs.Round.{share}
use Rattle.wellformed.specs.Closed.{releases, dues, jobs_inside}
use Rattle.backlog.specs.TooMuch.{too_much_iff}
use Rattle.intervals.specs.Light.{new_le, shares_le}

-- No release of the task lies after `start` and before `from`.
abbrev pub NoRelease : Task → ℕ → ℕ → Type 0
NoRelease k start from = (j : ℕ) → release k j < from → release k j ≤ start

module _ (k : Task) (r : InRange k) where
  -- The latest release in closed form: it lies before `from`, and none lies between.
  pub before_from : (from : ℕ) → offset k < from → offset k + (from - offset k - 1) / k.period * k.period < from
  before_from from h = omega (arith, div-mul-le_self (from - offset k - 1) k.period)

  pub no_release : (from : ℕ) → NoRelease k (offset k + (from - offset k - 1) / k.period * k.period) from
  no_release from j h =
      omega (
        arith,
        mul-le-mul {n₁ = j} {n₂ = (from - offset k - 1) / k.period} {m₂ = k.period} ((le-div_iff_mul-le r.period_pos).1 (omega arith))
            (le_refl k.period),
      )

  -- An interval that starts between has the same jobs; one that starts at any earlier instant has at most one more, and one for
  -- each whole period between.
  jobs_same : (start later from to : ℕ) → NoRelease k start from → start < later → later ≤ from → jobs_in k later to ≡ jobs_in k from to
  jobs_same start later from to q a b =
      rw (jobs_inside k r later to, jobs_inside k r from to, below_same (release k) (releases k r) later from b (λ j l. omega (arith, q j l)))

  jobs_more : (later from to : ℕ) → later < from → jobs_in k later to ≤ jobs_in k from to + (1 + (from - later - 1) / k.period)
  jobs_more later from to h = omega (arith, jobs_inside k r later to, jobs_inside k r from to, new_le k r later from h)

  jobs_none : (to : ℕ) → jobs_in k to to ≡ 0
  jobs_none to =
      omega (arith, jobs_inside k r to to, below_below (due k) (release k) (dues k r) (releases k r) (suc to) to (λ j h. omega (arith, r.deadline_pos)))

-- An interval of no slots asks for none.
pub demand_none : (t : Table) → Ranged t → (to : ℕ) → demand t to to ≡ 0
unfolding demand
demand_none t r to = sum_zero t.count _ (λ i l. rw (jobs_none (task t i) (r.each i l) to) (omega arith))

-- A start between needs no look for task i: one job of it costs at most an n-th of the spare slots, or none is released there.
abbrev pub PassedOver : Table → ℕ → ℕ → ℕ → ℕ → Type 0
PassedOver t spare start from i = (t.count * (task t i).cost ≤ spare) ⊎ NoRelease (task t i) start from

-- Where the load is at most 1 and the interval from `from` leaves some slots to spare, no start between the two asks too much.
module _ (t : Table) (r : Ranged t) (light : load t ≤ round t) {start from to spare : ℕ} (h : from ≤ to) (left : demand t from to + spare ≡ to - from)
    (passed : (i : ℕ) → i < t.count → PassedOver t spare start from i) where
  -- A light task's one job.
  abbrev once : ℕ → ℕ
  once i = cond (leb (t.count * (task t i).cost) spare) (task t i).cost 0

  once_le : sum t.count once ≤ spare
  once_le =
      le_of_mul-le-mul_left {k = t.count} (omega (
        arith,
        sum_mul t.count t.count once,
        sum_bound t.count (λ i. t.count * once i) spare each,
      )) r.some
    where
      each : (i : ℕ) → i < t.count → t.count * once i ≤ spare
      each i l = elim (dec_le (t.count * (task t i).cost) spare) [
        | yes p ↦ rw (le-leb (t.count * (task t i).cost) spare p) p
        | no p ↦ rw (lt-leb (t.count * (task t i).cost) spare (omega arith)) (omega arith)
      ]

  module _ (later : ℕ) (a : start < later) (b : later < from) where
    asks_more : (i : ℕ) → i < t.count → (task t i).cost * jobs_in (task t i) later to ≤ (task t i).cost * jobs_in (task t i) from to
        + (once i + share t (from - later - 1) i)
    asks_more i l = go (passed i l)
      where
        go : PassedOver t spare start from i → (task t i).cost * jobs_in (task t i) later to ≤ (task t i).cost * jobs_in (task t i) from to
            + (once i + share t (from - later - 1) i)
        go (inl q) =
            rw (le-leb (t.count * (task t i).cost) spare q)
            (omega (
              arith,
              mul-le-mul_left (task t i).cost (jobs_more (task t i) (r.each i l) later from to b),
              mul-add (task t i).cost (jobs_in (task t i) from to) (1 + (from - later - 1) / (task t i).period),
              mul-add (task t i).cost 1 ((from - later - 1) / (task t i).period),
            ))
        go (inr q) = rw (jobs_same (task t i) (r.each i l) start later from to q a (omega arith)) (omega arith)

    demand_more : demand t later to ≤ to - later - 1
    unfolding demand
    demand_more =
        omega (
          arith,
          left,
          sum_le t.count (λ i. (task t i).cost * jobs_in (task t i) later to)
              (λ i. (task t i).cost * jobs_in (task t i) from to + (once i + share t (from - later - 1) i)) asks_more,
          sum_add t.count (λ i. (task t i).cost * jobs_in (task t i) from to) (λ i. once i + share t (from - later - 1) i),
          sum_add t.count once (share t (from - later - 1)),
          once_le,
          shares_le t r light (from - later - 1),
        )

  -- So none of them asks too much, if no later one does.
  pub none_between : ((later : ℕ) → from < later → later < to → T (asks_too_much t later to) → ⊥) → (later : ℕ) → start < later → later < to
      → T (asks_too_much t later to) → ⊥
  none_between none later a b x = go (dec_lt from later) (dec_lt later from)
    where
      y : to - later < demand t later to
      y = ((too_much_iff t later to).0 x).1

      go : Dec (from < later) → Dec (later < from) → ⊥
      go (yes p) d = none later p b x
      go (no p) (yes q) = omega (arith, y, demand_more later a q)
      go (no p) (no q) = let e : later ≡ from = omega arith in omega (arith, y, left, ap (λ (u : ℕ). demand t u to) e)
