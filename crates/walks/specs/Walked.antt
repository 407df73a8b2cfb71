-- A WALK BY SLOTS (`walked_next`): lists that `slots::serve` goes through are the dispatcher's without done reports, as long as no deadline is late.
use Rattle.std.specs.Prelude.{◌≡◌, List, Option, Some, None, Bool, false, ℕ, suc, ◌-◌, ◌<◌, T, replicate}
use Rattle.std.proofs.Math.Path.{refl}
use Rattle.std.proofs.Common.{sym, subst, ◌∙◌, le_refl, arith, le-ltb}
use Rattle.std.proofs.Math.Nat.{le_step}
use Rattle.std.proofs.Math.Decide.{dec_lt}
use Rattle.values.specs.declared.Table.{Table}
use Rattle.model.specs.Limits.{task_limit}
use Rattle.model.specs.Tasks.{task}
use Rattle.model.specs.Demand.{late_at}
use Rattle.model.specs.Run.{tie_order}
use Rattle.model.specs.Dispatcher.{State, start_of, wait_of, is_late, left_late, owner_now_by, after_by}
use Rattle.model.specs.History.{state_at_by, owner_at}
use Rattle.counting.specs.Count.{is_false}
use Rattle.counting.specs.Search.{below_suc}
use Rattle.wellformed.specs.Ranges.{Ranged}
use Rattle.backlog.specs.Walk.{quiet, walked, Clear}
use Rattle.backlog.proofs.WalkLate.{late_iff}
use Rattle.slots.specs.Slot as slot
use Rattle.slots.specs.Columns.{columns_of, Unpacked}
use Rattle.slots.specs.Laws.{Has, Slotted, slack_has, table_served}
use Rattle.slots.specs.declared.columns.Columns.{Columns}
use Rattle.slots.specs.Serve.{Served}

-- What a walk does not change: the number of tasks, and the table's columns.
pub record Setting (t : Table) (n : ℕ) (period cost slack rank : List ℕ) : Type 0 where
  pub tasks : n ≡ t.count
  pub periods : period ≡ (columns_of t).period
  pub costs : cost ≡ (columns_of t).cost
  pub slacks : slack ≡ (columns_of t).slack
  pub ranks : rank ≡ (columns_of t).rank

pub setting : (t : Table) {c : Columns} → Unpacked t c → Setting t c.count c.period c.cost c.slack c.rank
setting t u = record { tasks = u.tasks; periods = u.periods; costs = u.costs; slacks = u.slacks; ranks = u.ranks }

-- What a walk holds before slot n: no deadline before is late, and the lists are those of the dispatcher without done reports.
pub record Walked (t : Table) (n : ℕ) (wait left : List ℕ) : Type 0 where
  pub clear : Clear t n
  pub waits : wait ≡ (walked t n).wait
  pub lefts : left ≡ (walked t n).left

pub walked_start : (t : Table) → Walked t 0 (start_of t).wait (replicate task_limit 0)
unfolding state_at_by start_of
walked_start t = record { clear = λ u l. absurd (omega arith); waits = refl; lefts = refl }

module _ (t : Table) (r : Ranged t) (n : ℕ) where
  abbrev st : State
  st = walked t n

  -- The jobs that the slot looks for are those that step n would close as late.
  abbrev seen : ℕ → Bool
  seen = slot.is_late st.wait st.left (columns_of t).slack t.count

  same_late : (i : ℕ) → seen i ≡ is_late t st false i
  same_late i = elim (dec_lt i t.count) [
    | yes l ↦ rw (slack_has t r.few i l)
    | no l ↦ rw (le-ltb i t.count (omega arith))
  ]

  clear_more : Clear t n → ((i : ℕ) → i < t.count → T (seen i) → ⊥) → Clear t (suc n)
  clear_more c none =
      below_suc (λ u. T (late_at t u) → ⊥) n c (λ h. let (i, m, x) = (late_iff t r (tie_order t) n c).1 h in none i m (subst T (sym (same_late i)) x))

  late_found : Clear t n → (i : ℕ) × (i < t.count) × T (seen i) → T (late_at t n)
  late_found c h = let (i, l, x) = h in (late_iff t r (tie_order t) n c).0 (i, l, subst T (same_late i) x)

  -- A served slot is step n.
  module _ (clear : Clear t (suc n)) {wait' left' : List ℕ} {owner : ℕ}
      (s : Slotted t.count (slot.at st.wait) (slot.at st.left) (slot.at (columns_of t).period) (slot.at (columns_of t).cost)
      (slot.at (columns_of t).slack) (slot.at (columns_of t).rank) st.wait st.left wait' left' owner) where
    lefts_have : Has t.count st.left (left_late t st false)
    lefts_have i l =
        rw (is_false (is_late t st false i) (λ h. clear n (le_refl (suc n)) ((late_iff t r (tie_order t) n (λ u m. clear u (le_step m))).0 (i, l, h)))) refl

    slotted : Slotted t.count (wait_of st) (left_late t st false) (λ i. (task t i).period) (λ i. (task t i).cost)
        (λ i. (task t i).period - (task t i).deadline) (tie_order t) st.wait st.left wait' left' owner
    slotted = table_served t r.few st.wait st.left (wait_of st) (left_late t st false) (λ i l. refl) lefts_have s

    step_owner : owner ≡ owner_at t quiet n
    unfolding owner_now_by
    step_owner = slotted.owned

    step_waits : wait' ≡ (walked t (suc n)).wait
    unfolding state_at_by after_by
    step_waits = slotted.waits

    step_lefts : left' ≡ (walked t (suc n)).left
    unfolding state_at_by after_by
    step_lefts = slotted.lefts ∙ rw step_owner refl

-- One turn of a walk, in the lists that it holds.
module _
    {t : Table} (r : Ranged t) {n count : ℕ} {period cost slack rank : List ℕ} (set : Setting t count period cost slack rank)
    {wait left wait' left' : List ℕ} {now : Option ℕ} (w : Walked t n wait left)
    (turned : Served wait left period cost slack rank count wait' left' now)
  where
    pub one_found : now ≡ None → T (late_at t n)
    one_found e = late_found t r n w.clear (rw (w.waits, w.lefts, set.slacks, set.tasks) at (turned.found e))

    module _ {owner : ℕ} (o : now ≡ Some owner) where
      pub none_found : Clear t (suc n)
      none_found = clear_more t r n w.clear (rw (w.waits, w.lefts, set.slacks, set.tasks) at (turned.quiet owner o))

      pub served_slot : Slotted t.count (slot.at (walked t n).wait) (slot.at (walked t n).left) (slot.at (columns_of t).period)
          (slot.at (columns_of t).cost) (slot.at (columns_of t).slack) (slot.at (columns_of t).rank) (walked t n).wait (walked t n).left wait' left' owner
      served_slot = rw (w.waits, w.lefts, set.periods, set.costs, set.slacks, set.ranks, set.tasks) at (turned.slot owner o)

      -- Its owner is that of step n.
      pub owner_is : owner ≡ owner_at t quiet n
      owner_is = step_owner t r n none_found served_slot

      pub walked_next : Walked t (suc n) wait' left'
      walked_next = record { clear = none_found; waits = step_waits t r n none_found served_slot; lefts = step_lefts t r n none_found served_slot }
