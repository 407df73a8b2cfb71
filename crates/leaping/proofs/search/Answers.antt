-- Before each leap the walk holds what the dispatcher would without done reports, in its queues; at a late deadline each turn counts the next job.
use mathlib.Core.Path.{◌≡◌, refl, sym, ap, subst, ◌∙◌}
use mathlib.Core.List.{List}
use Prim.Native.Nat.{ℕ, ◌-◌, ◌/◌, ◌%◌, ◌≤◌, ◌<◌}
use native.Mathlib.Omega.{arith}
use mathlib.Core.Bool.{false}
use lib.Dec.{T}
use Rattle.model.specs.Tasks.{task, offset}
use Rattle.backlog.specs.Taken.{wait_start}
use Rattle.slots.specs.Slot.{at as entry_at}
use Rattle.leaps.specs.Entry.{places, span}
use Rattle.leaps.proofs.Entries.{entry_time}
use Rattle.leaps.specs.Columns.{marked, columned}
use Rattle.leaps.specs.declared.Way.{Way}
use Rattle.leaps.specs.Landed.{is_late}
use Rattle.leaps.specs.Kept.{here_in, landing_of}
use Rattle.leaps.proofs.Leaping.{leaping_start, here_next}
use Rattle.leaping.specs.Start.{searching_start, some_left, asked_le, task_lt, length_in, found, goes_on}
use Rattle.leaping.specs.Ended.{late_ended, quiet_ended, idled}
use Rattle.leaping.proofs.search.Goals.{then-idling, else-idling+in_default, else-idling+in-Late+then-length-count}
use Rattle.leaping.proofs.search.Goals.{After-leap-here, After-task_of-i, After-time_of-length, At-loop-count, At-search}
use Rattle.leaping.proofs.search.Goals as goal

not_late : (way : Way) → (way ≡ Way.Late → ⊥) → is_late way ≡ false
not_late Way.Going h = refl
not_late Way.Over h = refl
not_late Way.Late h = absurd (h refl)

-- Its job that is counted next.
busy : (c : At-loop-count) → 0 < c.loop-count.queue.len
busy c =
    let h = c.search.invariant.0 in
    some_left _ h.ranged _ c.loop-count.invariant
    ((landing_of _ c.unpack-columns.ensures c.leap-here.new.kept c.leap-here.ensures).0.late (ap is_late c.in-Late.is))

pub first_releases-requires : goal.first_releases-requires
first_releases-requires c =
    let r = c.requires.ranged in
    record { ranged = r; marked = marked _ r.few c.unpack-columns.ensures }

pub search-init : goal.search-init
search-init c =
    let p = c.requires in
    let r = p.ranged in
    let q = c.first_releases.ensures in (
      rw (c.new.ensures.entries, c.new.ensures.len)
          (leaping_start _ r p.t_bound (columned _ r.few c.unpack-columns.ensures) p.end_le_horizon_limit q.coming c.going-here.ensures),
      q.len,
      refl,
      refl,
    )

pub leap-here-requires : goal.leap-here-requires
leap-here-requires c = let i = c.search.invariant in here_in _ c.unpack-columns.ensures c.search.kept i.0 i.1

pub last_jobs-queue-requires : goal.last_jobs-queue-requires
last_jobs-queue-requires c =
    let i = c.search.invariant in
    record {
      ranged = i.0.ranged;
      marked = marked _ i.0.ranged.few c.unpack-columns.ensures;
      to_le_horizon_limit = omega (
        arith,
        (landing_of _ c.unpack-columns.ensures c.leap-here.new.kept c.leap-here.ensures).0.upto,
        i.0.limit,
      );
    }

pub loop-count-init : goal.loop-count-init
loop-count-init c = searching_start _ c.search.invariant.0.ranged _ c.last_jobs-queue.ensures

pub least-key-requires : goal.least-key-requires
least-key-requires c = busy (goal.at.least-key-requires c).At-loop-count

-- Its task is one of the table, and what is read of it as the laws say it.
key_task : (c : After-task_of-i) → c.task_of-i.result ≡ entry_at c.loop-count.queue.entries (c.loop-count.queue.len - 1) % places
key_task c = c.task_of-i.ensures ∙ ap (λ (x : ℕ). x % places) c.least-key.ensures

own : (c : After-task_of-i) → c.task_of-i.result < c.args.t.count
own c =
    omega (arith, key_task c, task_lt _ c.search.invariant.0.ranged _ c.loop-count.invariant (busy (goal.at.After-task_of-i c).At-loop-count))

cost-is : (c : After-task_of-i) → entry_at c.unpack-columns.result.cost c.task_of-i.result
    ≡ (task c.args.t (entry_at c.loop-count.queue.entries (c.loop-count.queue.len - 1) % places)).cost
cost-is c =
    c.search.invariant.0.columns.costs _ (own c) ∙ ap (λ (i : ℕ). (task c.args.t i).cost) (key_task c)

period-is : (c : After-task_of-i) → entry_at c.unpack-columns.result.period c.task_of-i.result / span
    ≡ (task c.args.t c.task_of-i.result).period
period-is c =
    let h = c.search.invariant.0 in
    ap (λ (x : ℕ). x / span) (h.columns.periods _ (own c)) ∙ entry_time _ h.ranged _ _ (own c)

-- The interval from its release.
key_length : (c : After-time_of-length) → c.time_of-length.result ≡ entry_at c.loop-count.queue.entries (c.loop-count.queue.len - 1) / span
key_length c = c.time_of-length.ensures ∙ ap (λ (x : ℕ). x / span) c.least-key.ensures

long : (c : After-time_of-length)
    → (0 < c.time_of-length.result) × (c.time_of-length.result ≤ c.leap-here.result.time)
long c =
    length_in _ c.search.invariant.0.ranged _ c.loop-count.invariant (busy (goal.at.After-time_of-length c).At-loop-count) c.time_of-length.result
    (key_length c)

pub overflow_sub-from : goal.overflow_sub-from
overflow_sub-from c = (long (goal.at.overflow_sub-from c).After-time_of-length).1

pub overflow_add-count : goal.overflow_add-count
overflow_add-count c =
    let h = c.search.invariant.0 in
    let each = h.ranged.each _ (own (goal.at.overflow_add-count c).After-task_of-i) in
    omega (
      arith,
      asked_le _ h.ranged _ c.loop-count.invariant,
      (landing_of _ c.unpack-columns.ensures c.leap-here.new.kept c.leap-here.ensures).0.upto,
      h.limit,
      h.columns.costs _ (own (goal.at.overflow_add-count c).After-task_of-i),
      each.cost_le,
      each.deadline_le,
      each.period_le,
    )

pub requeue-requires : goal.requeue-requires
requeue-requires c =
    let h = c.search.invariant.0 in (
      busy (goal.at.requeue-requires c).At-loop-count,
      omega (arith, long (goal.at.requeue-requires c).After-time_of-length, c.time_of-length.ensures),
      omega (arith, (landing_of _ c.unpack-columns.ensures c.leap-here.new.kept c.leap-here.ensures).0.upto, h.limit),
      omega (
        arith,
        c.time_of-period.ensures,
        period-is (goal.at.requeue-requires c).After-task_of-i,
        (h.ranged.each _ (own (goal.at.requeue-requires c).After-task_of-i)).period_le,
      ),
    )

pub loop-count-smaller : goal.loop-count-smaller
loop-count-smaller c =
    let h = c.search.invariant.0 in
    omega (
      arith,
      c.if-length-count.false,
      long (goal.at.loop-count-smaller c).After-time_of-length,
      h.columns.costs _
          (own (goal.at.loop-count-smaller c).After-task_of-i),
      (h.ranged.each _ (own (goal.at.loop-count-smaller c).After-task_of-i)).cost_pos,
    )

pub loop-count-preserved : goal.loop-count-preserved
loop-count-preserved c =
    let r = c.search.invariant.0.ranged in
    let t = c.args.t in
    let at = goal.at.loop-count-preserved c in
    let i = key_task at.After-task_of-i in
    let period = c.time_of-period.ensures ∙ period-is at.After-task_of-i ∙ ap (λ (i : ℕ). (task t i).period) i in
    let first : entry_at c.offsets-offset.result c.task_of-i.result
    ≡ offset (task t (entry_at c.loop-count.queue.entries (c.loop-count.queue.len - 1) % places)) = ap (λ (w : List ℕ). entry_at w c.task_of-i.result)
    c.offsets-offset.ensures ∙ wait_start t r _ (own at.After-task_of-i) ∙ ap (λ (i : ℕ). offset (task t i)) i in
    rw (cost-is at.After-task_of-i)
    (goes_on _ r _ c.loop-count.invariant (busy at.At-loop-count)
    (omega (arith, c.if-length-count.false, cost-is at.After-task_of-i, key_length at.After-time_of-length)) c.loop-count.queue.few
    (rw (period, first, c.least-key.ensures) at c.requeue.ensures))

pub search-preserved : goal.search-preserved
search-preserved c =
    let (h, full, none, at_end_lem) = c.search.invariant in
    let (z, still) = landing_of _ c.unpack-columns.ensures c.leap-here.new.kept c.leap-here.ensures in
    (here_next h z (c.stops.ensures.0 c.if-stops.false), still, none, at_end_lem)

pub returns : goal.returns
returns c =
    let (h, full, none, at_end_lem) = c.search.invariant in
    let (z, still) = landing_of _ c.unpack-columns.ensures c.leap-here.new.kept c.leap-here.ensures in
    let stopped = c.stops.ensures.1 c.if-stops.true in
    elim c.if-idling.branch [
      | then-idling w ↦
          rw (w.from-is, w.asked-is, w.at-is) (record {
            ended = λ e. absurd (subst T (sym w.if-idling.true ∙ e) tt);
            idled = λ e. idled _ h.ranged h.light z stopped;
          })
      | else-idling+in_default w ↦
          rw (w.from-is, w.asked-is, w.at-is) (record {
            ended = λ e. quiet_ended _ h.ranged h.light z stopped (c.requires.rounded e) (not_late _ w.in_default.not-Late) _ _ _ none at_end_lem;
            idled = λ e. absurd (subst T (sym e ∙ w.if-idling.false) tt);
          })
      | else-idling+in-Late+then-length-count w ↦
          let t = c.args.t in
          let late = ap is_late w.in-Late.is in
          let some = some_left _ h.ranged _ w.loop-count.invariant (z.late late) in
          let i = w.task_of-i.ensures ∙ ap (λ (x : ℕ). x % places) w.least-key.ensures in
          let length = w.time_of-length.ensures ∙ ap (λ (x : ℕ). x / span) w.least-key.ensures in
          let own : w.task_of-i.result < t.count = omega (arith, i, task_lt _ h.ranged _ w.loop-count.invariant some) in
          let cost : entry_at c.unpack-columns.result.cost w.task_of-i.result
          ≡ (task t (entry_at w.loop-count.queue.entries (w.loop-count.queue.len - 1) % places)).cost =
          h.columns.costs _ own ∙ ap (λ (i : ℕ). (task t i).cost) i in
          let long = length_in _ h.ranged _ w.loop-count.invariant some w.time_of-length.result length in
          let asked = w.demand-asked.ensures in
          let (much, last) = found _ h.ranged _ w.loop-count.invariant some w.time_of-length.result length
          (omega (arith, w.if-length-count.true, cost)) in
          rw (w.from-is, w.asked-is, w.at-is) (record {
            ended = λ e. late_ended _ h.ranged h.light z late _ _ (omega (arith, long)) asked (omega (arith, long, much, asked)) last;
            idled = λ e. absurd (subst T (sym e ∙ w.if-idling.false) tt);
          })
    ]
