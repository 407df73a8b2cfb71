-- The walk of the exact test, slot by slot: what holds before each slot.
use Rattle.std.specs.Prelude.{◌≡◌, ◌⊎◌, List, Option, Some, ℕ, suc, ◌+◌, ◌≤◌, ◌<◌, replicate}
use Rattle.std.proofs.Common.{false, sym, inl, inr, add-one, arith}
use borrow.Author.Tests.{lt-ltb, le-ltb}
use Rattle.values.specs.declared.Table.{Table}
use Rattle.model.specs.Limits.{task_limit}
use Rattle.model.specs.Tasks.{task, round, load}
use Rattle.model.specs.Run.{tie_order}
use Rattle.model.specs.Dispatcher.{start_of}
use Rattle.model.specs.History.{state_at, owner_at}
use Rattle.wellformed.specs.Ranges.{Ranged}
use Rattle.backlog.specs.Taken.{owner_one}
use Rattle.backlog.specs.Walk.{quiet}
use Rattle.backlog.specs.WalkWorst.{worst_by, worst_seen}
use Rattle.slots.specs.Columns.{columns_of}
use Rattle.slots.specs.Laws.{fill_has}
use Rattle.slots.specs.Serve.{Served}
use Rattle.walks.specs.Walked.{Setting, Walked, walked_start, walked_next, owner_is}
use Rattle.walks.specs.Caught.{none_left_idle}
use Rattle.walks.specs.Tally.{Tally, idle_by, tally_start, idle_next}
use Rattle.plain.specs.Noted.{noted_of, idle_noted}

-- What holds before slot n.
pub record Walking (t : Table) (n : ℕ) (wait left worst : List ℕ) (idle : ℕ) : Type 0 where
  pub walk : Walked t n wait left
  pub tally : Tally t n worst idle

pub walking_start : (t : Table) → Walking t 0 (start_of t).wait (replicate task_limit 0) (replicate task_limit 0) 0
walking_start t = record { walk = walked_start t; tally = tally_start t }

-- The idle instant is noted where no slot is left for the first time after 0.
module _ (t : Table) (r : Ranged t) (light : load t ≤ round t) (n : ℕ) {wait left : List ℕ} (w : Walked t (suc n) wait left) where
  noted_next : idle_noted (idle_by t n) left t.count (suc n) ≡ idle_by t (suc n)
  noted_next = sym (idle_next t r light n (suc n) (omega arith) (omega arith) (λ v a b. absurd (omega arith)) _ (sym (none_left_idle r w)))

-- The responses are noted at the last slot of a job.
module _ (t : Table) (r : Ranged t) (n : ℕ) {wait left : List ℕ} {owner : ℕ} (w : Walked t (suc n) wait left) (owned : owner ≡ owner_at t quiet n) where
  worst_next : noted_of (worst_by t n) owner (columns_of t).period wait left ≡ worst_by t (suc n)
  unfolding worst_seen columns_of
  worst_next = go (rw owned (owner_one t (tie_order t) (state_at t quiet n) false r.few))
    where
      go : (owner ≡ task_limit) ⊎ (owner < t.count) → noted_of (worst_by t n) owner (columns_of t).period wait left ≡ worst_by t (suc n)
      go (inl e) = rw (le-ltb owner task_limit (omega arith), ← owned, le-ltb owner t.count (omega (arith, r.few)))
      go (inr l) =
          rw (
            lt-ltb owner task_limit (omega (arith, r.few)),
            ← owned,
            lt-ltb owner t.count l,
            w.waits,
            w.lefts,
            fill_has t.count (λ i. (task t i).period) (replicate task_limit 0) r.few owner l,
          )

-- One turn of the walk, in the lists that it holds.
pub walking_next :
    {t : Table} (r : Ranged t) → load t ≤ round t → {n count : ℕ} {period cost slack rank : List ℕ} (set : Setting t count period cost slack rank)
    {wait left worst wait' left' worst' : List ℕ} {idle idle' : ℕ} {now : Option ℕ} (w : Walking t n wait left worst idle)
    (turned : Served wait left period cost slack rank count wait' left' now)
    → {owner : ℕ} → now ≡ Some owner → worst' ≡ noted_of worst owner period wait' left' → idle' ≡ idle_noted idle left' count (n + 1)
    → Walking t (n + 1) wait' left' worst' idle'
walking_next {t} r light {n} set w turned e f g =
    let next : Walked t (suc n) _ _ = walked_next r set w.walk turned e in
    rw (f, g, add-one, w.tally.worsts, w.tally.idles, set.periods, set.tasks)
    (record { walk = next; tally = record { worsts = worst_next t r n next (owner_is r set w.walk turned e); idles = noted_next t r light n next } })
