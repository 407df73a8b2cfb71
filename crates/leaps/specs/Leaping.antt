-- What holds before a leap, before its turn and before its releases.
use Rattle.std.specs.Prelude.{List, false, ℕ, suc, ◌≤◌}
use Rattle.values.specs.declared.Table.{Table}
use Rattle.model.specs.Tasks.{task, round, load}
use Rattle.model.specs.Dispatcher.{wait_of, left_of, wait_released, left_released}
use Rattle.wellformed.specs.Ranges.{Ranged}
use Rattle.wellformed.specs.WellFormed.{horizon_limit}
use Rattle.backlog.specs.Walk.{walked, Clear}
use Rattle.slots.specs.Laws.{Has}
use Rattle.walks.specs.Tally.{Tally}
use Rattle.leaps.specs.Entry.{entry}
use Rattle.leaps.specs.Held.{Held}
use Rattle.leaps.specs.Columns.{Columned}
use Rattle.leaps.specs.declared.Landed.{Landed}

-- What the releases of now are made from, in the table's columns.
pub record Due (t : Table) (period cost deadline releases ready left : List ℕ) (jobs n : ℕ) : Type 0 where
  pub ranged : Ranged t
  pub columns : Columned t period cost deadline
  pub soon : n ≤ horizon_limit
  pub clear : Clear t (suc n)
  pub held : Held t n (wait_of (walked t n)) (left_of (walked t n)) releases ready left jobs

-- What a turn is made from, once they are made.
pub record Ready (t : Table) (deadline releases ready left worst : List ℕ) (jobs n end idle : ℕ) : Type 0 where
  pub ranged : Ranged t
  pub light : load t ≤ round t
  pub deadlines : Has t.count deadline (λ i. entry t (task t i).deadline i)
  pub before : n ≤ end
  pub limit : end ≤ horizon_limit
  pub clear : Clear t (suc n)
  pub held : Held t n (wait_released t (walked t n) false) (left_released t (walked t n) false) releases ready left jobs
  pub tally : Tally t n worst idle

-- What holds before each leap.
pub record Here (t : Table) (period cost deadline releases ready left worst : List ℕ) (jobs end : ℕ) (x : Landed) : Type 0 where
  pub ranged : Ranged t
  pub light : load t ≤ round t
  pub columns : Columned t period cost deadline
  pub limit : end ≤ horizon_limit
  pub before : x.time ≤ end
  pub clear : Clear t x.time
  pub tally : Tally t x.time worst x.idle
  pub held : Held t x.time (wait_of (walked t x.time)) (left_of (walked t x.time)) releases ready left jobs
