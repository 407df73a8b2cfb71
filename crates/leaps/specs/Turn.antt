-- Where a leap lands.
use Rattle.std.specs.Prelude.{◌≡◌, List, true, false, ℕ, suc, ◌≤◌, ◌<◌, T}
use Rattle.values.specs.declared.Table.{Table}
use Rattle.model.specs.Demand.{late_at}
use Rattle.model.specs.Dispatcher.{wait_of, left_of}
use Rattle.backlog.specs.Walk.{walked, Clear}
use Rattle.walks.specs.Tally.{Tally}
use Rattle.leaps.specs.Held.{Held}
use Rattle.leaps.specs.Landed.{is_over, is_late}
use Rattle.leaps.specs.declared.Landed.{Landed}

-- Where a leap from n has landed, with what is then held and noted.
pub record Landing (t : Table) (n end : ℕ) (releases ready left worst : List ℕ) (jobs : ℕ) (x : Landed) : Type 0 where
  pub upto : x.time ≤ end
  pub clear : Clear t x.time
  pub tally : Tally t x.time worst x.idle
  pub goes : is_over x.way ≡ false → (n < x.time) × Held t x.time (wait_of (walked t x.time)) (left_of (walked t x.time)) releases ready left jobs
  pub late : is_late x.way ≡ true → T (late_at t x.time)
  pub ends : is_over x.way ≡ true → is_late x.way ≡ false → (x.time ≡ end) × Clear t (suc x.time)
