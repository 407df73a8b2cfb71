-- The state of the loop: the budget, the table that was built and the place that was reached.
use Rattle.std.specs.Prelude.{◌≡◌, List, [], ◌∷◌, ◌++◌, ℕ, ◌+◌, ◌<◌, ◌≤◌, length, Ok}
use Rattle.std.proofs.Common.{arith, length-append}
use Rattle.values.specs.declared.Task.{Task}
use Rattle.values.specs.declared.Table.{Table}
use Rattle.tablefile.specs.declared.Record.{Record}
use Rattle.values.specs.declared.Contents.{Contents}
use Rattle.model.specs.Limits.{task_limit, budget_bytes, longest_file}
use Rattle.model.specs.TableFile.{table_of, form_of}
use Rattle.tablefile.specs.Reading.{Reading, record_bytes, reading_at}
use Rattle.tablefile.specs.Built.{with_task, stored}
use Rattle.tablefile.proofs.Reached.{Reached, first, bounds, Follows}
use Rattle.tablefile.proofs.Steps.{step}

pub record ReadSoFar (s : List ℕ) (b : ℕ) (t : Table) (at : ℕ) : Type 0 where
  pub ks : List Task
  pub table : t ≡ table_of ks
  pub reached : Reached s b ks at

pub start : (s : List ℕ) {t : Table} → t ≡ table_of [] → ReadSoFar s 0 t 0
start s e = record { ks = []; table = e; reached = first }

pub within : {s : List ℕ} {b : ℕ} {t : Table} {at : ℕ} → ReadSoFar s b t at → (at ≤ length s) × (at < longest_file)
within l = omega (arith, bounds l.reached)

module _ {s : List ℕ} {b : ℕ} {t : Table} {at : ℕ} (l : ReadSoFar s b t at) where
  pub follows : {r : Reading} → r ≡ reading_at s at t.count → Follows s b l.ks at r
  follows e = rw (e, l.table) (step l.reached)

  pub after_budget : {x : ℕ} → Ok (Record.Budget x) ≡ reading_at s at t.count → ReadSoFar s x t (at + budget_bytes)
  after_budget e = record { ks = l.ks; table = l.table; reached = follows e }

  pub has_room : {k : Task} → Ok (Record.OneTask k) ≡ reading_at s at t.count → t.count < task_limit
  has_room {k} e = rw l.table (omega (arith, bounds (follows e), length-append l.ks (k ∷ [])))

  pub after_task_lem : {k : Task} → Ok (Record.OneTask k) ≡ reading_at s at t.count → ReadSoFar s b (with_task t k) (at + record_bytes k)
  after_task_lem {k} e =
      record { ks = l.ks ++ (k ∷ []); table = rw l.table (stored l.ks k (rw l.table at (has_room e))); reached = follows e }

  pub after_end : Ok Record.End ≡ reading_at s at t.count → ◌≡◌ {A = Contents}
      (record { admission = Ok tt; budget = b; table = t }) (form_of s)
  after_end e = rw l.table (follows e)
