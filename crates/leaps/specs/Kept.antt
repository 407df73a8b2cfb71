-- What the laws say of a walk's lists, of the lists that a table's columns and a walk's `Kept` hold. Of each task the next release is queued.
use Rattle.std.specs.Prelude.{◌≡◌, ℕ}
use Rattle.std.proofs.Common.{ap}
use Rattle.values.specs.declared.Table.{Table}
use Rattle.leaps.specs.Held.{Held}
use Rattle.leaps.specs.Turn.{Landing}
use Rattle.leaps.specs.Leaping.{Due, Ready, Here}
use Rattle.leaps.specs.Columns.{columns_of}
use Rattle.leaps.specs.declared.Columns.{Columns}
use Rattle.leaps.specs.declared.Kept.{Kept}
use Rattle.leaps.specs.declared.Landed.{Landed}

abbrev pub DueIn : Columns → Kept → ℕ → Type 0
DueIn c k n = Due c.table c.period c.cost c.deadline k.releases.entries k.ready.entries k.left k.ready.len n × (k.releases.len ≡ c.table.count)

abbrev pub HeldIn : Columns → ℕ → (ℕ → ℕ) → (ℕ → ℕ) → Kept → Type 0
HeldIn c n W L k = Held c.table n W L k.releases.entries k.ready.entries k.left k.ready.len × (k.releases.len ≡ c.table.count)

abbrev pub ReadyIn : Columns → Kept → ℕ → ℕ → ℕ → Type 0
ReadyIn c k n end idle =
    Ready c.table c.deadline k.releases.entries k.ready.entries k.left k.worst k.ready.len n end idle × (k.releases.len ≡ c.table.count)

abbrev pub HereIn : Columns → Kept → ℕ → Landed → Type 0
HereIn c k end x =
    Here c.table c.period c.cost c.deadline k.releases.entries k.ready.entries k.left k.worst k.ready.len end x × (k.releases.len ≡ c.table.count)

abbrev pub LandingIn : Columns → ℕ → ℕ → Kept → Landed → Type 0
LandingIn c n end k x = Landing c.table n end k.releases.entries k.ready.entries k.left k.worst k.ready.len x × (k.releases.len ≡ c.table.count)

-- Of a table's own columns, what is said is said of the table.
module _ (t : Table) {c : Columns} (e : c ≡ columns_of t) where
  table_is : c.table ≡ t
  unfolding columns_of
  table_is = ap (λ (x : Columns). x.table) e

  pub here_in : (k : Kept) {end : ℕ} {x : Landed}
      → Here t c.period c.cost c.deadline k.releases.entries k.ready.entries k.left k.worst k.ready.len end x → k.releases.len ≡ t.count → HereIn c k end x
  here_in k h full = rw table_is (h, full)

  pub landing_of : (k : Kept) {n end : ℕ} {x : Landed} → LandingIn c n end k x
      → Landing t n end k.releases.entries k.ready.entries k.left k.worst k.ready.len x × (k.releases.len ≡ t.count)
  landing_of k z = rw table_is at z
