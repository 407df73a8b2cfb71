-- HOW A WALK ENDED (`late_course`): quiet, at the budget or the horizon; or late, at the first late deadline with the largest start that asks too much.
use Rattle.std.specs.Prelude.{◌≡◌, ◌⊎◌, List, ℕ, suc, ◌-◌, ◌≤◌, ◌<◌, min, T}
use Rattle.std.proofs.Common.{inl, inr}
use Rattle.values.specs.declared.Table.{Table}
use Rattle.values.specs.declared.Measure.{Measure}
use Rattle.model.specs.Demand.{demand, asks_too_much, late_at}
use Rattle.backlog.specs.Walk.{Clear}
use Rattle.walks.specs.Tally.{Tally}
use Rattle.walks.specs.declared.Course.{Course}

pub record Quiet (t : Table) (end : ℕ) (c : Course) : Type 0 where
  pub none : c.asked ≡ 0
  pub clear : Clear t (suc c.at)
  pub ends : c.at ≡ end

pub record Late (t : Table) (end : ℕ) (c : Course) : Type 0 where
  pub upto : c.at ≤ end
  pub clear : Clear t c.at
  pub late : T (late_at t c.at)
  pub before : c.from < c.at
  pub asks : c.asked ≡ demand t c.from c.at
  pub much : c.at - c.from < c.asked
  pub last : (later : ℕ) → c.from < later → later < c.at → T (asks_too_much t later c.at) → ⊥

-- With a budget, on a table of these measures.
pub record Ends (t : Table) (m : Measure) (budget : ℕ) (c : Course) : Type 0 where
  pub tally : Tally t c.at c.worst c.idle
  pub way : Quiet t (min budget m.horizon) c ⊎ Late t (min budget m.horizon) c

abbrev course : ℕ → ℕ → ℕ → List ℕ → ℕ → Course
course from asked n worst idle = record { from = from; asked = asked; at = n; worst = worst; idle = idle }

module _ {t : Table} {m : Measure} {budget n idle : ℕ} {worst : List ℕ} (tally : Tally t n worst idle) where
  pub quiet_course : (from asked : ℕ) → asked ≡ 0 → Clear t (suc n) → n ≡ min budget m.horizon → Ends t m budget (course from asked n worst idle)
  quiet_course from asked none clear ends = record { tally = tally; way = inl (record { none = none; clear = clear; ends = ends }) }

  pub late_course : (from asked : ℕ) → n ≤ min budget m.horizon → Clear t n → T (late_at t n) → from < n → asked ≡ demand t from n → n - from < asked
      → ((later : ℕ) → from < later → later < n → T (asks_too_much t later n) → ⊥) → Ends t m budget (course from asked n worst idle)
  late_course from asked upto clear late before asks much last =
      record { tally = tally; way = inr (record { upto = upto; clear = clear; late = late; before = before; asks = asks; much = much; last = last }) }
