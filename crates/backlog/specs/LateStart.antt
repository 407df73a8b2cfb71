-- THE SHORTEST INTERVAL (`start_is`): a late verdict starts at the largest start from which an interval to its end asks too much.
use Rattle.std.specs.Prelude.{◌≡◌, ℕ, ◌<◌, T}
use Rattle.values.specs.declared.Table.{Table}
use Rattle.model.specs.Demand.{asks_too_much, late_at}
use Rattle.model.specs.Verdict.{late_start}
use Rattle.counting.specs.Search.{last_behind, last_passes, last_is}
use Rattle.backlog.specs.TooMuch.{too_much_iff, late_at_iff}

module _ (t : Table) where
  -- The start of a late verdict asks too much, and no larger one does.
  pub start_asks : (to : ℕ) → T (late_at t to) → T (asks_too_much t (late_start t to) to)
  unfolding late_start
  start_asks to h = let (from, w) = (late_at_iff t to).0 h in last_passes (λ from. asks_too_much t from to) to from ((too_much_iff t from to).0 w).0 w

  pub start_largest : (to from : ℕ) → late_start t to < from → T (asks_too_much t from to) → ⊥
  unfolding late_start
  start_largest to from l w = last_behind (λ from. asks_too_much t from to) to from l ((too_much_iff t from to).0 w).0 w

  pub start_is : (to from : ℕ) → T (asks_too_much t from to) → ((later : ℕ) → from < later → T (asks_too_much t later to) → ⊥) → late_start t to ≡ from
  unfolding late_start
  start_is to from w none = last_is (λ from. asks_too_much t from to) to from ((too_much_iff t from to).0 w).0 w (λ later a b x. none later a x)
