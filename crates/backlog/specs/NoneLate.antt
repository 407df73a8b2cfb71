-- NONE IS CUT OFF, IN ANY HISTORY (`none_late`): where each job is due by the next release and the run at full cost meets every deadline, a job has
-- nothing left at its own.
use Rattle.std.specs.Prelude.{◌≡◌, ℕ, ◌<◌}
use Rattle.counting.specs.Below.{below_is}
use Rattle.backlog.specs.Streams.{Jobs, Run}
use Rattle.backlog.specs.Criterion.{Dues, Met, Constrained}
use Rattle.backlog.specs.Domination.{not_open}
use Rattle.backlog.specs.History.{History, dispatches}

module _ (J : Jobs) (D : Dues J) (told : ℕ → ℕ → Type 0) (open' ready gave : ℕ → ℕ → ℕ) (P : History J D told open' ready gave)
    (constrained : Constrained J D) (s : ℕ → ℕ → ℕ) (R : Run J s) (met : Met J D s) where
  pub none_late : (i j : ℕ) → i < J.n → open' (D.due i j) i ≡ 0
  none_late i j l =
      not_open J open' (dispatches J D told open' ready gave P) s R i j (D.due i j) l (met i j l)
      (below_is (J.rel i) (J.rel_grows i l) (D.due i j) j (D.rel_due i j l) (constrained i j l))
