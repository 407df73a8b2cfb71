-- A WALK BY LEAPS (`leaping_start`): what holds before each leap, from the start on.
use Rattle.std.specs.Prelude.{◌≡◌, List, false, ℕ, suc, ◌+◌, ◌≤◌, ◌<◌, replicate}
use Rattle.std.proofs.Common.{sym, ap, ◌∙◌, arith}
use Rattle.std.proofs.lemmas.List.{length-replicate}
use Rattle.values.specs.declared.Table.{Table}
use Rattle.model.specs.Limits.{task_limit}
use Rattle.model.specs.Tasks.{task, round, load, offset}
use Rattle.model.specs.Dispatcher.{wait_of, left_of, wait_released, left_released}
use Rattle.model.specs.History.{state_at_by}
use Rattle.counting.specs.Fill.{get_d_same}
use Rattle.wellformed.specs.Ranges.{Ranged}
use Rattle.wellformed.specs.WellFormed.{horizon_limit}
use Rattle.backlog.specs.Taken.{wait_start, left_start}
use Rattle.backlog.specs.Walk.{walked, Clear}
use Rattle.walks.specs.Tally.{tally_start}
use Rattle.leaps.specs.Entry.{entry}
use Rattle.leaps.specs.Queue.{Queue, alike}
use Rattle.leaps.specs.Held.{Coming, Held}
use Rattle.leaps.specs.Columns.{Columned}
use Rattle.leaps.specs.Landed.{is_over, going_at}
use Rattle.leaps.specs.Turn.{Landing}
use Rattle.leaps.proofs.Turns.{calm_clear}
use Rattle.leaps.specs.declared.Landed.{Landed}
use Rattle.leaps.specs.Leaping.{Due, Ready, Here}

module _ {t : Table} {period cost deadline releases ready left worst : List ℕ} {jobs end : ℕ} {x : Landed}
    (h : Here t period cost deadline releases ready left worst jobs end x) where
  -- No deadline up to now is late.
  clear_now : Clear t (suc x.time)
  clear_now = calm_clear t h.ranged h.clear h.held.ahead

  -- So there is what the releases are made from, and after them what the turn is made from.
  pub due_now : Due t period cost deadline releases ready left jobs x.time
  due_now = record { ranged = h.ranged; columns = h.columns; soon = omega (arith, h.before, h.limit); clear = clear_now; held = h.held }

  pub ready_now : {releases' ready' left' : List ℕ} {jobs' : ℕ} → Held t x.time (wait_released t (walked t x.time) false)
      (left_released t (walked t x.time) false) releases' ready' left' jobs'
      → Ready t deadline releases' ready' left' worst jobs' x.time end x.idle
  ready_now held =
      record {
        ranged = h.ranged;
        light = h.light;
        deadlines = h.columns.deadlines;
        before = h.before;
        limit = h.limit;
        clear = clear_now;
        held = held;
        tally = h.tally;
      }

  -- Where the walk goes on, it does so from the landing.
  pub here_next : {releases' ready' left' worst' : List ℕ} {jobs' : ℕ} {y : Landed} → Landing t x.time end releases' ready' left' worst' jobs' y
      → is_over y.way ≡ false
      → Here t period cost deadline releases' ready' left' worst' jobs' end y
  here_next z e =
      record {
        ranged = h.ranged;
        light = h.light;
        columns = h.columns;
        limit = h.limit;
        before = z.upto;
        clear = z.clear;
        tally = z.tally;
        held = (z.goes e).1;
      }

module _ (t : Table) (r : Ranged t) where
  wait_first : (i : ℕ) → i < t.count → wait_of (walked t 0) i ≡ offset (task t i)
  unfolding state_at_by
  wait_first i l = wait_start t r i l

  left_first : (i : ℕ) → left_of (walked t 0) i ≡ 0
  unfolding state_at_by
  left_first i = left_start t i

  pub leaping_start : load t ≤ round t → {period cost deadline releases : List ℕ} {end : ℕ} → Columned t period cost deadline
      → end ≤ horizon_limit → Queue (Coming t 0 (λ i. offset (task t i))) releases t.count
      → {x : Landed} → x ≡ going_at 0 0 → Here t period cost deadline releases (replicate task_limit 0) (replicate task_limit 0)
      (replicate task_limit 0) 0 end x
  leaping_start light c limit q e = rw e (record {
    ranged = r;
    light = light;
    columns = c;
    limit = limit;
    before = omega arith;
    clear = λ u l. absurd (omega arith);
    tally = tally_start t;
    held = record {
      coming =
          alike q (λ x (i, l, e). (i, l, e ∙ ap (λ (w : ℕ). entry t (0 + w) i) (sym (wait_first i l))))
          (λ x (i, l, e). (i, l, e ∙ ap (λ (w : ℕ). entry t (0 + w) i) (wait_first i l)));
      waiting = record {
        size = length-replicate {A = ℕ} task_limit 0;
        falls = λ a b h l. absurd (omega arith);
        sound = λ a l. absurd (omega arith);
        found = λ x (i, l, p, e). absurd (omega (arith, left_first i));
      };
      lefts = λ i l. get_d_same task_limit 0 i ∙ sym (left_first i);
      size = length-replicate {A = ℕ} task_limit 0;
      ahead = λ i l p. absurd (omega (arith, left_first i));
    };
  })
