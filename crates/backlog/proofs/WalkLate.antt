-- THE FIRST LATE DEADLINE (`late_iff`): in a walk without done reports, with no late deadline before n, some open job is at its deadline at n exactly
-- if n is late.
use Rattle.std.specs.Prelude.{◌≡◌, ◌↔◌, false, ℕ, suc, ◌-◌, ◌*◌, ◌≤◌, ◌<◌, T}
use Rattle.std.proofs.Common.{ap, le_refl, arith}
use Rattle.std.proofs.Math.Decide.{dec_lt}
use Rattle.values.specs.declared.Table.{Table}
use Rattle.model.specs.Tasks.{task}
use Rattle.model.specs.Demand.{late_at}
use Rattle.model.specs.Schedule.{given}
use Rattle.model.specs.Run.{Order, run}
use Rattle.model.specs.Dispatcher.{wait_of, left_of, is_late}
use Rattle.counting.specs.Below.{below_is}
use Rattle.wellformed.specs.Ranges.{Ranged}
use Rattle.backlog.specs.Left.{served_mono}
use Rattle.backlog.specs.System.{System, release_of, due_of, released_by}
use Rattle.backlog.proofs.System.{jobs}
use Rattle.backlog.proofs.ModelRun.{served_of, model_run}
use Rattle.backlog.proofs.RunSchedule.{undone_iff}
use Rattle.backlog.proofs.TableSystem.{system_of}
use Rattle.backlog.proofs.EveryInstant.{Missed, missed_iff}
use Rattle.backlog.specs.Taken.{closed_late_iff}
use Rattle.backlog.proofs.Stepping.{sound}
use Rattle.backlog.specs.Walk.{quiet, walked_by, Clear}
use Rattle.backlog.proofs.Walk.{late_missed, agrees}

module _ (t : Table) (r : Ranged t) (rank : Order) where
  abbrev S : System
  S = system_of t r rank

  pub late_iff : (n : ℕ) → Clear t n → ((i : ℕ) × (i < t.count) × T (is_late t (walked_by t rank n) false i)) ↔ T (late_at t n)
  late_iff n c = (λ (i, l, h). late_missed t r rank n (agrees t r rank n c) i h, λ h. seen ((missed_iff S n).1 h))
    where
      seen : Missed S n → (i : ℕ) × (i < t.count) × T (is_late t (walked_by t rank n) false i)
      seen (i, j, l, d, g) = (i, l, (closed_late_iff t (walked_by t rank n) false i).1 (l, some, at_end_lem))
        where
          served_less : served_of S n i < (task t i).cost * suc j
          served_less = (undone_iff S i j n l).0 g

          behind : (u : ℕ) → u ≤ n → given (run t rank) i j 0 u < (task t i).cost
          behind u m = (undone_iff S i j u l).1 (omega (arith, served_mono (jobs S) (served_of S) (model_run S) i l u n m, served_less))

          -- Its deadline is n: missed before, it would have been late before.
          now : due_of S i j ≡ n
          now =
              elim (dec_lt (due_of S i j) n) [
                | yes p ↦ absurd
                    (c (due_of S i j) p ((missed_iff S (due_of S i j)).0 (i, j, l, le_refl _, behind (due_of S i j) d)))
                | no p ↦ omega arith
              ]

          -- So it is the last one released.
          last : released_by S i n ≡ suc j
          last =
              below_is (release_of S i) ((jobs S).rel_grows i l) n j (omega (arith, now, (r.each i l).deadline_pos))
              (omega (arith, now, (r.each i l).deadline_le))

          some : 0 < left_of (walked_by t rank n) i
          some = omega (arith, agrees t r rank n c i l, served_less, ap (λ (y : ℕ). (task t i).cost * y) last)

          at_end_lem : wait_of (walked_by t rank n) i ≡ (task t i).period - (task t i).deadline
          at_end_lem = omega (arith, (sound t r rank quiet n).next i l, ap (release_of S i) last, now, (r.each i l).deadline_le)
