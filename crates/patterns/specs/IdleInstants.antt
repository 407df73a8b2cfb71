-- IDLE INSTANTS (`idle_iff`): an instant is idle exactly if the run has finished by then every job that was released strictly before.
use Rattle.std.specs.Prelude.{◌≡◌, refl, ◌↔◌, ℕ, suc, ◌*◌, ◌≤◌, ◌<◌, T, leb}
use Rattle.std.proofs.Common.{sym, ◌∙◌, arith}
use Rattle.std.proofs.Math.Nat.{lt-mul-div-succ}
use Rattle.std.proofs.Math.Decide.{dec_lt}
use Rattle.values.specs.declared.Table.{Table}
use Rattle.model.specs.Schedule.{given}
use Rattle.model.specs.Run.{Order, run}
use Rattle.model.specs.Idle.{idle_at}
use Rattle.counting.specs.Count.{tests, every_iff, same_test}
use Rattle.counting.specs.Below.{work_lt, work_le}
use Rattle.wellformed.specs.Ranges.{Ranged}
use Rattle.backlog.specs.Streams.{released}
use Rattle.backlog.specs.System.{System, size, cost_of, release_of}
use Rattle.backlog.proofs.System.{jobs}
use Rattle.backlog.proofs.ModelRun.{served_of, at, model_run}
use Rattle.backlog.proofs.RunSchedule.{undone_iff}
use Rattle.backlog.proofs.TableSystem.{system_of}
use Rattle.patterns.specs.Waiting.{Idle, idle_waiting, released_at, waiting_is}

module _ (S : System) where
  -- In terms of the streams: all that is released before is served.
  pub idle_streams : (u : ℕ) → T (idle_at S.table S.rank u) ↔ Idle (jobs S) (served_of S) u
  unfolding idle_at
  idle_streams u = (λ h i l. served_all i l ((every_iff _ _).0 h i l), λ h. (every_iff _ _).1 (λ i l. at_later i l (h i l)))
    where
      law : (i : ℕ) → i < size S → (served_of S u i < released (jobs S) u i) ↔ (release_of S i (at S u i) < u)
      law i l = work_lt (release_of S i) ((jobs S).rel_grows i l) (cost_of S i) u (served_of S u i) (S.cost_pos i l)

      served_all : (i : ℕ) → i < size S → T (leb u (release_of S i (at S u i))) → released (jobs S) u i ≤ served_of S u i
      served_all i l h = elim (dec_lt (served_of S u i) (released (jobs S) u i)) [ yes p ↦ absurd (omega (tests, (law i l).0 p)) | no p ↦ omega arith ]

      at_later : (i : ℕ) → i < size S → released (jobs S) u i ≤ served_of S u i → T (leb u (release_of S i (at S u i)))
      at_later i l h = elim (dec_lt (release_of S i (at S u i)) u) [ yes p ↦ absurd (omega (arith, (law i l).1 p)) | no p ↦ omega tests ]

  -- By u the run has finished every job that was released strictly before u.
  abbrev pub CaughtUp : ℕ → Type 0
  CaughtUp u = (i j : ℕ) → i < size S → release_of S i j < u → cost_of S i ≤ given (run S.table S.rank) i j 0 u

  pub idle_iff : (u : ℕ) → T (idle_at S.table S.rank u) ↔ CaughtUp u
  idle_iff u = (λ h i j l r. done i j l r ((idle_streams u).0 h i l), λ h. (idle_streams u).1 (λ i l. served_all i l (h i (at S u i) l)))
    where
      done : (i j : ℕ) → i < size S → release_of S i j < u → released (jobs S) u i ≤ served_of S u i → cost_of S i ≤ given (run S.table S.rank) i j 0 u
      done i j l r h = elim (dec_lt (given (run S.table S.rank) i j 0 u) (cost_of S i)) [
        | yes p ↦ absurd (omega (arith, (undone_iff S i j u l).0 p, work_le (release_of S i) ((jobs S).rel_grows i l) (cost_of S i) u j r))
        | no p ↦ omega arith
      ]

      served_all : (i : ℕ) → i < size S → (release_of S i (at S u i) < u → cost_of S i ≤ given (run S.table S.rank) i (at S u i) 0 u)
          → released (jobs S) u i ≤ served_of S u i
      served_all i l h = elim (dec_lt (served_of S u i) (released (jobs S) u i)) [
        | yes p ↦
            let early : release_of S i (at S u i) < u = (work_lt (release_of S i) ((jobs S).rel_grows i l) (cost_of S i) u (served_of S u i)
            (S.cost_pos i l)).0 p in
            let short : served_of S u i < cost_of S i * suc (at S u i) = omega (arith, lt-mul-div-succ (served_of S u i) (S.cost_pos i l)) in
            absurd (omega (arith, h early, (undone_iff S i (at S u i) u l).1 short))
        | no p ↦ omega arith
      ]

-- The order of the tasks does not matter.
pub idle_any_order : (t : Table) (r : Ranged t) (rank rank' : Order) (u : ℕ) → idle_at t rank u ≡ idle_at t rank' u
unfolding released_at
idle_any_order t r rank rank' u =
    same_test _ _ (λ h. (idle_streams S' u).1 (carry S S' refl ((idle_streams S u).0 h)))
    (λ h. (idle_streams S u).1 (carry S' S refl ((idle_streams S' u).0 h)))
  where
    S : System
    S = system_of t r rank

    S' : System
    S' = system_of t r rank'

    carry : (A B : System) → released_at (jobs A) ≡ released_at (jobs B) → Idle (jobs A) (served_of A) u → Idle (jobs B) (served_of B) u
    carry A B e h =
        (idle_waiting (jobs B) (served_of B) u).1 (waiting_is (jobs B) (served_of B) (model_run B) u
        ∙ rw (← e) (sym (waiting_is (jobs A) (served_of A) (model_run A) u) ∙ (idle_waiting (jobs A) (served_of A) u).0 h))
