-- THE RUN AS A SCHEDULE (`finishes_iff`): each job finishes as the counts of served slots say.
use Rattle.std.specs.Prelude.{◌≡◌, ◌↔◌, ◌&&◌, ℕ, suc, ◌-◌, ◌*◌, ◌≤◌, ◌<◌, min}
use Rattle.std.proofs.Math.Path.{ap}
use Rattle.std.proofs.Common.{◌∙◌, inl, inr, arith, lt-ltb, le-ltb}
use Rattle.std.proofs.Math.Decide.{ℕ_discrete}
use Rattle.std.proofs.Math.Dec.{leb}
use Rattle.model.specs.Schedule.{Slot, none, job, Schedule, belongs, given, Good}
use Rattle.model.specs.Run.{owner, run, Finishes}
use Rattle.counting.specs.Count.{count_eq}
use Rattle.counting.specs.Search.{least_iff}
use Rattle.backlog.specs.Streams.{SlotOf}
use Rattle.backlog.specs.StreamSchedule.{slot_of, schedule_of, stream_had, stream_given}
use Rattle.backlog.specs.Finish.{DoneFirst}
use Rattle.backlog.specs.Criterion.{Met}
use Rattle.backlog.specs.System.{System, size, cost_of, release_of, due_of}
use Rattle.backlog.proofs.System.{jobs, dues}
use Rattle.backlog.proofs.ModelRun.{served_of, at, Owned, owned, ready_iff, others_served, model_run}

module _ (S : System) where
  abbrev pub run_owner : ℕ → ℕ
  run_owner u = owner S.table S.rank u

  abbrev pub run_at : ℕ → Slot
  run_at u = run S.table S.rank u

  -- The slot of an owner, and of none.
  pub run_job : (u : ℕ) → run_owner u < size S → run_at u ≡ job (run_owner u) (at S u (run_owner u))
  unfolding run
  run_job u l = rw (lt-ltb (run_owner u) (size S) l)

  pub run_none : (u : ℕ) → size S ≤ run_owner u → run_at u ≡ none
  unfolding run
  run_none u l = rw (le-ltb (run_owner u) (size S) l)

  -- It is the schedule of its streams.
  abbrev streamed : Schedule
  streamed = schedule_of (jobs S) (served_of S) (model_run S)

  run_streamed : (u : ℕ) → run_at u ≡ streamed u
  run_streamed u = go ((model_run S).slot u) (owned S u)
    where
      go : (d : SlotOf (jobs S) u (served_of S u) (served_of S (suc u))) → Owned S u → run_at u ≡ slot_of (jobs S) u (served_of S u) (served_of S (suc u)) d
      go (inl d) (inl c) = run_none u (omega (arith, c.none, S.size_le))
      go (inl d) (inr c) =
          absurd (omega (arith, d.none (run_owner u) c.bound, (ready_iff S (run_owner u) u (served_of S u (run_owner u)) c.bound).0 c.opened))
      go (inr (k, d)) c = elim (ℕ_discrete k (run_owner u)) [
        | yes e ↦ rw e (run_job u (omega (arith, d.bound)))
        | no e ↦ absurd (omega (arith, d.one, others_served S u k e))
      ]

  given_streamed : (i j from to : ℕ) → given (run S.table S.rank) i j from to ≡ given streamed i j from to
  unfolding given
  given_streamed i j from to = count_eq _ _ to (λ u l. ap (λ (w : Slot). leb from u && belongs i j w) (run_streamed u))

  -- The slots that a job has had are those of its task beyond the jobs before, up to its cost.
  pub job_given : (i j u : ℕ) → i < size S → given (run S.table S.rank) i j 0 u ≡ min (cost_of S i) (served_of S u i - cost_of S i * j)
  job_given i j u l = given_streamed i j 0 u ∙ stream_had (jobs S) (served_of S) (model_run S) i j u l

  -- A job is done by u exactly if its task has had the slots of all jobs up to it.
  done_iff : (i j u : ℕ) → i < size S → (cost_of S i ≤ given (run S.table S.rank) i j 0 u) ↔ (cost_of S i * suc j ≤ served_of S u i)
  done_iff i j u l = (λ h. omega (arith, job_given i j u l, S.cost_pos i l), λ h. omega (arith, job_given i j u l))

  pub undone_iff : (i j u : ℕ) → i < size S → (given (run S.table S.rank) i j 0 u < cost_of S i) ↔ (served_of S u i < cost_of S i * suc j)
  undone_iff i j u l = (λ h. omega (arith, job_given i j u l), λ h. omega (arith, job_given i j u l, S.cost_pos i l))

  -- So it finishes when its task has first had them.
  pub finishes_iff : (i j f : ℕ) → i < size S → Finishes S.table S.rank i j f ↔ DoneFirst (jobs S) (served_of S) i j f
  unfolding Finishes
  finishes_iff i j f l = least_iff _ _ (λ u. done_iff i j u l) f

  -- If every job is done by its deadline, the run is a good schedule.
  pub run_good : Met (jobs S) (dues S) (served_of S) → Good S.table (run S.table S.rank)
  unfolding Good
  run_good h i j l =
      omega (arith, given_streamed i j (release_of S i j) (due_of S i j), stream_given (jobs S) (served_of S) (model_run S) i j (due_of S i j) l (h i j l))
