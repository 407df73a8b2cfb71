-- What an exported call returns tells whether it refused, and why; a refusal changes no byte of the buffer.
use Rattle.std.specs.Prelude.{◌≡◌, refl, ◌⊎◌, List, Bool, true, false, cond, not, ℕ, min, ◌≤◌, ◌<◌, eqb, ltb, length, Ok, Err}
use Rattle.std.proofs.Common.{inl, inr, arith, ltb-true}
use Rattle.values.specs.declared.Table.{Table}
use Rattle.values.specs.declared.Refusal.{Refusal}
use Rattle.values.specs.declared.Measure.{Measure}
use Rattle.model.specs.Limits.{task_limit, slot_count_limit, sum_place}
use Rattle.model.specs.Tasks.{judged}
use Rattle.model.specs.TableFile.{form_of}
use Rattle.model.specs.Values.{refusal, Judgement, Admission}
use Rattle.model.specs.Run.{tie_order}
use Rattle.model.specs.Dispatcher.{State, slot_count, first_strange, last_strange, admitted_by, admitted, after, turn, turn_by, start_judged, started}
use Rattle.model.specs.Dispatcher.{refuse_step, step_admitted_by, stepped, stepped_by}
use Rattle.model.specs.Report.{Exported, refused}
use Rattle.model.specs.StateBuffer.{state_bytes, state_in, start_written, step_written, on_file, start_exported, step_exported}
use Rattle.wellformed.specs.WellFormed.{well_formed}
use Rattle.wellformed.specs.Admitted.{admitted_iff}
use Rattle.wellformed.specs.Refused.{Tellable, JudgementTellable, judged_tellable}
use Rattle.tablefile.specs.Refused.{AdmissionTellable, form_tellable}
use Rattle.backlog.specs.Taken.{owner_one}

-- What is returned and left is a taken call's, or that of a tellable refusal.
abbrev pub Apart : (Exported → Type 0) → List ℕ → Exported → Type 0
Apart Taken buffer e = Taken e ⊎ ((r : Refusal) × (e ≡ refused r buffer) × Tellable r)

-- A start that is taken returns 0.
abbrev TakenStart : Exported → Type 0
TakenStart e = e.number ≡ 0

-- A step that is taken returns a task of the table or none.
abbrev TakenStep : Table → Exported → Type 0
TakenStep t e = (e.number ≤ task_limit) × ((e.number ≡ task_limit) ⊎ (e.number < t.count))

-- The buffer and the form are looked at first.
module _ (Taken : Exported → Type 0) (bytes : ℕ) (file buffer : List ℕ) (go : Table → Exported) (h : Apart Taken buffer (go (form_of file).table)) where
  admission_apart : (a : Admission) → AdmissionTellable a → Apart Taken buffer
      (elim a [ Err r ↦ refused r buffer | Ok _ ↦ go (form_of file).table ])
  admission_apart (Err r) n = inr (r, refl, n)
  admission_apart (Ok u) n = h

  pub file_apart : Apart Taken buffer (on_file bytes file buffer go)
  file_apart = admission_apart (cond (eqb (length buffer) bytes) (form_of file).admission strange) (tellable (eqb (length buffer) bytes))
    where
      strange : Admission
      strange = Err (record { number = 50; place = min (length buffer) 65535 })

      tellable : (whole : Bool) → AdmissionTellable (cond whole (form_of file).admission strange)
      tellable true = form_tellable file
      tellable false = (omega arith, omega arith)

pub start_apart : (file buffer : List ℕ) → Apart TakenStart buffer (start_exported file buffer)
unfolding started
start_apart file buffer =
    file_apart TakenStart state_bytes file buffer (λ t. let d = started t (state_in buffer) in start_written buffer d.state d.admission)
    (by (form_of file).table (judged (form_of file).table) (judged_tellable (form_of file).table))
  where
    by : (t : Table) (j : Judgement) → JudgementTellable j → let s = start_judged t (state_in buffer) j in
        Apart TakenStart buffer (start_written buffer s.state s.admission)
    by t (Err r) n = inr (r, refl, n)
    by t (Ok m) n = inl refl

-- The owner of a slot is a task or none.
owner_range : (t : Table) (d : State) (done : Bool) → t.count ≤ task_limit → let k = (turn t d done).owner in (k ≤ task_limit)
    × ((k ≡ task_limit) ⊎ (k < t.count))
unfolding turn_by
owner_range t d done few = go (owner_one t (tie_order t) d done few)
  where
    go : {k : ℕ} → (k ≡ task_limit) ⊎ (k < t.count) → (k ≤ task_limit) × ((k ≡ task_limit) ⊎ (k < t.count))
    go (inl e) = (omega arith, inl e)
    go (inr l) = (omega arith, inr l)

-- The refusal of a state is tellable, by what its table is judged to be.
pub state_tellable : (t : Table) (d : State) (j : Judgement) → ((m : Measure) → j ≡ Ok m → t.count ≤ task_limit) → JudgementTellable j
    → AdmissionTellable (admitted_by t d j)
state_tellable t d (Err r) few n = n
state_tellable t d (Ok m) few n = go (ltb (first_strange t d) t.count) (last_strange t d) (ltb slot_count_limit (slot_count t d)) refl
  where
    go : (a b c : Bool) → ltb (first_strange t d) t.count ≡ a → AdmissionTellable
        (cond a (Err (refusal 8 (first_strange t d)))
        (cond b (Err (refusal 8 task_limit)) (cond c (Err (refusal 8 sum_place)) (Ok tt))))
    go true b c p = (omega arith, omega (arith, few m refl, ltb-true (first_strange t d) t.count p))
    go false true c p = (omega arith, omega arith)
    go false false true p = (omega arith, omega arith)
    go false false false p = tt

pub admitted_tellable : (t : Table) (d : State) → AdmissionTellable (admitted t d)
unfolding admitted
admitted_tellable t d = state_tellable t d (judged t) (λ m e. (well_formed t m e).ranged.few) (judged_tellable t)

pub step_apart : (file buffer : List ℕ) (done : ℕ) → Apart (TakenStep (form_of file).table) buffer (step_exported file buffer done)
unfolding stepped_by
step_apart file buffer done =
    let t = (form_of file).table in
    file_apart (TakenStep t) state_bytes file buffer
    (λ t. let s = stepped t (state_in buffer) (not (eqb done 0)) in step_written buffer s.state s.answer)
    (by t (state_in buffer) (not (eqb done 0)) (admitted t (state_in buffer)) refl (admitted_tellable t (state_in buffer)))
  where
    by : (t : Table) (d : State) (report : Bool) (a : Admission) → admitted t d ≡ a → AdmissionTellable a
        → let s = step_admitted_by t (tie_order t) d report a in Apart (TakenStep t) buffer (step_written buffer s.state s.answer)
    by t d report (Err r) e n = inr (r, refl, n)
    by t d report (Ok u) e n = go (eqb (slot_count t d) slot_count_limit)
      where
        few : t.count ≤ task_limit
        few = let a = (admitted_iff t d).0 e in (well_formed t a.measure a.well).ranged.few

        go : (full : Bool) → let s = cond full (refuse_step (refusal 9 0) d)
            (record { answer = Ok (turn t d report); state = after t d report }) in Apart (TakenStep t) buffer
            (step_written buffer s.state s.answer)
        go true = inr (refusal 9 0, refl, (omega arith, omega arith))
        go false = inl (owner_range t d report few)
