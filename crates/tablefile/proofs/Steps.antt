-- From record to record: what was reached, and what reading there leads to.
use Rattle.std.specs.Prelude.{◌≡◌, Bool, List, [], ◌∷◌, ◌++◌, ltb, leb, eqb, get_or, drop}
use Rattle.std.proofs.Math.Path.{refl}
use Rattle.std.proofs.Common.{sym, ap, ◌∙◌, arith}
use Rattle.std.proofs.Math.Bool.{true, false}
use Prim.Native.Nat.{ℕ, zero, suc, ◌+◌, ◌*◌, ◌<◌, ◌≤◌}
use borrow.Author.Tests.{ne_eqb, lt-ltb, le-ltb, le-leb, lt-leb, ltb-true, ltb-false, leb-true, leb-false}
use Rattle.std.proofs.Math.ListN.{length, length-drop, length-append}
use Rattle.values.specs.declared.Task.{Task}
use Rattle.values.specs.declared.Contents.{Contents}
use Rattle.model.specs.Limits.{task_limit, budget_bytes, task_bytes}
use Rattle.model.specs.TableFile.{refuse_file, whole, read_record, read_from, form_of}
use Rattle.tablefile.specs.Reading.{record_size, body_bytes, body_in, record_size_lem, body_sort, task_reading, reading_at, either}
use Rattle.tablefile.specs.Part.{task_part}
use Rattle.tablefile.proofs.Reached.{Reached, first, later, Follows}
use Rattle.tablefile.proofs.FirstStep.{step_first}

-- What a task leads to in the model, with room for this many.
unfoldable after_task : List ℕ → ℕ → List Task → ℕ → ℕ → ℕ → Task → Contents
after_task s b ks zero at bytes k = refuse_file 25 at
after_task s b ks (suc room) at bytes k = whole s at bytes (read_from s b (ks ++ (k ∷ [])) room (at + bytes))

module _ (s : List ℕ) (b : ℕ) (ks : List Task) (at : ℕ) where
  opened : (room : ℕ) → read_from s b ks room at ≡ read_record s b ks at (after_task s b ks room at)
  unfolding after_task read_from
  opened zero = refl
  opened (suc room) = refl

module _ (s : List ℕ) (b : ℕ) (ks : List Task) (at : ℕ) (from : budget_bytes ≤ at) (here : at ≤ budget_bytes + task_bytes * length ks) where
  step_task : (button : Bool) (room : ℕ) → length ks + room ≡ task_limit → at < length s
      → after_task s b ks room at (record_size button) (body_in button s (at + 1)) ≡ form_of s
      → Follows s b ks at (task_reading button (drop (at + 1) s) at (length ks))
  unfolding after_task
  step_task button zero all inside same = rw (ne_eqb at 0 (omega arith), le-leb task_limit (length ks) (omega arith)) same
  step_task button (suc room) all inside same =
      rw (ne_eqb at 0 (omega arith), lt-leb task_limit (length ks) (omega arith))
      (either (Follows s b ks at) (ltb (length (drop (at + 1) s)) (body_bytes button)) _ _
      (λ e. rw (lt-ltb (length s) (at + record_size button) (omega (arith, ltb-true, record_size_lem button, length-drop (at + 1) s))) at same)
      (λ e. rw (body_sort, task_part)
      (later {ks = ks ++ (body_in button s (at + 1) ∷ [])} {at = at + record_size button} room (simp length-append (omega arith)) (omega arith)
      (simp length-append (omega (arith, record_size_lem button))) (omega (arith, ltb-false, length-drop (at + 1) s))
      (rw (le-ltb (length s) (at + record_size button) (omega (arith, ltb-false, record_size_lem button, length-drop (at + 1) s))) at same))))

  step_later : (room : ℕ) → length ks + room ≡ task_limit → at ≤ length s → read_record s b ks at (after_task s b ks room at) ≡ form_of s
      → Follows s b ks at (reading_at s at (length ks))
  unfolding reading_at
  step_later room all inside same =
      either (Follows s b ks at) (leb (length s) at) _ _
      (λ e0. let stop : at ≡ length s = omega (arith, leb-true) in rw (ne_eqb at 0 (omega arith)) (ap (refuse_file 26) stop ∙ rw e0 at same))
      (λ e0. either (Follows s b ks at) (eqb (get_or s at 0) 1) _ _ (λ e1. rw (lt-ltb 0 at (omega arith)) (rw (e0, e1) at same))
      (λ e1. either (Follows s b ks at) (eqb (get_or s at 0) 2) _ _ (λ e2. step_task false room all (leb-false _ _ e0) (rw (e0, e1, e2) at same))
      (λ e2. either (Follows s b ks at) (eqb (get_or s at 0) 4) _ _ (λ e4. step_task true room all (leb-false _ _ e0) (rw (e0, e1, e2, e4) at same))
      (λ e4. either (Follows s b ks at) (eqb (get_or s at 0) 3) _ _
      (λ e3. rw (ne_eqb at 0 (omega arith))
      (either (Follows s b ks at) (ltb 0 (length (drop (at + 1) s))) _ _
      (λ e. rw (e0, e1, e2, e4, e3, lt-ltb (at + 1) (length s) (omega (arith, ltb-true, length-drop (at + 1) s))) at same)
      (λ e. rw (e0, e1, e2, e4, e3, le-ltb (at + 1) (length s) (omega (arith, ltb-false, length-drop (at + 1) s))) at same)))
      (λ e3. rw (e0, e1, e2, e4, e3) at same)))))

-- What the checks say of a place that was reached is what the model makes of it.
pub step : {s : List ℕ} {b : ℕ} {ks : List Task} {at : ℕ} → Reached s b ks at → Follows s b ks at (reading_at s at (length ks))
step {s} first = step_first s
step {s} {b} {ks} {at} (later room all from here inside same) = step_later s b ks at from here room all inside (sym (opened s b ks at room) ∙ same)
