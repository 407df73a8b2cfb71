-- Every refusal of a file has a number above 0 and a place below 65,536: no place lies behind the longest legal file.
use Rattle.model.specs.Values.{Judgement, Admission}
use Rattle.std.specs.Prelude.{◌≡◌, refl, Bool, cond, ◌||◌, leb, ltb, length, get_or, Ok, Err}
use mathlib.Core.List.{List, [], ◌∷◌, ◌++◌}
use Rattle.std.proofs.Math.Bool.{true, false}
use Prim.Native.Nat.{ℕ, zero, suc, ◌+◌, ◌*◌, ◌≤◌, ◌<◌}
use native.Mathlib.Omega.{arith}
use Rattle.std.proofs.Common.{leb-true}
use Rattle.std.proofs.Math.Dec.{eqb}
use Rattle.values.specs.declared.Task.{Task}
use Rattle.values.specs.declared.Contents.{Contents}
use Rattle.model.specs.Limits.{task_limit, budget_bytes, task_bytes, button_bytes, longest_file}
use Rattle.model.specs.Tasks.{judged_mixed}
use Rattle.model.specs.TableFile.{eight, task_in, button_in, refuse_file, admit, whole}
use Rattle.model.specs.TableFile.{worth, read_record, read_from, form_of, judged_table, judged_form, file_read}
use Rattle.wellformed.specs.Refused.{Tellable, JudgementTellable, mixed_tellable}

-- An admission that is tellable if it refuses.
abbrev pub AdmissionTellable : Admission → Type 0
AdmissionTellable (Err r) = Tellable r
AdmissionTellable (Ok u) = Unit

worth_tellable : (b : ℕ) (l : Contents) → AdmissionTellable l.admission → AdmissionTellable (worth b l).admission
worth_tellable b l h = go (eqb b 0)
  where
    go : (nothing : Bool) → AdmissionTellable (cond nothing (refuse_file 27 0) l).admission
    go true = (omega arith, omega arith)
    go false = h

module _ (s : List ℕ) where
  whole_tellable : (at bytes : ℕ) (l : Contents) → at < longest_file → AdmissionTellable l.admission → AdmissionTellable (whole s at bytes l).admission
  whole_tellable at bytes l near h = go (ltb (length s) (at + bytes))
    where
      go : (b : Bool) → AdmissionTellable (cond b (refuse_file 20 at) l).admission
      go true = (omega arith, omega arith)
      go false = h

  record_tellable : (b : ℕ) (ks : List Task) (at : ℕ) (next : ℕ → Task → Contents) → at < longest_file
      → AdmissionTellable (next task_bytes (task_in s (at + 1))).admission → AdmissionTellable (next button_bytes (button_in s (at + 1))).admission
      → AdmissionTellable (read_record s b ks at next).admission
  record_tellable b ks at next near h p =
      go (leb (length s) at) (eqb (get_or s at 0) 1) (eqb (get_or s at 0) 2) (eqb (get_or s at 0) 4) (eqb (get_or s at 0) 3) (ltb (at + 1) (length s))
      (leb-true (length s) at)
    where
      go : (past budget task button end more : Bool) → (past ≡ true → length s ≤ at)
          → let ended = cond end (cond more (refuse_file 24 (at + 1)) (admit b ks)) (refuse_file 21 at) in
          AdmissionTellable (cond past (refuse_file 26 (length s))
          (cond budget (refuse_file 23 at)
          (cond task (next task_bytes (task_in s (at + 1))) (cond button (next button_bytes (button_in s (at + 1))) ended)))).admission
      go true budget task button end more e = let p = e refl in (omega arith, omega arith)
      go false true task button end more e = (omega arith, omega arith)
      go false false true button end more e = h
      go false false false true end more e = p
      go false false false false true true e = (omega arith, omega arith)
      go false false false false true false e = tt
      go false false false false false more e = (omega arith, omega arith)

  from_tellable : (b : ℕ) (ks : List Task) (room at : ℕ) → at + room * task_bytes < longest_file → AdmissionTellable (read_from s b ks room at).admission
  unfolding read_from
  from_tellable b ks zero at near = record_tellable b ks at (λ bytes k. refuse_file 25 at) (omega arith) (omega arith, omega arith) (omega arith, omega arith)
  from_tellable b ks (suc room) at near =
      record_tellable b ks at (λ bytes k. whole s at bytes (read_from s b (ks ++ (k ∷ [])) room (at + bytes))) (omega arith)
      (whole_tellable at task_bytes _ (omega arith) (from_tellable b (ks ++ (task_in s (at + 1) ∷ [])) room (at + task_bytes) (omega arith)))
      (whole_tellable at button_bytes _ (omega arith) (from_tellable b (ks ++ (button_in s (at + 1) ∷ [])) room (at + button_bytes) (omega arith)))

  pub form_tellable : AdmissionTellable (form_of s).admission
  unfolding form_of
  form_tellable = go (eqb (length s) 0) (eqb (get_or s 0 0) 1) (eqb (get_or s 0 0) 2 || (eqb (get_or s 0 0) 3 || eqb (get_or s 0 0) 4))
    where
      go : (none budget other : Bool)
          → AdmissionTellable (cond none (refuse_file 22 0)
          (cond budget (whole s 0 budget_bytes (worth (eight s 1) (read_from s (eight s 1) [] task_limit budget_bytes)))
          (cond other (refuse_file 22 0) (refuse_file 21 0)))).admission
      go true budget other = (omega arith, omega arith)
      go false true other =
          whole_tellable 0 budget_bytes _ (omega arith) (worth_tellable (eight s 1) _ (from_tellable (eight s 1) [] task_limit budget_bytes (omega arith)))
      go false false true = (omega arith, omega arith)
      go false false false = (omega arith, omega arith)

  pub read_tellable : AdmissionTellable (file_read s).admission
  unfolding file_read
  read_tellable = go (form_of s).admission form_tellable
    where
      table_tellable : (j : Judgement) → JudgementTellable j → AdmissionTellable (judged_table (form_of s) j).admission
      table_tellable (Err r) h = h
      table_tellable (Ok m) h = form_tellable

      go : (a : Admission) → AdmissionTellable a → AdmissionTellable (judged_form judged_mixed (form_of s) a).admission
      go (Err r) h = form_tellable
      go (Ok u) h = table_tellable (judged_mixed (form_of s).table) (mixed_tellable (form_of s).table)
