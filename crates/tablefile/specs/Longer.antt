-- A file that is longer than the longest legal one is decided by one byte more than that has.
use Rattle.std.specs.Prelude.{◌≡◌, get_or, length, take}
use Rattle.std.proofs.Math.Path.{refl}
use Rattle.std.proofs.Common.{ap, arith, length-take-le, take_all, get_or-take}
use mathlib.Core.List.{List, [], ◌∷◌, ◌++◌}
use Prim.Native.Nat.{ℕ, zero, suc, ◌+◌, ◌*◌, ◌≤◌, ◌<◌}
use Rattle.std.proofs.Math.Decide.{dec_le}
use borrow.Author.Tests.{ne_eqb, lt-ltb, le-ltb, lt-leb}
use Rattle.values.specs.declared.Task.{Task}
use Rattle.values.specs.declared.Contents.{Contents}
use Rattle.model.specs.Limits.{task_limit, budget_bytes, task_bytes, button_bytes, longest_file}
use Rattle.model.specs.Tasks.{judged_mixed}
use Rattle.model.specs.TableFile.{four, eight, task_in, button_in, refuse_file, whole, read_record, read_from, form_of, judged_form, file_read}

-- Two files of more bytes than the longest legal one, with the same first ones.
module _ (s s' : List ℕ) (long : longest_file < length s) (long' : longest_file < length s')
    (same : (i : ℕ) → i ≤ longest_file → get_or s i 0 ≡ get_or s' i 0) where
  four_same : (at : ℕ) → at + 3 ≤ longest_file → four s at ≡ four s' at
  four_same at h = rw (same at (omega arith), same (at + 1) (omega arith), same (at + 2) (omega arith), same (at + 3) (omega arith))

  task_same : (at : ℕ) → at + task_bytes < longest_file → task_in s (at + 1) ≡ task_in s' (at + 1)
  task_same at h =
      rw (four_same (at + 1) (omega arith), four_same (at + 1 + 4) (omega arith), four_same (at + 1 + 8) (omega arith), four_same (at + 1 + 12) (omega arith))

  button_same : (at : ℕ) → at + button_bytes < longest_file → button_in s (at + 1) ≡ button_in s' (at + 1)
  button_same at h = rw (four_same (at + 1) (omega arith), four_same (at + 1 + 4) (omega arith), four_same (at + 1 + 8) (omega arith))

  record_same : (b : ℕ) (ks : List Task) (at : ℕ) (go go' : ℕ → Task → Contents) → at < longest_file
      → go task_bytes (task_in s (at + 1)) ≡ go' task_bytes (task_in s' (at + 1)) → go button_bytes (button_in s (at + 1)) ≡ go' button_bytes
      (button_in s' (at + 1))
      → read_record s b ks at go ≡ read_record s' b ks at go'
  record_same b ks at go go' h e f =
      rw (
        lt-leb (length s) at (omega arith),
        lt-leb (length s') at (omega arith),
        lt-ltb (at + 1) (length s) (omega arith),
        lt-ltb (at + 1) (length s') (omega arith),
        same at (omega arith),
        e,
        f,
      )

  from_same : (b : ℕ) (ks : List Task) (room at : ℕ) → at + room * task_bytes < longest_file → read_from s b ks room at ≡ read_from s' b ks room at
  unfolding read_from
  from_same b ks zero at h = record_same b ks at (λ bytes k. refuse_file 25 at) (λ bytes k. refuse_file 25 at) (omega arith) refl refl
  from_same b ks (suc room) at h =
      record_same b ks at (λ bytes k. whole s at bytes (read_from s b (ks ++ (k ∷ [])) room (at + bytes)))
      (λ bytes k. whole s' at bytes (read_from s' b (ks ++ (k ∷ [])) room (at + bytes))) (omega arith)
      (rw (le-ltb (length s) (at + task_bytes) (omega arith), le-ltb (length s') (at + task_bytes) (omega arith), task_same at (omega arith))
      (from_same b (ks ++ (task_in s' (at + 1) ∷ [])) room (at + task_bytes) (omega arith)))
      (rw (le-ltb (length s) (at + button_bytes) (omega arith), le-ltb (length s') (at + button_bytes) (omega arith), button_same at (omega arith))
      (from_same b (ks ++ (button_in s' (at + 1) ∷ [])) room (at + button_bytes) (omega arith)))

  form_same : form_of s ≡ form_of s'
  unfolding form_of
  form_same =
      rw (
        ne_eqb (length s) 0 (omega arith),
        ne_eqb (length s') 0 (omega arith),
        le-ltb (length s) (0 + budget_bytes) (omega arith),
        le-ltb (length s') (0 + budget_bytes) (omega arith),
        same 0 (omega arith),
        four_same 1 (omega arith),
        four_same (1 + 4) (omega arith),
        from_same (eight s' 1) [] task_limit budget_bytes (omega arith),
      )

pub first_form : (s : List ℕ) → form_of (take (suc longest_file) s) ≡ form_of s
first_form s = elim (dec_le (length s) (suc longest_file)) [
  | yes p ↦ rw (take_all (suc longest_file) s p)
  | no p ↦
      form_same (take (suc longest_file) s) s (omega (arith, length-take-le (suc longest_file) s (omega arith))) (omega arith)
      (λ i h. get_or-take (suc longest_file) s i 0 (omega arith))
]

pub first_bytes : (s : List ℕ) → file_read (take (suc longest_file) s) ≡ file_read s
unfolding file_read
first_bytes s = ap (λ (l : Contents). judged_form judged_mixed l l.admission) (first_form s)
