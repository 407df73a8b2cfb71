-- What was reached, and what reading there leads to.
use Rattle.std.specs.Prelude.{◌≡◌, List, [], ◌∷◌, ◌++◌, Ok, Err}
use Rattle.std.proofs.Common.{arith}
use Prim.Native.Nat.{ℕ, ◌+◌, ◌*◌, ◌<◌, ◌≤◌}
use Rattle.std.proofs.Math.ListN.{length}
use Rattle.values.specs.declared.Task.{Task}
use Rattle.tablefile.specs.declared.Record.{Record}
use Rattle.model.specs.Limits.{task_limit, budget_bytes, task_bytes, longest_file}
use Rattle.model.specs.TableFile.{refuse_file, admit, read_from, form_of}
use Rattle.tablefile.specs.Reading.{Reading, record_bytes}

-- Up to a place the budget b and the tasks ks were read: nothing yet, or all so that reading on from there makes the form of the file.
pub data Reached (s : List ℕ) : ℕ → List Task → ℕ → Type 0 where
  first : Reached s 0 [] 0
  later : {b : ℕ} {ks : List Task} {at : ℕ} (room : ℕ) → length ks + room ≡ task_limit → budget_bytes ≤ at → at ≤ budget_bytes + task_bytes * length ks
      → at ≤ length s
      → read_from s b ks room at ≡ form_of s → Reached s b ks at

-- What was reached lies in the file and in the longest legal file, and fits a table.
pub bounds : {s : List ℕ} {b : ℕ} {ks : List Task} {at : ℕ} → Reached s b ks at → (at ≤ length s) × (at < longest_file) × (length ks ≤ task_limit)
bounds first = omega arith
bounds (later room all from here inside same) = omega arith

-- What reading there leads to: the form of the file, or the next place.
abbrev pub Follows : List ℕ → ℕ → List Task → ℕ → Reading → Type 0
Follows s b ks at (Err r) = refuse_file r.number r.place ≡ form_of s
Follows s b ks at (Ok (Record.Budget x)) = Reached s x ks (at + budget_bytes)
Follows s b ks at (Ok (Record.OneTask k)) = Reached s b (ks ++ (k ∷ [])) (at + record_bytes k)
Follows s b ks at (Ok Record.End) = admit b ks ≡ form_of s
