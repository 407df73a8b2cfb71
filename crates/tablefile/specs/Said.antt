-- The specification's numbers for a record, and that a record which is read has the numbers that stand in the file.
use Rattle.std.specs.Prelude.{◌≡◌, List, [], ◌∷◌, ◌++◌, true, false, cond, ℕ, ◌+◌, ltb, leb, eqb, get_or, length, drop, Ok, Err}
use Rattle.std.proofs.Common.{ap, eqb-true}
use Rattle.values.specs.declared.Sort.{Sort}
use Rattle.values.specs.declared.Task.{Task}
use Rattle.model.specs.Limits.{task_limit}
use Rattle.model.specs.TableFile.{four, eight}
use Rattle.tablefile.specs.declared.Record.{Record}
use Rattle.tablefile.specs.Reading.{Reading, budget_body, body_bytes, reading_at, either}
use Rattle.tablefile.specs.Part.{eight_part, task_part}

-- A record's kind, and the numbers of its body in their order. A button has no offset among them.
abbrev pub sort_said : Sort → List ℕ
sort_said (Sort.Periodic o) = 2 ∷ o ∷ []
sort_said Sort.Button = 4 ∷ []

abbrev pub record_said : Record → List ℕ
record_said (Record.Budget b) = 1 ∷ b ∷ []
record_said (Record.OneTask k) = sort_said k.sort ++ (k.cost ∷ k.deadline ∷ k.period ∷ [])
record_said Record.End = 3 ∷ []

-- The numbers that stand at a place: the kind byte, then a budget's of eight bytes, or a task's four, or a button's three, of four bytes each.
abbrev pub numbers_at : List ℕ → ℕ → List ℕ
numbers_at s at =
    let kind = get_or s at 0 in
    let body = at + 1 in
    kind ∷ cond (eqb kind 1) (eight s body ∷ []) (cond (eqb kind 2) (four s body ∷ four s (body + 4) ∷ four s (body + 8) ∷ four s (body + 12) ∷ [])
    (cond (eqb kind 4) (four s body ∷ four s (body + 4) ∷ four s (body + 8) ∷ []) []))

-- A reading that has these numbers if it is a record.
abbrev pub Has : List ℕ → Reading → Type 0
Has numbers (Err r) = Unit
Has numbers (Ok k) = record_said k ≡ numbers

pub record_said_lem : (s : List ℕ) (at n : ℕ) → Has (numbers_at s at) (reading_at s at n)
unfolding reading_at
record_said_lem s at n =
    let kind = get_or s at 0 in
    let rest = drop (at + 1) s in
    let by = either (Has (numbers_at s at)) in
    by (leb (length s) at) _ _ (λ e. by (eqb at 0) _ _ (λ e. tt) (λ e. tt))
    (λ e. by (eqb kind 1) _ _
    (λ k. by (ltb 0 at) _ _ (λ e. tt)
    (λ e. by (ltb (length rest) budget_body) _ _ (λ e. tt) (λ e. by (eqb (eight rest 0) 0) _ _ (λ e. tt) (λ e. rw (eqb-true kind 1 k, eight_part)))))
    (λ e. by (eqb kind 2) _ _
    (λ k. by (eqb at 0) _ _ (λ e. tt)
    (λ e. by (leb task_limit n) _ _ (λ e. tt)
    (λ e. by (ltb (length rest) (body_bytes false)) _ _ (λ e. tt)
    (λ e. rw (eqb-true kind 2 k) (ap (λ (t : Task). record_said (Record.OneTask t)) (task_part false s (at + 1)))))))
    (λ e. by (eqb kind 4) _ _
    (λ k. by (eqb at 0) _ _ (λ e. tt)
    (λ e. by (leb task_limit n) _ _ (λ e. tt)
    (λ e. by (ltb (length rest) (body_bytes true)) _ _ (λ e. tt)
    (λ e. rw (eqb-true kind 4 k) (ap (λ (t : Task). record_said (Record.OneTask t)) (task_part true s (at + 1)))))))
    (λ e. by (eqb kind 3) _ _ (λ k. by (eqb at 0) _ _ (λ e. tt) (λ e. by (ltb 0 (length rest)) _ _ (λ e. tt) (λ e. rw (eqb-true kind 3 k)))) (λ e. tt)))))
