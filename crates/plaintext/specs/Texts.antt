-- The text of a budget and tasks, put piece by piece: its length, and the turn of the loop over the tasks.
use Rattle.std.specs.Prelude.{◌≡◌, refl, List, [], ◌∷◌, ◌++◌, ℕ, zero, suc, ◌+◌, ◌*◌, ◌^◌, ◌≤◌, ◌<◌, length, get_or, take}
use Rattle.std.proofs.Common.{subst, append-nil, append_assoc, add-one, arith, length-append, take-suc, take_at}
use Rattle.std.proofs.lemmas.List.{take_all}
use Rattle.std.proofs.lemmas.List.Edits.{sets-eq}
use Rattle.values.specs.declared.Sort.{Sort}
use Rattle.values.specs.declared.Task.{Task}
use Rattle.model.specs.Notation.{text, decimal}
use Rattle.model.specs.Limits.{longest_text}
use Rattle.model.specs.Tasks.{no_task, task, sort_offset}
use Rattle.model.specs.Report.{line}
use Rattle.model.specs.PlainText.{sort_text, task_text, task_texts, text_of}
use Rattle.model.specs.Writer.{tasks_of}
use Rattle.counting.specs.Put.{Put, join}
use Rattle.wellformed.specs.Ranges.{InRange, Ranged, holds_all}
use Rattle.text.specs.Decimal.{number_bytes, short, wide}
use Rattle.values.specs.declared.Table.{Table}
use Rattle.words.specs.declared.Out.{Out}
use Rattle.words.specs.Out.{Fits, Puts, both, second, within}

-- The most bytes of a budget's line and of a task's, whose numbers have at most five digits.
abbrev pub budget_line_bytes : ℕ
budget_line_bytes = 7 + number_bytes + 1

abbrev pub task_line_bytes : ℕ
task_line_bytes = 5 + 4 * 5 + 3 + 1

five : (n : ℕ) → n ≤ 60000 → length (decimal n) ≤ 5
five n h = short 4 n (omega arith)

-- A task's line is short.
sort_short : (q : Sort) → sort_offset q ≤ 60000 → length (sort_text q) ≤ 11
unfolding text
sort_short (Sort.Periodic o) h = simp length-append (omega (arith, five o h))
sort_short Sort.Button h = omega arith

pub task_short : (k : Task) → InRange k → length (task_text k) ≤ task_line_bytes
unfolding text
task_short k r =
    simp length-append
    (omega (
      arith,
      sort_short k.sort r.offset_le,
      five k.cost (omega (arith, r.cost_le, r.deadline_le, r.period_le)),
      five k.deadline (omega (arith, r.deadline_le, r.period_le)),
      five k.period r.period_le,
    ))

texts_append : (ks : List Task) (k : Task) → task_texts (ks ++ (k ∷ [])) ≡ task_texts ks ++ task_text k
unfolding task_texts
texts_append [] k = append-nil (task_text k)
texts_append (x ∷ ks) k = simp (texts_append ks k, append_assoc)

-- A task's line, put in three pieces.
pub task_put : (k : Task) {at next : ℕ} {before after : List ℕ}
    → Put ((sort_text k.sort ++ decimal k.cost) ++ ((text " " ++ decimal k.deadline) ++ line (text " " ++ decimal k.period))) at before after next
    → Put (task_text k) at before after next
task_put k {at} {next} {before} {after} =
    let grouped : (sort_text k.sort ++ decimal k.cost) ++ ((text " " ++ decimal k.deadline) ++ line (text " " ++ decimal k.period))
    ≡ task_text k = simp append_assoc in
    subst (λ (l : List ℕ). Put l at before after next) grouped

-- The three pieces of a task's line.
pub pieces : (k : Task) → task_text k
    ≡ (sort_text k.sort ++ decimal k.cost) ++ ((text " " ++ decimal k.deadline) ++ line (text " " ++ decimal k.period))
pieces k = simp append_assoc

-- A turn of the loop that puts the tasks.
pub one_more : (ks : List Task) (i : ℕ) {before between after : List ℕ} {at middle next : ℕ} → i < length ks
    → Put (task_texts (take i ks)) at before between middle → Put (task_text (get_or ks i no_task)) middle between after next
    → Put (task_texts (take (i + 1) ks)) at before after next
one_more ks i h p q = rw (add-one i, take-suc ks i no_task, texts_append (take i ks) (get_or ks i no_task)) (join p q)

-- What was put at the front of a buffer stands there.
pub front : {piece before after : List ℕ} {next : ℕ} → Put piece 0 before after next → next ≤ length before → take next after ≡ piece
front {piece} {before} p h =
    let place = p.place in
    let bytes = p.bytes in
    let n : 0 + length piece ≡ length piece = omega arith in
    rw (bytes, sets-eq piece before 0 (omega arith), place, n) (take_at piece _ (length piece) refl)

-- More tasks have no shorter texts.
texts_more : (ks : List Task) (i n : ℕ) → i ≤ n → length (task_texts (take i ks)) ≤ length (task_texts (take n ks))
unfolding task_texts
texts_more ks zero n h = omega arith
texts_more [] (suc i) zero h = elim h [ ]
texts_more [] (suc i) (suc n) h = omega arith
texts_more (k ∷ ks) (suc i) zero h = elim h [ ]
texts_more (k ∷ ks) (suc i) (suc n) h =
    omega (
      arith,
      texts_more ks i n (omega arith),
      length-append (task_text k) (task_texts (take i ks)),
      length-append (task_text k) (task_texts (take n ks)),
    )

-- Where the lines of all tasks fit, that of the next one does; and it stands behind those before it.
pub next_fits : (ks : List Task) (i : ℕ) {old between : Out} → i < length ks → Puts (task_texts (take i ks)) old between → Fits (task_texts ks) old
    → Fits (task_text (get_or ks i no_task)) between
next_fits ks i {old} h p f =
    let all = rw (take_all (length ks) ks (omega arith)) at (texts_more ks (i + 1) (length ks) (omega arith)) in
    let these : Fits (task_texts (take (i + 1) ks)) old = within f all in
    second p (rw (add-one i, take-suc ks i no_task, texts_append (take i ks) (get_or ks i no_task)) at these)

pub next_line : (ks : List Task) (i : ℕ) {old between new : Out} → i < length ks → Puts (task_texts (take i ks)) old between
    → Puts (task_text (get_or ks i no_task)) between new → Puts (task_texts (take (i + 1) ks)) old new
next_line ks i h p q = rw (add-one i, take-suc ks i no_task, texts_append (take i ks) (get_or ks i no_task)) (both p q)

-- The text of a table in range is never longer than the longest one.
lines_short : (t : Table) → Ranged t → (i : ℕ) → i ≤ t.count → length (task_texts (take i t.tasks)) ≤ i * task_line_bytes
unfolding task_texts
lines_short t r zero h = omega arith
lines_short t r (suc i) h =
    rw (take-suc t.tasks i no_task (omega (arith, holds_all t r)), texts_append (take i t.tasks) (task t i), length-append)
    (omega (arith, lines_short t r i (omega arith), task_short (task t i) (r.each i (omega arith))))

pub text_short : (t : Table) (budget : ℕ) → Ranged t → budget < 2 ^ 64 → length (text_of budget (tasks_of t)) ≤ longest_text
unfolding text
text_short t budget r h =
    simp length-append (omega (arith, wide budget h, lines_short t r t.count (omega arith), r.few))
