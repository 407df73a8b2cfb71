-- The records of a file, put one after another: their lengths, and the turn of the loop over the tasks.
use Rattle.std.specs.Prelude.{◌≡◌, refl, List, [], ◌∷◌, ◌++◌, ◌≢◌, ℕ, zero, suc, ◌+◌, ◌≤◌, ◌<◌, length, get_or, take, Ok, Err}
use Rattle.std.proofs.Common.{append-nil, append_assoc, add-one, arith, eq-eqb, ne_eqb, lt-ltb, le-ltb, length-append, take-suc}
use Rattle.std.proofs.lemmas.List.{take_all}
use Rattle.std.proofs.lemmas.List.Edits.{sets-eq}
use Rattle.values.specs.declared.Sort.{Sort}
use Rattle.values.specs.declared.Task.{Task}
use Rattle.model.specs.Limits.{budget_bytes}
use Rattle.model.specs.Values.{refusal, Writing}
use Rattle.model.specs.Tasks.{no_task, button_sort}
use Rattle.model.specs.TableFile.{sort_bytes, task_record, task_records}
use Rattle.model.specs.Writer.{Filled, fitted, budgeted}
use Rattle.counting.specs.Put.{Put, join}
use Rattle.words.specs.declared.Out.{Out}
use Rattle.words.specs.Out.{Fits, Puts, both, second}
use Rattle.tablefile.specs.Reading.{record_size, record_bytes}
use Rattle.tablefile.specs.Written.{record_length}

-- What a writer said and what the buffer then holds, as the model has them.
abbrev pub filled : Writing → List ℕ → Filled
filled w l = record { said = w; buffer = l }

-- Behind the sort of a task stand three words.
pub sort_size : (q : Sort) → length (sort_bytes q) + 12 ≡ record_size (button_sort q)
sort_size (Sort.Periodic o) = refl
sort_size Sort.Button = refl

-- The bytes of a file of these tasks.
abbrev pub file_bytes : List Task → ℕ
file_bytes ks = budget_bytes + length (task_records ks) + 1

-- More tasks have no fewer bytes.
pub records_more : (ks : List Task) (i n : ℕ) → i ≤ n → length (task_records (take i ks)) ≤ length (task_records (take n ks))
unfolding task_records
records_more ks zero n h = omega arith
records_more [] (suc i) zero h = elim h [ ]
records_more [] (suc i) (suc n) h = omega arith
records_more (k ∷ ks) (suc i) zero h = elim h [ ]
records_more (k ∷ ks) (suc i) (suc n) h =
    omega (
      arith,
      records_more ks i n (omega arith),
      length-append (task_record k) (task_records (take i ks)),
      length-append (task_record k) (task_records (take n ks)),
    )

records_append : (ks : List Task) (k : Task) → task_records (ks ++ (k ∷ [])) ≡ task_records ks ++ task_record k
unfolding task_records
records_append [] k = append-nil (task_record k)
records_append (x ∷ ks) k = simp (records_append ks k, append_assoc)

-- One task more has its own bytes more.
pub records_step : (ks : List Task) (i : ℕ) → i < length ks → length (task_records (take (i + 1) ks)) ≡ length (task_records (take i ks)) + record_bytes
    (get_or ks i no_task)
records_step ks i h =
    rw (add-one i, take-suc ks i no_task, records_append (take i ks) (get_or ks i no_task))
    (omega (arith, length-append (task_records (take i ks)) (task_record (get_or ks i no_task)), record_length (get_or ks i no_task)))

-- A turn of the loop that puts the tasks.
pub one_more : (ks : List Task) (i : ℕ) {before between after : List ℕ} {at middle next : ℕ} → i < length ks
    → Put (task_records (take i ks)) at before between middle → Put (task_record (get_or ks i no_task)) middle between after next
    → Put (task_records (take (i + 1) ks)) at before after next
one_more ks i h p q = rw (add-one i, take-suc ks i no_task, records_append (take i ks) (get_or ks i no_task)) (join p q)

-- The same of what is written.
pub next_task : (ks : List Task) (i : ℕ) {old between new : Out} → i < length ks → Puts (task_records (take i ks)) old between
    → Puts (task_record (get_or ks i no_task)) between new → Puts (task_records (take (i + 1) ks)) old new
next_task ks i h p q = rw (add-one i, take-suc ks i no_task, records_append (take i ks) (get_or ks i no_task)) (both p q)

-- Where the records of all tasks fit, that of the next one does.
pub next_fits : (ks : List Task) (i : ℕ) {old between : Out} → i < length ks → Puts (task_records (take i ks)) old between → Fits (task_records ks) old
    → Fits (task_record (get_or ks i no_task)) between
next_fits ks i {old} h p f =
    let all = rw (take_all (length ks) ks (omega arith)) at (records_more ks (i + 1) (length ks) (omega arith)) in
    let these : Fits (task_records (take (i + 1) ks)) old = record { room = omega (arith, all, f.room) } in
    second p (rw (add-one i, take-suc ks i no_task, records_append (take i ks) (get_or ks i no_task)) at these)

-- A budget of 0, and any other.
pub nothing : {w : Writing} (b : ℕ) (bytes before : List ℕ) → b ≡ 0 → w ≡ Err (refusal 27 0)
    → filled w before ≡ budgeted b bytes before
nothing b bytes before z e = rw (eq-eqb b 0 z, e)

pub something : {f : Filled} (b : ℕ) (bytes before : List ℕ) → b ≢ 0 → f ≡ fitted bytes before → f ≡ budgeted b bytes before
something b bytes before h e = rw (ne_eqb b 0 h) e

-- A buffer that is too short.
pub short : {w : Writing} (bytes before : List ℕ) → length before < length bytes → w ≡ Err (refusal 31 (length before))
    → filled w before ≡ fitted bytes before
short bytes before h e = rw (lt-ltb (length before) (length bytes) h, e)

-- Bytes at the front of a buffer that is long enough.
pub fits : {bytes before after : List ℕ} {next : ℕ} → Put bytes 0 before after next → length bytes ≤ length before
    → filled (Ok next) after ≡ fitted bytes before
fits {bytes} {before} p h =
    let n : 0 + length bytes ≡ length bytes = omega arith in
    let place = p.place in
    let front = p.bytes in
    rw (le-ltb (length before) (length bytes) h, place, front, sets-eq bytes before 0 (omega arith), n)
