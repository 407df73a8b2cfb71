-- The reader takes exactly the files of a budget and tasks: a budget, tasks in their order, the end.
use Rattle.std.specs.Prelude.{◌≡◌, Bool, ◌||◌, leb, ltb, length, Ok}
use Rattle.std.proofs.Math.Path.{refl, sym, ap}
use Rattle.std.proofs.Common.{subst, ◌∙◌, add-zero, length-drop, get_or-drop, drop-drop}
use Rattle.std.proofs.Math.Bool.{true, false, cond}
use mathlib.Core.List.{List, [], ◌∷◌, ◌++◌, append-nil, append_assoc}
use Prim.Native.Nat.{ℕ, zero, suc, ◌+◌, ◌*◌, ◌/◌, ◌%◌, ◌≤◌, ◌<◌}
use native.Mathlib.Omega.{arith}
use borrow.Author.Tests.{eqb-true, eqb-false, eq-eqb, ne_eqb, le-ltb, lt-leb, leb-false, ltb-false}
use Rattle.std.proofs.Math.Dec.{eqb}
use Rattle.std.proofs.Math.ListN.{get_or, drop, length-append, drop_of_length-le}
use Rattle.std.proofs.Math.Seq.{append_snoc, drop-cons}
use Rattle.values.specs.declared.Sort.{Sort}
use Rattle.values.specs.declared.Task.{Task}
use Rattle.values.specs.declared.Contents.{Contents}
use Rattle.model.specs.Limits.{task_limit, word_limit, budget_limit, budget_bytes, task_bytes, button_bytes}
use Rattle.model.specs.Tasks.{no_task, button_sort, is_button, offset}
use Rattle.model.specs.TableFile.{budget_kind, task_kind, end_kind, button_kind, four, eight, task_in, button_in, refuse_file, admit, whole, read_record}
use Rattle.model.specs.TableFile.{read_from, form_of, bytes_of, task_record, task_records, file_of}
use Rattle.tablefile.specs.Reading.{record_size, record_bytes, body_in, record_size_lem}
use Rattle.tablefile.specs.Part.{task_part}
use Rattle.words.specs.Word.{word_back, word_fits, word_here}

-- Each number of a task fits a word; and so for each of these tasks.
abbrev pub Fits32 : Task → Type 0
Fits32 k = (offset k < word_limit) × (k.cost < word_limit) × (k.deadline < word_limit) × (k.period < word_limit)

abbrev pub AllFit : List Task → Type 0
AllFit ks = (i : ℕ) → i < length ks → Fits32 (get_or ks i no_task)

-- ---- What is read stands in the file

-- The kind of a task's record, by its sort; and the bytes of the record.
abbrev kind_of : Bool → ℕ
kind_of button = cond button button_kind task_kind

sort_length : (q : Sort) (c d p : ℕ) → length (task_record (record { sort = q; cost = c; deadline = d; period = p })) ≡ record_size (button_sort q)
unfolding bytes_of
sort_length (Sort.Periodic o) c d p = refl
sort_length Sort.Button c d p = refl

pub record_length : (k : Task) → length (task_record k) ≡ record_bytes k
record_length k = sort_length k.sort k.cost k.deadline k.period

pub file_length : (b : ℕ) (ks : List Task) → length (file_of b ks) ≡ budget_bytes + length (task_records ks) + 1
unfolding bytes_of
file_length b ks = omega (arith, length-append (task_records ks) (end_kind ∷ []))

-- No task has more bytes than a periodic one, and so no file more than the longest legal one.
pub records_le : (ks : List Task) → length (task_records ks) ≤ length ks * task_bytes
unfolding task_records
records_le [] = omega arith
records_le (k ∷ ks) = omega (arith, records_le ks, length-append (task_record k) (task_records ks), record_length k, record_size_lem (is_button k))

module _ (s : List ℕ) where
  -- From this place on the file holds these tasks one after another, then the end and nothing more.
  abbrev Stand : ℕ → List Task → Type 0
  Stand at [] = (get_or s at 0 ≡ 3) × (length s ≡ at + 1)
  Stand at (k ∷ ks) = (get_or s at 0 ≡ kind_of (is_button k)) × (body_in (is_button k) s (at + 1) ≡ k) × Stand (at + record_bytes k) ks

  stand_body : (button : Bool) (at : ℕ) (ks : List Task) → get_or s at 0 ≡ kind_of button → Stand (at + record_size button) ks
      → Stand at (body_in button s (at + 1) ∷ ks)
  stand_body true at ks kind rest = (kind, refl, rest)
  stand_body false at ks kind rest = (kind, refl, rest)

  stand_length : (at : ℕ) (ks : List Task) → Stand at ks → length s ≡ at + length (task_records ks) + 1
  unfolding task_records
  stand_length at [] (kind, stop) = omega arith
  stand_length at (k ∷ ks) (kind, body, rest) =
      omega (arith, stand_length (at + record_bytes k) ks rest, record_length k, length-append (task_record k) (task_records ks))

  -- If the file is taken, tasks stand from this place on, no more than there is room for, and were read after the tasks ks.
  abbrev Takes : ℕ → List Task → ℕ → ℕ → Contents → Type 0
  Takes b ks room at l = l.admission ≡ Ok tt → (more : List Task) × (length more ≤ room) × Stand at more × (l ≡ admit b (ks ++ more))

  refusal_takes : (b : ℕ) (ks : List Task) (room at n p : ℕ) → Takes b ks room at (refuse_file n p)
  refusal_takes b ks room at n p h = let z : ◌≡◌ {A = ℕ} 0 1 = cc in absurd (omega arith)

  whole_takes : (b : ℕ) (ks : List Task) (room at place bytes : ℕ) (l : Contents) → Takes b ks room at l → Takes b ks room at (whole s place bytes l)
  whole_takes b ks room at place bytes l h = go (ltb (length s) (place + bytes))
    where
      go : (short : Bool) → Takes b ks room at (cond short (refuse_file 20 place) l)
      go true = refusal_takes b ks room at 20 place
      go false = h

  record_takes : (b : ℕ) (ks : List Task) (room at : ℕ) (next : ℕ → Task → Contents)
      → ((button : Bool) → get_or s at 0 ≡ kind_of button → Takes b ks room at (next (record_size button) (body_in button s (at + 1))))
      → Takes b ks room at (read_record s b ks at next)
  record_takes b ks room at next task =
      go (leb (length s) at) (eqb (get_or s at 0) 1) (eqb (get_or s at 0) 2) (eqb (get_or s at 0) 4) (eqb (get_or s at 0) 3) (ltb (at + 1) (length s))
      (leb-false (length s) at) (eqb-true (get_or s at 0) 2) (eqb-true (get_or s at 0) 4) (eqb-true (get_or s at 0) 3) (ltb-false (at + 1) (length s))
    where
      refuses : (n p : ℕ) → Takes b ks room at (refuse_file n p)
      refuses = refusal_takes b ks room at

      go : (past budget two four three more : Bool)
          → (past ≡ false → at < length s) → (two ≡ true → get_or s at 0 ≡ 2) → (four ≡ true → get_or s at 0 ≡ 4) → (three ≡ true → get_or s at 0 ≡ 3)
          → (more ≡ false → length s ≤ at + 1)
          → let ended = cond three (cond more (refuse_file 24 (at + 1)) (admit b ks)) (refuse_file 21 at) in
          Takes b ks room at (cond past (refuse_file 26 (length s))
          (cond budget (refuse_file 23 at) (cond two (next task_bytes (task_in s (at + 1))) (cond four (next button_bytes (button_in s (at + 1))) ended))))
      go true budget two four three more inside task-kind button-kind end-kind last = refuses 26 (length s)
      go false true two four three more inside task-kind button-kind end-kind last = refuses 23 at
      go false false true four three more inside task-kind button-kind end-kind last = task false (task-kind refl)
      go false false false true three more inside task-kind button-kind end-kind last = task true (button-kind refl)
      go false false false false true true inside task-kind button-kind end-kind last = refuses 24 (at + 1)
      go false false false false true false inside task-kind button-kind end-kind last =
          λ h. ([], omega arith, (end-kind refl, omega (arith, inside refl, last refl)), ap (admit b) (sym (append-nil ks)))
      go false false false false false more inside task-kind button-kind end-kind last = refuses 21 at

  from_takes : (b : ℕ) (ks : List Task) (room at : ℕ) → Takes b ks room at (read_from s b ks room at)
  unfolding read_from
  from_takes b ks zero at = record_takes b ks zero at (λ bytes k. refuse_file 25 at) (λ button kind. refusal_takes b ks zero at 25 at)
  from_takes b ks (suc room) at =
      record_takes b ks (suc room) at (λ bytes k. whole s at bytes (read_from s b (ks ++ (k ∷ [])) room (at + bytes)))
      (λ button kind. let k = body_in button s (at + 1) in whole_takes b ks (suc room) at at (record_size button)
      (read_from s b (ks ++ (k ∷ [])) room (at + record_size button))
      (λ h. let (more, few, stand, same) = from_takes b (ks ++ (k ∷ [])) room (at + record_size button) h in
      (k ∷ more, omega arith, stand_body button at more kind stand, same ∙ ap (admit b) (append_snoc ks k more))))

  -- If the file is taken, it holds a budget and tasks, and these were read.
  abbrev Holds : Contents → Type 0
  Holds l = l.admission ≡ Ok tt
      → (get_or s 0 0 ≡ 1) × (0 < eight s 1) × ((ks : List Task) × (length ks ≤ task_limit) × Stand budget_bytes ks × (l ≡ admit (eight s 1) ks))

  refusal_holds : (n p : ℕ) → Holds (refuse_file n p)
  refusal_holds n p h = let z : ◌≡◌ {A = ℕ} 0 1 = cc in absurd (omega arith)

  form_holds : Holds (form_of s)
  unfolding form_of
  form_holds =
      go (eqb (length s) 0) (eqb (get_or s 0 0) 1) (ltb (length s) budget_bytes) (eqb (eight s 1) 0)
      (eqb (get_or s 0 0) 2 || (eqb (get_or s 0 0) 3 || eqb (get_or s 0 0) 4))
      (eqb-true (get_or s 0 0) 1) (λ e. omega (arith, eqb-false (eight s 1) 0 e))
    where
      go : (none budget short nothing other : Bool) → (budget ≡ true → get_or s 0 0 ≡ 1) → (nothing ≡ false → 0 < eight s 1)
          → let good = cond short (refuse_file 20 0) (cond nothing (refuse_file 27 0) (read_from s (eight s 1) [] task_limit budget_bytes)) in
          Holds (cond none (refuse_file 22 0) (cond budget good (cond other (refuse_file 22 0) (refuse_file 21 0))))
      go true budget short nothing other kind some = refusal_holds 22 0
      go false true true nothing other kind some = refusal_holds 20 0
      go false true false true other kind some = refusal_holds 27 0
      go false true false false other kind some = λ h. (kind refl, some refl, from_takes (eight s 1) [] task_limit budget_bytes h)
      go false false short nothing true kind some = refusal_holds 22 0
      go false false short nothing false kind some = refusal_holds 21 0

  -- A file of good form has the bytes of the file of its budget and tasks, at most `task_limit`.
  pub form_length : (form_of s).admission ≡ Ok tt
      → (ks : List Task) × (length ks ≤ task_limit) × (form_of s ≡ admit (form_of s).budget ks) × (length s ≡ length (file_of (form_of s).budget ks))
  form_length h =
      let (kind, some, (ks, few, stand, same)) = form_holds h in
      (ks, few, rw same, omega (arith, stand_length budget_bytes ks stand, file_length (form_of s).budget ks))

  -- A whole budget of 0 is refused, whatever follows it.
  pub nothing_read : get_or s 0 0 ≡ budget_kind → budget_bytes ≤ length s → eight s 1 ≡ 0 → form_of s ≡ refuse_file 27 0
  unfolding form_of
  nothing_read kind long none =
      rw (ne_eqb (length s) 0 (omega arith), kind, le-ltb (length s) (0 + budget_bytes) long, eq-eqb (eight s 1) 0 none)

  -- ---- What stands in the file is read

  end_read : (b : ℕ) (ks : List Task) (at : ℕ) (next : ℕ → Task → Contents) → Stand at [] → read_record s b ks at next ≡ admit b (ks ++ [])
  end_read b ks at next (kind, stop) = rw (lt-leb (length s) at (omega arith), kind, le-ltb (at + 1) (length s) (omega arith), append-nil ks)

  task_read_lem : (b : ℕ) (ks : List Task) (at : ℕ) (button : Bool) (next : ℕ → Task → Contents) → at < length s → get_or s at 0 ≡ kind_of button
      → read_record s b ks at next ≡ next (record_size button) (body_in button s (at + 1))
  task_read_lem b ks at true next inside kind = rw (lt-leb (length s) at (omega arith), kind)
  task_read_lem b ks at false next inside kind = rw (lt-leb (length s) at (omega arith), kind)

  stand_read : (b : ℕ) (ks : List Task) (room at : ℕ) (more : List Task) → Stand at more → length more ≤ room → read_from s b ks room at ≡ admit b (ks ++ more)
  unfolding read_from
  stand_read b ks zero at [] stand few = end_read b ks at (λ bytes j. refuse_file 25 at) stand
  stand_read b ks (suc room) at [] stand few = end_read b ks at (λ bytes j. whole s at bytes (read_from s b (ks ++ (j ∷ [])) room (at + bytes))) stand
  stand_read b ks zero at (k ∷ more) stand few = absurd (omega arith)
  stand_read b ks (suc room) at (k ∷ more) (kind, body, rest) few =
      task_read_lem b ks at (is_button k) (λ bytes j. whole s at bytes (read_from s b (ks ++ (j ∷ [])) room (at + bytes)))
      (omega (arith, stand_length (at + record_bytes k) more rest)) kind
      ∙ rw (le-ltb (length s) (at + record_bytes k) (omega (arith, stand_length (at + record_bytes k) more rest)), body)
      (stand_read b (ks ++ (k ∷ [])) room (at + record_bytes k) more rest (omega arith) ∙ ap (admit b) (append_snoc ks k more))

  form_read : (ks : List Task) → length ks ≤ task_limit → get_or s 0 0 ≡ 1 → 0 < eight s 1 → Stand budget_bytes ks → form_of s ≡ admit (eight s 1) ks
  unfolding form_of
  form_read ks few kind some stand =
      let size = stand_length budget_bytes ks stand in
      rw (ne_eqb (length s) 0 (omega arith), kind, le-ltb (length s) (0 + budget_bytes) (omega arith), ne_eqb (eight s 1) 0 (omega arith))
      (stand_read (eight s 1) [] task_limit budget_bytes ks stand few)

-- ---- What is written is read

-- A task of this sort and these numbers; what stands in front of its record, and behind its kind.
module _ (c d p : ℕ) (rest : List ℕ) where
  abbrev sorted : Sort → Task
  sorted q = record { sort = q; cost = c; deadline = d; period = p }

  sort_kind : (q : Sort) → get_or (task_record (sorted q) ++ rest) 0 0 ≡ kind_of (button_sort q)
  sort_kind (Sort.Periodic o) = refl
  sort_kind Sort.Button = refl

  sort_behind : (q : Sort) → drop (record_size (button_sort q)) (task_record (sorted q) ++ rest) ≡ rest
  unfolding bytes_of
  sort_behind (Sort.Periodic o) = refl
  sort_behind Sort.Button = refl

  sort_back : (q : Sort) → Fits32 (sorted q) → body_in (button_sort q) (drop 1 (task_record (sorted q) ++ rest)) 0 ≡ sorted q
  unfolding bytes_of
  sort_back (Sort.Periodic o) (a, b, e, t) = rw (word_back o a, word_back c b, word_back d e, word_back p t)
  sort_back Sort.Button (a, b, e, t) = rw (word_back c b, word_back d e, word_back p t)

module _ (s : List ℕ) (at : ℕ) where
  kind_at : {r : List ℕ} → drop at s ≡ r → get_or s at 0 ≡ get_or r 0 0
  kind_at e = rw (← e) (simp (get_or-drop, add-zero))

  behind : (n : ℕ) {r : List ℕ} → drop at s ≡ r → drop (at + n) s ≡ drop n r
  behind n e = sym (drop-drop n at s) ∙ ap (λ (r : List ℕ). drop n r) e

written_stands : (s : List ℕ) (at : ℕ) (ks : List Task) → AllFit ks → drop at s ≡ task_records ks ++ (end_kind ∷ []) → Stand s at ks
unfolding bytes_of task_records
written_stands s at [] fits e = (kind_at s at e, omega (arith, length-drop at s, ap (λ (r : List ℕ). length r) e))
written_stands s at (k ∷ ks) fits e =
    let rest = task_records ks ++ (end_kind ∷ []) in
    let here : drop at s ≡ task_record k ++ rest = e ∙ append_assoc (task_record k) (task_records ks) (end_kind ∷ []) in
    let body : body_in (is_button k) s (at + 1) ≡ body_in (is_button k) (drop 1 (task_record k ++ rest)) 0 = sym (task_part (is_button k) s (at + 1))
    ∙ ap (λ (r : List ℕ). body_in (is_button k) r 0) (behind s at 1 here) in (
      kind_at s at here ∙ sort_kind k.cost k.deadline k.period rest k.sort,
      body ∙ sort_back k.cost k.deadline k.period rest k.sort (fits 0 (omega arith)),
      written_stands s (at + record_bytes k) ks (λ i l. fits (suc i) (omega arith))
          (behind s at (record_bytes k) here ∙ sort_behind k.cost k.deadline k.period rest k.sort),
    )

pub written_read : (b : ℕ) (ks : List Task) → 0 < b → b < budget_limit → AllFit ks → length ks ≤ task_limit
    → form_of (file_of b ks) ≡ admit b ks
unfolding bytes_of
written_read b ks some limit fits few =
    let low = word_back (b % word_limit) (omega arith) in
    let high = word_back (b / word_limit) (omega arith) in
    let budget : eight (file_of b ks) 1 ≡ b = omega arith in
    form_read (file_of b ks) ks few refl (omega arith) (written_stands (file_of b ks) budget_bytes ks fits refl) ∙ ap (λ (n : ℕ). admit n ks) budget

-- ---- What is read was written

module _ (s : List ℕ) (bytes : (i : ℕ) → get_or s i 0 < 256) where
  body_fits : (button : Bool) (at : ℕ) → Fits32 (body_in button s at)
  body_fits true at = let fits = word_fits s bytes in (omega arith, fits at, fits (at + 4), fits (at + 8))
  body_fits false at = let fits = word_fits s bytes in (fits at, fits (at + 4), fits (at + 8), fits (at + 12))

  stand_fits : (at : ℕ) (ks : List Task) → Stand s at ks → AllFit ks
  stand_fits at [] stand i l = absurd (omega arith)
  stand_fits at (k ∷ ks) (kind, body, rest) zero l = subst Fits32 body (body_fits (is_button k) (at + 1))
  stand_fits at (k ∷ ks) (kind, body, rest) (suc i) l = stand_fits (at + record_bytes k) ks rest i (omega arith)

  task_written : (button : Bool) (at : ℕ) → get_or s at 0 ≡ kind_of button → at + record_size button ≤ length s
      → drop at s ≡ task_record (body_in button s (at + 1)) ++ drop (at + record_size button) s
  unfolding bytes_of
  task_written true at kind h =
      let body : suc at ≡ at + 1 = omega arith in
      let cost = word_here s bytes (at + 1) (at + 1 + 4) refl (omega arith) in
      let deadline = word_here s bytes (at + 1 + 4) (at + 1 + 8) (omega arith) (omega arith) in
      let spacing = word_here s bytes (at + 1 + 8) (at + button_bytes) (omega arith) (omega arith) in
      rw (drop-cons s at 0 (omega arith), kind, body, cost, deadline, spacing)
  task_written false at kind h =
      let body : suc at ≡ at + 1 = omega arith in
      let offset = word_here s bytes (at + 1) (at + 1 + 4) refl (omega arith) in
      let cost = word_here s bytes (at + 1 + 4) (at + 1 + 8) (omega arith) (omega arith) in
      let deadline = word_here s bytes (at + 1 + 8) (at + 1 + 12) (omega arith) (omega arith) in
      let period = word_here s bytes (at + 1 + 12) (at + task_bytes) (omega arith) (omega arith) in
      rw (drop-cons s at 0 (omega arith), kind, body, offset, cost, deadline, period)

  stand_written : (at : ℕ) (ks : List Task) → Stand s at ks → drop at s ≡ task_records ks ++ (end_kind ∷ [])
  unfolding bytes_of task_records
  stand_written at [] (kind, stop) =
      let none : drop (suc at) s ≡ [] = drop_of_length-le s {i = suc at} (omega arith) in
      rw (drop-cons s at 0 (omega arith), kind, none)
  stand_written at (k ∷ ks) (kind, body, rest) =
      let size = stand_length s (at + record_bytes k) ks rest in
      task_written (is_button k) at kind (omega arith)
      ∙ ap (λ (t : Task). task_record t ++ drop (at + record_bytes k) s) body
      ∙ ap (λ (r : List ℕ). task_record k ++ r) (stand_written (at + record_bytes k) ks rest)
      ∙ sym (append_assoc (task_record k) (task_records ks) (end_kind ∷ []))

  file_written_lem : (ks : List Task) → get_or s 0 0 ≡ 1 → Stand s budget_bytes ks → s ≡ file_of (eight s 1) ks
  unfolding bytes_of
  file_written_lem ks kind stand =
      let size = stand_length s budget_bytes ks stand in
      let low : eight s 1 % word_limit ≡ four s 1 = omega (arith, word_fits s bytes 1, word_fits s bytes (1 + 4)) in
      let high : eight s 1 / word_limit ≡ four s (1 + 4) = omega (arith, word_fits s bytes 1, word_fits s bytes (1 + 4)) in
      let lower = word_here s bytes 1 (1 + 4) refl (omega arith) in
      let upper = word_here s bytes (1 + 4) budget_bytes refl (omega arith) in
      drop-cons s 0 0 (omega arith) ∙ rw (low, high, kind, lower, upper, stand_written budget_bytes ks stand)

  -- A file of good form is what the writer writes of its budget and of the tasks of its table, at most `task_limit`.
  pub read_written : (form_of s).admission ≡ Ok tt
      → (0 < (form_of s).budget)
      × ((form_of s).budget < budget_limit)
      × ((ks : List Task) × (length ks ≤ task_limit) × AllFit ks × (s ≡ file_of (form_of s).budget ks) × (form_of s ≡ admit (form_of s).budget ks))
  read_written h =
      let (kind, some, (ks, few, stand, same)) = form_holds s h in
      let limit : eight s 1 < budget_limit = omega (arith, word_fits s bytes 1, word_fits s bytes (1 + 4)) in
      rw same (some, limit, (ks, few, stand_fits budget_bytes ks stand, file_written_lem ks kind stand, refl))
