-- Logs of the specification's tables, by computing: each answer of its section 7.3, with its place.
use Rattle.std.specs.Prelude.{◌≡◌, refl, List, [], ◌∷◌, ◌++◌, map, false, ℕ, ◌-◌, ◌*◌, ◌+◌, ◌^◌, eqb, replicate, Ok, Err}
use Rattle.model.specs.Notation.{sum, largest, count, first, fill}
use Rattle.model.specs.Values.{Table, Admission, Finding, refusal, finding_said}
use Rattle.model.specs.Limits.{task_limit, log_limit, count_place}
use Rattle.model.specs.Tasks.{task_fault, first_faulty, round, load, horizon, judged_mixed, first_button, judged}
use Rattle.model.specs.Run.{choose}
use Rattle.model.specs.TableFile.{table_of, bytes_of, read_from, form_of}
use Rattle.model.specs.Dispatcher.{State, slot_count, first_strange, admitted, start_of, started}
use Rattle.model.specs.Dispatcher.{owner_now_by, after_by}
use Rattle.model.specs.History.{state_at_by}
use Rattle.model.specs.StateBuffer.{state_bytes, halves, buffer_of, state_in}
use Rattle.model.specs.Log.{Log, read_byte, read_all, unread, log_admitted, log_started, fed, log_finished, feeds}
use Rattle.model.specs.Log.{log_judged, log_of}
use Rattle.model.specs.LogBuffer.{log_bytes, log_buffer_of, log_in, log_start_exported, log_feed_exported, feeds_in}
use Rattle.model.specs.LogBuffer.{judged_in}
use Rattle.model.specs.Examples.{padded, table_g, table_j, file_g}

limits : log_limit ∷ count_place ∷ log_bytes ∷ [] ≡ (2 ^ 32 - 1) ∷ 34 ∷ 568 ∷ []
limits = refl

-- What is said of a log that is handed over in these pieces.
said : Table → List (List ℕ) → List ℕ
said t pieces = finding_said (log_judged t (unread (start_of t)) pieces).log.found

-- Good: g with task 0 done after one slot, whole and cut anywhere; a report after the last slot;
-- one about an empty slot; no slot at all.
good_logs :
    map (said table_g) (
    ((16 ∷ 0 ∷ 18 ∷ 16 ∷ 1 ∷ 16 ∷ 1 ∷ 17 ∷ 16 ∷ 0 ∷ 19 ∷ []) ∷ [])
    ∷ ((16 ∷ 0 ∷ 18 ∷ 16 ∷ []) ∷ (1 ∷ []) ∷ [] ∷ (16 ∷ 1 ∷ 17 ∷ 16 ∷ 0 ∷ 19 ∷ []) ∷ [])
    ∷ ((16 ∷ 0 ∷ 18 ∷ 19 ∷ []) ∷ []) ∷ ((19 ∷ []) ∷ []) ∷ []
    )
    ++ (said table_j ((17 ∷ 18 ∷ 17 ∷ 19 ∷ []) ∷ []) ∷ [])
    ≡ replicate 5 (1 ∷ [])
unfolding said log_started feeds fed read_all read_byte log_finished log_admitted started admitted
    slot_count start_of after_by owner_now_by choose fill first_strange judged judged_mixed first_button
    first_faulty task_fault first round load horizon largest sum count
good_logs = refl

-- A slot differs: without the report task 0 has slot 1 too, whatever follows; a task outside the table; an empty slot;
-- the number that stands for none, where the slot is empty.
differing_logs :
    map (λ log. said table_g (log ∷ [])) ((16 ∷ 0 ∷ 16 ∷ 1 ∷ 9 ∷ []) ∷ (16 ∷ 2 ∷ []) ∷ (16 ∷ 0 ∷ 17 ∷ []) ∷ [])
    ++ (said table_j ((16 ∷ task_limit ∷ 19 ∷ []) ∷ []) ∷ [])
    ≡ map (λ slot. 2 ∷ slot ∷ []) (1 ∷ 0 ∷ 1 ∷ 0 ∷ [])
unfolding said log_started feeds fed read_all read_byte log_finished log_admitted started admitted
    slot_count start_of after_by owner_now_by choose fill first_strange judged judged_mixed first_button
    first_faulty task_fault first round load horizon largest sum count
differing_logs = refl

-- Faults: an unknown kind; a report before a slot, and a second one; a byte behind the end; no end, half a record.
faulty_logs :
    map (λ log. said table_g (log ∷ []))
    ((16 ∷ 0 ∷ 20 ∷ 17 ∷ []) ∷ (18 ∷ []) ∷ (16 ∷ 0 ∷ 18 ∷ 18 ∷ []) ∷ (19 ∷ 19 ∷ []) ∷ [] ∷ (16 ∷ 0 ∷ 16 ∷ []) ∷ [])
    ≡ (40 ∷ 2 ∷ []) ∷ (41 ∷ 0 ∷ []) ∷ (41 ∷ 3 ∷ []) ∷ (42 ∷ 1 ∷ []) ∷ (43 ∷ 0 ∷ []) ∷ (43 ∷ 3 ∷ []) ∷ []
unfolding said log_started feeds fed read_all read_byte log_finished log_admitted started admitted
    slot_count start_of after_by owner_now_by choose fill first_strange judged judged_mixed first_button
    first_faulty task_fault first round load horizon largest sum count
faulty_logs = refl

-- A log of g with these slots and bytes, and what was found.
abbrev log_g : ℕ → ℕ → Finding → Log
log_g slots bytes found =
    record { state = start_of table_g; opened = false; done = false; slots = slots; bytes = bytes; found = found }

-- A byte past the limit is 44, whatever it is; at the limit all is as usual. Once a fault is found it stays, 43 too.
long_logs :
    (map (λ b. (read_byte table_g (log_g 0 log_limit Finding.Nothing) b).found) (16 ∷ 17 ∷ 18 ∷ 19 ∷ 20 ∷ [])
    ≡ replicate 5 (Finding.Fault 44 log_limit))
    × ((read_byte table_g (log_g 0 log_limit Finding.Good) 19).found ≡ Finding.Fault 44 log_limit)
    × (read_byte table_g (log_g 0 (log_limit - 1) Finding.Nothing) 19 ≡ log_g 0 log_limit Finding.Good)
    × (log_finished table_g (log_g 0 log_limit Finding.Good)
    ≡ record { admission = Ok tt; log = log_g 0 log_limit Finding.Good })
    × (read_byte table_g (log_g 0 log_limit (Finding.Fault 40 7)) 19 ≡ log_g 0 log_limit (Finding.Fault 40 7))
    × ((fed table_g (log_finished table_g (log_g 0 5 Finding.Nothing)).log (19 ∷ [])).log
    ≡ log_g 0 5 (Finding.Fault 43 5))
unfolding fed read_all read_byte log_finished log_admitted admitted slot_count start_of owner_now_by choose fill first_strange
    judged judged_mixed first_button first_faulty task_fault first round load horizon largest sum count
long_logs = (refl, refl, refl, refl, refl, refl)

-- Three empty slots, and a state that belongs to no table here.
abbrev three_empty : State
three_empty = record { wait = padded 0 []; left = padded 0 []; last = task_limit; given = padded 0 []; empty = 3 }

abbrev strange_log : Log
strange_log = unread (record { wait = 9 ∷ []; left = []; last = 5; given = 6 ∷ []; empty = 7 })

-- A log is refused, and handed back as it came: slots that its state does not count, too many bytes,
-- more slots than bytes; its state, before its counts; its table, before its state.
refused_logs :
    (map (λ l. (log_finished table_g l).admission) (log_g 1 1 Finding.Nothing ∷ log_g 0 (log_limit + 1) Finding.Good ∷ [])
    ≡ replicate 2 (Err (refusal 8 34)))
    × ((log_finished table_g (record {
      state = three_empty;
      opened = false;
      done = false;
      slots = 3;
      bytes = 2;
      found = Finding.Nothing;
    })).admission ≡ Err (refusal 8 34))
    × (fed table_g strange_log (19 ∷ []) ≡ record { admission = Err (refusal 8 0); log = strange_log })
    × (fed (table_of []) strange_log [] ≡ record { admission = Err (refusal 1 0); log = strange_log })
unfolding fed log_finished log_admitted admitted slot_count start_of fill first_strange judged judged_mixed first_button
    first_faulty task_fault first round load horizon largest sum count
refused_logs = (refl, refl, refl, refl)

-- What a camera writes of five slots of g, with task 0 done after one.
written_log : log_of table_g (λ n. eqb n 1) 5 ≡ 16 ∷ 0 ∷ 18 ∷ 16 ∷ 1 ∷ 16 ∷ 1 ∷ 17 ∷ 16 ∷ 0 ∷ []
unfolding log_of state_at_by start_of after_by owner_now_by choose fill count
written_log = refl

-- In a buffer: good, cut inside a record, is 2^32, a difference at slot 1 is 2 · 2^32 + 1,
-- and 42 at 1 is 42 · 2^32 + 1; nothing found yet is 0; a buffer of another length is 50.
exported_logs :
    (map (λ pieces. (judged_in file_g (replicate log_bytes 9) pieces).number)
    (((16 ∷ []) ∷ (0 ∷ 19 ∷ []) ∷ []) ∷ ((16 ∷ 0 ∷ 16 ∷ 1 ∷ []) ∷ []) ∷ ((19 ∷ 19 ∷ []) ∷ []) ∷ [])
    ≡ 2 ^ 32 ∷ (2 * 2 ^ 32 + 1) ∷ (42 * 2 ^ 32 + 1) ∷ [])
    × ((log_feed_exported file_g (log_start_exported file_g (replicate log_bytes 9)).buffer (16 ∷ [])).number ≡ 0)
    × (log_feed_exported file_g (replicate state_bytes 9) []
    ≡ record { number = 3277336; buffer = replicate state_bytes 9 })
unfolding feeds_in log_buffer_of log_in state_in buffer_of bytes_of halves log_started fed read_all read_byte log_finished
    log_admitted started admitted slot_count start_of after_by owner_now_by choose fill first_strange form_of read_from judged
    judged_mixed first_button first_faulty task_fault first round load horizon largest sum count
exported_logs = (refl, refl, refl)
