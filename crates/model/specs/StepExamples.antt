-- The dispatcher and its histories, by computing: the owners of slots, jobs closed late, the refusals of a state with
-- their places, and the accounts.
use Rattle.std.specs.Prelude.{◌≡◌, refl, List, [], ◌∷◌, ◌++◌, map, Bool, true, false, ℕ, ◌+◌, ◌-◌, ◌^◌, eqb, replicate, Ok, Err}
use Rattle.std.proofs.Common.{inl, inr, lit≤, lit<}
use Rattle.model.specs.Values.{Table, Admission, SlotAnswer, refusal}
use Rattle.model.specs.Notation.{sum, largest, count, first, bits, fill}
use Rattle.model.specs.Limits.{task_limit, slot_count_limit, sum_place}
use Rattle.model.specs.Tasks.{task_fault, first_faulty, round, load, horizon, judged_mixed, first_button, judged}
use Rattle.model.specs.Run.{choose}
use Rattle.model.specs.TableFile.{table_of}
use Rattle.model.specs.Dispatcher.{State, slot_count, first_strange, admitted, start_of, started}
use Rattle.model.specs.Dispatcher.{owner_now_by, after, after_by, turn, turn_by, stepped, stepped_by}
use Rattle.model.specs.History.{state_at, state_at_by, owner_at, owner_at_by, said_done, had, had_by, Finished}
use Rattle.model.specs.Examples.{padded, at, uncounted, of, table_b, table_f, table_g, table_lamp}

-- The owners of some steps from a state, with these done reports.
steps : Table → State → List Bool → List ℕ
steps t d [] = []
steps t d (done ∷ more) = (turn t d done).owner ∷ steps t (after t d done) more

-- g with task 0 done after one slot; f, whose task 1 is closed late in the second step;
-- the lamp, whose task 1 has the tie at slot 3, though task 0 ran last; and the lamp by number alone, where it has not.
dispatched :
    (steps table_g (start_of table_g) (false ∷ true ∷ false ∷ false ∷ false ∷ []) ≡ 0 ∷ 1 ∷ 1 ∷ task_limit ∷ 0 ∷ [])
    × (turn table_f (after table_f (start_of table_f) false) false
    ≡ record { owner = task_limit; late = 2; closed = 1; lowest = 1 })
    × (steps table_lamp (start_of table_lamp) (replicate 6 false) ≡ 0 ∷ 0 ∷ 0 ∷ 1 ∷ 0 ∷ task_limit ∷ [])
    × (map (owner_at_by table_lamp (λ k. k) (λ n. false)) (0 ∷ 1 ∷ 2 ∷ 3 ∷ 4 ∷ 5 ∷ [])
    ≡ 0 ∷ 0 ∷ 0 ∷ 0 ∷ 1 ∷ task_limit ∷ [])
unfolding steps state_at_by start_of after_by turn_by owner_now_by choose fill bits sum count first
dispatched = (refl, refl, refl, refl)

-- The earliest deadline goes first, not the next release;
-- a job at its deadline is closed before the next one of its task is released.
in_order :
    let hurried = table_of (of 0 1 5 5 ∷ of 0 1 2 10 ∷ []) in
    (steps hurried (start_of hurried) (false ∷ false ∷ []) ≡ 1 ∷ 0 ∷ [])
    × (turn table_g (uncounted (padded 0 []) (padded 0 (1 ∷ [])) 1) false
    ≡ record { owner = 0; late = 1; closed = 1; lowest = 0 })
unfolding steps start_of after_by turn_by owner_now_by choose fill bits sum count first
in_order = (refl, refl)

-- The most jobs closed at once, and that of the last task alone; where none is closed the lowest number is none.
closings :
    let most = table_of (replicate task_limit (of 0 1 1 2)) in
    (turn most (uncounted (padded 1 []) (padded 1 []) task_limit) false
    ≡ record { owner = task_limit; late = 2 ^ task_limit - 1; closed = task_limit; lowest = 0 })
    × (turn most (uncounted (padded 1 []) (replicate (task_limit - 1) 0 ++ (1 ∷ [])) task_limit) false
    ≡ record { owner = task_limit; late = 2 ^ (task_limit - 1); closed = 1; lowest = task_limit - 1 })
    × (turn table_g (start_of table_g) true ≡ record { owner = 0; late = 0; closed = 0; lowest = task_limit })
unfolding turn_by start_of owner_now_by choose fill bits sum count first
closings = (refl, refl, refl)

-- A start on a table: the waits are the offsets; a refused start hands back what it was given; a step taken.
starts :
    (started table_b (start_of table_g)
    ≡ record { admission = Ok tt; state = uncounted (padded 0 (8 ∷ [])) (padded 0 []) task_limit })
    × (started (table_of []) (uncounted (padded 7 []) (padded 0 []) 9)
    ≡ record { admission = at 1 0; state = uncounted (padded 7 []) (padded 0 []) 9 })
    × ((stepped table_g (start_of table_g) false).answer
    ≡ Ok (record { owner = 0; late = 0; closed = 0; lowest = task_limit }))
unfolding started start_of stepped_by admitted slot_count turn_by owner_now_by choose fill bits first_strange judged
    judged_mixed first_button first_faulty task_fault first round load horizon largest sum count
starts = (refl, refl, refl)

-- ---- which states belong to a table

-- A task with O 0, C 2, D 3, T 4 and one with O 9.
abbrev two : Table
two = table_of (of 0 2 3 4 ∷ of 9 1 4 4 ∷ [])

state : ℕ → ℕ → ℕ → ℕ → ℕ → SlotAnswer
state w0 w1 l0 l1 last = (stepped two (uncounted (padded 7 (w0 ∷ w1 ∷ [])) (padded 7 (l0 ∷ l1 ∷ [])) last) false).answer

-- A refusal hands the state back; the table's number comes before 8.
handed_back :
    let d : State = record { wait = 1 ∷ 2 ∷ []; left = 3 ∷ 4 ∷ []; last = 5; given = 6 ∷ []; empty = 7 } in
    map (λ t. stepped t d true) (table_of [] ∷ two ∷ [])
    ≡ map (λ r. record { answer = Err r; state = d }) (refusal 1 0 ∷ refusal 8 0 ∷ [])
unfolding stepped_by admitted slot_count first_strange judged judged_mixed first_button
    first_faulty task_fault first round load horizon largest sum count
handed_back = refl

-- A closed job may wait for as long as the offset or the period is.
-- Refusal 8 and its places: a wait above O and T; too many slots left;
-- an open job that waits less than T - D, or more than T - 1; a last-run number that is no task.
strangers :
    (state 4 9 0 0 task_limit
    ≡ Ok (record { owner = task_limit; late = 0; closed = 0; lowest = task_limit }))
    × (state 5 0 0 0 task_limit ∷ state 0 10 0 0 task_limit ∷ state 2 0 3 0 task_limit ∷ state 0 0 1 0 task_limit
    ∷ state 4 0 1 0 task_limit ∷ state 0 4 0 1 task_limit ∷ state 0 0 0 0 2 ∷ state 0 0 0 0 (task_limit + 1) ∷ []
    ≡ map (λ p. Err (refusal 8 p)) (0 ∷ 1 ∷ 0 ∷ 0 ∷ 0 ∷ 1 ∷ task_limit ∷ task_limit ∷ []))
unfolding state stepped_by admitted slot_count turn_by owner_now_by choose bits first_strange judged judged_mixed first_button
    first_faulty task_fault first round load horizon largest sum count
strangers = (refl, refl)

-- At its deadline, with wait T - D, a job is no stranger: it is closed late, or by a done report before that.
-- Entries past the table stay.
at_deadline :
    (stepped two (record {
      wait = padded 7 (1 ∷ 9 ∷ []);
      left = padded 7 (1 ∷ 0 ∷ []);
      last = 0;
      given = padded 7 (3 ∷ 4 ∷ []);
      empty = 5;
    }) false
    ≡ record {
      answer = Ok (record { owner = task_limit; late = 1; closed = 1; lowest = 0 });
      state = record {
        wait = padded 7 (0 ∷ 8 ∷ []);
        left = padded 7 (0 ∷ 0 ∷ []);
        last = task_limit;
        given = padded 7 (3 ∷ 4 ∷ []);
        empty = 6;
      };
    })
    × ((turn two (uncounted (padded 0 (1 ∷ 9 ∷ [])) (padded 7 (2 ∷ 0 ∷ [])) 0) true).closed ≡ 0)
unfolding stepped_by admitted slot_count turn_by after_by owner_now_by choose fill bits first_strange judged
    judged_mixed first_button first_faulty task_fault first round load horizon largest sum count
at_deadline = (refl, refl)

-- A state's slots: only the tasks of the table and the empty slots are summed.
-- Below 2^64 - 1 a step is taken, at it it is 9, and above it 8 at its last place, without wrapping;
-- where 8 has another place, that is told first, before 9 too.
counted : ℕ → ℕ → ℕ → ℕ → SlotAnswer
counted last g0 g1 empty =
    (stepped two (record {
      wait = padded 0 [];
      left = padded 0 [];
      last = last;
      given = padded 7 (g0 ∷ g1 ∷ []);
      empty = empty;
    }) false).answer

accounts :
    counted task_limit (slot_count_limit - 2) 0 1 ∷ counted task_limit (slot_count_limit - 3) 1 2
    ∷ counted task_limit slot_count_limit 0 1 ∷ counted task_limit 1 slot_count_limit slot_count_limit
    ∷ counted 2 slot_count_limit 0 1 ∷ counted 2 slot_count_limit 0 0 ∷ []
    ≡ Ok (record { owner = 0; late = 0; closed = 0; lowest = task_limit })
    ∷ map Err (refusal 9 0 ∷ refusal 8 sum_place ∷ refusal 8 sum_place
    ∷ refusal 8 task_limit ∷ refusal 8 task_limit ∷ [])
unfolding counted stepped_by admitted slot_count turn_by owner_now_by choose bits first_strange judged judged_mixed first_button
    first_faulty task_fault first round load horizon largest sum count
accounts = refl

-- ---- histories

-- g with task 0 reported done after one slot: who owns the slots, which step is told of task 0,
-- and how many slots task 1 had from 0, 1 and 2 up to 3, and from 0 up to 1 and 2;
-- after five slots two are of task 0, two of task 1, and one is empty.
once_done : ℕ → Bool
once_done n = eqb n 1

history :
    (map (owner_at table_g once_done) (0 ∷ 1 ∷ 2 ∷ 3 ∷ 4 ∷ []) ≡ 0 ∷ 1 ∷ 1 ∷ task_limit ∷ 0 ∷ [])
    × (map (said_done table_g once_done 0) (0 ∷ 1 ∷ 2 ∷ 5 ∷ []) ≡ false ∷ true ∷ false ∷ false ∷ [])
    × (said_done table_g once_done 1 1 ≡ false)
    × (map (λ from. had table_g once_done 1 from 3) (0 ∷ 1 ∷ 2 ∷ []) ≡ 2 ∷ 2 ∷ 1 ∷ [])
    × (map (had table_g once_done 1 0) (1 ∷ 2 ∷ []) ≡ 0 ∷ 1 ∷ [])
    × ((state_at table_g once_done 5).given ≡ padded 0 (2 ∷ 2 ∷ []))
    × ((state_at table_g once_done 5).empty ≡ 1)
    × (slot_count table_g (state_at table_g once_done 5) ≡ 5)
unfolding once_done state_at_by had_by slot_count sum start_of after_by owner_now_by choose fill count
history = (refl, refl, refl, refl, refl, refl, refl, refl)

-- A job is finished: reported done to step 1; by its slots; and so is the next one of task 0, whose slots are its own.
finished : Finished table_g once_done 0 0 1 × Finished table_g once_done 1 0 3 × Finished table_g once_done 0 1 6
unfolding once_done state_at_by had_by start_of after_by owner_now_by choose fill count
finished = (inr (1, lit< tt, lit≤ tt, tt), inl refl, inl refl)
