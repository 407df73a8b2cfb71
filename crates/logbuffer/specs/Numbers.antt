-- Every refusal of a file, a table and a log has a number below 100, so that what it is told as is below 2^32.
use Rattle.model.specs.Values.{Judgement, Admission}
use Rattle.std.specs.Prelude.{Bool, true, false, cond, not, ◌||◌, leb, ltb, length, get_or, Ok, Err}
use mathlib.Core.List.{List, [], ◌∷◌, ◌++◌}
use Prim.Native.Nat.{ℕ, zero, suc, ◌+◌, ◌<◌}
use Rattle.std.proofs.Math.Dec.{eqb, lit<}
use Rattle.values.specs.declared.Task.{Task}
use Rattle.values.specs.declared.Table.{Table}
use Rattle.values.specs.declared.Contents.{Contents}
use Rattle.model.specs.Limits.{task_limit, slot_limit, round_limit, slot_count_limit, budget_bytes}
use Rattle.model.specs.Tasks.{task, offset, within, task_fault, first_faulty, first_button, round, judged_mixed, periodic_only, judged}
use Rattle.model.specs.TableFile.{eight, refuse_file, whole, read_record, read_from, form_of}
use Rattle.model.specs.Dispatcher.{State, slot_count, first_strange, last_strange, admitted_by, admitted}
use Rattle.model.specs.Log.{Log, miscounted, log_admitted_by, log_admitted}

-- What refuses by a number below 100.
abbrev pub Below : Admission → Type 0
Below (Err r) = r.number < 100
Below (Ok u) = Unit

abbrev Small : ℕ → Type 0
Small n = n < 100

abbrev pub JudgedBelow : Judgement → Type 0
JudgedBelow (Err r) = r.number < 100
JudgedBelow (Ok m) = Unit

-- What holds of both holds of whichever a test takes.
either : {A : Type 0} (P : A → Type 0) (b : Bool) {x y : A} → P x → P y → P (cond b x y)
either P true h k = h
either P false h k = k

abbrev LoadedBelow : Contents → Type 0
LoadedBelow l = Below l.admission

-- A file, by its form.
module _ (s : List ℕ) where
  record_below : (b : ℕ) (ks : List Task) (at : ℕ) (next : ℕ → Task → Contents) → ((bytes : ℕ) (k : Task) → LoadedBelow (next bytes k))
      → LoadedBelow (read_record s b ks at next)
  record_below b ks at next h =
      either LoadedBelow (leb (length s) at) (lit< tt)
      (either LoadedBelow (eqb (get_or s at 0) 1) (lit< tt)
      (either LoadedBelow (eqb (get_or s at 0) 2) (h _ _)
      (either LoadedBelow (eqb (get_or s at 0) 4) (h _ _)
      (either LoadedBelow (eqb (get_or s at 0) 3) (either LoadedBelow (ltb (at + 1) (length s)) (lit< tt) tt) (lit< tt)))))

  from_below : (b : ℕ) (ks : List Task) (room at : ℕ) → LoadedBelow (read_from s b ks room at)
  unfolding read_from
  from_below b ks zero at = record_below b ks at (λ bytes k. refuse_file 25 at) (λ bytes k. lit< tt)
  from_below b ks (suc room) at =
      record_below b ks at (λ bytes k. whole s at bytes (read_from s b (ks ++ (k ∷ [])) room (at + bytes)))
      (λ bytes k. either LoadedBelow (ltb (length s) (at + bytes)) (lit< tt) (from_below b (ks ++ (k ∷ [])) room (at + bytes)))

  pub form_below : Below (form_of s).admission
  unfolding form_of
  form_below =
      either LoadedBelow (eqb (length s) 0) (lit< tt)
      (either LoadedBelow (eqb (get_or s 0 0) 1)
      (either LoadedBelow (ltb (length s) (0 + budget_bytes)) (lit< tt)
      (either LoadedBelow (eqb (eight s 1) 0) (lit< tt) (from_below (eight s 1) [] task_limit budget_bytes))) (either LoadedBelow
      (eqb (get_or s 0 0) 2 || (eqb (get_or s 0 0) 3 || eqb (get_or s 0 0) 4)) (lit< tt) (lit< tt)))

-- A table.
fault_below : (k : Task) → task_fault k < 100
unfolding task_fault
fault_below k =
    either Small (not (within 1 slot_limit k.period)) (lit< tt)
    (either Small (not (within 1 k.period k.deadline)) (lit< tt)
    (either Small (not (within 1 k.deadline k.cost)) (lit< tt)
    (either Small (not (within 0 slot_limit (offset k))) (lit< tt) (lit< tt))))

pub mixed_below : (t : Table) → JudgedBelow (judged_mixed t)
unfolding judged_mixed
mixed_below t =
    either JudgedBelow (eqb t.count 0) (lit< tt)
    (either JudgedBelow (ltb task_limit t.count) (lit< tt)
    (either JudgedBelow (ltb (first_faulty t) t.count) (fault_below (task t (first_faulty t)))
    (either JudgedBelow (ltb round_limit (round t)) (lit< tt) tt)))

pub judged_below : (t : Table) → JudgedBelow (judged t)
unfolding judged
judged_below t = go (judged_mixed t) (mixed_below t)
  where
    go : (j : Judgement) → JudgedBelow j → JudgedBelow (periodic_only t j)
    go (Err r) h = h
    go (Ok m) h = either JudgedBelow (ltb (first_button t) t.count) (lit< tt) tt

-- A dispatcher's state, by what its table is judged to be, and a log.
pub state_below : (t : Table) (d : State) (j : Judgement) → JudgedBelow j → Below (admitted_by t d j)
state_below t d (Err r) h = h
state_below t d (Ok m) h =
    either Below (ltb (first_strange t d) t.count) (lit< tt)
    (either Below (last_strange t d) (lit< tt) (either Below (ltb slot_count_limit (slot_count t d)) (lit< tt) tt))

pub log_below : (t : Table) (l : Log) → Below (log_admitted t l)
unfolding log_admitted admitted
log_below t l = go (admitted t l.state) (state_below t l.state (judged t) (judged_below t))
  where
    go : (a : Admission) → Below a → Below (log_admitted_by t l a)
    go (Err r) h = h
    go (Ok u) h = either Below (miscounted t l) (lit< tt) tt
