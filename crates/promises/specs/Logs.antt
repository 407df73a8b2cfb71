-- LOGS: every call of the judge has one permitted result and a refusal changes nothing,
-- all cuts of a log give one answer, what is found stays, each answer is given exactly where it is meant,
-- and a good log on a passed table means that every job whose worst response ends within it was in time.
use Rattle.std.specs.Prelude.{◌≡◌, refl, false, cond, ◌⊎◌, ◌↔◌, ℕ, ◌+◌, min, ◌≤◌, ◌<◌, eqb, length, get_or, Ok, Err}
use Rattle.std.proofs.Common.{sym, ap, ◌∙◌, inl, inr, eq-eqb}
use mathlib.Core.List.{List, [], ◌∷◌, ◌++◌, flatten}
use Rattle.values.specs.declared.Table.{Table}
use Rattle.values.specs.declared.Refusal.{Refusal}
use Rattle.values.specs.declared.Measure.{Measure}
use Rattle.values.specs.declared.Verdict.{Verdict}
use Rattle.values.specs.declared.Answer.{Answer}
use Rattle.values.specs.declared.Finding.{Finding}
use Rattle.model.specs.Limits.{word_limit, count_place}
use Rattle.model.specs.Values.{refusal, finding_said}
use Rattle.model.specs.Tasks.{task, release, judged}
use Rattle.model.specs.Verdict.{Permitted}
use Rattle.model.specs.TableFile.{form_of, periodic_from}
use Rattle.model.specs.Dispatcher.{admitted, start_of, started}
use Rattle.model.specs.History.{Finished}
use Rattle.model.specs.Report.{refusal_number, refused}
use Rattle.model.specs.StateBuffer.{on_file}
use Rattle.model.specs.Log as model
use Rattle.model.specs.Log.{read_all, at_end, miscounted, log_admitted, log_started, fed, log_finished, feeds, log_judged}
use Rattle.model.specs.LogMeaning.{Final, Begins, Found}
use Rattle.model.specs.LogBuffer.{log_bytes, answer_number, log_buffer_of, log_in, log_start_exported, log_feed_exported}
use Rattle.model.specs.LogBuffer.{log_finish_exported, judged_in}
use Rattle.tablefile.specs.Admitted.{periodic_for}
use Rattle.slotlog.specs.declared.Log.{Log}
use Rattle.slotlog.specs.declared.Fed.{Fed}
use Rattle.slotlog.specs.State.{log_state_of, fed_of, one_fed}
use Rattle.slotlog.specs.Fits.{Sized}
use Rattle.slotlog.specs.Cuts as cuts
use Rattle.slotlog.specs.Answers as answers
use Rattle.logbuffer.specs.Judging as judging
use Rattle.telling.specs.GoodLogs.{good_written}
use Rattle.promises.specs.Demand3.{all_in_time}

-- Starting, feeding and finishing have one permitted result each, for every table, log and piece.
pub one_log_start : (t : Table) (l : Log) (a b : Fed)
    → fed_of a ≡ log_started t (log_state_of l) → fed_of b ≡ log_started t (log_state_of l) → a ≡ b
one_log_start t l a b e f = one_fed a b (e ∙ sym f)

pub one_feed : (t : Table) (l : Log) (piece : List ℕ) (a b : Fed)
    → fed_of a ≡ fed t (log_state_of l) piece → fed_of b ≡ fed t (log_state_of l) piece → a ≡ b
one_feed t l piece a b e f = one_fed a b (e ∙ sym f)

pub one_finish : (t : Table) (l : Log) (a b : Fed)
    → fed_of a ≡ log_finished t (log_state_of l) → fed_of b ≡ log_finished t (log_state_of l) → a ≡ b
one_finish t l a b e f = one_fed a b (e ∙ sym f)

-- A log is refused as its dispatcher's state is, which is the table first and then 8;
-- then by 8 at 34, if its counts are wrong; and by nothing else. A refusal hands the log back as it came.
pub log_refused : (t : Table) (l : model.Log) (r : Refusal)
    → admitted t l.state ≡ Err r → log_admitted t l ≡ Err r
unfolding log_admitted
log_refused t l r e = rw e

pub log_miscounted : (t : Table) (l : model.Log) → admitted t l.state ≡ Ok tt
    → log_admitted t l ≡ cond (miscounted t l) (Err (refusal 8 count_place)) (Ok tt)
unfolding log_admitted
log_miscounted t l e = rw e

pub refused_log_start : (t : Table) (l : model.Log) (r : Refusal)
    → judged t ≡ Err r → log_started t l ≡ record { admission = Err r; log = l }
unfolding log_started started
refused_log_start t l r e = rw e

pub refused_feed : (t : Table) (l : model.Log) (piece : List ℕ) (r : Refusal)
    → log_admitted t l ≡ Err r → fed t l piece ≡ record { admission = Err r; log = l }
unfolding fed
refused_feed t l piece r e = rw e

pub refused_finish : (t : Table) (l : model.Log) (r : Refusal) → log_admitted t l ≡ Err r
    → log_finished t l ≡ record { admission = Err r; log = l }
unfolding log_finished
refused_finish t l r e = rw e

-- Two pieces one after the other do what they do as one, and two ways to cut a log leave the same state and so the same
-- answer: on any table and any log, refusals too. A state has an entry for each task in each list.
pub two_pieces : (t : Table) (l : model.Log) (a b : List ℕ)
    → Sized l.state → fed t (fed t l a).log b ≡ fed t l (a ++ b)
two_pieces = cuts.cut

pub all_cuts : (t : Table) (l : model.Log) (p q : List (List ℕ))
    → Sized l.state → flatten p ≡ flatten q → feeds t l p ≡ feeds t l q
all_cuts = cuts.all_cuts

-- From a start two ways to cut the same bytes leave the same log and give the same answer, on every table.
pub cuts_judged_alike : (t : Table) (l : model.Log) (p q : List (List ℕ))
    → flatten p ≡ flatten q → log_judged t l p ≡ log_judged t l q
cuts_judged_alike = cuts.judged_alike

-- A fault or a difference that is found stays, and nothing else moves any more, whatever follows;
-- the finish says it too.
pub found_stays : (t : Table) (l : model.Log) (s : List ℕ) → Final l.found → read_all t l s ≡ l
found_stays = cuts.stays

pub found_at_end : (bytes : ℕ) (f : Finding) → Final f → at_end bytes f ≡ f
found_at_end bytes (Finding.Differs slot) h = refl
found_at_end bytes (Finding.Fault n p) h = refl
found_at_end bytes Finding.Nothing h = elim h [ ]
found_at_end bytes Finding.Good h = elim h [ ]

module _ (t : Table) (m : Measure) (well : judged t ≡ Ok m) where
  -- From a start on a well-formed table no call is refused.
  pub log_admitted_lem : (l : model.Log) (pieces : List (List ℕ)) → (log_judged t l pieces).admission ≡ Ok tt
  log_admitted_lem l pieces = ap (λ (f : model.Fed). f.admission) (cuts.judged_bytes t m well l pieces)

  -- Each answer is given exactly where it is meant:
  -- good for what a camera that runs the dispatcher writes under some done reports, with an end;
  -- a difference at the first slot that is not the dispatcher's under the reports before it; a fault at its byte.
  pub each_answer : (l : model.Log) (pieces : List (List ℕ)) (f : Finding)
      → ((log_judged t l pieces).log.found ≡ f) ↔ Found t (flatten pieces) f
  each_answer = answers.judged_iff t m well

  -- In the specification's numbers: 1 for good, 2 with the slot that differs, a fault's number with the place of its byte.
  pub each_said : (l : model.Log) (pieces : List (List ℕ)) → let said = finding_said (log_judged t l pieces).log.found in
      (Found t (flatten pieces) Finding.Good → said ≡ 1 ∷ [])
      × ((slot : ℕ) → Found t (flatten pieces) (Finding.Differs slot) → said ≡ 2 ∷ slot ∷ [])
      × ((n p : ℕ) → Found t (flatten pieces) (Finding.Fault n p) → said ≡ n ∷ p ∷ [])
  each_said l pieces = (by Finding.Good, λ slot. by (Finding.Differs slot), λ n p. by (Finding.Fault n p))
    where
      by : (f : Finding) → Found t (flatten pieces) f → finding_said (log_judged t l pieces).log.found ≡ finding_said f
      by f h = ap finding_said ((each_answer l pieces f).1 h)

  -- A good log on a table that the test passed: it is what a camera writes of n slots under some done reports,
  -- and every job whose reported worst response ends within these slots was finished by then.
  -- The report after the last slot, which step n would be given, counts.
  pub good_in_time : (budget : ℕ) (a : Answer) → Permitted t budget a → a.outcome ≡ Ok Verdict.Passes
      → (l : model.Log) (pieces : List (List ℕ)) → (log_judged t l pieces).log.found ≡ Finding.Good
      → (n : ℕ) × (b : Begins t (flatten pieces) n (19 ∷ []))
      × ((i j : ℕ) → i < t.count → release (task t i) j + get_or a.worst i 0 ≤ n
      → Finished t b.done i j (release (task t i) j + get_or a.worst i 0))
  good_in_time budget a answer pass l pieces e =
      let (n, b) = good_written t (flatten pieces) ((each_answer l pieces Finding.Good).0 e) in
      (n, b, λ i j l w. all_in_time t m well b.done budget a answer pass i j l)

-- The exported calls. The order of their refusals: 50 for a buffer of another length; then the file as by the check;
-- then the log as by the judge itself.
pub strange_log_buffer : (file buffer piece : List ℕ) → eqb (length buffer) log_bytes ≡ false
    → let r = refused (refusal 50 (min (length buffer) 65535)) buffer in
    (log_start_exported file buffer ≡ r) × (log_feed_exported file buffer piece ≡ r) × (log_finish_exported file buffer ≡ r)
strange_log_buffer file buffer piece e = (rw (e, on_file), rw (e, on_file), rw (e, on_file))

pub refused_log_file : (file buffer piece : List ℕ) (r : Refusal)
    → length buffer ≡ log_bytes → (periodic_from file).admission ≡ Err r
    → (log_start_exported file buffer ≡ refused r buffer) × (log_feed_exported file buffer piece ≡ refused r buffer)
    × (log_finish_exported file buffer ≡ refused r buffer)
unfolding log_started started fed log_finished log_admitted admitted
refused_log_file file buffer piece r size h =
    let whole = eq-eqb (length buffer) log_bytes size in
    elim (periodic_for file r h) [
      | inl f ↦ (rw (whole, f, on_file), rw (whole, f, on_file), rw (whole, f, on_file))
      | inr (f, j) ↦ (rw (whole, f, on_file, j), rw (whole, f, on_file, j), rw (whole, f, on_file, j))
    ]

pub refused_log_state : (file buffer piece : List ℕ) (r : Refusal)
    → length buffer ≡ log_bytes → (form_of file).admission ≡ Ok tt
    → log_admitted (form_of file).table (log_in buffer) ≡ Err r
    → (log_feed_exported file buffer piece ≡ refused r buffer) × (log_finish_exported file buffer ≡ refused r buffer)
unfolding fed log_finished
refused_log_state file buffer piece r size f h =
    let whole = eq-eqb (length buffer) log_bytes size in (rw (whole, f, on_file, h), rw (whole, f, on_file, h))

-- A refusal is told from an answer: a start that is taken returns 0, a piece 0 or 2^32 at least, a finish 2^32 at
-- least; a refusal has a number above 0 and a place below 65,536, is below 2^32 as it is told, and changes no byte.
pub log_start_or_refusal : (file buffer : List ℕ)
    → let e = log_start_exported file buffer in
    (e.number ≡ 0)
    ⊎ ((r : Refusal) × (e ≡ refused r buffer) × ((0 < r.number) × (r.place < 65536)) × (refusal_number r < word_limit))
log_start_or_refusal = judging.start_apart

pub feed_or_refusal : (file buffer piece : List ℕ)
    → let e = log_feed_exported file buffer piece in
    ((e.number ≡ 0) ⊎ (word_limit ≤ e.number))
    ⊎ ((r : Refusal) × (e ≡ refused r buffer) × ((0 < r.number) × (r.place < 65536)) × (refusal_number r < word_limit))
feed_or_refusal = judging.feed_apart

pub finish_or_refusal : (file buffer : List ℕ)
    → let e = log_finish_exported file buffer in
    (word_limit ≤ e.number)
    ⊎ ((r : Refusal) × (e ≡ refused r buffer) × ((0 < r.number) × (r.place < 65536)) × (refusal_number r < word_limit))
finish_or_refusal = judging.finish_apart

-- With a well-formed table's file and one buffer the exported calls are the judge, however the log is cut:
-- the finish returns its answer, of which all the above speaks, and leaves it.
module _ (file : List ℕ) (t : Table) (m : Measure) (formed : (form_of file).admission ≡ Ok tt)
    (held : (form_of file).table ≡ t) (well : judged t ≡ Ok m)
    (lent : List ℕ) (size : length lent ≡ log_bytes) where
  pub log_starts : log_start_exported file lent ≡ record { number = 0; buffer = log_buffer_of (model.unread (start_of t)) }
  log_starts = judging.starts file t m formed held well lent size

  pub log_judged_lem : (pieces : List (List ℕ))
      → judged_in file lent pieces ≡ record {
        number = answer_number (log_judged t (log_in lent) pieces).log.found;
        buffer = log_buffer_of (log_judged t (log_in lent) pieces).log;
      }
  log_judged_lem = judging.judges file t m formed held well lent size
