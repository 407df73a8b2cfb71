-- A start, pieces and a finish in one buffer are the judge's; what each returns tells an answer from a refusal, and a refusal changes no byte.
use Rattle.std.specs.Prelude.{◌≡◌, ◌⊎◌, Bool, cond, eqb, replicate, Ok, Err}
use Rattle.std.proofs.Math.Path.{refl, ap}
use Rattle.std.proofs.Common.{sym, ◌∙◌, pos_of_ne-zero, eq-eqb, ne_eqb}
use Rattle.std.proofs.Math.Logic.{inl, inr}
use Rattle.std.proofs.Math.Bool.{true, false}
use mathlib.Core.List.{List, [], ◌∷◌, ◌++◌, append-nil, append_assoc, flatten}
use Prim.Native.Nat.{ℕ, ◌+◌, min, ◌≤◌, ◌<◌}
use Rattle.std.proofs.Math.Decide.{ℕ_discrete}
use native.Mathlib.Omega.{arith}
use Rattle.std.proofs.Math.ListN.{length, length-replicate}
use Rattle.values.specs.declared.Table.{Table}
use Rattle.values.specs.declared.Measure.{Measure}
use Rattle.values.specs.declared.Finding.{Finding}
use Rattle.values.specs.declared.Refusal.{Refusal}
use Rattle.model.specs.Limits.{task_limit, log_limit, word_limit, count_place}
use Rattle.model.specs.Values.{refusal, Judgement, Admission}
use Rattle.model.specs.Tasks.{judged}
use Rattle.model.specs.TableFile.{four, form_of}
use Rattle.model.specs.Dispatcher.{start_of, start_judged, started, admitted}
use Rattle.model.specs.Report.{Exported, refusal_number, refused}
use Rattle.model.specs.Log.{Log, Fed, read_byte, read_all, at_end, closed, unread, miscounted, log_admitted_by, log_admitted, log_started, on_log, fed}
use Rattle.model.specs.Log.{log_finished, log_judged}
use Rattle.model.specs.StateBuffer.{state_bytes, state_in, on_file}
use Rattle.model.specs.LogBuffer.{log_bytes, finding_of, answer_number, log_buffer_of, log_in, log_written, log_start_exported, log_feed_exported}
use Rattle.model.specs.LogBuffer.{log_finish_exported, feeds_in, judged_in}
use Rattle.model.specs.Notation.{fill}
use Rattle.counting.specs.Fill.{fill_length}
use Rattle.wellformed.specs.Ranges.{Ranged}
use Rattle.wellformed.specs.WellFormed.{well_formed}
use Rattle.wellformed.specs.Refused.{Tellable, JudgementTellable, judged_tellable}
use Rattle.tablefile.specs.Refused.{AdmissionTellable, form_tellable}
use Rattle.slotlog.specs.Fits.{log_admitted_iff, after_byte}
use Rattle.slotlog.specs.Cuts.{fits_sized, read_joined, start_admitted, judged_bytes}
use Rattle.slotlog.specs.Kept.{Kept, kept}
use Rattle.statebuffer.specs.RoundTrip.{Fits}
use Rattle.statebuffer.specs.Loop.{fits, on_table}
use Rattle.statebuffer.specs.Told.{admitted_tellable}
use Rattle.logbuffer.specs.Parts.{log_length}
use Rattle.logbuffer.specs.Numbers.{Below, JudgedBelow, judged_below, form_below, log_below}
use Rattle.logbuffer.specs.RoundTrip.{log_back}

-- What is kept from a start on comes back from its buffer.
module _ (t : Table) (r : Ranged t) (l : Log) (k : Kept t l) where
  state_fits : Fits l.state
  state_fits = rw k.state (fits t r k.done l.slots (omega (arith, k.fits.slots_le, k.fits.bytes_le)))

  kept_back : log_in (log_buffer_of l) ≡ l
  kept_back = log_back l state_fits k.told (omega (arith, k.fits.slots_le, k.fits.bytes_le)) k.fits.bytes_le

  kept_size : length (log_buffer_of l) ≡ log_bytes
  kept_size = log_length l (fits_sized k.fits)

module _ (file : List ℕ) (t : Table) (m : Measure) (formed : (form_of file).admission ≡ Ok tt) (held : (form_of file).table ≡ t)
    (well : judged t ≡ Ok m) where
  r : Ranged t
  r = (well_formed t m well).ranged

  abbrev after : List ℕ → Log
  after s = read_all t (unread (start_of t)) s

  pub starts : (lent : List ℕ) → length lent ≡ log_bytes → log_start_exported file lent ≡ record { number = 0; buffer = log_buffer_of (unread (start_of t)) }
  unfolding log_started started
  starts lent size =
      on_table log_bytes file lent t (λ k. let f = log_started k (log_in lent) in log_written lent f.log f.admission) formed held size ∙ rw well refl

  pub feeds_on : (s piece : List ℕ) → log_feed_exported file (log_buffer_of (after s)) piece
      ≡ record { number = answer_number (after (s ++ piece)).found; buffer = log_buffer_of (after (s ++ piece)) }
  unfolding fed
  feeds_on s piece =
      let buffer = log_buffer_of (after s) in
      on_table log_bytes file buffer t (λ k. let f = fed k (log_in buffer) piece in log_written buffer f.log f.admission) formed held
      (kept_size t r (after s) (kept t m well s))
      ∙ rw (kept_back t r (after s) (kept t m well s), start_admitted t m well s, read_joined t (unread (start_of t)) s piece) refl

  pub finishes : (s : List ℕ) → log_finish_exported file (log_buffer_of (after s))
      ≡ record { number = answer_number (closed (after s)).found; buffer = log_buffer_of (closed (after s)) }
  unfolding log_finished
  finishes s =
      let buffer = log_buffer_of (after s) in
      on_table log_bytes file buffer t (λ k. let f = log_finished k (log_in buffer) in log_written buffer f.log f.admission) formed held
      (kept_size t r (after s) (kept t m well s))
      ∙ rw (kept_back t r (after s) (kept t m well s), start_admitted t m well s) refl

  all_fed : (s : List ℕ) (pieces : List (List ℕ)) → feeds_in file (log_buffer_of (after s)) pieces ≡ log_buffer_of (after (s ++ flatten pieces))
  unfolding feeds_in flatten
  all_fed s [] = rw (append-nil s)
  all_fed s (piece ∷ more) =
      ap (λ (e : Exported). feeds_in file e.buffer more) (feeds_on s piece) ∙ all_fed (s ++ piece) more ∙ rw (append_assoc s piece (flatten more))

  -- IN ONE BUFFER: the whole judge through the exported calls returns the judge's answer, however the log is cut.
  pub judges : (lent : List ℕ) → length lent ≡ log_bytes → (pieces : List (List ℕ))
      → judged_in file lent pieces
      ≡ record { number = answer_number (log_judged t (log_in lent) pieces).log.found; buffer = log_buffer_of (log_judged t (log_in lent) pieces).log }
  unfolding read_all
  judges lent size pieces =
      ap (λ (e : Exported). log_finish_exported file (feeds_in file e.buffer pieces)) (starts lent size)
      ∙ ap (log_finish_exported file) (all_fed [] pieces) ∙ finishes (flatten pieces)
      ∙ ap (λ (f : Fed). record { number = answer_number f.log.found; buffer = log_buffer_of f.log }) (sym (judged_bytes t m well (log_in lent) pieces))

-- What is found so far is nothing, or has a number above 0.
abbrev Numbered : Finding → Type 0
Numbered Finding.Nothing = Unit
Numbered Finding.Good = Unit
Numbered (Finding.Differs slot) = Unit
Numbered (Finding.Fault n p) = 0 < n

numbered_read : (n p : ℕ) → Numbered (finding_of n p)
numbered_read n p = elim (ℕ_discrete n 0) [ yes e ↦ rw (eq-eqb n 0 e) tt | no e ↦ rw (ne_eqb n 0 e) (go (eqb n 1) (eqb n 2) (pos_of_ne-zero e)) ]
  where
    go : (a b : Bool) → 0 < n → Numbered (cond a Finding.Good (cond b (Finding.Differs p) (Finding.Fault n p)))
    go true b h = tt
    go false true h = tt
    go false false h = h

numbered_byte : (t : Table) (l : Log) → l.bytes ≤ log_limit → Numbered l.found → (b : ℕ) → ((read_byte t l b).bytes ≤ log_limit)
    × Numbered (read_byte t l b).found
numbered_byte t l most h =
    after_byte t l most (λ (k : Log). (k.bytes ≤ log_limit) × Numbered k.found) (most, h) (λ n low high. (most, omega arith)) (most, tt)
    (λ room opened done. (omega arith, tt)) (λ room. (omega arith, tt)) (λ room. (omega arith, tt))

numbered_all : (t : Table) (l : Log) (s : List ℕ) → l.bytes ≤ log_limit → Numbered l.found → Numbered (read_all t l s).found
unfolding read_all
numbered_all t l [] most h = h
numbered_all t l (b ∷ s) most h = let (m, k) = numbered_byte t l most h b in numbered_all t (read_byte t l b) s m k

-- A call that is taken returns 0, where nothing is found yet, or 2^32 at least; a start 0, and a finish never.
abbrev pub Going : ℕ → Type 0
Going n = (n ≡ 0) ⊎ (word_limit ≤ n)

going : (f : Finding) → Numbered f → Going (answer_number f)
going Finding.Nothing h = inl refl
going Finding.Good h = inr (omega arith)
going (Finding.Differs slot) h = inr (omega arith)
going (Finding.Fault n p) h = inr (omega arith)

over : (bytes : ℕ) (f : Finding) → Numbered f → word_limit ≤ answer_number (at_end bytes f)
over bytes Finding.Nothing h = omega arith
over bytes Finding.Good h = omega arith
over bytes (Finding.Differs slot) h = omega arith
over bytes (Finding.Fault n p) h = omega arith

-- What is returned and left is a taken call's, or a refusal's, which tells its number and place, is below 2^32 and changes no byte.
abbrev pub Apart : (ℕ → Type 0) → List ℕ → Exported → Type 0
Apart Taken buffer e = Taken e.number ⊎ ((r : Refusal) × (e ≡ refused r buffer) × Tellable r × (refusal_number r < word_limit))

module _ (file buffer : List ℕ) where
  by_admission : (Taken : ℕ → Type 0) (a : Admission) (next : Exported) → AdmissionTellable a → Below a → Apart Taken buffer next
      → Apart Taken buffer (elim a [ Err r ↦ refused r buffer | Ok _ ↦ next ])
  by_admission Taken (Err r) next n b h = inr (r, refl, n, omega (arith, n.1))
  by_admission Taken (Ok u) next n b h = h

  pub on_file_lem : (bytes : ℕ) (Taken : ℕ → Type 0) (go : Table → Exported) → Apart Taken buffer (go (form_of file).table)
      → Apart Taken buffer (on_file bytes file buffer go)
  on_file_lem bytes Taken go h =
      by_admission Taken (cond (eqb (length buffer) bytes) (form_of file).admission unfit) (go (form_of file).table)
      (by (eqb (length buffer) bytes)).0 (by (eqb (length buffer) bytes)).1 h
    where
      unfit : Admission
      unfit = Err (refusal 50 (min (length buffer) 65535))

      by : (b : Bool) → AdmissionTellable (cond b (form_of file).admission unfit) × Below (cond b (form_of file).admission unfit)
      by true = (form_tellable file, form_below file)
      by false = ((omega arith, omega arith), omega arith)

  pub start_apart : Apart (λ n. n ≡ 0) buffer (log_start_exported file buffer)
  unfolding log_started started
  start_apart =
      on_file_lem log_bytes (λ n. n ≡ 0) (λ t. let f = log_started t (log_in buffer) in log_written buffer f.log f.admission)
      (by (form_of file).table (judged (form_of file).table) (judged_tellable (form_of file).table) (judged_below (form_of file).table))
    where
      by : (t : Table) (j : Judgement) → JudgementTellable j → JudgedBelow j → let s = start_judged t (log_in buffer).state j in
          let f = on_log (log_in buffer) (unread (start_of t)) s.admission in Apart (λ n. n ≡ 0) buffer (log_written buffer f.log f.admission)
      by t (Err r) n b = inr (r, refl, n, omega (arith, n.1))
      by t (Ok m) n b = inl refl

  log_tellable : (t : Table) (l : Log) → AdmissionTellable (log_admitted t l)
  unfolding log_admitted
  log_tellable t l = go (admitted t l.state) (admitted_tellable t l.state)
    where
      go : (a : Admission) → AdmissionTellable a → AdmissionTellable (log_admitted_by t l a)
      go (Err r) h = h
      go (Ok u) h = by (miscounted t l)
        where
          by : (b : Bool) → AdmissionTellable (cond b (Err (refusal 8 count_place)) (Ok tt))
          by true = (omega arith, omega arith)
          by false = tt

  -- A log that is admitted from a buffer has no more bytes than it can, and nothing found without a number.
  read_most : (t : Table) → log_admitted t (log_in buffer) ≡ Ok tt → (log_in buffer).bytes ≤ log_limit
  unfolding log_in state_in
  read_most t e = ((log_admitted_iff t (log_in buffer) (record { waits = sized _; lefts = sized _; gives = sized _ })).0 e).1.bytes_le
    where
      sized : (f : ℕ → ℕ) → length (fill task_limit f (replicate task_limit 0)) ≡ task_limit
      sized f = fill_length task_limit f (replicate task_limit 0) ∙ length-replicate {A = ℕ} task_limit 0

  read_numbered : Numbered (log_in buffer).found
  unfolding log_in
  read_numbered = numbered_read (four buffer (state_bytes + 8)) (four buffer (state_bytes + 12))

  onto : (Taken : ℕ → Type 0) (t : Table) (next : Log) → (log_admitted t (log_in buffer) ≡ Ok tt → Taken (answer_number next.found))
      → let f = on_log (log_in buffer) next (log_admitted t (log_in buffer)) in Apart Taken buffer (log_written buffer f.log f.admission)
  onto Taken t next h = go (log_admitted t (log_in buffer)) refl (log_tellable t (log_in buffer)) (log_below t (log_in buffer))
    where
      go : (a : Admission) → log_admitted t (log_in buffer) ≡ a → AdmissionTellable a → Below a
          → let f = on_log (log_in buffer) next a in Apart Taken buffer (log_written buffer f.log f.admission)
      go (Err r) e n b = inr (r, refl, n, omega (arith, n.1))
      go (Ok u) e n b = inl (h e)

  pub feed_apart : (piece : List ℕ) → Apart Going buffer (log_feed_exported file buffer piece)
  unfolding fed
  feed_apart piece =
      let t = (form_of file).table in
      on_file_lem log_bytes Going (λ k. let f = fed k (log_in buffer) piece in log_written buffer f.log f.admission)
      (onto Going t (read_all t (log_in buffer) piece)
      (λ e. going (read_all t (log_in buffer) piece).found (numbered_all t (log_in buffer) piece (read_most t e) read_numbered)))

  pub finish_apart : Apart (λ n. word_limit ≤ n) buffer (log_finish_exported file buffer)
  unfolding log_finished
  finish_apart =
      let t = (form_of file).table in
      on_file_lem log_bytes (λ n. word_limit ≤ n) (λ k. let f = log_finished k (log_in buffer) in log_written buffer f.log f.admission)
      (onto (λ n. word_limit ≤ n) t (closed (log_in buffer)) (λ e. over (log_in buffer).bytes (log_in buffer).found read_numbered))
