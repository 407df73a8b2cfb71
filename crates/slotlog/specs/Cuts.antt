-- All cuts of a log give one answer; a fault or a difference stays.
use Rattle.model.specs.Values.{Judgement, Admission}
use Rattle.std.specs.Prelude.{◌≡◌, ℕ, Ok, Err}
use Rattle.std.proofs.Math.Path.{refl}
use Rattle.std.proofs.Common.{sym, ap, ◌∙◌, arith}
use mathlib.Core.List.{List, [], ◌∷◌, ◌++◌, flatten}
use Rattle.values.specs.declared.Table.{Table}
use Rattle.values.specs.declared.Measure.{Measure}
use Rattle.values.specs.declared.Refusal.{Refusal}
use Rattle.values.specs.declared.Finding.{Finding}
use Rattle.model.specs.Limits.{task_limit}
use Rattle.model.specs.Tasks.{judged}
use Rattle.model.specs.Dispatcher.{given_of, slot_count, admitted, start_of, started}
use Rattle.model.specs.Log.{Log, Fed, read_by, read_byte, read_all, closed, unread, log_admitted, log_started, on_log, fed, log_finished, feeds, log_judged}
use Rattle.model.specs.LogMeaning.{Final}
use Rattle.counting.specs.Fill.{get_d_same}
use Rattle.counting.specs.Sum.{sum_zero}
use Rattle.wellformed.specs.WellFormed.{well_formed}
use Rattle.backlog.specs.Taken.{belongs_start}
use Rattle.slotlog.specs.Fits.{Sized, Fits, log_admitted_iff, fits_all}

-- A piece is read as its two parts are, one after the other.
pub read_joined : (t : Table) (l : Log) (a b : List ℕ) → read_all t l (a ++ b) ≡ read_all t (read_all t l a) b
unfolding read_all
read_joined t l [] b = refl
read_joined t l (x ∷ a) b = read_joined t (read_byte t l x) a b

-- A state that fits has its lists whole.
pub fits_sized : {t : Table} {l : Log} → Fits t l → Sized l.state
fits_sized f = record { waits = f.belongs.waits; lefts = f.belongs.lefts; gives = f.belongs.gives }

-- A log that takes a piece takes every next one.
still_admitted : (t : Table) (l : Log) (s : List ℕ) → Sized l.state → log_admitted t l ≡ Ok tt
    → log_admitted t (read_all t l s) ≡ Ok tt
still_admitted t l s size e =
    let ((m, well), f) = (log_admitted_iff t l size).0 e in
    let g = fits_all t (well_formed t m well).ranged l f s in
    (log_admitted_iff t (read_all t l s) (fits_sized g)).1 ((m, well), g)

-- A CUT CHANGES NOTHING: two pieces one after the other do what they do as one, on any table and any log, refusals too.
pub cut : (t : Table) (l : Log) (a b : List ℕ) → Sized l.state → fed t (fed t l a).log b ≡ fed t l (a ++ b)
unfolding fed
cut t l a b size = go (log_admitted t l) refl
  where
    go : (x : Admission) → log_admitted t l ≡ x → fed t (fed t l a).log b ≡ fed t l (a ++ b)
    go (Err r) e = rw (e, e)
    go (Ok u) e = rw (e, still_admitted t l a size e, read_joined t l a b)

-- Taking no byte changes nothing.
none_fed : (t : Table) (l : Log) → (fed t l []).log ≡ l
unfolding fed read_all
none_fed t l = go (log_admitted t l) refl
  where
    go : (x : Admission) → log_admitted t l ≡ x → (fed t l []).log ≡ l
    go (Err r) e = rw e
    go (Ok u) e = rw e

-- Any pieces are one.
pub feeds_one : (t : Table) (l : Log) (pieces : List (List ℕ)) → Sized l.state → feeds t l pieces ≡ (fed t l (flatten pieces)).log
unfolding feeds fed flatten
feeds_one t l [] size = sym (none_fed t l)
feeds_one t l (piece ∷ more) size =
    feeds_one t (fed t l piece).log more (sized (log_admitted t l) refl) ∙ ap (λ (x : Fed). x.log) (cut t l piece (flatten more) size)
  where
    sized : (x : Admission) → log_admitted t l ≡ x → Sized (on_log l (read_all t l piece) x).log.state
    sized (Err r) e = size
    sized (Ok u) e = let ((m, well), f) = (log_admitted_iff t l size).0 e in fits_sized (fits_all t (well_formed t m well).ranged l f piece)

-- ALL CUTS GIVE ONE ANSWER: two ways to cut a log leave the same state, and so the same answer, whatever state it is given to.
pub all_cuts : (t : Table) (l : Log) (p q : List (List ℕ)) → Sized l.state → flatten p ≡ flatten q → feeds t l p ≡ feeds t l q
all_cuts t l p q size e = feeds_one t l p size ∙ ap (λ (s : List ℕ). (fed t l s).log) e ∙ sym (feeds_one t l q size)

-- Behind a fault or a difference a byte is not looked at.
pub byte_stays : (t : Table) (l : Log) (b : ℕ) → Final l.found → read_byte t l b ≡ l
unfolding read_byte
byte_stays t l b = go l.found
  where
    go : (x : Finding) → Final x → read_by t l b x ≡ l
    go (Finding.Differs slot) h = refl
    go (Finding.Fault n p) h = refl
    go Finding.Nothing h = elim h [ ]
    go Finding.Good h = elim h [ ]

-- WHAT IS FOUND STAYS: behind a fault or a difference nothing moves any more.
pub stays : (t : Table) (l : Log) (s : List ℕ) → Final l.found → read_all t l s ≡ l
unfolding read_all
stays t l [] h = refl
stays t l (b ∷ s) h = ap (λ (k : Log). read_all t k s) (byte_stays t l b h) ∙ stays t l s h

-- From a start on a well-formed table no call is refused.
module _ (t : Table) (m : Measure) (well : judged t ≡ Ok m) where
  pub start_fits : Fits t (unread (start_of t))
  unfolding slot_count start_of
  start_fits =
      let r = (well_formed t m well).ranged in
      record {
        belongs = belongs_start t r;
        counted = omega (arith, sum_zero t.count (given_of (start_of t)) (λ i l. get_d_same task_limit 0 i));
        slots_le = omega arith;
        bytes_le = omega arith;
      }

  pub start_admitted : (s : List ℕ) → log_admitted t (read_all t (unread (start_of t)) s) ≡ Ok tt
  start_admitted s =
      let f = fits_all t (well_formed t m well).ranged (unread (start_of t)) start_fits s in
      (log_admitted_iff t (read_all t (unread (start_of t)) s) (fits_sized f)).1 ((m, well), f)

  -- The whole judge, from the bytes of the log. What stood in the log before does not matter.
  pub judged_bytes : (l : Log) (pieces : List (List ℕ)) → log_judged t l pieces
      ≡ record { admission = Ok tt; log = closed (read_all t (unread (start_of t)) (flatten pieces)) }
  unfolding log_started started log_finished fed read_all
  judged_bytes l pieces =
      let first = unread (start_of t) in
      let read : feeds t first pieces ≡ read_all t first (flatten pieces) =
      feeds_one t first pieces (fits_sized start_fits) ∙ rw (start_admitted []) refl in
      rw (well, read, start_admitted (flatten pieces))

-- A refused table refuses each call, and hands the log back each time.
feeds_refused : (t : Table) (l : Log) (r : Refusal) → judged t ≡ Err r → (pieces : List (List ℕ)) → feeds t l pieces ≡ l
unfolding feeds fed log_admitted admitted
feeds_refused t l r e [] = refl
feeds_refused t l r e (piece ∷ more) = rw e (feeds_refused t l r e more)

start_refused : (t : Table) (l : Log) (r : Refusal) → judged t ≡ Err r → (log_started t l).log ≡ l
unfolding log_started started
start_refused t l r e = rw e

-- From a start two ways to cut the same bytes do the same, on every table.
pub judged_alike : (t : Table) (l : Log) (p q : List (List ℕ)) → flatten p ≡ flatten q → log_judged t l p ≡ log_judged t l q
judged_alike t l p q e = by (judged t) refl
  where
    alone : (r : Refusal) → judged t ≡ Err r → (pieces : List (List ℕ)) → log_judged t l pieces ≡ log_finished t l
    alone r j pieces = ap (λ (k : Log). log_finished t (feeds t k pieces)) (start_refused t l r j) ∙ ap (log_finished t) (feeds_refused t l r j pieces)

    by : (j : Judgement) → judged t ≡ j → log_judged t l p ≡ log_judged t l q
    by (Err r) j = alone r j p ∙ sym (alone r j q)
    by (Ok m) j = judged_bytes t m j l p ∙ rw e (sym (judged_bytes t m j l q))
