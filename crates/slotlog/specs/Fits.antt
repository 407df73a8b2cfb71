-- A log that is admitted stays admitted, byte by byte, whoever made it.
use Rattle.model.specs.Values.{Admission}
use Rattle.std.specs.Prelude.{◌≡◌, refl, ◌↔◌, List, [], ◌∷◌, Bool, true, false, cond, not, ◌&&◌, ◌||◌, ℕ, ◌≤◌, ◌<◌, eqb, ltb, length, Ok, Err}
use Rattle.std.proofs.Math.Decide.{ℕ_discrete}
use Rattle.std.proofs.Common.{arith, eq-eqb, ne_eqb, eqb-true, le-ltb, ltb-false, lit≤}
use Rattle.values.specs.declared.Table.{Table}
use Rattle.values.specs.declared.Measure.{Measure}
use Rattle.values.specs.declared.Finding.{Finding}
use Rattle.model.specs.Limits.{task_limit, log_limit}
use Rattle.model.specs.Tasks.{judged}
use Rattle.model.specs.Run.{tie_order}
use Rattle.model.specs.Dispatcher.{State, slot_count, admitted}
use Rattle.model.specs.Log.{Log, passed, stopped, fault, due_owner, slot_read, task_read, kind_read, read_by, read_byte, read_all, miscounted, log_admitted_by}
use Rattle.model.specs.Log.{log_admitted}
use Rattle.wellformed.specs.Ranges.{Ranged}
use Rattle.wellformed.specs.Admitted.{admitted_iff, unrefused}
use Rattle.backlog.specs.Taken.{Belongs, belongs_after, slots_after}

-- The lists of a state have an entry for each task that a table can have.
pub record Sized (d : State) : Type 0 where
  pub waits : length d.wait ≡ task_limit
  pub lefts : length d.left ≡ task_limit
  pub gives : length d.given ≡ task_limit

-- The state belongs to the table, and the counts are as they can be.
pub record Fits (t : Table) (l : Log) : Type 0 where
  pub belongs : Belongs t l.state
  pub counted : l.slots ≡ slot_count t l.state
  pub slots_le : l.slots ≤ l.bytes
  pub bytes_le : l.bytes ≤ log_limit

-- EXACTLY: a log is admitted if its table is well-formed and it fits.
miscounted_iff : (t : Table) (l : Log) → (miscounted t l ≡ false) ↔ ((l.slots ≡ slot_count t l.state) × (l.slots ≤ l.bytes) × (l.bytes ≤ log_limit))
miscounted_iff t l = (
  fwd (eqb l.slots (slot_count t l.state)) (ltb l.bytes l.slots) (ltb log_limit l.bytes) refl refl refl,
  λ (a, b, c). rw (eq-eqb l.slots (slot_count t l.state) a, le-ltb l.bytes l.slots b, le-ltb log_limit l.bytes c),
)
  where
    fwd : (a b c : Bool) → eqb l.slots (slot_count t l.state) ≡ a → ltb l.bytes l.slots ≡ b → ltb log_limit l.bytes ≡ c
        → (not a || b || c) ≡ false → (l.slots ≡ slot_count t l.state) × (l.slots ≤ l.bytes) × (l.bytes ≤ log_limit)
    fwd true false false p q s e = (eqb-true l.slots (slot_count t l.state) p, ltb-false l.bytes l.slots q, ltb-false log_limit l.bytes s)
    fwd false b c p q s e = let z : ◌≡◌ {A = ℕ} 0 1 = cc in absurd (omega arith)
    fwd true true c p q s e = let z : ◌≡◌ {A = ℕ} 0 1 = cc in absurd (omega arith)
    fwd true false true p q s e = let z : ◌≡◌ {A = ℕ} 0 1 = cc in absurd (omega arith)

pub log_admitted_iff : (t : Table) (l : Log) → Sized l.state → (log_admitted t l ≡ Ok tt)
    ↔ (((m : Measure) × (judged t ≡ Ok m)) × Fits t l)
unfolding log_admitted
log_admitted_iff t l size = (fwd (admitted t l.state) refl, bwd)
  where
    fwd : (a : Admission) → admitted t l.state ≡ a → log_admitted_by t l a ≡ Ok tt
        → ((m : Measure) × (judged t ≡ Ok m)) × Fits t l
    fwd (Err r) e h = let z : ◌≡◌ {A = ℕ} 0 1 = cc in absurd (omega arith)
    fwd (Ok u) e h =
        let s = (admitted_iff t l.state).0 e in
        let (a, b, c) = (miscounted_iff t l).0 (unrefused (miscounted t l) _ h).0 in (
          (s.measure, s.well),
          record {
            belongs = record {
              waits = size.waits;
              lefts = size.lefts;
              gives = size.gives;
              each = s.fits.each;
              ran = s.fits.ran;
            };
            counted = a;
            slots_le = b;
            bytes_le = c;
          },
        )

    bwd : ((m : Measure) × (judged t ≡ Ok m)) × Fits t l → log_admitted_by t l (admitted t l.state) ≡ Ok tt
    bwd ((m, well), f) =
        let room : slot_count t l.state ≤ log_limit = omega (arith, f.counted, f.slots_le, f.bytes_le) in
        rw (
          (admitted_iff t l.state).1 (record {
            measure = m;
            well = well;
            fits = record {
              each = f.belongs.each;
              ran = f.belongs.ran;
              room = omega arith;
            };
          }),
          (miscounted_iff t l).1 (f.counted, f.slots_le, f.bytes_le),
        )

-- WHAT A BYTE LEAVES: the log as it was, a fault or a difference, a byte read or a slot read. What holds of each of these holds after any byte.
module _ (t : Table) (l : Log) (most : l.bytes ≤ log_limit) (P : Log → Type 0) (same : P l) (faulty : (n : ℕ) → 40 ≤ n → n ≤ 44 → P (fault t l n))
    (differing : P (stopped t l (Finding.Differs l.slots)))
    (passing : l.bytes < log_limit → (opened done : Bool) → P (passed t l opened done Finding.Nothing))
    (ending : l.bytes < log_limit → P (passed t l false l.done Finding.Good)) (stepping : l.bytes < log_limit → P (slot_read t l true)) where
  module _ (room : l.bytes < log_limit) where
    after_slot : (due : Bool) → P (slot_read t l due)
    after_slot true = stepping room
    after_slot false = differing

    after_done : (wrong : Bool) → P (cond wrong (fault t l 41) (passed t l false true Finding.Nothing))
    after_done true = faulty 41 (lit≤ tt) (lit≤ tt)
    after_done false = passing room false true

    after_kind : (a b c d : Bool) (due wrong : Bool)
        → P (cond a (passed t l true l.done Finding.Nothing)
        (cond b (slot_read t l due)
        (cond c (cond wrong (fault t l 41) (passed t l false true Finding.Nothing)) (cond d (passed t l false l.done Finding.Good) (fault t l 40)))))
    after_kind true b c d due wrong = passing room true l.done
    after_kind false true c d due wrong = after_slot due
    after_kind false false true d due wrong = after_done wrong
    after_kind false false false true due wrong = ending room
    after_kind false false false false due wrong = faulty 40 (lit≤ tt) (lit≤ tt)

    after_open : (opened : Bool) (b : ℕ) → P (cond opened (task_read t l b) (kind_read t l b))
    after_open true b = after_slot (ltb b t.count && eqb b (due_owner t l))
    after_open false b = after_kind (eqb b 16) (eqb b 17) (eqb b 18) (eqb b 19) (eqb (due_owner t l) task_limit) (eqb l.slots 0 || l.done)

  pub after_byte : (b : ℕ) → P (read_byte t l b)
  unfolding read_byte
  after_byte b = go l.found (ℕ_discrete l.bytes log_limit)
    where
      go : (x : Finding) → Dec (l.bytes ≡ log_limit) → P (read_by t l b x)
      go Finding.Nothing (yes e) = rw (eq-eqb l.bytes log_limit e) (faulty 44 (lit≤ tt) (lit≤ tt))
      go Finding.Nothing (no e) = rw (ne_eqb l.bytes log_limit e) (after_open (omega arith) l.opened b)
      go Finding.Good (yes e) = rw (eq-eqb l.bytes log_limit e) (faulty 44 (lit≤ tt) (lit≤ tt))
      go Finding.Good (no e) = rw (ne_eqb l.bytes log_limit e) (faulty 42 (lit≤ tt) (lit≤ tt))
      go (Finding.Differs slot) e = same
      go (Finding.Fault n p) e = same

-- A byte leaves a log that fits.
pub fits_byte : (t : Table) → Ranged t → (l : Log) → Fits t l → (b : ℕ) → Fits t (read_byte t l b)
fits_byte t r l f =
    after_byte t l f.bytes_le (Fits t) f (λ n low high. stays (Finding.Fault n l.bytes)) (stays (Finding.Differs l.slots))
    (λ room opened done. reads room opened done Finding.Nothing) (λ room. reads room false l.done Finding.Good) steps
  where
    stays : (x : Finding) → Fits t (stopped t l x)
    stays x = record { belongs = f.belongs; counted = f.counted; slots_le = f.slots_le; bytes_le = f.bytes_le }

    reads : l.bytes < log_limit → (opened done : Bool) (x : Finding) → Fits t (passed t l opened done x)
    reads room opened done x = record { belongs = f.belongs; counted = f.counted; slots_le = omega (arith, f.slots_le); bytes_le = omega arith }

    steps : l.bytes < log_limit → Fits t (slot_read t l true)
    steps room = record {
      belongs = belongs_after t r (tie_order t) l.state l.done f.belongs;
      counted = omega (arith, f.counted, slots_after t r (tie_order t) l.state l.done f.belongs);
      slots_le = omega (arith, f.slots_le);
      bytes_le = omega arith;
    }

pub fits_all : (t : Table) → Ranged t → (l : Log) → Fits t l → (s : List ℕ) → Fits t (read_all t l s)
unfolding read_all
fits_all t r l f [] = f
fits_all t r l f (b ∷ s) = fits_all t r (read_byte t l b) (fits_byte t r l f b) s
