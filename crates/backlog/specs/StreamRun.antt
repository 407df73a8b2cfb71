-- A RUN OF ANY STREAMS (`stream_run`): there is one.
use Rattle.std.specs.Prelude.{refl, Bool, ℕ, zero, suc, ◌+◌, T, ltb, eqb}
use Rattle.std.proofs.Common.{inl, inr, arith, eq-eqb, ne_eqb, ltb→lt, lt→ltb}
use Rattle.std.proofs.Math.Decide.{dec_lt}
use Rattle.model.specs.Notation.{bit, some}
use Rattle.counting.specs.Count.{some_iff, dec_t}
use Rattle.counting.specs.Search.{smallest_of}
use Rattle.backlog.specs.Streams.{Jobs, Run, SlotOf, released, key_at}

-- With s the slots served before slot t: stream i is pending.
abbrev pending : Jobs → ℕ → (ℕ → ℕ) → ℕ → Bool
pending J t s i = ltb (s i) (released J (suc t) i)

-- The slot goes to the pending stream of least key, if one is pending.
abbrev served : (J : Jobs) (t : ℕ) (s : ℕ → ℕ) → Dec (T (some (pending J t s) J.n)) → ℕ → ℕ
served J t s (yes h) i = s i + bit (eqb i (smallest_of (pending J t s) J.n (λ i. key_at J i (s i)) h).0)
served J t s (no h) i = s i

unfoldable pub run_of : Jobs → ℕ → ℕ → ℕ
run_of J zero = λ i. 0
run_of J (suc t) = served J t (run_of J t) (dec_t (some (pending J t (run_of J t)) J.n))

pub stream_run : (J : Jobs) → Run J (run_of J)
unfolding run_of
stream_run J = record { start = λ i l. refl; slot = λ t. slot t (run_of J t) (dec_t (some (pending J t (run_of J t)) J.n)) }
  where
    slot : (t : ℕ) (s : ℕ → ℕ) (d : Dec (T (some (pending J t s) J.n))) → SlotOf J t s (served J t s d)
    slot t s (no h) = inl (record {
      none =
          λ i l. elim (dec_lt (s i) (released J (suc t) i)) [
            | yes p ↦ absurd
                (h ((some_iff (pending J t s) J.n).1 (i, l, lt→ltb (s i) (released J (suc t) i) p)))
            | no p ↦ omega arith
          ];
      rest = λ i l. refl;
    })
    slot t s (yes h) =
        let (k, l, p, least) = smallest_of (pending J t s) J.n (λ i. key_at J i (s i)) h in
        inr (
          k,
          record {
            bound = l;
            ready = ltb→lt (s k) (released J (suc t) k) p;
            least = λ i m q. least i m (lt→ltb (s i) (released J (suc t) i) q);
            one = rw (eq-eqb k k refl) refl;
            rest = λ i m e. rw (ne_eqb i k e) (omega arith);
          },
        )
