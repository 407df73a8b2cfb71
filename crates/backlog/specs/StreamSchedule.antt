-- A RUN OF STREAMS AS A SCHEDULE (`stream_given`): a job that is done by its deadline has had its slots between release and deadline.
use Rattle.std.specs.Prelude.{◌≡◌, ◌&&◌, T}
use Rattle.std.proofs.Common.{sym, ap, inl, inr, mul-le-mul_left, arith, eq-eqb, ne_eqb, eqb→eq}
use Prim.Native.Nat.{ℕ, zero, suc, ◌+◌, ◌-◌, ◌*◌, ◌/◌, ◌≤◌, ◌<◌, min}
use Rattle.std.proofs.Math.Nat.{lt-mul-div-succ, mul-div-le}
use Rattle.std.proofs.Math.Decide.{ℕ_discrete, dec_lt}
use Rattle.std.proofs.Math.Dec.{leb, eqb, leb-zero}
use Rattle.model.specs.Notation.{bit, count}
use Rattle.model.specs.Schedule.{Slot, none, job, Schedule, belongs, given}
use Rattle.counting.specs.Count.{tests, and_iff, count_le}
use Rattle.counting.specs.Below.{work_lt}
use Rattle.backlog.specs.Streams.{Jobs, Run, SlotOf}

-- One slot more for the task: one more for the job it is at, and for no other.
more : (c s j : ℕ) → 0 < c → min c (s + 1 - c * j) ≡ min c (s - c * j) + bit (eqb (s / c) j)
more c s j pos = go (ℕ_discrete (s / c) j)
  where
    low : c * (s / c) ≤ s
    low = mul-div-le s c

    high : s < c * suc (s / c)
    high = omega (arith, lt-mul-div-succ s pos)

    go : Dec (s / c ≡ j) → min c (s + 1 - c * j) ≡ min c (s - c * j) + bit (eqb (s / c) j)
    go (yes e) = rw (eq-eqb (s / c) j e) (omega (arith, low, high, ap (λ (x : ℕ). c * x) e))
    go (no e) = rw (ne_eqb (s / c) j e) (apart (dec_lt (s / c) j))
      where
        apart : Dec (s / c < j) → min c (s + 1 - c * j) ≡ min c (s - c * j) + 0
        apart (yes l) = omega (arith, high, mul-le-mul_left c l)
        apart (no l) = let m : suc j ≤ s / c = omega arith in omega (arith, low, mul-le-mul_left c m)

-- Who has the slot, and the run as a schedule.
abbrev pub slot_of : (J : Jobs) (t : ℕ) (s s' : ℕ → ℕ) → SlotOf J t s s' → Slot
slot_of J t s s' (inl d) = none
slot_of J t s s' (inr (k, d)) = job k (s k / J.cost k)

abbrev pub schedule_of : (J : Jobs) (s : ℕ → ℕ → ℕ) → Run J s → Schedule
schedule_of J s R u = slot_of J u (s u) (s (suc u)) (R.slot u)

module _ (J : Jobs) (s : ℕ → ℕ → ℕ) (R : Run J s) where
  -- The slots that a job has had are those of its stream beyond the jobs before, up to its cost.
  pub stream_had : (i j u : ℕ) → i < J.n → given (schedule_of J s R) i j 0 u ≡ min (J.cost i) (s u i - J.cost i * j)
  unfolding given count
  stream_had i j zero l = omega (arith, R.start i l)
  stream_had i j (suc u) l = rw (leb-zero u) (go (R.slot u) (stream_had i j u l))
    where
      go : (d : SlotOf J u (s u) (s (suc u))) → given (schedule_of J s R) i j 0 u ≡ min (J.cost i) (s u i - J.cost i * j)
          → given (schedule_of J s R) i j 0 u + bit (belongs i j (slot_of J u (s u) (s (suc u)) d)) ≡ min (J.cost i) (s (suc u) i - J.cost i * j)
      go (inl d) ih = rw (d.rest i l) (omega arith)
      go (inr (k, d)) ih = at (ℕ_discrete k i)
        where
          at : Dec (k ≡ i) → given (schedule_of J s R) i j 0 u + bit (eqb k i && eqb (s u k / J.cost k) j) ≡ min (J.cost i) (s (suc u) i - J.cost i * j)
          at (no e) = rw (ne_eqb k i e, d.rest i l (λ q. e (sym q))) (omega arith)
          at (yes e) =
              let one : s (suc u) i ≡ s u i + 1 = rw (← e) d.one in
              rw (eq-eqb k i e, one, e, more (J.cost i) (s u i) j (J.cost_pos i l)) (omega arith)

  -- A job has no slot before its release.
  pub stream_released : (i j u : ℕ) → T (belongs i j (schedule_of J s R u)) → J.rel i j ≤ u
  stream_released i j u h = go (R.slot u) h
    where
      go : (d : SlotOf J u (s u) (s (suc u))) → T (belongs i j (slot_of J u (s u) (s (suc u)) d)) → J.rel i j ≤ u
      go (inl d) t = absurd t
      go (inr (k, d)) t =
          let (x, y) = (and_iff (eqb k i) (eqb (s u k / J.cost k) j)).0 t in
          let e : k ≡ i = eqb→eq k i x in
          let f : s u k / J.cost k ≡ j = eqb→eq (s u k / J.cost k) j y in
          let r : J.rel k (s u k / J.cost k) < suc u = (work_lt (J.rel k) (J.rel_grows k d.bound) (J.cost k) (suc u) (s u k)
          (J.cost_pos k d.bound)).0 d.ready in
          let q : J.rel i j < suc u = rw (f, e) at r in
          omega arith

  pub stream_given : (i j to : ℕ) → i < J.n → J.cost i * suc j ≤ s to i → J.cost i ≤ given (schedule_of J s R) i j (J.rel i j) to
  unfolding given
  stream_given i j to l done = omega (arith, stream_had i j to l, moved)
    where
      moved : count (λ u. leb 0 u && belongs i j (schedule_of J s R u)) to ≤ count (λ u. leb (J.rel i j) u && belongs i j (schedule_of J s R u)) to
      moved = count_le _ _ to (λ v m t. let h = simp and_iff at t in simp and_iff (omega (tests, stream_released i j v h.1), h.1))
