-- WORST RESPONSES BY A WALK (`walk_worst`): in any order of the tasks, where the run meets every deadline, the largest responses that a walk to the
-- horizon sees are the worst for ever.
use Rattle.std.specs.Prelude.{◌≡◌, ◌⊎◌, Bool, cond, ltb, eqb, length}
use Rattle.std.proofs.Math.Path.{refl, subst}
use Rattle.std.proofs.Common.{sym, ap, ◌∙◌, inl, inr, le_refl, mul-le-mul_left, lt_of_not-le, arith, lt→ltb, length-set, get_or-set_same, get_or-set_other}
use Rattle.std.proofs.Math.Bool.{true, false}
use Prim.Native.Nat.{ℕ, zero, suc, ◌+◌, ◌-◌, ◌*◌, ◌≤◌, ◌<◌, max}
use Rattle.std.proofs.Math.Nat.{le_step}
use Rattle.std.proofs.Math.Decide.{ℕ_discrete, dec_lt, dec_le}
use Rattle.std.proofs.Math.Dec.{T, ltb→lt, eqb→eq}
use Rattle.std.proofs.Math.ListN.{get_or}
use Rattle.std.proofs.lemmas.List.{length-replicate}
use Rattle.std.proofs.Math.Arith.{le-zero}
use Rattle.values.specs.declared.Table.{Table}
use Rattle.model.specs.Limits.{task_limit}
use Rattle.model.specs.Tasks.{task, horizon}
use Rattle.model.specs.Run.{Order, tie_order, owner, Worst}
use Rattle.model.specs.Verdict.{Worsts}
use Rattle.model.specs.Dispatcher.{wait_of, left_of}
use Rattle.model.specs.History.{state_at_by, owner_at_by}
use Rattle.counting.specs.Count.{and_iff, eq→eqb}
use Rattle.counting.specs.Fill.{get_d_same}
use Rattle.counting.specs.Below.{lt_below}
use Rattle.wellformed.specs.Ranges.{Ranged}
use Rattle.backlog.specs.Left.{served_mono}
use Rattle.backlog.specs.Finish.{DoneFirst}
use Rattle.backlog.specs.Criterion.{Met, met_iff}
use Rattle.backlog.specs.System.{System, release_of}
use Rattle.backlog.proofs.System.{jobs, dues}
use Rattle.backlog.proofs.ModelRun.{served_of, model_run, owner_served, others_served}
use Rattle.backlog.proofs.RunSchedule.{finishes_iff}
use Rattle.backlog.proofs.Worst.{first_ends, worst_is}
use Rattle.backlog.proofs.TableSystem.{horizon_is, system_of, cycle_of, tie_system}
use Rattle.backlog.proofs.EveryInstant.{over_iff}
use Rattle.backlog.specs.Taken.{owner_ready, released_le}
use Rattle.backlog.proofs.Stepping.{ready_is, sound}
use Rattle.backlog.proofs.StepHistory.{ready}
use Rattle.backlog.specs.Walk.{quiet, walked_by, Clear}
use Rattle.backlog.proofs.Walk.{Agrees, agrees, ready_agrees, owner_agrees}
use Rattle.backlog.specs.WalkWorst.{finishing, noted, worst_seen, worst_by}

pub worst_length : (t : Table) (rank : Order) (n : ℕ) → length (worst_seen t rank n) ≡ task_limit
unfolding worst_seen
worst_length t rank zero = length-replicate {A = ℕ} task_limit 0
worst_length t rank (suc n) = go (finishing t rank n) (worst_length t rank n)
  where
    go : (b : Bool) → length (worst_seen t rank n) ≡ task_limit → length
        (cond b (noted (worst_seen t rank n) (owner_at_by t rank quiet n)
        ((task t (owner_at_by t rank quiet n)).period - wait_of (state_at_by t rank quiet (suc n)) (owner_at_by t rank quiet n)))
        (worst_seen t rank n)) ≡ task_limit
    go true e = simp length-set e
    go false e = e

module _ (t : Table) (rank : Order) where
  none_noted : (i : ℕ) → get_or (worst_seen t rank 0) i 0 ≡ 0
  unfolding worst_seen
  none_noted i = get_d_same task_limit 0 i

  -- Past the last task nothing is noted.
  pub none_past : (n i : ℕ) → t.count ≤ i → get_or (worst_seen t rank n) i 0 ≡ 0
  unfolding worst_seen
  none_past zero i l = none_noted i
  none_past (suc n) i l = go (finishing t rank n) refl (none_past n i l)
    where
      go : (b : Bool) → finishing t rank n ≡ b → get_or (worst_seen t rank n) i 0 ≡ 0 → get_or (worst_seen t rank (suc n)) i 0 ≡ 0
      go true e z =
          let k : owner_at_by t rank quiet n < t.count = ltb→lt _ _ ((and_iff (ltb (owner_at_by t rank quiet n) t.count) _).0 (subst T (sym e) tt)).0 in
          rw e (get_or-set_other (worst_seen t rank n) (owner_at_by t rank quiet n) i _ 0 (λ x. absurd (omega arith)) ∙ z)
      go false e z = rw e z

module _ (t : Table) (r : Ranged t) (rank : Order) where
  abbrev S : System
  S = system_of t r rank

  abbrev owner_at_lem : ℕ → ℕ
  owner_at_lem n = owner_at_by t rank quiet n

  -- What slot n does to its owner.
  record Served (n k : ℕ) : Type 0 where
    job : ℕ
    early : release_of S k job ≤ n
    waits : ready t rank quiet n k + served_of S n k ≡ (task t k).cost * suc job
    most : ready t rank quiet n k ≤ (task t k).cost
    some : 0 < ready t rank quiet n k
    one : served_of S (suc n) k ≡ served_of S n k + 1
    left : left_of (walked_by t rank (suc n)) k + served_of S (suc n) k ≡ (task t k).cost * suc job
    wait : wait_of (walked_by t rank (suc n)) k + suc n ≡ release_of S k (suc job)

  serves : (n : ℕ) → Clear t (suc n) → (k : ℕ) → owner_at_lem n ≡ k → k < t.count → Served n k
  serves n c k e l =
      let a : Agrees t r rank n = agrees t r rank n (λ u m. c u (le_step m)) in
      let p : 0 < ready t rank quiet n k = owner_ready t rank (walked_by t rank n) false r.few k l e in
      let (j, b, d, f) = ready_is t r rank quiet n k (sound t r rank quiet n) l p in
      let o : owner t rank n ≡ k = sym (owner_agrees t r rank n a (c n (le_refl (suc n)))) ∙ e in
      record {
        job = j;
        early = omega (arith, (lt_below (release_of S k) ((jobs S).rel_grows k l) (suc n) j).0 (omega arith));
        waits = ready_agrees t r rank n a (c n (le_refl (suc n))) k l ∙ ap (λ (y : ℕ). (task t k).cost * y) b;
        most = released_le t (walked_by t rank n) false (sound t r rank quiet n).belongs k l;
        some = p;
        one = rw o at (owner_served S n (omega arith));
        left = agrees t r rank (suc n) c k l ∙ ap (λ (y : ℕ). (task t k).cost * y) b;
        wait = (sound t r rank quiet (suc n)).next k l ∙ ap (release_of S k) b;
      }

  -- The job that slot n finishes, and its response.
  finished : (n : ℕ) → Clear t (suc n) → (k : ℕ) → owner_at_lem n ≡ k → k < t.count → left_of (walked_by t rank (suc n)) k ≡ 0
      → (j : ℕ) × DoneFirst (jobs S) (served_of S) k j (suc n) × (suc n - release_of S k j ≡ (task t k).period - wait_of (walked_by t rank (suc n)) k)
  finished n c k e l z =
      let v = serves n c k e l in
      (v.job, (omega arith, λ u m d. omega (arith, served_mono (jobs S) (served_of S) (model_run S) k l u n (omega arith))), omega arith)

  -- A job that finishes at the end of slot n is its owner's, and nothing of it is left.
  finishes_now : (n : ℕ) → Clear t (suc n) → (i j : ℕ) → i < t.count → DoneFirst (jobs S) (served_of S) i j (suc n)
      → (owner_at_lem n ≡ i) × (left_of (walked_by t rank (suc n)) i ≡ 0) ×
      (suc n - release_of S i j ≡ (task t i).period - wait_of (walked_by t rank (suc n)) i)
  finishes_now n c i j l (d, f) = go (ℕ_discrete (owner_at_lem n) i)
    where
      not_before : served_of S n i < (task t i).cost * suc j
      not_before = lt_of_not-le (f n (le_refl (suc n)))

      go : Dec (owner_at_lem n ≡ i) → (owner_at_lem n ≡ i) × (left_of (walked_by t rank (suc n)) i ≡ 0)
          × (suc n - release_of S i j ≡ (task t i).period - wait_of (walked_by t rank (suc n)) i)
      go (no e) =
          absurd (omega (
            arith,
            not_before,
            others_served S n i
                (λ q. e (owner_agrees t r rank n (agrees t r rank n (λ u m. c u (le_step m))) (c n (le_refl (suc n))) ∙ sym q)),
          ))
      go (yes e) =
          let v = serves n c i e l in
          let q : v.job ≡ j = same v.job v.waits v.most v.some v.one in
          (e, omega (arith, ap (λ (y : ℕ). (task t i).cost * suc y) q), omega (arith, v.wait, v.early, ap (release_of S i) q))
        where
          same : (m : ℕ) → ready t rank quiet n i + served_of S n i ≡ (task t i).cost * suc m → ready t rank quiet n i ≤ (task t i).cost
              → 0 < ready t rank quiet n i → served_of S (suc n) i ≡ served_of S n i + 1 → m ≡ j
          same m w x y z = elim (dec_lt m j) [
            | yes p ↦ absurd (omega (arith, mul-le-mul_left (task t i).cost p))
            | no p ↦ elim (dec_lt j m) [ yes q ↦ absurd (omega (arith, not_before, mul-le-mul_left (task t i).cost q)) | no q ↦ omega arith ]
          ]

  -- What the walk has noted of task i before slot n: no response seen is larger, and it is one of them, or none was seen.
  record Noted (n i : ℕ) : Type 0 where
    bound : (j f : ℕ) → DoneFirst (jobs S) (served_of S) i j f → f ≤ n → f - release_of S i j ≤ get_or (worst_seen t rank n) i 0
    attained : (get_or (worst_seen t rank n) i 0 ≡ 0)
        ⊎ ((j : ℕ) × (f : ℕ) × DoneFirst (jobs S) (served_of S) i j f × (f - release_of S i j ≡ get_or (worst_seen t rank n) i 0))

  -- Slot n notes a response of task i, or leaves what was noted of it.
  pub data Noting (n i : ℕ) : Type 0 where
    noting : owner_at_lem n ≡ i → left_of (walked_by t rank (suc n)) i ≡ 0 → get_or (worst_seen t rank (suc n)) i 0 ≡ max (get_or (worst_seen t rank n) i 0)
        ((task t i).period - wait_of (walked_by t rank (suc n)) i) → Noting n i
    leaving : (owner_at_lem n ≡ i → left_of (walked_by t rank (suc n)) i ≡ 0 → ⊥) → get_or (worst_seen t rank (suc n)) i 0 ≡ get_or
        (worst_seen t rank n) i 0 → Noting n i

  pub notes : (n i : ℕ) → i < t.count → Noting n i
  unfolding worst_seen
  notes n i l = go (finishing t rank n) refl (ℕ_discrete (owner_at_lem n) i)
    where
      go : (b : Bool) → finishing t rank n ≡ b → Dec (owner_at_lem n ≡ i) → Noting n i
      go true e (yes q) =
          let z : T (eqb (left_of (walked_by t rank (suc n)) (owner_at_lem n)) 0) = ((and_iff (ltb (owner_at_lem n) t.count) _).0 (subst T (sym e) tt)).1 in
          let y : left_of (walked_by t rank (suc n)) (owner_at_lem n) ≡ 0 = eqb→eq _ _ z in
          noting q (rw q at y) (rw (e, q) (get_or-set_same (worst_seen t rank n) i _ 0 (omega (arith, worst_length t rank n, r.few))))
      go true e (no q) = leaving (λ x. absurd (q x)) (rw e (get_or-set_other (worst_seen t rank n) (owner_at_lem n) i _ 0 (λ x. q (sym x))))
      go false e d = leaving (λ x y. left_open x y) (rw e refl)
        where
          left_open : owner_at_lem n ≡ i → left_of (walked_by t rank (suc n)) i ≡ 0 → ⊥
          left_open x y =
              subst T e ((and_iff (ltb (owner_at_lem n) t.count) (eqb (left_of (walked_by t rank (suc n)) (owner_at_lem n)) 0)).1
              (lt→ltb (owner_at_lem n) t.count (omega arith), eq→eqb (left_of (walked_by t rank (suc n)) (owner_at_lem n)) 0 (rw x y)))

  seen : (n : ℕ) → Clear t n → (i : ℕ) → i < t.count → Noted n i
  seen zero c i l =
      record {
        bound = λ j f d m. (let z : served_of S f i ≡ 0 = ap (λ (x : ℕ). served_of S x i) (le-zero m)
            ∙ (model_run S).start i l in absurd (omega (arith, d.0, (r.each i l).cost_pos)));
        attained = inl (none_noted t rank i);
      }
  seen (suc n) c i l = go (notes n i l) (seen n (λ u m. c u (le_step m)) i l)
    where
      now : (f : ℕ) → f ≤ suc n → ¬ (f ≤ n) → f ≡ suc n
      now f m p = omega arith

      go : Noting n i → Noted n i → Noted (suc n) i
      go (noting q z e) s = record {
        bound = λ j f d m. elim (dec_le f n) [
          | yes p ↦ omega (arith, e, s.bound j f d p)
          | no p ↦ omega (arith, e, now f m p, (finishes_now n c i j l (subst (DoneFirst (jobs S) (served_of S) i j) (now f m p) d)).2)
        ];
        attained = elim (dec_le (get_or (worst_seen t rank n) i 0) ((task t i).period - wait_of (walked_by t rank (suc n)) i)) [
          | yes p ↦ (let (j, d, x) = finished n c i q l z in inr (j, suc n, d, omega (arith, e)))
          | no p ↦ elim s.attained [ inl x ↦ absurd (omega arith) | inr (j, f, d, x) ↦ inr (j, f, d, omega (arith, e)) ]
        ];
      }
      go (leaving q e) s = record {
        bound = λ j f d m. elim (dec_le f n) [
          | yes p ↦ omega (arith, e, s.bound j f d p)
          | no p ↦ (let v = finishes_now n c i j l (subst (DoneFirst (jobs S) (served_of S) i j) (now f m p) d) in absurd (q v.0 v.1))
        ];
        attained = elim s.attained [ inl x ↦ inl (e ∙ x) | inr x ↦ inr (x.0, x.1, x.2, x.3 ∙ sym e) ];
      }

  module _ (met : Met (jobs S) (dues S) (served_of S)) where
    clear : Clear t (horizon t)
    clear u b h = let (from, l, over) = (over_iff S u).0 h in absurd (omega (arith, (met_iff (jobs S) (dues S) (served_of S) (model_run S)).0 met from u l))

    pub walk_worst : (i : ℕ) → i < t.count → Worst t rank i (get_or (worst_seen t rank (horizon t)) i 0)
    walk_worst i l = go noted_then.attained
      where
        noted_then : Noted (horizon t) i
        noted_then = seen (horizon t) clear i l

        go : (get_or (worst_seen t rank (horizon t)) i 0 ≡ 0)
            ⊎ ((j : ℕ) × (f : ℕ) × DoneFirst (jobs S) (served_of S) i j f × (f - release_of S i j ≡ get_or (worst_seen t rank (horizon t)) i 0))
            → Worst t rank i (get_or (worst_seen t rank (horizon t)) i 0)
        go (inr (j, f, d, e)) =
            worst_is S met i l (cycle_of t r rank) _ j f ((finishes_iff S i j f l).1 d) e
            (λ j f d m. noted_then.bound j f ((finishes_iff S i j f l).0 d) (omega (arith, horizon_is t r rank)))
        go (inl z) =
            let (f, d, a, b) = first_ends S met i l (cycle_of t r rank) in
            absurd (omega (arith, noted_then.bound 0 f ((finishes_iff S i 0 f l).0 d) (omega (arith, horizon_is t r rank))))

-- In our order they are the answer's.
pub walk_worsts : (t : Table) (r : Ranged t) → Met (jobs (tie_system t r)) (dues (tie_system t r)) (served_of (tie_system t r)) → Worsts t
    (worst_by t (horizon t))
walk_worsts t r met =
    record { size = worst_length t (tie_order t) (horizon t); worst = walk_worst t r (tie_order t) met; past = none_past t (tie_order t) (horizon t) }
