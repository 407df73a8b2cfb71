-- A TURN OF THE WALK (`finishes`): from n, where all releases of now are made, it leaps to the next release or finish, or to where the walk is over.
use Rattle.std.specs.Prelude.{◌≡◌, refl, ◌⊎◌, List, Bool, true, false, cond, ◌&&◌, ℕ, suc, ◌+◌, ◌-◌, ◌/◌, ◌%◌, ◌≤◌, ◌<◌, T, leb, ltb, eqb, set}
use Rattle.std.proofs.Common.{sym, ap, subst, ◌∙◌, inl, inr, le_refl, add-one, arith, lt-ltb, le-ltb, le-leb, eq-eqb, ne_eqb, lt→ltb, ltb→lt, eqb→eq}
use Rattle.std.proofs.Math.Decide.{ℕ_discrete, dec_lt, dec_le}
use Rattle.std.proofs.lemmas.Bool.{lt-leb}
use Rattle.values.specs.declared.Table.{Table}
use Rattle.model.specs.Limits.{task_limit, slot_limit}
use Rattle.model.specs.Tasks.{task, round, load}
use Rattle.model.specs.Demand.{late_at}
use Rattle.model.specs.Run.{tie_order}
use Rattle.model.specs.Dispatcher.{wait_of, left_of}
use Rattle.counting.specs.Count.{and_iff, eq→eqb}
use Rattle.counting.specs.Search.{below_suc}
use Rattle.wellformed.specs.Ranges.{Ranged}
use Rattle.backlog.specs.Choice.{standing, Ahead, Somebody, chosen_same}
use Rattle.backlog.specs.Taken.{closed_late_iff, chosen, released_le, kept_open, known}
use Rattle.backlog.proofs.Stepping.{sound}
use Rattle.backlog.specs.Walk.{quiet, walked, Clear}
use Rattle.backlog.proofs.WalkLate.{late_iff}
use Rattle.backlog.specs.WalkWorst.{noted}
use Rattle.slots.specs.Slot.{at}
use Rattle.walks.specs.Tally.{Tally, idle_by, idle_then, idle_same}
use Rattle.leaps.specs.Entry.{places, span, entry}
use Rattle.leaps.proofs.Entries.{entry_task, entry_time, entry_same, entry_order, entry_le}
use Rattle.leaps.specs.Queue.{last_least, but_last}
use Rattle.leaps.specs.Leap.{slack, W, L, owner, Within, Leapt, leap, due_le}
use Rattle.leaps.specs.Idling.{idle_busy, idle_done, idle_rest}
use Rattle.leaps.specs.Held.{Held}
use Rattle.leaps.proofs.Held.{next_of}
use Rattle.leaps.proofs.Land.{strict, late_there, preempted, finished, rested}
use Rattle.leaps.specs.Landed.{done_over, done_late, going_at, over_at, done_at, rested_at, next_late}
use Rattle.leaps.specs.Turn.{Landing}

-- Where no open job is at its deadline at n, n is not late.
pub calm_clear : (t : Table) → Ranged t → {n : ℕ} → Clear t n
    → ((i : ℕ) → i < t.count → 0 < left_of (walked t n) i → slack t i < wait_of (walked t n) i) → Clear t (suc n)
calm_clear t r {n} c ahead = below_suc (λ u. T (late_at t u) → ⊥) n c never
  where
    never : T (late_at t n) → ⊥
    never h =
        let (i, l, x) = (late_iff t r (tie_order t) n c).1 h in
        let (m, p, q) = (closed_late_iff t (walked t n) false i).0 x in
        omega (arith, ahead i l p)

module _
    (t : Table) (r : Ranged t) (light : load t ≤ round t) {n end soon : ℕ} {releases ready left worst : List ℕ} {jobs idle : ℕ}
    (clear : Clear t (suc n)) (h : Held t n (W t r n) (L t r n) releases ready left jobs)
    (w : Tally t n worst idle) (soon-is : soon ≡ at releases (t.count - 1) / span) (before : n ≤ end)
  where
    -- The next release is after now, and no release is before it.
    soon_of : (k : ℕ) × (k < t.count) × (soon ≡ n + W t r n k) × (at releases (t.count - 1) ≡ entry t (n + W t r n k) k)
    soon_of =
        let (l, e) = next_of t r h in
        (at releases (t.count - 1) % places, l, soon-is ∙ ap (λ (x : ℕ). x / span) e ∙ entry_time t r _ _ l, e)

    soon_le : (i : ℕ) → i < t.count → soon ≤ n + W t r n i
    soon_le i l =
        let (k, m, e, f) = soon_of in
        omega (arith, entry_le t r _ _ k i m l (rw f at (last_least h.coming r.some (entry t (n + W t r n i) i) (i, l, refl))))

    wait_pos : (i : ℕ) → i < t.count → 0 < W t r n i
    wait_pos i l = elim (ℕ_discrete (wait_of (walked t n) i) 0) [
      | yes e ↦ rw (eq-eqb (wait_of (walked t n) i) 0 e) (r.each i l).period_pos
      | no e ↦ rw (ne_eqb (wait_of (walked t n) i) 0 e) (omega arith)
    ]

    soon_gt : n < soon
    soon_gt = let (k, m, e, f) = soon_of in omega (arith, wait_pos k m)

    -- What is noted after a leap.
    noted_at : {e idle' : ℕ} {worst' : List ℕ} (x : Leapt t r n e)
        → worst' ≡ cond (ltb (owner t r n) t.count && eqb (left_of (walked t e) (owner t r n)) 0)
        (noted worst (owner t r n) ((task t (owner t r n)).period - wait_of (walked t e) (owner t r n))) worst
        → idle' ≡ idle_by t e → Tally t e worst' idle'
    noted_at x f g = record { worsts = f ∙ rw w.worsts (sym x.worst); idles = g }

    -- The end is now.
    stays : (first : ℕ) → end ≡ n → first ≡ idle → Landing t n end releases ready left worst jobs (over_at end first false)
    stays first e f = record {
      upto = le_refl end;
      clear = λ u m. clear u (omega arith);
      tally = rw (e, f) w;
      goes = λ e. absurd (subst T e tt);
      late = λ g. absurd (subst T (sym g) tt);
      ends = λ x g. (refl, rw e clear);
    }

    -- No job is open.
    module _ (none : jobs ≡ 0) where
      shut : (k : ℕ) → k < t.count → 0 < L t r n k → ⊥
      shut k l p = let (a, m, e) = h.waiting.found _ (k, l, p, refl) in omega arith

      nobody : owner t r n ≡ task_limit
      nobody = elim (chosen t (tie_order t) (walked t n) false r.few) [ inl c ↦ c.none | inr c ↦ absurd (shut (owner t r n) c.bound (lt_of c.opened)) ]
        where
          lt_of : T (ltb 0 (L t r n (owner t r n))) → 0 < L t r n (owner t r n)
          lt_of x = ltb→lt 0 (L t r n (owner t r n)) x

      within_rest : (e : ℕ) → e ≤ soon → Within t r n e
      within_rest e l =
          record {
            waits = λ i m. omega (arith, soon_le i m);
            slots = λ m. absurd (omega (arith, nobody, r.few));
            due = λ m. absurd (omega (arith, nobody, r.few));
          }

      -- The first idle instant is the next one, if none was before.
      module _ (e : ℕ) (a : n < e) (l : e ≤ soon) where
        rest_leap : Leapt t r n e
        rest_leap = leap t r n clear e a (within_rest e l)

        rest_tally : Tally t e worst (cond (ltb 0 idle) idle (n + 1))
        rest_tally =
            noted_at rest_leap (rw (le-ltb (owner t r n) t.count (omega (arith, nobody, r.few))))
            (rw (w.idles, add-one) (sym (idle_rest t r light clear e a (within_rest e l) shut nobody)))

        rest_held : Held t e (wait_of (walked t e)) (left_of (walked t e)) releases ready left jobs
        rest_held = rested t r a rest_leap h nobody shut

      rest_on : soon < end → Landing t n end releases ready left worst jobs (going_at soon (cond (ltb 0 idle) idle (n + 1)))
      rest_on l = record {
        upto = omega arith;
        clear = (rest_leap soon soon_gt (le_refl soon)).clear;
        tally = rest_tally soon soon_gt (le_refl soon);
        goes = λ e. (soon_gt, rest_held soon soon_gt (le_refl soon));
        late = λ g. absurd (subst T (sym g) tt);
        ends = λ e. absurd (subst T (sym e) tt);
      }

      rest_end : n < end → end ≤ soon → Landing t n end releases ready left worst jobs (over_at end (cond (ltb 0 idle) idle (n + 1)) false)
      rest_end a l = record {
        upto = le_refl end;
        clear = (rest_leap end a l).clear;
        tally = rest_tally end a l;
        goes = λ e. absurd (subst T e tt);
        late = λ g. absurd (subst T (sym g) tt);
        ends = λ e g. (refl, calm_clear t r (rest_leap end a l).clear (rest_held end a l).ahead);
      }

      pub rests : Landing t n end releases ready left worst jobs (rested_at n soon end idle)
      rests = elim (dec_lt soon end) [
        | yes l ↦ rw (lt-ltb soon end l, lt-ltb n end (omega (arith, soon_gt))) (rest_on l)
        | no l ↦ elim (dec_lt n end) [
          | yes a ↦ rw (le-ltb soon end (omega arith), lt-ltb n end a) (rest_end a (omega arith))
          | no a ↦ rw (le-ltb soon end (omega arith), le-ltb n end (omega arith)) (stays _ (omega arith) (idle_same idle))
        ]
      ]

    -- Some job is open: the owner's is the last in its queue.
    module _ (busy : 0 < jobs) where
      abbrev key : ℕ
      key = at ready (jobs - 1)

      abbrev o : ℕ
      o = owner t r n

      key_of : (key % places < t.count) × (0 < L t r n (key % places)) × (key ≡ entry t (n + (W t r n (key % places) - slack t (key % places))) (key % places))
      key_of =
          let (i, l, p, e) = h.waiting.sound (jobs - 1) (omega arith) in
          let f : key % places ≡ i = ap (λ (x : ℕ). x % places) e ∙ entry_task t r _ i l in
          rw f (l, p, e)

      pub owner_is : key % places ≡ o
      owner_is =
          chosen_same _ _ _ _ (tie_order t) t.count (key % places) o r.few (λ i l p. p) (λ i l p. p) (λ i k l m p q x. x) (inr first)
          (chosen t (tie_order t) (walked t n) false r.few)
        where
          ahead : (d e i k : ℕ) → i < t.count → k < t.count → entry t (n + d) i ≤ entry t (n + e) k
              → Ahead d (standing (tie_order t) i) e (standing (tie_order t) k)
          ahead d e i k l m x = elim (entry_order t r (n + d) (n + e) i k l m x) [ inl p ↦ inl (omega arith) | inr p ↦ inr (omega (arith, p.0), p.1) ]

          first : Somebody (λ k. ltb 0 (L t r n k)) (λ k. W t r n k - slack t k) (tie_order t) t.count (key % places)
          first =
              let (l, p, e) = key_of in
              record {
                bound = l;
                opened = lt→ltb 0 (L t r n (key % places)) p;
                ahead =
                    λ k m q. ahead _ _ (key % places) k l m (omega (
                      arith,
                      e,
                      last_least h.waiting busy (entry t (n + (W t r n k - slack t k)) k)
                          (k, m, ltb→lt 0 (L t r n k) q, refl),
                    ));
              }

      pub bound : o < t.count
      bound = omega (arith, owner_is, key_of.0)

      opened : 0 < L t r n o
      opened = subst (λ (k : ℕ). 0 < L t r n k) owner_is key_of.1

      key_is : key ≡ entry t (n + (W t r n o - slack t o)) o
      key_is = key_of.2 ∙ ap (λ (k : ℕ). entry t (n + (W t r n k - slack t k)) k) owner_is

      -- Its deadline and its end.
      pub due_is : key / span ≡ n + (W t r n o - slack t o)
      due_is = ap (λ (x : ℕ). x / span) key_is ∙ entry_time t r _ o bound

      pub left_is : at left (key % places) ≡ L t r n o
      left_is = ap (at left) owner_is ∙ h.lefts o bound

      pub left_small : at left (key % places) ≤ slot_limit
      left_small =
          omega (
            arith,
            left_is,
            released_le t (walked t n) false (sound t r (tie_order t) quiet n).belongs o bound,
            (r.each o bound).cost_le,
            (r.each o bound).deadline_le,
            (r.each o bound).period_le,
          )

      due_gt : n < n + (W t r n o - slack t o)
      due_gt = omega (arith, h.ahead o bound opened)

      -- A job is due at most D after now.
      due_most : W t r n o - slack t o ≤ (task t o).deadline
      due_most = omega (arith, waits, (r.each o bound).deadline_le)
        where
          waits : W t r n o ≤ (task t o).period
          waits = elim (ℕ_discrete (wait_of (walked t n) o) 0) [
            | yes e ↦ rw (eq-eqb (wait_of (walked t n) o) 0 e) (le_refl _)
            | no e ↦
                rw (ne_eqb (wait_of (walked t n) o) 0 e) (omega (
                  arith,
                  (known t (walked t n) (sound t r (tie_order t) quiet n).belongs o bound).open_to
                      (kept_open t (walked t n) false o bound e opened).0,
                ))
          ]

      within_busy : (e : ℕ) → e ≤ soon → e ≤ n + L t r n o → e ≤ n + (W t r n o - slack t o) → Within t r n e
      within_busy e a b c = record { waits = λ i m. omega (arith, soon_le i m); slots = λ m. b; due = λ m. c }

      -- What is noted where the owner's job is not done at e.
      busy_tally : (e : ℕ) → (a : n < e) (b : Within t r n e) → e < n + L t r n o → Tally t e worst idle
      busy_tally e a b s =
          let x = leap t r n clear e a b in
          noted_at x (rw (lt-ltb o t.count bound, ne_eqb (left_of (walked t e) o) 0 (λ z. absurd (omega (arith, x.rest bound)))))
          (w.idles ∙ sym (idle_busy t r light clear e a b bound s))

      -- Another open job has an entry before the last, and the one before the last is another's.
      more : (k : ℕ) → k < t.count → (o ≡ k → ⊥) → 0 < L t r n k → (key < entry t (n + (W t r n k - slack t k)) k) × (0 < jobs - 1)
      more k m q p =
          let mine = entry t (n + (W t r n k - slack t k)) k in
          let larger : key < mine = strict key mine (λ e. q (entry_same t r _ _ o k bound m (sym key_is ∙ e)).0)
          (last_least h.waiting busy mine (k, m, p, refl)) in
          let (a, b, e) = (but_last h.waiting busy).found mine ((k, m, p, refl), larger) in
          (larger, omega arith)

      abbrev next : ℕ
      next = at ready (jobs - 1 - 1)

      next_of_ready : 0 < jobs - 1 → (k : ℕ) × (k < t.count) × (0 < L t r n k) × (next ≡ entry t (n + (W t r n k - slack t k)) k) × (o ≡ k → ⊥)
      next_of_ready m =
          let (k, q, p, e) = h.waiting.sound (jobs - 1 - 1) (omega arith) in (
            k,
            q,
            p,
            e,
            λ z. absurd (omega (
              arith,
              h.waiting.falls (jobs - 1 - 1) (jobs - 1) (omega arith) (omega arith),
              key_is,
              e,
              ap (λ (j : ℕ). entry t (n + (W t r n j - slack t j)) j) z,
            )),
          )

      -- So the owner's job is the only open one exactly if the queue has no other entry.
      only_one : ((k : ℕ) → k < t.count → (o ≡ k → ⊥) → 0 < L t r n k → ⊥) → T (eqb (jobs - 1) 0)
      only_one none =
          elim (dec_lt 0 (jobs - 1)) [ yes m ↦ (let (k, q, p, e, z) = next_of_ready m in absurd (none k q z p)) | no m ↦ eq→eqb (jobs - 1) 0 (omega arith) ]

      module _ {i due done : ℕ} (task_as : i ≡ key % places) (due-as : due ≡ key / span) (done-as : done ≡ n + at left i) where
        task_is : i ≡ o
        task_is = task_as ∙ owner_is

        due_at : due ≡ n + (W t r n o - slack t o)
        due_at = due-as ∙ due_is

        done_at_lem : done ≡ n + L t r n o
        done_at_lem = done-as ∙ ap (λ (x : ℕ). n + at left x) task_as ∙ ap (λ (x : ℕ). n + x) left_is

        pub spare_le : due - done ≤ (task t i).deadline
        spare_le = rw task_is (omega (arith, due_at, done_at_lem, due_most))

        -- A release comes first.
        pub preempt : soon < done → soon < due → soon ≤ end → Landing t n end releases ready (set left i (done - soon)) worst jobs (going_at soon idle)
        preempt a b c =
            let y = within_busy soon (le_refl soon) (omega (arith, done_at_lem)) (omega (arith, due_at)) in
            let x = leap t r n clear soon soon_gt y in
            record {
              upto = c;
              clear = x.clear;
              tally = busy_tally soon soon_gt y (omega (arith, done_at_lem));
              goes = λ e. (
                soon_gt,
                rw task_is (preempted t r soon_gt x h (done - soon) bound (omega (arith, done_at_lem)) (omega arith)
                    (omega (arith, due_at))),
              );
              late = λ g. absurd (subst T (sym g) tt);
              ends = λ e. absurd (subst T (sym e) tt);
            }

        -- The deadline comes first.
        pub stop_late : due < done → due ≤ soon → due ≤ end → Landing t n end releases ready left worst jobs (over_at due idle true)
        stop_late a b c =
            let l : n < due = omega (arith, due_at, due_gt) in
            let y = within_busy due b (omega (arith, done_at_lem)) (omega (arith, due_at)) in
            let x = leap t r n clear due l y in
            record {
              upto = c;
              clear = x.clear;
              tally = busy_tally due l y (omega (arith, done_at_lem));
              goes = λ e. absurd (subst T e tt);
              late = λ g. late_there t r l x o bound (omega (arith, x.rest bound, done_at_lem)) due_at;
              ends = λ e g. absurd (subst T g tt);
            }

        -- The end comes first.
        pub stop_end : end < done → end ≤ soon → end < due → Landing t n end releases ready left worst jobs (over_at end idle false)
        stop_end a b c = go (dec_lt n end)
          where
            go : Dec (n < end) → Landing t n end releases ready left worst jobs (over_at end idle false)
            go (no l) = stays idle (omega arith) refl
            go (yes l) =
                let y = within_busy end b (omega (arith, done_at_lem)) (omega (arith, due_at)) in
                let x = leap t r n clear end l y in
                record {
                  upto = le_refl end;
                  clear = x.clear;
                  tally = busy_tally end l y (omega (arith, done_at_lem));
                  goes = λ e. absurd (subst T e tt);
                  late = λ g. absurd (subst T (sym g) tt);
                  ends =
                      λ e g. (
                        refl,
                        calm_clear t r x.clear
                            (preempted t r l x h (done - end) bound (omega (arith, done_at_lem)) (omega arith) (omega (arith, due_at))).ahead,
                      );
                }

        pub stops : ((due < done) × (due ≤ soon)) ⊎ ((end < done) × (end ≤ soon) × (end < due))
            → Landing t n end releases ready left worst jobs (cond (leb due end) (over_at due idle true) (over_at end idle false))
        stops (inl (a, b)) = elim (dec_le due end) [
          | yes c ↦ rw (le-leb due end c) (stop_late a b c)
          | no c ↦ rw (lt-leb due end (omega arith)) (stop_end (omega arith) (omega arith) (omega arith))
        ]
        stops (inr (a, b, c)) = rw (lt-leb due end c) (stop_end a b c)

        -- The job is done first.
        module _ (a : done ≤ soon) (b : done ≤ due) (c : done ≤ end) where
          l : n < done
          l = omega (arith, done_at_lem, opened)

          b' : Within t r n done
          b' = within_busy done a (omega (arith, done_at_lem)) (omega (arith, due_at))

          x : Leapt t r n done
          x = leap t r n clear done l b'

          finish_tally : Tally t done (noted worst i ((task t i).deadline - (due - done))) (idle_then idle (eqb (jobs - 1) 0) done)
          finish_tally =
              noted_at x
              (rw (lt-ltb o t.count bound, eq-eqb (left_of (walked t done) o) 0 (omega (arith, x.rest bound, done_at_lem)), task_is)
              (ap (noted worst o) response))
              (rw w.idles (sym (idle_done t r light clear done l b' bound done_at_lem (eqb (jobs - 1) 0)
              (λ z k m q p. omega (arith, eqb→eq (jobs - 1) 0 z, (more k m q p).1)) only_one)))
            where
              response : (task t o).deadline - (due - done) ≡ (task t o).period - wait_of (walked t done) o
              response = omega (arith, x.wait o bound, due_at, done_at_lem, h.ahead o bound opened, (r.each o bound).deadline_le)

          finish_held : ((k : ℕ) → k < t.count → (o ≡ k → ⊥) → 0 < L t r n k → done < n + (W t r n k - slack t k))
              → Held t done (wait_of (walked t done)) (left_of (walked t done)) releases ready (set left i 0) (jobs - 1)
          finish_held calm = rw task_is (finished t r l x h bound done_at_lem busy key_is calm)

          pub finish_early : done < due → Landing t n end releases ready (set left i 0) (noted worst i ((task t i).deadline - (due - done))) (jobs - 1)
              (done_at done (jobs - 1) idle false)
          finish_early d = record {
            upto = c;
            clear = x.clear;
            tally = finish_tally;
            goes = λ e. (l, finish_held (λ k m q p. omega (arith, due_at, (due_le t r n k m p).1)));
            late = λ g. absurd (subst T (sym g) tt);
            ends = λ e. absurd (subst T (sym e) tt);
          }

          -- It is done at its deadline: another job may be late then, and the next in the queue tells.
          module _ (edge : done ≡ due) where
            edge_late : 0 < jobs - 1 → next / span ≡ done → T (late_at t done)
            edge_late m e =
                let (k, q, p, f, z) = next_of_ready m in
                late_there t r l x k q (omega (arith, x.others k q z)) (sym e ∙ ap (λ (y : ℕ). y / span) f ∙ entry_time t r _ k q)

            edge_calm : (0 < jobs - 1 → next / span ≡ done → ⊥) → (k : ℕ) → k < t.count → (o ≡ k → ⊥) → 0 < L t r n k → done < n + (W t r n k - slack t k)
            edge_calm never k m q p = go (next_of_ready (more k m q p).1)
              where
                go : (j : ℕ) × (j < t.count) × (0 < L t r n j) × (next ≡ entry t (n + (W t r n j - slack t j)) j) × (o ≡ j → ⊥)
                    → done < n + (W t r n k - slack t k)
                go (j, b, s, e, z) =
                    let f : next / span ≡ n + (W t r n j - slack t j) = ap (λ (y : ℕ). y / span) e ∙ entry_time t r _ j b in
                    let g : n + (W t r n j - slack t j) ≡ done → ⊥ = λ y. never (more k m q p).1 (f ∙ y) in
                    let first = last_least (but_last h.waiting busy) (more k m q p).1 (entry t (n + (W t r n k - slack t k)) k)
                    ((k, m, p, refl), (more k m q p).0) in
                    later (n + (W t r n j - slack t j)) (n + (W t r n k - slack t k)) (omega (arith, due_at, (due_le t r n j b s).1)) g
                    (entry_le t r _ _ j k b m (rw e at first))
                  where
                    later : (y z : ℕ) → done ≤ y → (y ≡ done → ⊥) → y ≤ z → done < z
                    later y z a b c = omega arith

            pub finish_edge : (b : Bool) → b ≡ (ltb 0 (jobs - 1) && eqb (next / span) done)
                → Landing t n end releases ready (set left i 0) (noted worst i ((task t i).deadline - (due - done))) (jobs - 1) (done_at done (jobs - 1) idle b)
            finish_edge b e = record {
              upto = c;
              clear = x.clear;
              tally = finish_tally;
              goes =
                  λ f. (
                    l,
                    finish_held (edge_calm (λ m g. subst T (sym e ∙ (sym (done_over b) ∙ f)) ((and_iff (ltb 0 (jobs - 1)) _).1
                        (lt→ltb 0 (jobs - 1) m, eq→eqb (next / span) done g)))),
                  );
              late =
                  λ f. let y = (and_iff (ltb 0 (jobs - 1)) (eqb (next / span) done)).0 (subst T (sym f ∙ done_late b ∙ e) tt) in edge_late
                  (ltb→lt 0 (jobs - 1) y.0) (eqb→eq (next / span) done y.1);
              ends = λ f g. absurd (subst T (sym f ∙ done_over b ∙ sym (done_late b) ∙ g) tt);
            }

          pub finishes : Landing t n end releases ready (set left i 0) (noted worst i ((task t i).deadline - (due - done))) (jobs - 1)
              (done_at done (jobs - 1) idle (next_late ready (jobs - 1) due done))
          finishes = elim (dec_lt done due) [
            | yes d ↦ rw (lt-ltb done due d) (finish_early d)
            | no d ↦ rw (le-ltb done due (omega arith)) (finish_edge (omega arith) _ refl)
          ]
