-- WHERE A LEAP LANDS (`finished`): the queues stay as they are, but that a finished job leaves the one of open jobs.
use Rattle.std.specs.Prelude.{◌≡◌, List, false, ℕ, ◌+◌, ◌-◌, ◌≤◌, ◌<◌, T, set}
use Rattle.std.proofs.Common.{sym, ap, ◌∙◌, arith, length-set, get_or-set_same, get_or-set_other}
use Rattle.std.proofs.Math.Decide.{ℕ_discrete}
use Rattle.values.specs.declared.Table.{Table}
use Rattle.model.specs.Limits.{task_limit}
use Rattle.model.specs.Demand.{late_at}
use Rattle.model.specs.Run.{tie_order}
use Rattle.model.specs.Dispatcher.{wait_of, left_of}
use Rattle.wellformed.specs.Ranges.{Ranged}
use Rattle.backlog.specs.Taken.{closed_late_iff}
use Rattle.backlog.specs.Walk.{walked}
use Rattle.backlog.proofs.WalkLate.{late_iff}
use Rattle.slots.specs.Slot.{at}
use Rattle.leaps.specs.Leap.{slack, W, L, owner, Leapt, due_le}
use Rattle.leaps.specs.Queue.{Queue, alike, last_least, but_last}
use Rattle.leaps.specs.Entry.{entry}
use Rattle.leaps.proofs.Entries.{entry_same}
use Rattle.leaps.specs.Held.{Coming, Waiting, Held}

pub strict : (a b : ℕ) → (a ≡ b → ⊥) → a ≤ b → a < b
strict a b h l = omega arith

module _ (t : Table) (r : Ranged t) {n e : ℕ} (later : n < e) (leapt : Leapt t r n e) where
  abbrev o : ℕ
  o = owner t r n

  -- What is open at e was open at n.
  was_open : (k : ℕ) → k < t.count → 0 < left_of (walked t e) k → 0 < L t r n k
  was_open k l p =
      elim (ℕ_discrete o k) [
        | yes q ↦ (let z : left_of (walked t e) k + e ≡ L t r n k + n = rw q at (leapt.rest (omega arith)) in omega arith)
        | no q ↦ omega (arith, leapt.others k l q)
      ]

  -- The times of the entries stay.
  next_stays : (k : ℕ) → k < t.count → n + W t r n k ≡ e + wait_of (walked t e) k
  next_stays k l = omega (arith, leapt.wait k l)

  due_stays : (k : ℕ) → k < t.count → e ≤ n + (W t r n k - slack t k) → n + (W t r n k - slack t k) ≡ e + (wait_of (walked t e) k - slack t k)
  due_stays k l h = omega (arith, leapt.wait k l)

  -- No open job is at its deadline, where all deadlines lie behind e.
  not_yet : (k : ℕ) → k < t.count → e < n + (W t r n k - slack t k) → slack t k < wait_of (walked t e) k
  not_yet k l h = omega (arith, leapt.wait k l)

  -- One that is makes e late.
  pub late_there : (k : ℕ) → k < t.count → 0 < left_of (walked t e) k → e ≡ n + (W t r n k - slack t k) → T (late_at t e)
  late_there k l p d = (late_iff t r (tie_order t) e leapt.clear).0 (k, l, (closed_late_iff t (walked t e) false k).1 (l, p, omega (arith, leapt.wait k l)))

  module _ {releases ready left : List ℕ} {jobs : ℕ} (h : Held t n (W t r n) (L t r n) releases ready left jobs) where
    still_coming : Queue (Coming t e (wait_of (walked t e))) releases t.count
    still_coming =
        alike h.coming (λ x (i, l, q). (i, l, q ∙ ap (λ (u : ℕ). entry t u i) (next_stays i l)))
        (λ x (i, l, q). (i, l, q ∙ ap (λ (u : ℕ). entry t u i) (sym (next_stays i l))))

    -- The owner has v slots left.
    left_set : (v : ℕ) → o < t.count → v + e ≡ n + L t r n o → (k : ℕ) → k < t.count → at (set left o v) k ≡ left_of (walked t e) k
    left_set v b s k l = elim (ℕ_discrete o k) [
      | yes q ↦ rw (← q) (get_or-set_same left o v 0 (omega (arith, h.size, r.few)) ∙ omega (arith, leapt.rest b))
      | no q ↦ get_or-set_other left o k v 0 (λ x. q (sym x)) ∙ h.lefts k l ∙ sym (leapt.others k l q)
    ]

    -- A release comes before the owner's job is done: all that was open is open.
    pub preempted : (v : ℕ) → o < t.count → v + e ≡ n + L t r n o → 0 < v → e < n + (W t r n o - slack t o)
        → Held t e (wait_of (walked t e)) (left_of (walked t e)) releases ready (set left o v) jobs
    preempted v b s some d = record {
      coming = still_coming;
      waiting =
          alike h.waiting (λ x (k, l, p, q). (k, l, still k l p, q ∙ ap (λ (u : ℕ). entry t u k) (stays k l p)))
          (λ x (k, l, p, q). (k, l, was_open k l p, q ∙ ap (λ (u : ℕ). entry t u k) (sym (stays k l (was_open k l p)))));
      lefts = left_set v b s;
      size = length-set left o v ∙ h.size;
      ahead = λ k l p. not_yet k l (dues k l (was_open k l p));
    }
      where
        dues : (k : ℕ) → k < t.count → 0 < L t r n k → e < n + (W t r n k - slack t k)
        dues k l p = omega (arith, (due_le t r n k l p).1)

        stays : (k : ℕ) → k < t.count → 0 < L t r n k → n + (W t r n k - slack t k) ≡ e + (wait_of (walked t e) k - slack t k)
        stays k l p = due_stays k l (omega (arith, dues k l p))

        still : (k : ℕ) → k < t.count → 0 < L t r n k → 0 < left_of (walked t e) k
        still k l p = elim (ℕ_discrete o k) [ yes q ↦ rw (← q) (omega (arith, leapt.rest b)) | no q ↦ omega (arith, leapt.others k l q) ]

    -- The owner's job is done; no other is at its deadline then.
    pub finished :
        o < t.count → e ≡ n + L t r n o → 0 < jobs → at ready (jobs - 1) ≡ entry t (n + (W t r n o - slack t o)) o
        → ((k : ℕ) → k < t.count → (o ≡ k → ⊥) → 0 < L t r n k → e < n + (W t r n k - slack t k))
        → Held t e (wait_of (walked t e)) (left_of (walked t e)) releases ready (set left o 0) (jobs - 1)
    finished b d pos is dues = record {
      coming = still_coming;
      waiting = alike (but_last h.waiting pos) to back;
      lefts = left_set 0 b (omega arith);
      size = length-set left o 0 ∙ h.size;
      ahead = λ k l p. not_yet k l (dues k l (other k l p) (was_open k l p));
    }
      where
        other : (k : ℕ) → k < t.count → 0 < left_of (walked t e) k → o ≡ k → ⊥
        other k l p q = let z : left_of (walked t e) k + e ≡ L t r n k + n = rw q at (leapt.rest b) in absurd (omega (arith, d, ap (L t r n) q))

        to : (x : ℕ) → Waiting t n (W t r n) (L t r n) x × (at ready (jobs - 1) < x) → Waiting t e (wait_of (walked t e)) (left_of (walked t e)) x
        to x ((k, l, p, q), y) =
            let f : o ≡ k → ⊥ = λ z. absurd (omega (arith, is, q, y, ap (λ (j : ℕ). entry t (n + (W t r n j - slack t j)) j) z)) in
            (k, l, omega (arith, leapt.others k l f), q ∙ ap (λ (u : ℕ). entry t u k) (due_stays k l (omega (arith, dues k l f p))))

        back : (x : ℕ) → Waiting t e (wait_of (walked t e)) (left_of (walked t e)) x → Waiting t n (W t r n) (L t r n) x × (at ready (jobs - 1) < x)
        back x (k, l, p, q) =
            let f = other k l p in
            let m = was_open k l p in
            let g : x ≡ entry t (n + (W t r n k - slack t k)) k = q ∙ ap (λ (u : ℕ). entry t u k) (sym (due_stays k l (omega (arith, dues k l f m)))) in (
              (k, l, m, g),
              elim (ℕ_discrete (at ready (jobs - 1)) x) [
                | yes y ↦ absurd (f (entry_same t r _ _ o k b l (sym is ∙ y ∙ g)).0)
                | no y ↦ strict (at ready (jobs - 1)) x y (last_least h.waiting pos x (k, l, m, g))
              ],
            )

    -- No job is open, from n to e.
    pub rested : o ≡ task_limit → ((k : ℕ) → k < t.count → 0 < L t r n k → ⊥) → Held t e (wait_of (walked t e)) (left_of (walked t e)) releases ready left jobs
    rested none shut = record {
      coming = still_coming;
      waiting = alike h.waiting (λ x (k, l, p, q). absurd (shut k l p)) (λ x (k, l, p, q). absurd (shut k l (was_open k l p)));
      lefts = λ k l. h.lefts k l ∙ sym (leapt.others k l (λ q. absurd (omega (arith, r.few))));
      size = h.size;
      ahead = λ k l p. absurd (shut k l (was_open k l p));
    }
