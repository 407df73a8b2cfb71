-- The slot in one pass over the tasks: what it hands back, and what holds before task i.
use Rattle.std.specs.Prelude.{◌≡◌, refl, ◌⊎◌, List, Option, Some, None, cond, ℕ, ◌+◌, ◌-◌, ◌^◌, ◌≤◌, ◌<◌, T, ltb, eqb, set}
use Rattle.std.proofs.Common.{sym, ap, ◌∙◌, arith, lt-ltb, le-ltb, eq-eqb, ne_eqb, below_more, ltb→lt, eqb→eq}
use Rattle.model.specs.Limits.{task_limit}
use Rattle.model.specs.Notation.{fill}
use Rattle.counting.specs.Count.{and_iff}
use Rattle.counting.specs.Fill.{fill_none, fill_put}
use Rattle.slots.specs.Slot.{at, is_late, wait_released, left_released}
use Rattle.slots.specs.Choice.{ranks, key_of, Best, best_none, best_skip, best_turn, choose_range}
use Rattle.slots.specs.Laws.{Slotted, store_fill}

-- Where there is no owner a late job is one of the n; where there is, none is, and the lists after it and its owner are those of the slot.
pub record Served (wait left period cost slack rank : List ℕ) (n : ℕ) (wait' left' : List ℕ) (s : Option ℕ) : Type 0 where
  pub found : s ≡ None → (i : ℕ) × (i < n) × T (is_late wait left slack n i)
  pub quiet : (owner : ℕ) → s ≡ Some owner → (i : ℕ) → i < n → T (is_late wait left slack n i) → ⊥
  pub slot : (owner : ℕ) → s ≡ Some owner → Slotted n (at wait) (at left) (at period) (at cost) (at slack) (at rank) wait left wait' left' owner

module _ (wait₀ left₀ period cost slack rank : List ℕ) (n : ℕ) where
  abbrev pub BestOf : ℕ → ℕ → ℕ → Type 0
  BestOf = Best (λ k. ltb 0 (left_released wait₀ left₀ cost k)) (λ k. wait_released wait₀ period k - at slack k) (at rank)

  -- What holds before task i.
  pub record Serving (i owner least rest : ℕ) (wait left : List ℕ) : Type 0 where
    pub waits : wait ≡ fill i (λ k. wait_released wait₀ period k - 1) wait₀
    pub lefts : left ≡ fill i (left_released wait₀ left₀ cost) left₀
    pub best : BestOf i owner least
    pub rests : (owner ≡ task_limit → ⊥) → rest ≡ left_released wait₀ left₀ cost owner - 1
    pub quiet : (k : ℕ) → k < i → T (is_late wait₀ left₀ slack n k) → ⊥

  pub serving_start : (rest : ℕ) → Serving 0 task_limit (2 ^ 64 - 1) rest wait₀ left₀
  serving_start rest =
      record {
        waits = fill_none _ _;
        lefts = fill_none _ _;
        best = best_none _ _ _;
        rests = λ h. absurd (h refl);
        quiet = λ k l. absurd (omega arith);
      }

  -- Task i is late.
  pub late_here : (i : ℕ) → i < n → 0 < at left₀ i → at wait₀ i ≡ at slack i → T (is_late wait₀ left₀ slack n i)
  late_here i l h e = rw (lt-ltb i n l, lt-ltb 0 (at left₀ i) h, eq-eqb (at wait₀ i) (at slack i) e) tt

  -- It is not, and neither were those before.
  quiet_more : (i : ℕ) → ((k : ℕ) → k < i → T (is_late wait₀ left₀ slack n k) → ⊥) → (0 < at left₀ i → at wait₀ i ≡ at slack i → ⊥) → (k : ℕ)
      → k < i + 1 → T (is_late wait₀ left₀ slack n k) → ⊥
  quiet_more i q h = below_more (λ k. T (is_late wait₀ left₀ slack n k) → ⊥) i q calm
    where
      calm : T (is_late wait₀ left₀ slack n i) → ⊥
      calm x =
          let y = ((and_iff (ltb i n) _).0 x).1 in
          let z = (and_iff (ltb 0 (at left₀ i)) _).0 y in
          h (ltb→lt 0 (at left₀ i) z.0) (eqb→eq (at wait₀ i) (at slack i) z.1)

  -- A task more, with its wait w and slots left l once its job is released.
  module _
      {i owner least rest : ℕ} {wait left : List ℕ} (v : Serving i owner least rest wait left) {w l : ℕ}
      (wait-is : w ≡ wait_released wait₀ period i) (left_is : l ≡ left_released wait₀ left₀ cost i) (calm : 0 < at left₀ i → at wait₀ i ≡ at slack i → ⊥)
    where
      next_waits : set wait i (w - 1) ≡ fill (i + 1) (λ k. wait_released wait₀ period k - 1) wait₀
      next_waits = fill_put i _ wait₀ v.waits (ap (λ (y : ℕ). y - 1) wait-is)

      next_lefts : set left i l ≡ fill (i + 1) (left_released wait₀ left₀ cost) left₀
      next_lefts = fill_put i _ left₀ v.lefts left_is

      pub serve_closed : l ≤ 0 → Serving (i + 1) owner least rest (set wait i (w - 1)) (set left i l)
      serve_closed h =
          record {
            waits = next_waits;
            lefts = next_lefts;
            best = best_skip _ _ _ i v.best (ap (ltb 0) (sym left_is) ∙ le-ltb 0 l h);
            rests = v.rests;
            quiet = quiet_more i v.quiet calm;
          }

      module _ {key : ℕ} (few : i < task_limit) (is : key ≡ key_of (ltb 0 l) (w - at slack i) (at rank i)) (small : w - at slack i < 2 ^ 32)
          (low : at rank i < ranks) where
        turn : (key < least → BestOf (i + 1) i key) × (least ≤ key → BestOf (i + 1) owner least)
        turn = best_turn _ _ _ i {key = key} few v.best (is ∙ rw (wait-is, left_is)) (record { due = rw wait-is at small; low = low })

        pub serve_first : key < least → Serving (i + 1) i key (l - 1) (set wait i (w - 1)) (set left i l)
        serve_first h =
            record {
              waits = next_waits;
              lefts = next_lefts;
              best = turn.0 h;
              rests = λ q. ap (λ (y : ℕ). y - 1) left_is;
              quiet = quiet_more i v.quiet calm;
            }

        pub serve_later : least ≤ key → Serving (i + 1) owner least rest (set wait i (w - 1)) (set left i l)
        serve_later h =
            record {
              waits = next_waits;
              lefts = next_lefts;
              best = turn.1 h;
              rests = v.rests;
              quiet = quiet_more i v.quiet calm;
            }

  -- A pass that met a late job.
  pub served_late : (i : ℕ) {wait' left' : List ℕ} → i < n → T (is_late wait₀ left₀ slack n i)
      → Served wait₀ left₀ period cost slack rank n wait' left' None
  served_late i l h =
      record {
        found = λ e. (i, l, h);
        quiet = λ owner e. cc;
        slot = λ owner e. cc;
      }

  -- The lists after the pass, with the owner's slot taken off.
  module _ {i owner least rest : ℕ} {wait left : List ℕ} (few : n ≤ task_limit) (done : i ≡ n) (w : Serving i owner least rest wait left) where
    left_end : cond (ltb owner task_limit) (set left owner rest) left ≡ fill n (λ k. left_released wait₀ left₀ cost k - cond (eqb owner k) 1 0) left₀
    left_end =
        rw (w.lefts, done)
        (store_fill n _ _ left₀ owner rest few range (λ l. w.rests (omega arith) ∙ rw (eq-eqb owner owner refl))
        (λ k l q. rw (ne_eqb owner k (λ e. q (sym e))) (omega arith)))
      where
        range : (owner ≡ task_limit) ⊎ (owner < n)
        range = rw (w.best.owned, done) (choose_range _ _ _ n)

    served_slot : {left' : List ℕ} → left' ≡ cond (ltb owner task_limit) (set left owner rest) left
        → Slotted n (at wait₀) (at left₀) (at period) (at cost) (at slack) (at rank) wait₀ left₀ wait left' owner
    served_slot e =
        record {
          owned = w.best.owned ∙ rw done;
          waits = w.waits ∙ rw done;
          lefts = e ∙ left_end;
        }

    pub served_quiet : {left' : List ℕ} → left' ≡ cond (ltb owner task_limit) (set left owner rest) left
        → Served wait₀ left₀ period cost slack rank n wait left' (Some owner)
    served_quiet e =
        record {
          found = λ q. cc;
          quiet = λ o q k l. w.quiet k (omega arith);
          slot = λ o q. let same : owner ≡ o = cc in rw same at (served_slot e);
        }
