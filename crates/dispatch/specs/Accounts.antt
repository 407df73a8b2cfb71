-- A slot counted.
use Rattle.std.specs.Prelude.{◌≡◌, refl, ◌⊎◌, List, cond, ℕ, ◌+◌, ◌≤◌, ◌<◌, ltb, eqb, get_or, set}
use Rattle.std.proofs.Common.{sym, ap, ◌∙◌, arith, lt-ltb, eq-eqb, ne_eqb}
use Rattle.model.specs.Limits.{task_limit}
use Rattle.model.specs.Notation.{bit, fill}
use Rattle.counting.specs.Fill.{fill_same}
use Rattle.slots.specs.Laws.{store_fill}

-- The list with one slot more for its owner, if that is a task.
unfoldable pub counted : List ℕ → ℕ → List ℕ
counted given owner = cond (ltb owner task_limit) (set given owner (get_or given owner 0 + 1)) given

pub counted_owner : (given : List ℕ) (owner slots : ℕ) → owner < task_limit → slots ≡ get_or given owner 0 + 1 → set given owner slots ≡ counted given owner
unfolding counted
counted_owner given owner slots l e = rw (lt-ltb owner task_limit l, e)

-- A slot that is counted, among the n tasks.
pub counted_fill : (n : ℕ) (given : List ℕ) (owner : ℕ) → n ≤ task_limit → (owner ≡ task_limit) ⊎ (owner < n)
    → counted given owner ≡ fill n (λ i. get_or given i 0 + bit (eqb owner i)) given
unfolding counted
counted_fill n given owner few r =
    ap (λ (l : List ℕ). cond (ltb owner task_limit) (set l owner (get_or given owner 0 + 1)) l) (sym (fill_same n given 0))
    ∙ store_fill n (λ i. get_or given i 0) (λ i. get_or given i 0 + bit (eqb owner i)) given owner (get_or given owner 0 + 1) few r
    (λ l. rw (eq-eqb owner owner refl)) (λ i l q. rw (ne_eqb owner i (λ e. q (sym e))) (omega arith))
