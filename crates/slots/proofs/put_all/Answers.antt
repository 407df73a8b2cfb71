-- The loop has put the number for the set's members among the tasks that it has passed.
use Rattle.std.proofs.Common.{◌≡◌, sym, ap, ◌∙◌, ℕ, zero, suc, ◌≤◌, List, ◌++◌, take, drop, length, set, arith, take-append-drop}
use Rattle.std.proofs.lemmas.List.{get_or-take, length-take-le, set-append_left}
use Rattle.model.specs.Notation.{fill}
use Rattle.counting.specs.Fill.{fill_none, fill_put, fill_read, fill_done, fill_eq, fill_length}
use Rattle.slots.specs.Slot.{put_all}
use Rattle.slots.proofs.put_all.Goals.{then-is_member, else-is_member}
use Rattle.slots.proofs.put_all.Goals as goal

pub loop-i-init : goal.loop-i-init
loop-i-init c = fill_none _ _

pub loop-i-preserved : goal.loop-i-preserved
loop-i-preserved c =
    let v = c.loop-i.invariant in
    let own = fill_read _ _ _ 0 v in
    elim c.if-is_member.branch [
      | then-is_member w ↦ rw w.own-items-is (fill_put _ _ _ v (rw (← c.is_member.ensures, w.if-is_member.true)))
      | else-is_member w ↦
          rw w.own-items-is (fill_put _ _ _ v (rw (← c.is_member.ensures, w.if-is_member.false) own))
    ]

-- To fill the front of a list is to fill the list.
front : (n : ℕ) (f : ℕ → ℕ) (w : List ℕ) (k : ℕ) → k ≤ n → n ≤ length w → fill k f (take n w) ++ drop n w ≡ fill k f w
unfolding fill
front n f w zero a h = take-append-drop n w
front n f w (suc k) a h =
    sym (set-append_left (fill k f (take n w)) (drop n w) k (f k) (rw (fill_length, length-take-le n w h) (omega arith)))
    ∙ ap (λ (l : List ℕ). set l k (f k)) (front n f w k (omega arith) h)

pub returns : goal.returns
unfolding put_all
returns c =
    let n = c.args.n in
    let w = c.args.numbers.now in
    let few : n ≤ length w = omega (arith, c.requires) in
    let whole = length-take-le n w few in
    let all = fill_done _ _ _ n (omega (arith, whole)) (omega (arith, whole)) c.loop-i.invariant in
    ap (λ (l : List ℕ). l ++ drop n w) (all ∙ fill_eq n _ _ _ (λ i l. rw (get_or-take n w i 0 l))) ∙ front n _ w n (omega arith) few
