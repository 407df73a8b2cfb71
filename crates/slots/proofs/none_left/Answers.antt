-- All of the first n are 0, or one of them is not.
use Rattle.std.proofs.Common.{◌≡◌, sym, ◌∙◌, ℕ, ◌<◌, ◌≤◌, List, Bool, true, false, take, length, arith, rules}
use Rattle.std.specs.Prelude.{MatchBool}
use Rattle.std.specs.List.{AllWithin, HoldsAt}
use Rattle.std.proofs.lemmas.List.{get_or-take, length-take-le}
use Rattle.std.proofs.lemmas.Iterator.{cases_from_all, YieldsList-from_slice}
use Rattle.counting.specs.Count.{tests}
use Rattle.slots.specs.Slot.{none_left}
use Rattle.slots.specs.Laws.{one_left, all_given}
use Rattle.slots.proofs.none_left.Goals as goal

said : (left : List ℕ) (n : ℕ) → n ≤ length left → (b : Bool)
    → MatchBool b (AllWithin (λ x. x ≡ 0) (take n left) 0 (length (take n left))) ((k : ℕ) × (k < length (take n left)) × HoldsAt (λ x. 0 < x) (take n left) k)
    → b ≡ none_left left n
said left n few true h = sym (all_given left n (λ i l. sym (get_or-take n left i 0 l) ∙ h i 0 (omega arith) (omega (arith, length-take-le n left few))))
said left n few false (k, l, h) =
    let below : k < n = omega (arith, length-take-le n left few) in
    sym (one_left left n k below (rw (get_or-take n left k 0 below) at (h 0)))

pub returns : goal.returns
returns c =
    said c.args.left.now c.args.n (omega (arith, c.requires)) _
    (cases_from_all _ _ _ (λ x. x ≡ 0) (λ x. 0 < x) c.all.ensures.ran (YieldsList-from_slice (take c.args.n c.args.left.now) cc)
    (λ x q k. search (rules, tests)) (λ x q k. search (rules, tests)))
