-- HOW MUCH COST A TASK CAN TAKE (section 3.11 of the specification): the number told passes,
-- and no larger one within the deadline does; where there is none to tell, why.
use Rattle.model.specs.Values.{Outcome}
use Rattle.values.specs.declared.Limit.{Limit}
use Rattle.std.specs.Prelude.{◌≡◌, refl, ◌⊎◌, List, [], ◌∷◌, ℕ, ◌+◌, min, ◌≤◌, ◌<◌, Ok, Err}
use Rattle.std.proofs.Common.{sym, ap, subst, ◌∙◌, inl, inr, arith}
use Rattle.std.proofs.Math.Decide.{dec_lt}
use borrow.Author.Tests.{le-ltb, lt-ltb}
use Rattle.values.specs.declared.Table.{Table}
use Rattle.values.specs.declared.Refusal.{Refusal}
use Rattle.values.specs.declared.Measure.{Measure}
use Rattle.values.specs.declared.Verdict.{Verdict}
use Rattle.values.specs.declared.Answer.{Answer}
use Rattle.model.specs.Values.{refusal, cost_said}
use Rattle.model.specs.Limits.{slot_limit}
use Rattle.model.specs.Tasks.{task, judged}
use Rattle.model.specs.Verdict.{verdict, Permitted}
use Rattle.model.specs.TableFile.{form_of, file_read, periodic_from}
use Rattle.model.specs.Report.{refusal_number}
use Rattle.model.specs.Largest.{with_cost, largest_cost, cost_told, cost_answer, cost_number, largest_exported}
use Rattle.wellformed.specs.WellFormed as wellformed
use Rattle.backlog.proofs.Largest.{well_with, largest_cost_lem}
use Rattle.tablefile.specs.Periodic.{periodic_read, periodic_tellable}
use Rattle.tablefile.specs.Admitted.{admitted}
use Rattle.telling.specs.Refusals.{admitted_or_told}
use Rattle.telling.specs.LargestCosts.{cost_case, cost_in_range, refusal_tellable, cost_apart}
use Rattle.promises.specs.Demand1.{some_answer}
use Rattle.promises.specs.Demand2.{answer_exactly}
use Rattle.promises.specs.FileNumbers.{read_file, refused_periodic}

-- The table's refusal comes first, and then 12 for a number that is none of its tasks', at that number.
pub cost_refused : (t : Table) (i budget : ℕ) (r : Refusal)
    → judged t ≡ Err r → cost_answer t i budget ≡ Err r
unfolding cost_answer
cost_refused t i budget r e = rw e

module _ (t : Table) (m : Measure) (well : judged t ≡ Ok m) (i budget : ℕ) where
  pub no_such_task : t.count ≤ i → cost_answer t i budget ≡ Err (refusal 12 i)
  unfolding cost_answer
  no_such_task l = rw (well, le-ltb i t.count l)

  -- Of a table that does not pass the answer says so, by the test's verdict and budget, and gives no number.
  pub cost_by_verdict : i < t.count → cost_answer t i budget ≡ cost_told t i budget (verdict t budget)
  unfolding cost_answer
  cost_by_verdict l = rw (well, lt-ltb i t.count l)

-- The number is at least the present cost and at most the deadline. With it the table is well-formed, and a check with the
-- same budget says passes; with a larger one up to the deadline no check does, with any budget.
pub record LargestRight (t : Table) (i budget c : ℕ) : Type 0 where
  pub at_least : (task t i).cost ≤ c
  pub at_most : c ≤ (task t i).deadline
  pub well_formed : (m : Measure) × (judged (with_cost t i c) ≡ Ok m)
  pub passes : (a : Answer) → Permitted (with_cost t i c) budget a → a.outcome ≡ Ok Verdict.Passes
  pub none_larger : (larger : ℕ) → c < larger → larger ≤ (task t i).deadline
      → (any : ℕ) (a : Answer) → Permitted (with_cost t i larger) any a → a.outcome ≡ Ok Verdict.Passes → ⊥

-- A number is told only of a task of a table that passes, and it is right.
pub cost_exactly : (t : Table) (i budget c : ℕ) → cost_answer t i budget ≡ Ok (Limit.At c)
    → (i < t.count) × (verdict t budget ≡ Verdict.Passes) × LargestRight t i budget c
cost_exactly t i budget c e =
    let (l, pass, (m, well), same) = cost_case t i budget c e in
    (l, pass, subst (LargestRight t i budget) same (right l pass m well))
  where
    tested_same : {v w : Verdict} → ◌≡◌ {A = Outcome} (Ok v) (Ok w) → v ≡ w
    tested_same e = cc

    right : i < t.count → verdict t budget ≡ Verdict.Passes → (m : Measure) → judged t ≡ Ok m
        → LargestRight t i budget (largest_cost t i budget)
    right l pass m well =
        let r = (wellformed.well_formed t m well).ranged in
        let (low, high, p, none) = largest_cost_lem t r i l budget pass in
        let changed : (n : ℕ) → (task t i).cost ≤ n → n ≤ (task t i).deadline → (k : Measure) × (judged (with_cost t i n) ≡ Ok k) =
        λ n x y. (_, well_with t r i l m well n x y) in
        record {
          at_least = low;
          at_most = high;
          well_formed = changed _ low high;
          passes = λ a h. let (k, w) = changed _ low high in (answer_exactly _ k w budget a h).outcome ∙ ap Ok p;
          none_larger = λ n x y any a h o. let (k, w) = changed n (omega arith) y in
              none n x y any (tested_same (sym (answer_exactly _ k w any a h).outcome ∙ o));
        }

-- It is told wherever there is one, and only one number is right.
pub cost_told_lem : (t : Table) (m : Measure) → judged t ≡ Ok m → (i budget : ℕ) → i < t.count
    → verdict t budget ≡ Verdict.Passes → cost_answer t i budget ≡ Ok (Limit.At (largest_cost t i budget))
cost_told_lem t m well i budget l pass = cost_by_verdict t m well i budget l ∙ rw pass

pub one_right : (t : Table) (i budget c d : ℕ) → LargestRight t i budget c → LargestRight t i budget d → c ≡ d
one_right t i budget c d a b = elim (dec_lt c d) [
  | yes l ↦ (let (x, h) = some_answer (with_cost t i d) budget in absurd (a.none_larger d l b.at_most budget x h (b.passes x h)))
  | no l ↦ elim (dec_lt d c) [
    | yes k ↦ (let (x, h) = some_answer (with_cost t i c) budget in absurd (b.none_larger c k a.at_most budget x h (a.passes x h)))
    | no k ↦ omega arith
  ]
]

-- In the specification's numbers: 0 with the cost where the table passes, and else the verdict's number.
abbrev Said : Table → ℕ → ℕ → Verdict → List ℕ
Said t i budget Verdict.Passes = 0 ∷ largest_cost t i budget ∷ []
Said t i budget Verdict.Overload = 1 ∷ []
Said t i budget Verdict.Undecided = 2 ∷ []
Said t i budget (Verdict.Late from to asked) = 3 ∷ []

pub cost_said_lem : (t : Table) (m : Measure) → judged t ≡ Ok m → (i budget : ℕ) → i < t.count
    → cost_said (cost_answer t i budget) ≡ Said t i budget (verdict t budget)
cost_said_lem t m well i budget l = ap cost_said (cost_by_verdict t m well i budget l) ∙ by (verdict t budget)
  where
    by : (v : Verdict) → cost_said (cost_told t i budget v) ≡ Said t i budget v
    by Verdict.Passes = refl
    by Verdict.Overload = refl
    by Verdict.Undecided = refl
    by (Verdict.Late from to asked) = refl

-- From C: a cost that is told is 1 to 60,000,
-- and a task number below 65,536 has every refusal told apart from it by 65,536 · number + place.
pub cost_fits : (t : Table) (i budget c : ℕ) → cost_answer t i budget ≡ Ok (Limit.At c) → (1 ≤ c) × (c ≤ slot_limit)
cost_fits = cost_in_range

pub cost_tellable : (t : Table) (i budget : ℕ) (r : Refusal)
    → i < 65536 → cost_answer t i budget ≡ Err r → (0 < r.number) × (r.place < 65536)
cost_tellable t i budget r l = refusal_tellable t i budget l r

-- A refused file is refused as by reading it, and one with a button by 11; of any other its table is answered for,
-- with the file's budget.
abbrev tell : List ℕ → ℕ → Table → ℕ
tell file i t = cost_number (cost_answer t (min i 65535) (form_of file).budget)

pub largest_refused_file : (file : List ℕ) (i : ℕ) (r : Refusal)
    → (periodic_from file).admission ≡ Err r → largest_exported file i ≡ refusal_number r
largest_refused_file file i =
    refused_periodic file (tell file i) (λ t r e. rw (cost_refused t (min i 65535) (form_of file).budget r e))

pub largest_exported_lem : (file : List ℕ) (i : ℕ) → (file_read file).admission ≡ Ok tt
    → largest_exported file i ≡ cost_number (cost_answer (file_read file).table (min i 65535) (file_read file).budget)
largest_exported_lem file i h = let (same, well) = admitted file h in read_file file (tell file i) h ∙ rw same refl

-- A number up to 60,003 is an answer; any other is the refusal of the file or of the task,
-- by a number above 0 and a place below 65,536.
abbrev pub Apart : ℕ → Type 0
Apart n = (n ≤ slot_limit + 3) ⊎ ((r : Refusal) × (n ≡ refusal_number r) × ((0 < r.number) × (r.place < 65536)))

pub largest_or_refusal : (file : List ℕ) (i : ℕ) → Apart (largest_exported file i)
largest_or_refusal file i = elim (admitted_or_told (periodic_from file).admission (periodic_tellable file)) [
  | inr (r, e, h) ↦ inr (r, largest_refused_file file i r e, h)
  | inl e ↦ rw (largest_exported_lem file i (periodic_read file e).0)
      (cost_apart (file_read file).table (min i 65535) (file_read file).budget (omega arith))
]
