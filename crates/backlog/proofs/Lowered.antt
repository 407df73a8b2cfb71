-- LOWER COSTS, NO LATER END (`lowered_worst`): with costs alone lowered no worst response grows, in any order of the tasks that both tables have,
-- whether they pass or not.
use Rattle.std.specs.Prelude.{◌≡◌, ℕ, suc, ◌+◌, ◌-◌, ◌*◌, ◌≤◌, ◌<◌, min}
use Rattle.std.proofs.Math.Path.{ap}
use Rattle.std.proofs.Common.{ap₂, ◌∙◌, mul-le-mul_left, mul-le-mul_right, arith}
use Rattle.std.proofs.Math.Nat.{mul-sub}
use Rattle.std.proofs.Math.Decide.{dec_le}
use Rattle.values.specs.declared.Table.{Table}
use Rattle.model.specs.Notation.{sum, largest}
use Rattle.model.specs.Limits.{task_limit}
use Rattle.model.specs.Tasks.{task, due}
use Rattle.model.specs.Run.{Order, Worst}
use Rattle.model.specs.Easing.{Lowered}
use Rattle.counting.specs.Sum.{sum_le}
use Rattle.counting.specs.Below.{below_eq}
use Rattle.counting.specs.Search.{largest_eq, least_le}
use Rattle.wellformed.specs.Ranges.{Ranged}
use Rattle.backlog.specs.Queue.{backlog_mono}
use Rattle.backlog.specs.Streams.{Jobs, Run, left, arrive, arrive_of}
use Rattle.backlog.specs.Left.{left_is}
use Rattle.backlog.specs.Finish.{DoneFirst, finish}
use Rattle.backlog.specs.Ever.{ends_ever}
use Rattle.backlog.specs.Choice.{standing}
use Rattle.backlog.specs.System.{System, spread}
use Rattle.backlog.proofs.System.{jobs}
use Rattle.backlog.proofs.ModelRun.{served_of, model_run}
use Rattle.backlog.proofs.RunSchedule.{finishes_iff}
use Rattle.backlog.proofs.TableSystem.{system_of}
use Rattle.backlog.proofs.Eased.{released_same}

-- Streams with the same jobs, of which each costs no more.
pub record Cheaper (J J' : Jobs) : Type 0 where
  pub same_n : J'.n ≡ J.n
  pub same_rel : (i j : ℕ) → i < J.n → J'.rel i j ≡ J.rel i j
  pub same_key : (i j : ℕ) → i < J.n → J'.key i j ≡ J.key i j
  pub lower_cost : (i : ℕ) → i < J.n → J'.cost i ≤ J.cost i

-- A common factor of two numbers is one of the smaller.
factor : (c a b : ℕ) → min (c * a) (c * b) ≡ c * min a b
factor c a b = elim (dec_le a b) [
  | yes h ↦ (let e : min a b ≡ a = omega arith in rw e (omega (arith, mul-le-mul_left c h)))
  | no h ↦ (let e : min a b ≡ b = omega arith in let g : b ≤ a = omega arith in rw e (omega (arith, mul-le-mul_left c g)))
]

-- Where k jobs count and r' have come instead of r, less cost makes no more work of it.
arrives_less : (c c' k r r' : ℕ) → c' ≤ c → min (c' * k) (c' * r') - min (c' * k) (c' * r) ≤ min (c * k) (c * r') - min (c * k) (c * r)
arrives_less c c' k r r' h =
    rw (factor c' k r', factor c' k r, factor c k r', factor c k r, ← mul-sub c', ← mul-sub c) (mul-le-mul_right (min k r' - min k r) h)

module _ (J J' : Jobs) (C : Cheaper J J') where
  -- No more class work arrives.
  arrive_falls : (κ t : ℕ) → arrive J' κ t ≤ arrive J κ t
  unfolding arrive
  arrive_falls κ t = omega (arith, ap (λ (x : ℕ). sum x (arrive_of J' κ t)) C.same_n, sum_le J.n (arrive_of J' κ t) (arrive_of J κ t) each)
    where
      each : (i : ℕ) → i < J.n → arrive_of J' κ t i ≤ arrive_of J κ t i
      each i l =
          let m : i < J'.n = omega (arith, C.same_n) in
          let rels = below_eq (J'.rel i) (J.rel i) (J'.rel_grows i m) (J.rel_grows i l) (λ j. C.same_rel i j l) in
          rw (below_eq (J'.key i) (J.key i) (J'.key_grows i m) (J.key_grows i l) (λ j. C.same_key i j l) (suc κ), rels (suc t), rels t)
          (arrives_less (J.cost i) (J'.cost i) _ _ _ (C.lower_cost i l))

  module _ (s s' : ℕ → ℕ → ℕ) (R : Run J s) (R' : Run J' s') where
    -- No more of it is left.
    left_falls : (κ t : ℕ) → left J' s' κ t ≤ left J s κ t
    left_falls κ t = omega (arith, left_is J s R κ t, left_is J' s' R' κ t, backlog_mono (arrive J' κ) (arrive J κ) (arrive_falls κ) t)

    -- So no job ends later.
    ends_earlier : (i j f f' : ℕ) → i < J.n → DoneFirst J s i j f → DoneFirst J' s' i j f' → f' ≤ f
    ends_earlier i j f f' l d d' =
        let m : i < J'.n = omega (arith, C.same_n) in
        let ((after, none), early) = (finish J s R i j l f).0 d in
        least_le _ f' f ((finish J' s' R' i j m f').0 d') (omega (arith, C.same_rel i j l), rw (C.same_key i j l) (omega (arith, left_falls (J.key i j) f)))

module _ (t t' : Table) (r : Ranged t) (r' : Ranged t') (e : Lowered t t') (rank rank' : Order) (same_rank : (i : ℕ) → i < t.count → rank' i ≡ rank i) where
  abbrev S : System
  S = system_of t r rank

  abbrev S' : System
  S' = system_of t' r' rank'

  -- Jobs are due as before, and keys as far apart.
  same_due : (i j : ℕ) → i < t.count → due (task t' i) j ≡ due (task t i) j
  same_due i j l = omega (arith, released_same _ _ (e.each i l) j, e.same_deadline i l)

  same_spread : spread S' ≡ spread S
  unfolding spread
  same_spread = ap (λ (x : ℕ). (x + 1) * task_limit) (ap (λ (n : ℕ). largest n rank') e.same_count ∙ largest_eq t.count rank' rank same_rank)

  cheaper : Cheaper (jobs S) (jobs S')
  cheaper = record {
    same_n = e.same_count;
    same_rel = λ i j l. released_same _ _ (e.each i l) j;
    same_key =
        λ i j l. ap₂ (λ (d x : ℕ). d * x + standing rank' i) (same_due i j l) same_spread
        ∙ ap (λ (x : ℕ). due (task t i) j * spread S + (x * task_limit + i)) (same_rank i l);
    lower_cost = λ i l. (e.each i l).lower_cost;
  }

  -- No job ends later, and so none has a larger response.
  pub lowered_worst : (i w w' : ℕ) → i < t.count → Worst t rank i w → Worst t' rank' i w' → w' ≤ w
  lowered_worst i w w' l b b' =
      let m : i < t'.count = omega (arith, e.same_count) in
      let (j, f', d', q) = b'.attained in
      let (f, d) = ends_ever (jobs S) (served_of S) (model_run S) i j l in
      let h = ends_earlier (jobs S) (jobs S') cheaper (served_of S) (served_of S') (model_run S) (model_run S') i j f f' l d
      ((finishes_iff S' i j f' m).0 d') in
      omega (arith, b.bound j f ((finishes_iff S i j f l).1 d), cheaper.same_rel i j l)
