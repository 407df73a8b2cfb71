-- What is said of a table that is refused or overloaded, and at the end of a walk, is what the model permits.
use Rattle.std.specs.Prelude.{◌≡◌, refl, List, ℕ, suc, ◌-◌, ◌≤◌, ◌<◌, min, T, Ok, Err}
use Rattle.std.proofs.Common.{◌∙◌, arith, lt-ltb, le-ltb}
use Rattle.std.proofs.Math.Decide.{dec_lt}
use Rattle.values.specs.declared.Table.{Table}
use Rattle.values.specs.declared.Measure.{Measure}
use Rattle.values.specs.declared.Refusal.{Refusal}
use Rattle.values.specs.declared.Verdict.{Verdict}
use Rattle.values.specs.declared.Answer.{Answer}
use Rattle.model.specs.Tasks.{round, load, horizon, judged}
use Rattle.model.specs.Demand.{demand, asks_too_much, late_at}
use Rattle.model.specs.Run.{tie_order}
use Rattle.model.specs.Idle.{first_idle}
use Rattle.model.specs.Verdict.{needed, late_start, verdict, Worsts, Answers, Permitted}
use Rattle.counting.specs.Count.{dec_t}
use Rattle.wellformed.specs.Ranges.{Ranged}
use Rattle.wellformed.specs.WellFormed.{WellFormed, well_formed}
use Rattle.backlog.specs.TooMuch.{too_much_iff}
use Rattle.backlog.specs.Needed.{needed_is, needed_le, none_within}
use Rattle.backlog.specs.LateStart.{start_is}
use Rattle.backlog.specs.Verdicts.{is_overload, is_undecided, is_late_lem, is_passed_lem}
use Rattle.backlog.proofs.PassedWorst.{met_of_passed}
use Rattle.backlog.specs.Walk.{Clear}
use Rattle.backlog.proofs.WalkWorst.{walk_worsts}
use Rattle.patterns.specs.FirstIdle.{first_idle_lem}
use Rattle.walks.specs.Tally.{Tally, idle_is}
use Rattle.exact.specs.Concluded.{refused_by, overloaded, concluded}

pub permitted_refused : (t : Table) (why : Refusal) → judged t ≡ Err why → (budget : ℕ) → Permitted t budget (refused_by why)
unfolding Permitted
permitted_refused t why e budget = rw e refl

module _ (t : Table) (m : Measure) (budget : ℕ) (well : judged t ≡ Ok m) where
  abbrev facts : WellFormed t m
  facts = well_formed t m well

  permitted : (a : Answer) (v : Verdict) → verdict t budget ≡ v → Answers t budget m a v → Permitted t budget a
  unfolding Permitted
  permitted a v e h = rw (well, e) h

  pub permitted_overload : m.round < m.load → Permitted t budget (overloaded m)
  permitted_overload heavy = let o = is_overload t budget (omega (arith, facts.round_is, facts.load_is)) in permitted _ Verdict.Overload o.0 (rw o.1)

  -- The end of a walk on a table without overload.
  module _ (light : m.load ≤ m.round) {n : ℕ} {worst : List ℕ} {idle : ℕ} (tally : Tally t n worst idle) where
    abbrev r : Ranged t
    r = facts.ranged

    fits : load t ≤ round t
    fits = omega (arith, facts.round_is, facts.load_is)

    -- The first idle instant, told.
    idle_told : horizon t ≤ n → idle ≡ first_idle t (tie_order t)
    idle_told h = tally.idles ∙ idle_is t n (omega (arith, (first_idle_lem t r (tie_order t) fits).1, facts.offset_le 0 r.some, facts.horizon_is))

    -- It reached the budget or the horizon and found nothing late.
    pub permitted_quiet : (from : ℕ) → Clear t (suc n) → n ≡ min budget m.horizon → Permitted t budget (concluded m from 0 n worst idle)
    permitted_quiet from c e = go (dec_lt n (horizon t)) (dec_t (late_at t (needed t)))
      where
        go : Dec (n < horizon t) → Dec (T (late_at t (needed t))) → Permitted t budget (concluded m from 0 n worst idle)
        go (yes p) d =
            let b : n ≡ budget = omega (arith, facts.horizon_is) in
            let u = is_undecided t budget fits (short d) in
            permitted _ Verdict.Undecided u.0 (rw (lt-ltb n m.horizon (omega (arith, facts.horizon_is)), u.1, b))
          where
            short : Dec (T (late_at t (needed t))) → budget < needed t
            short (yes h) = elim (dec_lt budget (needed t)) [ yes x ↦ x | no x ↦ absurd (c (needed t) (omega (arith, facts.horizon_is)) h) ]
            short (no h) = omega (arith, (none_within t h).0, facts.horizon_is)
        go (no p) (yes h) = absurd (c (needed t) (omega (arith, needed_le t, facts.horizon_is)) h)
        go (no p) (no h) =
            let b : n ≡ horizon t = omega (arith, facts.horizon_is) in
            let a : needed t ≡ horizon t = (none_within t h).0 in
            let u = is_passed_lem t budget fits (omega (arith, facts.horizon_is)) h in
            let q : Worsts t worst = rw (tally.worsts, b) (walk_worsts t r (met_of_passed t r budget u.0 _)) in
            permitted _ Verdict.Passes u.0 (worst, q, rw (le-ltb n m.horizon (omega (arith, facts.horizon_is)), u.1, a, ← idle_told (omega arith), ← b))

    -- It found, at a late deadline, the largest start that asks too much.
    pub permitted_late : (from asked : ℕ) → n ≤ min budget m.horizon → Clear t n → T (late_at t n) → from < n → asked ≡ demand t from n → n - from < asked
        → ((later : ℕ) → from < later → later < n → T (asks_too_much t later n) → ⊥) → Permitted t budget (concluded m from asked n worst idle)
    permitted_late from asked b clear h l e o none =
        let a : needed t ≡ n = needed_is t n (omega (arith, facts.horizon_is)) clear (λ x. h) in
        let u = is_late_lem t budget fits (omega arith) (rw a h) in
        let f : late_start t n ≡ from = start_is t n from ((too_much_iff t from n).1 (l, omega arith))
        (λ later x y. none later x ((too_much_iff t later n).0 y).0 y) in
        let v : verdict t budget ≡ Verdict.Late from n asked = u.0 ∙ rw (a, f, e) in
        permitted _ (Verdict.Late from n asked) v (rw (lt-ltb 0 asked (omega arith), u.1, a))
