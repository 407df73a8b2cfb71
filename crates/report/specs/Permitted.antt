-- What a permitted answer tells: a refusal of which number and place can be told, or a verdict whose report fits a report buffer.
use Rattle.model.specs.Values.{Judgement, Outcome}
use Rattle.std.specs.Prelude.{◌≡◌, refl, Bool, List, ℕ, ◌^◌, ◌≤◌, ◌<◌, length, get_or, T, Ok, Err}
use Rattle.std.proofs.Common.{ap, subst, arith}
use Rattle.std.proofs.lemmas.List.{get_or-replicate}
use Rattle.values.specs.declared.Table.{Table}
use Rattle.values.specs.declared.Measure.{Measure}
use Rattle.values.specs.declared.Verdict.{Verdict}
use Rattle.values.specs.declared.Answer.{Answer}
use Rattle.model.specs.Limits.{task_limit, report_bytes}
use Rattle.model.specs.Tasks.{round, load, horizon, judged}
use Rattle.model.specs.Run.{tie_order}
use Rattle.model.specs.Idle.{idle_at, first_idle}
use Rattle.model.specs.Verdict.{needed, late_start, verdict, settled_by, Worsts, brief, Answers, PermittedBy, Permitted}
use Rattle.model.specs.Report.{report_of}
use Rattle.model.specs.Demand.{late_at}
use Rattle.counting.specs.Search.{first_le}
use Rattle.wellformed.specs.Round.{load_le}
use Rattle.wellformed.specs.Refused.{Tellable}
use Rattle.wellformed.specs.WellFormed.{WellFormed, well_formed}
use Rattle.wellformed.specs.Demand.{demand_le}
use Rattle.backlog.specs.TooMuch.{too_much_iff}
use Rattle.backlog.specs.Needed.{needed_le}
use Rattle.backlog.specs.LateStart.{start_asks}
use Rattle.backlog.specs.Verdicts.{late_verdict, Case, overload, undecided, late, passed, the_case}
use Rattle.backlog.proofs.PassedWorst.{met_of_passed}
use Rattle.backlog.specs.AnswersSay.{answers_say}
use Rattle.backlog.proofs.TableSystem.{tie_system}
use Rattle.backlog.proofs.Worst.{worst_range}
use Rattle.report.specs.Fits.{Wide, VerdictWide, Printable}

module _ (t : Table) (m : Measure) (well : WellFormed t m) where
  round_wide : Wide (round t)
  round_wide = omega (arith, well.offset_le 0 well.ranged.some, well.horizon_le)

  -- A task asks for at most every slot of a round.
  load_wide : Wide (load t)
  load_wide = omega (arith, load_le t well.ranged, well.offset_le 0 well.ranged.some, well.horizon_le)

  late_wide : T (late_at t (needed t)) → VerdictWide (late_verdict t (needed t))
  late_wide h =
      let n = needed_le t in
      let (a, b) = (too_much_iff t (late_start t (needed t)) (needed t)).0 (start_asks t (needed t) h) in (
        omega (arith, well.horizon_le),
        omega (arith, well.horizon_le),
        omega
            (arith, demand_le t well.ranged (late_start t (needed t)) (needed t) (omega (arith, well.horizon_le))),
      )

  verdict_wide : {budget : ℕ} (v : Verdict) (n : ℕ) → Case t budget v n → VerdictWide v × (n ≤ horizon t)
  verdict_wide v n (overload g) = (tt, omega arith)
  verdict_wide v n (undecided g b) = (tt, omega (arith, needed_le t))
  verdict_wide v n (late g b l) = (late_wide l, needed_le t)
  verdict_wide v n (passed g b l) = (tt, needed_le t)

  idle_wide : Wide (first_idle t (tie_order t))
  unfolding first_idle
  idle_wide = omega (arith, first_le (idle_at t (tie_order t)) 1 (round t), well.offset_le 0 well.ranged.some, well.horizon_le)

  module _ (budget : ℕ) where
    worst_wide : verdict t budget ≡ Verdict.Passes → (w : List ℕ) → Worsts t w → (k : ℕ) → k < t.count → get_or w k 0 < 2 ^ 32
    worst_wide e w q k l =
        let r = well.ranged in
        let i = r.each k l in
        omega (arith, i.deadline_le, i.period_le, (worst_range (tie_system t r) (met_of_passed t r budget e _) k l (get_or w k 0) (q.worst k l)).1)

    settled_wide : Wide (settled_by t budget)
    settled_wide = omega (arith, well.horizon_le, (verdict_wide (verdict t budget) (settled_by t budget) (the_case t budget)).1)

    -- Each number of a permitted answer is as wide as the type that holds it.
    brief_printable : (v : Verdict) → VerdictWide v → Printable t.count (brief (Ok v) m (settled_by t budget)) v
    brief_printable v w = record {
      tasks = well.ranged.few;
      load = rw well.load_is load_wide;
      round = rw well.round_is round_wide;
      horizon = omega (arith, well.horizon_is, well.horizon_le);
      settled = settled_wide;
      worst = λ k l. rw (get_or-replicate {A = ℕ} task_limit k 0 0 (omega (arith, well.ranged.few))) (omega arith);
      idle = omega arith;
      verdict = w;
    }

    pub printable : (a : Answer) (v : Verdict) → verdict t budget ≡ v → Answers t budget m a v → Printable t.count a v
    printable a v e p = go v e p (subst VerdictWide e (verdict_wide (verdict t budget) (settled_by t budget) (the_case t budget)).0)
      where
        go : (v : Verdict) → verdict t budget ≡ v → Answers t budget m a v → VerdictWide v → Printable t.count a v
        go Verdict.Passes e (w, q, f) x = rw f (record {
          tasks = well.ranged.few;
          load = rw well.load_is load_wide;
          round = rw well.round_is round_wide;
          horizon = omega (arith, well.horizon_is, well.horizon_le);
          settled = settled_wide;
          worst = worst_wide e w q;
          idle = idle_wide;
          verdict = tt;
        })
        go Verdict.Overload e f x = rw f (brief_printable Verdict.Overload x)
        go (Verdict.Late from to asked) e f x = rw f (brief_printable (Verdict.Late from to asked) x)
        go Verdict.Undecided e f x = rw f (brief_printable Verdict.Undecided x)

-- So is each number of a permitted answer with a verdict.
pub permitted_printable : (t : Table) (budget : ℕ) (a : Answer) (v : Verdict) → a.outcome ≡ Ok v → Permitted t budget a → Printable t.count a v
unfolding Permitted
permitted_printable t budget a v o p = go (judged t) refl p
  where
    go : (j : Judgement) → judged t ≡ j → PermittedBy t budget a j → Printable t.count a v
    go (Err r) q f = let z : ◌≡◌ {A = ℕ} 0 1 = cc (ap (λ (x : Answer). x.outcome) f) in absurd (omega arith)
    go (Ok m) q f =
        let says = (answers_say t budget m a (verdict t budget) f).0 in
        let same : verdict t budget ≡ v = cc in
        subst (Printable t.count a) same (printable t m (well_formed t m q) budget a (verdict t budget) refl f)

-- A refusal is tellable, and the report of a verdict fits.
abbrev pub Fitting : ℕ → Bool → Answer → Outcome → Type 0
Fitting n quick a (Err r) = Tellable r
Fitting n quick a (Ok v) = length (report_of n quick a v) ≤ report_bytes
