-- What holds of a table that is judged well-formed.
use Rattle.std.specs.Prelude.{◌≡◌, refl, ◌↔◌, Bool, true, false, cond, ℕ, ◌+◌, ◌*◌, ◌≤◌, ◌<◌, eqb, ltb, Ok, Err}
use Rattle.std.proofs.Common.{sym, ap, subst, ◌∙◌, arith, ltb-false, ne_eqb, le-ltb, lt-ltb}
use Rattle.std.specs.Int.{◌∣◌}
use Rattle.std.proofs.lemmas.Bool.{eqb-false}
use Rattle.values.specs.declared.Task.{Task}
use Rattle.values.specs.declared.Table.{Table}
use Rattle.values.specs.declared.Refusal.{Refusal}
use Rattle.values.specs.declared.Measure.{Measure}
use Rattle.model.specs.Notation.{largest, Least}
use Rattle.model.specs.Values.{refusal, Judgement}
use Rattle.model.specs.Limits.{task_limit, slot_limit, round_limit}
use Rattle.model.specs.Tasks.{task, is_button, offset, task_fault, first_faulty, first_button, round, load, horizon, measure, judged_mixed, periodic_only}
use Rattle.model.specs.Tasks.{judged, admission_of}
use Rattle.counting.specs.Count.{is_true, is_false}
use Rattle.counting.specs.Search.{le_largest, largest_le, first_before, first_is, first_none}
use Rattle.wellformed.specs.Ranges.{Ranged, ranged, none_faulty}
use Rattle.wellformed.specs.Round.{round_pos, period_divides, round_least, round_same}

-- The largest horizon of a well-formed table.
abbrev pub horizon_limit : ℕ
horizon_limit = slot_limit + 2 * round_limit

-- A well-formed table, and what it measures.
pub record WellFormed (t : Table) (m : Measure) : Type 0 where
  pub ranged : Ranged t
  pub round_is : m.round ≡ round t
  pub load_is : m.load ≡ load t
  pub horizon_is : m.horizon ≡ horizon t
  pub round_pos : 0 < round t
  pub offset_le : (i : ℕ) → i < t.count → offset (task t i) + 2 * round t ≤ horizon t
  pub horizon_le : horizon t ≤ horizon_limit

-- Of a table that keeps its ranges, H decides.
mixed_ranged : (t : Table) → Ranged t → judged_mixed t ≡ cond (ltb round_limit (round t)) (Err (refusal 7 0)) (Ok (measure t))
unfolding judged_mixed
mixed_ranged t r =
    rw (ne_eqb t.count 0 (omega arith), le-ltb task_limit t.count (omega arith), le-ltb (first_faulty t) t.count (omega (arith, none_faulty t r)))

-- It is refused where H is above its limit.
pub mixed_long : (t : Table) → Ranged t → round_limit < round t → judged_mixed t ≡ Err (refusal 7 0)
mixed_long t r h = rw (mixed_ranged t r, lt-ltb round_limit (round t) h)

pub judged_long : (t : Table) → Ranged t → round_limit < round t → judged t ≡ Err (refusal 7 0)
unfolding judged
judged_long t r h = rw (mixed_long t r h)

-- Else it is well-formed, and measures this.
pub mixed_of : (t : Table) → Ranged t → round t ≤ round_limit → judged_mixed t ≡ Ok (measure t)
mixed_of t r h = rw (mixed_ranged t r, le-ltb round_limit (round t) h)

-- No task of a table is a button.
abbrev pub Buttonless : Table → Type 0
Buttonless t = (i : ℕ) → i < t.count → is_button (task t i) ≡ false

-- EXACTLY: in such a table no first button is found.
pub buttonless_iff : (t : Table) → (t.count ≤ first_button t) ↔ Buttonless t
unfolding first_button
buttonless_iff t = (
  λ h i l. is_false (is_button (task t i)) (first_before (λ k. is_button (task t k)) 0 t.count i (omega arith) (omega arith)),
  λ h. omega (arith, first_none (λ k. is_button (task t k)) 0 t.count (λ i a b e. rw (h i (omega arith)) at e)),
)

-- And well-formed where only periodic tasks are allowed, if it has no button.
pub judged_of : (t : Table) → Ranged t → round t ≤ round_limit → Buttonless t → judged t ≡ Ok (measure t)
unfolding judged
judged_of t r h none = rw (mixed_of t r h, le-ltb (first_button t) t.count ((buttonless_iff t).1 none))

-- A table that one test does not refuse goes on to the next.
passed : (p : Bool) (n place : ℕ) {j : Judgement} {m : Measure} → cond p (Err (refusal n place)) j ≡ Ok m
    → (p ≡ false) × (j ≡ Ok m)
passed true n place e = let z : ◌≡◌ {A = ℕ} 0 1 = cc in absurd (omega arith)
passed false n place e = (refl, e)

-- The horizon keeps its limit.
horizon_bound : (t : Table) → Ranged t → round t ≤ round_limit → horizon t ≤ horizon_limit
unfolding horizon
horizon_bound t r h = omega (arith, largest_le t.count (λ i. offset (task t i)) slot_limit (λ i l. (r.each i l).offset_le))

-- Two rounds lie between any offset and the horizon.
offset_bound : (t : Table) (i : ℕ) → i < t.count → offset (task t i) + 2 * round t ≤ horizon t
unfolding horizon
offset_bound t i l = omega (arith, le_largest t.count (λ j. offset (task t j)) i l)

-- Tables with the same offsets and periods have the same horizon.
pub horizon_same : (t u : Table) → Ranged t → Ranged u → u.count ≡ t.count
    → ((i : ℕ) → i < t.count → (offset (task u i) ≡ offset (task t i)) × ((task u i).period ≡ (task t i).period)) → horizon u ≡ horizon t
unfolding horizon
horizon_same t u r q n e =
    omega (
      arith,
      round_same t u r q n (λ i l. (e i l).1),
      largest_le u.count (λ i. offset (task u i)) (offsets t)
          (λ i l. omega (arith, (e i (omega arith)).0, le_largest t.count (λ k. offset (task t k)) i (omega arith))),
      largest_le t.count (λ i. offset (task t i)) (offsets u)
          (λ i l. omega (arith, (e i l).0, le_largest u.count (λ k. offset (task u k)) i (omega arith))),
    )
  where
    offsets : Table → ℕ
    offsets a = largest a.count (λ k. offset (task a k))

-- EXACTLY: a table is judged well-formed if it keeps its ranges and H its limit, and its measure is told.
pub mixed_iff : (t : Table) (m : Measure) → (judged_mixed t ≡ Ok m) ↔ (Ranged t × (round t ≤ round_limit) × (m ≡ measure t))
unfolding judged_mixed
mixed_iff t m = (fwd, λ (r, h, same). mixed_of t r h ∙ ap Ok (sym same))
  where
    fwd : judged_mixed t ≡ Ok m → Ranged t × (round t ≤ round_limit) × (m ≡ measure t)
    fwd e =
        let (a, e₁) = passed (eqb t.count 0) 1 0 e in
        let (b, e₂) = passed (ltb task_limit t.count) 2 task_limit e₁ in
        let (c, e₃) = passed (ltb (first_faulty t) t.count) (task_fault (task t (first_faulty t))) (first_faulty t) e₂ in
        let (d, e₄) = passed (ltb round_limit (round t)) 7 0 e₃ in
        let same : m ≡ measure t = cc in (
          ranged t (omega (arith, eqb-false t.count 0 a)) (ltb-false task_limit t.count b) (ltb-false (first_faulty t) t.count c),
          ltb-false round_limit (round t) d,
          same,
        )

-- EXACTLY: where only periodic tasks are allowed it is well-formed if it is so at all and has no button.
pub periodic_iff : (t : Table) (m : Measure) → (judged t ≡ Ok m) ↔ ((judged_mixed t ≡ Ok m) × Buttonless t)
unfolding judged
periodic_iff t m = (
  fwd (judged_mixed t) refl,
  λ (e, none). rw (e, le-ltb (first_button t) t.count ((buttonless_iff t).1 none)),
)
  where
    fwd : (j : Judgement) → judged_mixed t ≡ j → periodic_only t j ≡ Ok m → (judged_mixed t ≡ Ok m) × Buttonless t
    fwd (Err r) w e = let z : ◌≡◌ {A = ℕ} 0 1 = cc in absurd (omega arith)
    fwd (Ok k) w e =
        let (a, e₁) = passed (ltb (first_button t) t.count) 11 (first_button t) e in
        (w ∙ e₁, (buttonless_iff t).0 (ltb-false (first_button t) t.count a))

-- A table without a button is judged the same, whether buttons are allowed or not.
pub judged_same : (t : Table) → Buttonless t → judged t ≡ judged_mixed t
unfolding judged
judged_same t none = go (judged_mixed t)
  where
    go : (j : Judgement) → periodic_only t j ≡ j
    go (Err r) = refl
    go (Ok m) = rw (le-ltb (first_button t) t.count ((buttonless_iff t).1 none))

-- Else it is refused as it is at all, or by 11 at its lowest button.
pub refused_both : (t : Table) (r : Refusal) → judged_mixed t ≡ Err r → judged t ≡ Err r
unfolding judged
refused_both t r e = rw e refl

pub refused_button : (t : Table) (m : Measure) (i : ℕ) → judged_mixed t ≡ Ok m
    → Least (λ k. (k < t.count) × (is_button (task t k) ≡ true)) i → judged t ≡ Err (refusal 11 i)
unfolding judged first_button
refused_button t m i e ((l, b), before) = rw (e, at, lt-ltb i t.count l) refl
  where
    at : first_button t ≡ i
    at =
        first_is (λ k. is_button (task t k)) 0 t.count i (omega arith) (omega arith) (rw b tt)
        (λ k x y h. before k y (omega arith, is_true (is_button (task t k)) h))

-- EXACTLY: by its ranges, H and the sorts of its tasks.
pub judged_iff : (t : Table) (m : Measure) → (judged t ≡ Ok m) ↔ (Ranged t × (round t ≤ round_limit) × (m ≡ measure t) × Buttonless t)
judged_iff t m = (
  λ e. let (w, none) = (periodic_iff t m).0 e in let (r, h, same) = (mixed_iff t m).0 w in (r, h, same, none),
  λ (r, h, same, none). (periodic_iff t m).1 ((mixed_iff t m).1 (r, h, same), none),
)

-- What is admitted is well-formed, and what is not is refused as it is judged.
pub refused_is : (j : Judgement) (r : Refusal) → admission_of j ≡ Err r → j ≡ Err r
refused_is (Err q) r e = let same : q ≡ r = cc in ap Err same
refused_is (Ok m) r e = let z : ◌≡◌ {A = ℕ} 0 1 = cc in absurd (omega arith)

pub admitted_is : (j : Judgement) → admission_of j ≡ Ok tt → (m : Measure) × (j ≡ Ok m)
admitted_is (Err q) e = let z : ◌≡◌ {A = ℕ} 0 1 = cc in absurd (omega arith)
admitted_is (Ok m) e = (m, refl)

-- What holds of a well-formed table.
pub well_mixed : (t : Table) (m : Measure) → judged_mixed t ≡ Ok m → WellFormed t m
well_mixed t m e =
    let (r, h, same) = (mixed_iff t m).0 e in
    record {
      ranged = r;
      round_is = ap (λ (x : Measure). x.round) same;
      load_is = ap (λ (x : Measure). x.load) same;
      horizon_is = ap (λ (x : Measure). x.horizon) same;
      round_pos = round_pos t r;
      offset_le = offset_bound t;
      horizon_le = horizon_bound t r h;
    }

pub well_formed : (t : Table) (m : Measure) → judged t ≡ Ok m → WellFormed t m
well_formed t m e = well_mixed t m ((periodic_iff t m).0 e).0

-- Tables with the same tasks are well-formed together, whatever stands behind their tasks.
pub same_well_formed : (t u : Table) (m : Measure) → u.count ≡ t.count → ((i : ℕ) → i < t.count → task u i ≡ task t i)
    → judged_mixed t ≡ Ok m → judged_mixed u ≡ Ok (measure u)
same_well_formed t u m size same well =
    let (r, h, _) = (mixed_iff t m).0 well in
    let u-ranged : Ranged u = record {
      some = omega (arith, r.some);
      few = omega (arith, r.few);
      each = λ i l. rw (same i (omega arith)) (r.each i (omega arith));
    } in
    let le : round u ≤ round t = round_least u u-ranged (round t) (round_pos t r)
    (λ i l. subst (λ (k : Task). k.period ∣ round t) (sym (same i (omega arith))) (period_divides t r i (omega arith))) in
    mixed_of u u-ranged (omega arith)
