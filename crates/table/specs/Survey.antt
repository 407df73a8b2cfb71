-- One pass over a table: the first task out of its ranges, the least common multiple of the periods, the first button.
use Rattle.std.specs.Prelude.{◌≡◌, refl, Bool, ℕ, ◌+◌, ◌≤◌, ◌<◌, T, cond, eqb, Option, Some, None, MatchOption, is_some, false, Result, Ok, Err}
use Rattle.std.proofs.Math.Path.{sym}
use Rattle.std.proofs.Common.{◌∙◌, arith}
use borrow.Author.Tests.{eq-eqb, ne_eqb, lt-ltb, le-ltb}
use Rattle.std.proofs.Math.Decide.{dec_le, ℕ_discrete}
use Rattle.values.specs.declared.Table.{Table}
use Rattle.model.specs.Values.{Task, Refusal, Admission, refusal}
use Rattle.model.specs.Limits.{task_limit, round_limit}
use Rattle.model.specs.Tasks.{task, is_button, task_fault, first_button, round, measure, judged_mixed, judged, admission_of}
use Rattle.counting.specs.Search.{NoneFrom, none_up, first_unique, below_suc}
use Rattle.counting.specs.Divisors.{lcm, lcm_all, lcm_all_none, lcm_all_next, lcm_all_mono}
use Rattle.wellformed.specs.Ranges.{InRange, Ranged, faulty, faultless, unmarked}
use Rattle.wellformed.specs.Round.{RoundKept, period, round_lcm}
use Rattle.wellformed.specs.WellFormed.{mixed_of}
use Rattle.table.specs.declared.Sight.{Sight}

abbrev pub button : Table → ℕ → Bool
button t i = is_button (task t i)

-- The first button of a table, or none.
abbrev pub FirstButton : Table → Option ℕ → Type 0
FirstButton t None = first_button t ≡ t.count
FirstButton t (Some i) = (first_button t ≡ i) × (i < t.count)

-- What a survey finds: the refusal of the table; or it keeps its ranges, and these are its round and its first button.
abbrev pub Surveyed : Table → Result Sight Refusal → Type 0
Surveyed t (Err why) = judged_mixed t ≡ Err why
Surveyed t (Ok seen) = Ranged t × RoundKept t seen.round × FirstButton t seen.button

abbrev pub FitsTable : Option ℕ → Type 0
FitsTable button = MatchOption button Unit (λ i. i < task_limit)

-- By 11 at the button, if there is one.
abbrev pub button_refused : Option ℕ → Admission
button_refused None = Ok tt
button_refused (Some i) = Err (refusal 11 i)

-- By the first range that task i leaves.
abbrev pub range_refused : Task → ℕ → Admission
range_refused k i = cond (eqb (task_fault k) 0) (Ok tt) (Err (refusal (task_fault k) i))

pub kept_ranges : (k : Task) (i : ℕ) (u : Unit) → range_refused k i ≡ Ok u → task_fault k ≡ 0
kept_ranges k i u h =
    elim (ℕ_discrete (task_fault k) 0) [
      | yes e ↦ e
      | no n ↦ (let q = rw (ne_eqb _ _ n) at h in let z : ◌≡◌ {A = ℕ} 0 1 = cc in absurd (omega arith))
    ]

pub left_range : (k : Task) (i : ℕ) (why : Refusal) → range_refused k i ≡ Err why → (task_fault k ≡ 0 → ⊥) × (why ≡ refusal (task_fault k) i)
left_range k i why h =
    elim (ℕ_discrete (task_fault k) 0) [
      | yes e ↦ (let q = rw (eq-eqb _ _ e) at h in let z : ◌≡◌ {A = ℕ} 0 1 = cc in absurd (omega arith))
      | no n ↦ (n, let q = rw (ne_eqb _ _ n) at h in cc)
    ]

-- What is known of the first i tasks.
pub record Read (t : Table) (i h : ℕ) (b : Option ℕ) : Type 0 where
  pub none : NoneFrom (faulty t) 0 i
  pub each : (k : ℕ) → k < i → InRange (task t k)
  pub exact : h ≤ round_limit → h ≡ lcm_all i (period t)
  pub above : round_limit < h → round_limit < lcm_all i (period t)
  pub first : MatchOption b (NoneFrom (button t) 0 i) (λ j. (j < t.count) × T (button t j) × NoneFrom (button t) 0 j)

pub read_none : (t : Table) → Read t 0 1 None
read_none t =
    record {
      none = λ k a b. absurd (omega arith);
      each = λ k l. absurd (omega arith);
      exact = λ l. lcm_all_none (period t);
      above = λ l. absurd (omega arith);
      first = λ k a b. absurd (omega arith);
    }

-- The next task keeps its ranges, as does every task up to it.
kept_more : (t : Table) (i : ℕ) → ((k : ℕ) → k < i → InRange (task t k)) → task_fault (task t i) ≡ 0 → (k : ℕ) → k < i + 1 → InRange (task t k)
kept_more t i each fine k l = below_suc (λ k. InRange (task t k)) i each (faultless (task t i) fine) k (omega arith)

-- The multiple with the next period: exact up to the limit, and never back below it.
module _ (t : Table) (i h g : ℕ) (each : (k : ℕ) → k < i + 1 → InRange (task t k))
    (exact : h ≤ round_limit → h ≡ lcm_all i (period t)) (above : round_limit < h → round_limit < lcm_all i (period t))
    (small : h ≤ round_limit → g ≡ lcm h (period t i)) (large : round_limit < h → g ≡ h) where
  grows : lcm_all i (period t) ≤ lcm_all (i + 1) (period t)
  grows = lcm_all_mono i (i + 1) (period t) (omega arith) (λ k l. (each k l).period_pos)

  known : h ≤ round_limit → g ≡ lcm_all (i + 1) (period t)
  known l = small l ∙ lcm_all_next (period t) i (exact l)

  exact_more : g ≤ round_limit → g ≡ lcm_all (i + 1) (period t)
  exact_more l = elim (dec_le h round_limit) [ yes p ↦ known p | no p ↦ absurd (omega (arith, large (omega arith))) ]

  above_more : round_limit < g → round_limit < lcm_all (i + 1) (period t)
  above_more l = elim (dec_le h round_limit) [ yes p ↦ omega (arith, known p) | no p ↦ omega (arith, grows, above (omega arith)) ]

-- The next task is read, and its period is counted in. The first button is this one, or as it was.
pub read_button : (t : Table) (i h g : ℕ) → i < t.count → Read t i h None → task_fault (task t i) ≡ 0
    → ((h ≤ round_limit → g ≡ lcm h (period t i)) × (round_limit < h → g ≡ h)) → T (button t i) → Read t (i + 1) g (Some i)
read_button t i h g l r fine grown here =
    let each = kept_more t i r.each fine in
    record {
      none = none_up (faulty t) 0 i r.none (unmarked _ fine);
      each = each;
      exact = exact_more t i h g each r.exact r.above grown.0 grown.1;
      above = above_more t i h g each r.exact r.above grown.0 grown.1;
      first = (l, here, r.first);
    }

pub no_button : (b : Option ℕ) → is_some b ≡ false → b ≡ None
no_button None e = refl
no_button (Some j) e = let z : ◌≡◌ {A = ℕ} 0 1 = cc in absurd (omega arith)

pub read_on : (t : Table) (i h g : ℕ) (b : Option ℕ) → i < t.count → Read t i h b → task_fault (task t i) ≡ 0
    → ((h ≤ round_limit → g ≡ lcm h (period t i)) × (round_limit < h → g ≡ h)) → (b ≡ None → T (button t i) → ⊥) → Read t (i + 1) g b
read_on t i h g b l r fine grown other =
    let each = kept_more t i r.each fine in
    record {
      none = none_up (faulty t) 0 i r.none (unmarked _ fine);
      each = each;
      exact = exact_more t i h g each r.exact r.above grown.0 grown.1;
      above = above_more t i h g each r.exact r.above grown.0 grown.1;
      first = still b r.first other;
    }
  where
    still : (b : Option ℕ) → MatchOption b (NoneFrom (button t) 0 i) (λ j. (j < t.count) × T (button t j) × NoneFrom (button t) 0 j)
        → (b ≡ None → T (button t i) → ⊥)
        → MatchOption b (NoneFrom (button t) 0 (i + 1)) (λ j. (j < t.count) × T (button t j) × NoneFrom (button t) 0 j)
    still None f other = none_up (button t) 0 i f (other refl)
    still (Some j) f other = f

-- All tasks are read.
module _ (t : Table) (h : ℕ) (b : Option ℕ) (some : 0 < t.count) (few : t.count ≤ task_limit) (r : Read t t.count h b) where
  pub read_ranged : Ranged t
  read_ranged = record { some = some; few = few; each = r.each }

  pub read_kept : h ≤ round_limit → RoundKept t h
  read_kept l = record { is = r.exact l ∙ sym (round_lcm t read_ranged); le = l }

  pub read_long : round_limit < h → round_limit < round t
  read_long l = omega (arith, r.above l, round_lcm t read_ranged)

  pub read_first : FirstButton t b
  unfolding first_button
  read_first = go b r.first
    where
      go : (b : Option ℕ) → MatchOption b (NoneFrom (button t) 0 t.count) (λ j. (j < t.count) × T (button t j) × NoneFrom (button t) 0 j) → FirstButton t b
      go None f = first_unique (button t) 0 t.count t.count (omega arith) (omega arith) f (λ l. absurd (omega arith))
      go (Some j) (l, here, f) = (first_unique (button t) 0 t.count j (omega arith) (omega arith) f (λ l. here), l)

-- What a survey says of the judge.
pub unseen : (t : Table) (found : Result Sight Refusal) (why : Refusal) → found ≡ Err why → Surveyed t found → judged_mixed t ≡ Err why
unseen t found why e s = rw e at s

pub seen_so : (t : Table) (found : Result Sight Refusal) (seen : Sight) → found ≡ Ok seen → Surveyed t found → Surveyed t (Ok seen)
seen_so t found seen e s = rw e at s

module _ (t : Table) (why : Refusal) (e : judged_mixed t ≡ Err why) where
  pub judged_unseen : judged t ≡ Err why
  unfolding judged
  judged_unseen = rw e

module _ (t : Table) (seen : Sight) (s : Surveyed t (Ok seen)) where
  pub mixed_seen : judged_mixed t ≡ Ok (measure t)
  mixed_seen = mixed_of t s.0 (omega (arith, s.1.is, s.1.le))

  without : FirstButton t None → judged t ≡ Ok (measure t)
  unfolding judged
  without e = rw (mixed_seen, e, le-ltb t.count t.count (omega arith))

  with : (i : ℕ) → FirstButton t (Some i) → judged t ≡ Err (refusal 11 i)
  unfolding judged
  with i (e, l) = rw (mixed_seen, e, lt-ltb i t.count l)

  pub admitted_seen : admission_of (judged t) ≡ button_refused seen.button
  admitted_seen = go seen.button s.2
    where
      go : (b : Option ℕ) → FirstButton t b → admission_of (judged t) ≡ button_refused b
      go None e = rw (without e)
      go (Some i) e = rw (with i e)

  pub judged_seen : (u : Unit) → button_refused seen.button ≡ Ok u → judged t ≡ Ok (measure t)
  judged_seen u = go seen.button s.2
    where
      go : (b : Option ℕ) → FirstButton t b → button_refused b ≡ Ok u → judged t ≡ Ok (measure t)
      go None e h = without e
      go (Some i) e h = let z : ◌≡◌ {A = ℕ} 0 1 = cc in absurd (omega arith)

  pub refused_seen : (why : Refusal) → button_refused seen.button ≡ Err why → judged t ≡ Err why
  refused_seen why = go seen.button s.2
    where
      go : (b : Option ℕ) → FirstButton t b → button_refused b ≡ Err why → judged t ≡ Err why
      go None e h = let z : ◌≡◌ {A = ℕ} 0 1 = cc in absurd (omega arith)
      go (Some i) e h = let same : ◌≡◌ {A = Refusal} (refusal 11 i) why = cc in rw (with i e, same)

  pub fits_seen : FitsTable seen.button
  fits_seen = go seen.button s.2
    where
      go : (b : Option ℕ) → FirstButton t b → FitsTable b
      go None e = tt
      go (Some i) (e, l) = omega (arith, l, s.0.few)
