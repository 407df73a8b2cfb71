-- THE DISTANCE TEST (section 3.8 of the specification): quick pass is distance pass, and that is said of a table
-- without buttons only if the exact test passes it. What it means of tables with buttons stands in `Buttons`.
use Rattle.values.specs.declared.ByDistance.{ByDistance}
use Rattle.values.specs.declared.Quick.{Quick}
use Rattle.std.specs.Prelude.{◌≡◌, refl, ◌↔◌, List, [], ◌∷◌, true, false, cond, ℕ, ◌+◌, ◌≤◌, ◌<◌, Ok, Err}
use Rattle.std.proofs.Common.{sym, ◌∙◌, inl, inr, arith}
use Rattle.values.specs.declared.Task.{Task}
use Rattle.values.specs.declared.Table.{Table}
use Rattle.values.specs.declared.Refusal.{Refusal}
use Rattle.values.specs.declared.Measure.{Measure}
use Rattle.values.specs.declared.Verdict.{Verdict}
use Rattle.model.specs.Values.{refusal_said, distance_said}
use Rattle.model.specs.Tasks.{task, is_button, release, round, load, horizon, judged_mixed, judged}
use Rattle.model.specs.Verdict.{verdict}
use Rattle.model.specs.TableFile.{file_read, periodic_from}
use Rattle.model.specs.Patterns.{light, quick_answer, distance, distance_pass, distance_answer}
use Rattle.model.specs.Report.{refusal_number, distance_number, distance_exported}
use Rattle.counting.specs.Count.{tests, is_false}
use Rattle.wellformed.specs.WellFormed.{periodic_iff, well_mixed, well_formed}
use Rattle.patterns.specs.Quick.{quick_case}
use Rattle.patterns.proofs.Distance.{distance_button}
use Rattle.patterns.proofs.DistanceLe.{distance_le}
use Rattle.patterns.proofs.Attained.{distance_attained}
use Rattle.patterns.proofs.DistancePass.{distance_case, distance_told, distance_passes}
use Rattle.patterns.proofs.QuickDistance.{quick_distance}
use Rattle.tablefile.specs.Admitted.{well_table}
use Rattle.tablefile.specs.Periodic.{periodic_read}
use Rattle.telling.specs.Distance.{distance_refuses, distance_words, distance_low, distance_one, distance_heavy}
use Rattle.promises.specs.FileNumbers.{Apart, refused_file_lem, read_file, file_apart}

-- A refused table is refused by its number and place; of any other 0 is said, with 2 for overload,
-- 1 for pass and 0 for no answer.
pub refused_distance : (t : Table) (r : Refusal) → judged_mixed t ≡ Err r
    → distance_said (distance_answer t) ≡ refusal_said r
unfolding distance_answer
refused_distance t r e = rw e refl

pub distance_said_lem : (t : Table) (m : Measure) → judged_mixed t ≡ Ok m
    → distance_said (distance_answer t) ≡ cond (light t) (cond (distance_pass t) (0 ∷ 1 ∷ []) (0 ∷ 0 ∷ [])) (0 ∷ 2 ∷ [])
distance_said_lem = distance_words

-- The distance of one task from another: no release of the one is followed, then or later, by one of the other at less,
-- and some is at just that.
pub record Smallest (one other : Task) (d : ℕ) : Type 0 where
  pub least : (j m : ℕ) → release one j ≤ release other m → release one j + d ≤ release other m
  pub attained : (j : ℕ) × (m : ℕ) × (release other m ≡ release one j + d)

pub distance_is_smallest : (t : Table) (m : Measure) → judged_mixed t ≡ Ok m
    → (i k : ℕ) → i < t.count → k < t.count → is_button (task t i) ≡ false → is_button (task t k) ≡ false
    → Smallest (task t i) (task t k) (distance (task t i) (task t k))
distance_is_smallest t m well i k l n first periodic =
    let r = (well_mixed t m well).ranged in
    let p = (r.each i l).period_pos in
    record {
      least = distance_le (task t i) (task t k) p;
      attained = distance_attained (task t i) (task t k) periodic p (r.each k n).period_pos;
    }

-- A button has distance 0 from each.
pub button_distance : (one other : Task) → is_button other ≡ true → distance one other ≡ 0
button_distance = distance_button

-- The chain. Quick pass is distance pass,
pub quick_means_distance : (t : Table) → quick_answer t ≡ Ok Quick.Pass → distance_answer t ≡ Ok ByDistance.Pass
unfolding quick_answer distance_answer
quick_means_distance t e =
    let ((m, w), p) = quick_case t (judged t) e in
    let well = ((periodic_iff t m).0 w).0 in
    rw well (distance_told t m (quick_distance t (well_mixed t m well).ranged p))

-- and distance pass means that the exact test passes the table, if it has no button,
-- with every budget that reaches the horizon.
pub distance_means_passes : (t : Table) (m : Measure)
    → judged t ≡ Ok m → distance_answer t ≡ Ok ByDistance.Pass
    → (budget : ℕ) → horizon t ≤ budget → verdict t budget ≡ Verdict.Passes
unfolding distance_answer
distance_means_passes t m periodic e =
    let (well, p) = distance_case t (judged_mixed t) e in distance_passes t (well_formed t m periodic).ranged p

-- Overload is said exactly if the load is above 1, as by the exact test.
pub distance_overload : (t : Table) (m : Measure) → judged_mixed t ≡ Ok m
    → (distance_answer t ≡ Ok ByDistance.Overload) ↔ (round t < load t)
unfolding distance_answer
distance_overload t m well =
    (distance_heavy t m well, λ h. rw (well, is_false (light t) (λ x. absurd (omega tests))) refl)

-- A file that is refused is refused as it is by the check, and one that is read gives its table's answer:
-- 2 for overload, 1 for pass, 0 for none.
pub refused_distance_file : (file : List ℕ) (r : Refusal)
    → (file_read file).admission ≡ Err r → distance_exported file ≡ refusal_number r
refused_distance_file file = refused_file_lem file (λ t. distance_number (distance_answer t)) distance_refuses

pub read_distance_file : (file : List ℕ) → (file_read file).admission ≡ Ok tt
    → distance_exported file ≡ distance_number (distance_answer (file_read file).table)
read_distance_file file = read_file file (λ t. distance_number (distance_answer t))

-- So exactly the numbers from 65,536 on are refusals, and any other is at most 2.
pub distance_file_apart : (file : List ℕ) → Apart (file_read file).admission 2 (distance_exported file)
distance_file_apart file = file_apart file (λ t. distance_number (distance_answer t)) distance_refuses 2 distance_low

-- And 1 means that the table passes, and so what this means.
pub distance_file_pass : (file : List ℕ) → distance_exported file ≡ 1
    → distance_answer (file_read file).table ≡ Ok ByDistance.Pass
distance_file_pass file e = elim (distance_file_apart file) [
  | inr (r, h, q, (a, b)) ↦ absurd (omega arith)
  | inl (h, l) ↦ let (m, well) = well_table file {l = file_read file} refl h in
      distance_one (file_read file).table m well (sym (read_distance_file file h) ∙ e)
]

pub distance_file_means : (file : List ℕ) → distance_exported file ≡ 1
    → (periodic_from file).admission ≡ Ok tt
    → (budget : ℕ) → horizon (file_read file).table ≤ budget → verdict (file_read file).table budget ≡ Verdict.Passes
distance_file_means file e h =
    let (read, same, (m, well)) = periodic_read file h in
    distance_means_passes (file_read file).table m well (distance_file_pass file e)
