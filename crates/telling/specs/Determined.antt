-- A REPORT DETERMINES WHAT IT TELLS (`report_tells`), also in a buffer that it was written into (`written_tells`).
use Rattle.std.proofs.Math.Path.{◌≡◌, refl, ap}
use Rattle.std.proofs.Common.{sym, ◌∙◌, arith}
use Rattle.std.specs.Prelude.{Bool, true, false, ℕ, zero, suc, ◌<◌, length, get_or, take}
use mathlib.Core.List.{List, [], ◌++◌, append_assoc}
use Rattle.std.proofs.Math.Decide.{ℕ_discrete}
use Rattle.std.proofs.Math.Seq.{take-append_seam}
use Rattle.values.specs.declared.Verdict.{Verdict}
use Rattle.values.specs.declared.Answer.{Answer}
use Rattle.model.specs.Notation.{text, decimal}
use Rattle.model.specs.Report.{line, verdict_word, quick_word, worst_lines, details, report_of, written}
use Rattle.telling.specs.Apart.{number_apart, line_number, line_numbers}

-- Two answers have the same worst response of each of n tasks, and the same first idle instant.
pub record SameResponses (n : ℕ) (a a' : Answer) : Type 0 where
  pub worst : (i : ℕ) → i < n → get_or a.worst i 0 ≡ get_or a'.worst i 0
  pub idle : a.idle ≡ a'.idle

-- All that two reports tell is the same. The responses are told only where the table passes.
pub record SameTold (n n' : ℕ) (q q' : Bool) (a a' : Answer) (v v' : Verdict) : Type 0 where
  pub tasks : n ≡ n'
  pub measure : a.measure ≡ a'.measure
  pub quick : q ≡ q'
  pub verdict : v ≡ v'
  pub settled : a.settled ≡ a'.settled
  pub responses : v ≡ Verdict.Passes → SameResponses n a a'

-- ---- The lines of words

-- Texts that differ in a byte are not the same.
other_byte : {A : Type 0} (i : ℕ) (r s : List ℕ) → (get_or r i 0 ≡ get_or s i 0 → ⊥) → r ≡ s → A
other_byte i r s h e = absurd (h (ap (λ (l : List ℕ). get_or l i 0) e))

quick_tells : (q q' : Bool) (r s : List ℕ)
    → line (text "quick " ++ quick_word q) ++ r ≡ line (text "quick " ++ quick_word q') ++ s → (q ≡ q') × (r ≡ s)
unfolding text
quick_tells true true r s e = (refl, cc)
quick_tells true false r s e = other_byte 6 _ _ (λ z. omega arith) e
quick_tells false true r s e = other_byte 6 _ _ (λ z. omega arith) e
quick_tells false false r s e = (refl, cc)

-- ---- The worst responses

worst_tells : (w w' : List ℕ) (n : ℕ) (r s : List ℕ) → worst_lines w n ++ r ≡ worst_lines w' n ++ s
    → ((i : ℕ) → i < n → get_or w i 0 ≡ get_or w' i 0) × (r ≡ s)
unfolding worst_lines text
worst_tells w w' zero r s e = (λ i h. absurd (omega arith), e)
worst_tells w w' (suc n) r s e =
    let lines = sym (append_assoc (worst_lines w n) _ r) ∙ e ∙ append_assoc (worst_lines w' n) _ s in
    let (before, last) = worst_tells w w' n _ _ lines in
    let (number, response, rest) = line_numbers (text "worst ") 32 [] n n (get_or w n 0) (get_or w' n 0) r s refl last in
    (λ i h. elim (ℕ_discrete i n) [ yes q ↦ rw q response | no q ↦ before i (omega arith) ], rest)

-- ---- From the verdict on

abbrev pub from_settled : ℕ → Answer → Verdict → List ℕ
from_settled n a v = line (text "settled " ++ decimal a.settled) ++ details n a v

abbrev pub from_verdict : ℕ → Answer → Verdict → List ℕ
from_verdict n a v = line (text "verdict " ++ verdict_word v) ++ from_settled n a v

module _ (n : ℕ) (a a' : Answer) where
  settled_tells : (v v' : Verdict) → from_settled n a v ≡ from_settled n a' v'
      → (a.settled ≡ a'.settled) × (details n a v ≡ details n a' v')
  settled_tells v v' e = line_number (text "settled ") a.settled a'.settled _ _ e

  passes_tells : details n a Verdict.Passes ≡ details n a' Verdict.Passes → SameResponses n a a'
  passes_tells e =
      let (worst, last) = worst_tells a.worst a'.worst n _ _ e in
      let (idle, end) = line_number (text "idle ") a.idle a'.idle [] [] (ap (λ (l : List ℕ). l ++ []) last) in
      record { worst = worst; idle = idle }

  interval_tells : (f t d f' t' d' : ℕ) → details n a (Verdict.Late f t d) ≡ details n a' (Verdict.Late f' t' d')
      → Verdict.Late f t d ≡ Verdict.Late f' t' d'
  unfolding text
  interval_tells f t d f' t' d' e =
      let (from, e1) = number_apart (text "interval ") 32 f f' _ _ refl (simp append_assoc at e) in
      let (to, e2) = number_apart [] 32 t t' _ _ refl e1 in
      let (demand, e3) = number_apart (text "demand ") 10 d d' _ _ refl e2 in
      λ i. Verdict.Late (from i) (to i) (demand i)

  abbrev SameFromVerdict : Verdict → Verdict → Type 0
  SameFromVerdict v v' = (v ≡ v') × (a.settled ≡ a'.settled) × (v ≡ Verdict.Passes → SameResponses n a a')

  -- The first letters of the four words differ.
  verdict_tells : (v v' : Verdict) → from_verdict n a v ≡ from_verdict n a' v' → SameFromVerdict v v'
  unfolding text
  verdict_tells Verdict.Passes Verdict.Passes e =
      let (settled, rest) = settled_tells Verdict.Passes Verdict.Passes cc in
      (refl, settled, λ z. passes_tells rest)
  verdict_tells Verdict.Overload Verdict.Overload e =
      let (settled, rest) = settled_tells Verdict.Overload Verdict.Overload cc in
      (refl, settled, λ z. let no : ◌≡◌ {A = ℕ} 0 1 = cc in absurd (omega arith))
  verdict_tells (Verdict.Late f t d) (Verdict.Late f' t' d') e =
      let (settled, rest) = settled_tells (Verdict.Late f t d) (Verdict.Late f' t' d') cc in
      (interval_tells f t d f' t' d' rest, settled, λ z. let no : ◌≡◌ {A = ℕ} 0 1 = cc in absurd (omega arith))
  verdict_tells Verdict.Undecided Verdict.Undecided e =
      let (settled, rest) = settled_tells Verdict.Undecided Verdict.Undecided cc in
      (refl, settled, λ z. let no : ◌≡◌ {A = ℕ} 0 1 = cc in absurd (omega arith))
  verdict_tells Verdict.Passes Verdict.Overload e = other_byte 8 _ _ (λ z. omega arith) e
  verdict_tells Verdict.Passes (Verdict.Late f t d) e = other_byte 8 _ _ (λ z. omega arith) e
  verdict_tells Verdict.Passes Verdict.Undecided e = other_byte 8 _ _ (λ z. omega arith) e
  verdict_tells Verdict.Overload Verdict.Passes e = other_byte 8 _ _ (λ z. omega arith) e
  verdict_tells Verdict.Overload (Verdict.Late f t d) e = other_byte 8 _ _ (λ z. omega arith) e
  verdict_tells Verdict.Overload Verdict.Undecided e = other_byte 8 _ _ (λ z. omega arith) e
  verdict_tells (Verdict.Late f t d) Verdict.Passes e = other_byte 8 _ _ (λ z. omega arith) e
  verdict_tells (Verdict.Late f t d) Verdict.Overload e = other_byte 8 _ _ (λ z. omega arith) e
  verdict_tells (Verdict.Late f t d) Verdict.Undecided e = other_byte 8 _ _ (λ z. omega arith) e
  verdict_tells Verdict.Undecided Verdict.Passes e = other_byte 8 _ _ (λ z. omega arith) e
  verdict_tells Verdict.Undecided Verdict.Overload e = other_byte 8 _ _ (λ z. omega arith) e
  verdict_tells Verdict.Undecided (Verdict.Late f t d) e = other_byte 8 _ _ (λ z. omega arith) e

-- ---- The whole report

-- What follows each of its first lines.
abbrev pub from_horizon : ℕ → Answer → Verdict → List ℕ
from_horizon n a v = line (text "horizon " ++ decimal a.measure.horizon) ++ from_verdict n a v

abbrev pub from_load : ℕ → Bool → Answer → Verdict → List ℕ
from_load n q a v =
    line (text "load " ++ decimal a.measure.load ++ text "/" ++ decimal a.measure.round)
    ++ (line (text "quick " ++ quick_word q) ++ from_horizon n a v)

pub grouped : (n : ℕ) (q : Bool) (a : Answer) (v : Verdict)
    → report_of n q a v ≡ line (text "tasks " ++ decimal n) ++ from_load n q a v
unfolding report_of
grouped n q a v = simp append_assoc

module _ (n n' : ℕ) (q q' : Bool) (a a' : Answer) (v v' : Verdict) where
  -- Reports that are the same bytes tell the same.
  pub report_tells : report_of n q a v ≡ report_of n' q' a' v' → SameTold n n' q q' a a' v v'
  unfolding text
  report_tells e =
      let m = a.measure in
      let m' = a'.measure in
      let (tasks, e1) = line_number (text "tasks ") n n' _ _ (sym (grouped n q a v) ∙ e ∙ grouped n' q' a' v') in
      let (load, round, e2) = line_numbers (text "load ") 47 [] m.load m'.load m.round _ _ _ refl e1 in
      let (quick, e3) = quick_tells q q' _ _ e2 in
      let (horizon, e4) = line_number (text "horizon ") m.horizon m'.horizon _ _ e3 in
      let same = e4 ∙ ap (λ (k : ℕ). from_verdict k a' v') (sym tasks) in
      let (verdict, settled, responses) = verdict_tells n a a' v v' same in
      record {
        tasks = tasks;
        measure = λ i. record { round = round i; load = load i; horizon = horizon i };
        quick = quick;
        verdict = verdict;
        settled = settled;
        responses = responses;
      }

  -- So do those that calls wrote into buffers: behind them other bytes may stand, and the number tells where they end.
  pub written_tells : (b b' : List ℕ) → written (report_of n q a v) b ≡ written (report_of n' q' a' v') b'
      → SameTold n n' q q' a a' v v'
  written_tells b b' e =
      let r = report_of n q a v in
      let r' = report_of n' q' a' v' in
      let same : take (length r) (r ++ _) ≡ take (length r') (r' ++ _) = λ i. take (e i).number (e i).buffer in
      report_tells (sym (take-append_seam r _) ∙ same ∙ take-append_seam r' _)
