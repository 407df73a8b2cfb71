-- VERDICT PASSES (`says_passes_lem`): a report says so exactly if the verdict is that; no other line is like its line.
use Rattle.std.specs.Prelude.{◌≡◌, ◌↔◌, Bool, true, false, not, ◌&&◌, List, [], ◌∷◌, ◌++◌, ℕ, zero, suc, ◌≤◌, length, get_or}
use Rattle.std.proofs.Math.Path.{refl, ap}
use Rattle.std.proofs.Common.{sym, ◌∙◌, append-nil, append_assoc, arith, le-leb, ne_eqb}
use Rattle.values.specs.declared.Verdict.{Verdict}
use Rattle.values.specs.declared.Answer.{Answer}
use Rattle.model.specs.Notation.{text, decimal}
use Rattle.model.specs.Limits.{report_bytes}
use Rattle.model.specs.PlainText.{before, is_line_feed, is_digit, all_digits, split, lines_of, same}
use Rattle.model.specs.Report.{line, quick_word, worst_lines, details, report_of}
use Rattle.model.specs.ReportRead.{has_line, says_passes}
use Rattle.plaintext.specs.Numbers.{digit_range}
use Rattle.plaintext.specs.Canonical.{means}
use Rattle.telling.specs.Apart.{both}
use Rattle.telling.specs.Determined.{from_settled, from_verdict, grouped}

-- ---- The lines of a text

-- No line feed stands in it.
unfoldable unbroken : List ℕ → Bool
unbroken [] = true
unbroken (x ∷ w) = not (is_line_feed x) && unbroken w

unbroken_append : (w v : List ℕ) → unbroken w ≡ true → unbroken v ≡ true → unbroken (w ++ v) ≡ true
unfolding unbroken
unbroken_append [] v a b = b
unbroken_append (x ∷ w) v a b =
    let (this, more) = both (not (is_line_feed x)) (unbroken w) a in
    rw (this, unbroken_append w v more b)

digits_unbroken : (w : List ℕ) → all_digits w ≡ true → unbroken w ≡ true
unfolding unbroken all_digits
digits_unbroken [] e = refl
digits_unbroken (x ∷ w) e =
    let (this, more) = both (is_digit x) (all_digits w) e in
    rw (ne_eqb x 10 (omega (arith, digit_range x this)), digits_unbroken w more)

-- Words and then a number.
and_number : (w : List ℕ) (x : ℕ) → unbroken w ≡ true → unbroken (w ++ decimal x) ≡ true
and_number w x e = unbroken_append w (decimal x) e (digits_unbroken (decimal x) (means x).digits)

-- Words, a number and words.
number_and : (w : List ℕ) (x : ℕ) (v : List ℕ) → unbroken w ≡ true → unbroken v ≡ true
    → unbroken (w ++ decimal x ++ v) ≡ true
number_and w x v e h = unbroken_append (w ++ decimal x) v (and_number w x e) h

-- A line that is ended is the first.
first_line : (w s : List ℕ) → unbroken w ≡ true → lines_of (line w ++ s) ≡ w ∷ lines_of s
unfolding unbroken split text
first_line [] s e = refl
first_line (x ∷ w) s e = go (is_line_feed x) e (first_line w s)
  where
    go : (b : Bool) → not b && unbroken w ≡ true → (unbroken w ≡ true → lines_of (line w ++ s) ≡ w ∷ lines_of s)
        → before b x (lines_of (line w ++ s)) ≡ (x ∷ w) ∷ lines_of s
    go true h later = let z : ◌≡◌ {A = ℕ} 0 1 = cc in absurd (omega arith)
    go false h later = rw (later h)

-- ---- The line that says so

abbrev says : List ℕ → Bool
says s = has_line (text "verdict passes") (lines_of s)

-- Another line does not.
other_line : (w s : List ℕ) → unbroken w ≡ true → same w (text "verdict passes") ≡ false → says (line w ++ s) ≡ says s
unfolding has_line
other_line w s e h = rw (first_line w s e, h)

last_line : (w : List ℕ) → unbroken w ≡ true → same w (text "verdict passes") ≡ false → says (line w) ≡ false
unfolding has_line split same text
last_line w e h = ap says (sym (append-nil (line w))) ∙ other_line w [] e h

worst_lines_lem : (w : List ℕ) (n : ℕ) (s : List ℕ) → says (worst_lines w n ++ s) ≡ says s
unfolding worst_lines text same unbroken
worst_lines_lem w zero s = refl
worst_lines_lem w (suc n) s =
    let words = text "worst " ++ decimal n ++ text " " in
    let whole = and_number words (get_or w n 0) (number_and (text "worst ") n (text " ") refl refl) in
    ap says (append_assoc (worst_lines w n) _ s)
    ∙ worst_lines_lem w n _
    ∙ other_line (words ++ decimal (get_or w n 0)) s whole refl

interval_line : (f t d : ℕ)
    → says (line (text "interval " ++ decimal f ++ text " " ++ decimal t ++ text " demand " ++ decimal d)) ≡ false
unfolding text same unbroken
interval_line f t d =
    let from = text "interval " ++ decimal f ++ text " " in
    let to = from ++ decimal t ++ text " demand " in
    let whole = number_and from t (text " demand ") (number_and (text "interval ") f (text " ") refl refl) refl in
    last_line (to ++ decimal d) (and_number to d whole) refl

-- Whether the verdict is that the table passes.
abbrev passed : Verdict → Bool
passed Verdict.Passes = true
passed Verdict.Overload = false
passed (Verdict.Late f t d) = false
passed Verdict.Undecided = false

is_passes : (v : Verdict) → passed v ≡ true → v ≡ Verdict.Passes
is_passes Verdict.Passes e = refl
is_passes Verdict.Overload e = let z : ◌≡◌ {A = ℕ} 0 1 = cc in absurd (omega arith)
is_passes (Verdict.Late f t d) e = let z : ◌≡◌ {A = ℕ} 0 1 = cc in absurd (omega arith)
is_passes Verdict.Undecided e = let z : ◌≡◌ {A = ℕ} 0 1 = cc in absurd (omega arith)

-- ---- The lines of a report

quick_line : (q : Bool) (s : List ℕ) → says (line (text "quick " ++ quick_word q) ++ s) ≡ says s
unfolding text same unbroken
quick_line true s = other_line (text "quick pass") s refl refl
quick_line false s = other_line (text "quick none") s refl refl

module _ (n : ℕ) (a : Answer) where
  details_lines : (v : Verdict) → says (details n a v) ≡ false
  unfolding text same unbroken has_line split
  details_lines Verdict.Passes =
      worst_lines_lem a.worst n _
      ∙ last_line (text "idle " ++ decimal a.idle) (and_number (text "idle ") a.idle refl) refl
  details_lines Verdict.Overload = refl
  details_lines (Verdict.Late f t d) = interval_line f t d
  details_lines Verdict.Undecided = refl

  settled_lines : (v : Verdict) → says (from_settled n a v) ≡ false
  unfolding text same unbroken
  settled_lines v =
      other_line (text "settled " ++ decimal a.settled) _ (and_number (text "settled ") a.settled refl) refl
      ∙ details_lines v

  verdict_lines : (v : Verdict) → says (from_verdict n a v) ≡ passed v
  unfolding text same unbroken has_line
  verdict_lines Verdict.Passes = rw (first_line (text "verdict passes") (from_settled n a Verdict.Passes) refl)
  verdict_lines Verdict.Overload = other_line (text "verdict overload") _ refl refl ∙ settled_lines Verdict.Overload
  verdict_lines (Verdict.Late f t d) = other_line (text "verdict late") _ refl refl ∙ settled_lines (Verdict.Late f t d)
  verdict_lines Verdict.Undecided = other_line (text "verdict undecided") _ refl refl ∙ settled_lines Verdict.Undecided

  load_line : (s : List ℕ)
      → says (line (text "load " ++ decimal a.measure.load ++ text "/" ++ decimal a.measure.round) ++ s) ≡ says s
  unfolding text same unbroken
  load_line s =
      let load = text "load " ++ decimal a.measure.load ++ text "/" in
      let whole = number_and (text "load ") a.measure.load (text "/") refl refl in
      other_line (load ++ decimal a.measure.round) s (and_number load a.measure.round whole) refl

  report_lines : (q : Bool) (v : Verdict) → says (report_of n q a v) ≡ passed v
  unfolding text same unbroken
  report_lines q v =
      let horizon = a.measure.horizon in
      ap says (grouped n q a v)
      ∙ other_line (text "tasks " ++ decimal n) _ (and_number (text "tasks ") n refl) refl
      ∙ load_line _
      ∙ quick_line q _
      ∙ other_line (text "horizon " ++ decimal horizon) _ (and_number (text "horizon ") horizon refl) refl
      ∙ verdict_lines v

-- A report that has room in a report buffer says that the table passes exactly if this is the verdict.
pub says_passes_lem : (n : ℕ) (q : Bool) (a : Answer) (v : Verdict) → length (report_of n q a v) ≤ report_bytes
    → (says_passes (report_of n q a v) ≡ true) ↔ (v ≡ Verdict.Passes)
says_passes_lem n q a v h =
    let r = report_of n q a v in
    let said : says_passes r ≡ passed v = rw (le-leb (length r) report_bytes h) (report_lines n a q v) in
    (λ e. is_passes v (sym said ∙ e), λ e. said ∙ ap passed e)
