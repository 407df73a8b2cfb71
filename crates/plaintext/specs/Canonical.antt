-- The text of a budget and tasks is read as this budget and these tasks.
use Rattle.std.specs.Prelude.{◌≡◌, ◌≢◌, Bool, true, false, ◌&&◌, ℕ, zero, suc, ◌+◌, ◌-◌, ◌*◌, ◌/◌, ◌%◌, ◌≤◌, ◌<◌, length, get_or, Ok}
use Rattle.std.proofs.Math.Path.{refl, ap}
use Rattle.std.proofs.Common.{sym, ◌∙◌, arith, lit≤, lit<, length-append}
use mathlib.Core.List.{List, [], ◌∷◌, ◌++◌, append-nil, append_assoc}
use Rattle.std.proofs.Math.Decide.{dec_le}
use borrow.Author.Tests.{ne_eqb, le-leb, lt-ltb, lt-leb}
use Rattle.std.proofs.Math.Seq.{append_snoc}
use Rattle.values.specs.declared.Sort.{Sort}
use Rattle.values.specs.declared.Task.{Task}
use Rattle.values.specs.declared.Entry.{Entry}
use Rattle.model.specs.Notation.{text, decimal}
use Rattle.model.specs.Limits.{task_limit, word_limit, budget_limit}
use Rattle.model.specs.TableFile.{refuse_file, admit}
use Rattle.model.specs.PlainText.{is_line_feed, is_hash, is_gap, is_digit, split, filled, lines_of, content_of, words_of, all_digits, value_after, value}
use Rattle.model.specs.PlainText.{number_fault, numbers_fault, same, budget_said, budget_line, task_line, line_of, read_lines}
use Rattle.model.specs.PlainText.{largest_budget, text_form, sort_text, task_texts}
use Rattle.model.specs.PlainText.{text_of}
use Rattle.tablefile.specs.Written.{AllFit, Fits32}
use Rattle.text.specs.Decimal.{one_digit, last_digit}
use Rattle.plaintext.specs.Words.{kept}
use Rattle.plaintext.specs.Numbers.{digit_range}

-- ---- Numbers in decimal

digits_append : (w : List ℕ) (x : ℕ) → all_digits w ≡ true → is_digit x ≡ true → all_digits (w ++ (x ∷ [])) ≡ true
unfolding all_digits
digits_append [] x a e = rw e
digits_append (y ∷ w) x a e = go (is_digit y) a (λ b. digits_append w x b e)
  where
    go : (b : Bool) → b && all_digits w ≡ true → (all_digits w ≡ true → all_digits (w ++ (x ∷ [])) ≡ true) → b && all_digits (w ++ (x ∷ [])) ≡ true
    go true h later = later h
    go false h later = h

value_append : (n : ℕ) (w : List ℕ) (x : ℕ) → value_after n (w ++ (x ∷ [])) ≡ 10 * value_after n w + (x - 48)
unfolding value_after
value_append n [] x = refl
value_append n (y ∷ w) x = value_append (10 * n + (y - 48)) w x

a_digit : (d : ℕ) → d < 10 → is_digit (48 + d) ≡ true
a_digit d h = rw (le-leb 48 (48 + d) (omega arith), le-leb (48 + d) 57 (omega arith))

-- A word of digits that has this value.
pub record Means (w : List ℕ) (n : ℕ) : Type 0 where
  pub digits : all_digits w ≡ true
  pub back : value w ≡ n
  pub some : 0 < length w

means_below : (e n : ℕ) → n < e → Means (decimal n) n
unfolding all_digits value_after
means_below zero n h = absurd (omega arith)
means_below (suc e) n h = elim (dec_le 10 n) [
  | yes l ↦
      let shorter = means_below e (n / 10) (omega arith) in
      let w = decimal (n / 10) in
      rw (last_digit n l)
      (record {
        digits = digits_append w (48 + n % 10) shorter.digits (a_digit (n % 10) (omega arith));
        back = value_append 0 w (48 + n % 10) ∙ rw shorter.back (omega arith);
        some = omega (arith, length-append w ((48 + n % 10) ∷ []));
      })
  | no l ↦ rw (one_digit n (omega arith)) (record { digits = rw (a_digit n (omega arith)); back = omega arith; some = omega arith })
]

pub means : (n : ℕ) → Means (decimal n) n
means n = means_below (suc n) n (omega arith)

-- It has no fault below a limit that it keeps.
no_fault : (limit n : ℕ) → n < limit → number_fault limit (decimal n) ≡ 0
no_fault limit n h = rw ((means n).digits, (means n).back, lt-ltb n limit h)

-- ---- Bytes of a word, and of a line

-- Every byte of a list has the property.
unfoldable All : (ℕ → Type 0) → List ℕ → Type 0
All P [] = Unit
All P (x ∷ w) = P x × All P w

all_append : (P : ℕ → Type 0) (a b : List ℕ) → All P a → All P b → All P (a ++ b)
unfolding All
all_append P [] b p q = q
all_append P (x ∷ a) b (h, p) q = (h, all_append P a b p q)

all_map : (P Q : ℕ → Type 0) → ((x : ℕ) → P x → Q x) → (w : List ℕ) → All P w → All Q w
unfolding All
all_map P Q f [] p = tt
all_map P Q f (x ∷ w) (h, p) = (f x h, all_map P Q f w p)

all_at : (P : ℕ → Type 0) (w : List ℕ) (i : ℕ) → All P w → P 0 → P (get_or w i 0)
unfolding All
all_at P [] i p z = z
all_at P (x ∷ w) zero (h, p) z = h
all_at P (x ∷ w) (suc i) (h, p) z = all_at P w i p z

-- A byte of a word is above those that part words and lines; a byte of a line is one or a blank.
abbrev InWord : ℕ → Type 0
InWord x = 48 ≤ x

abbrev InLine : ℕ → Type 0
InLine x = (32 ≤ x) × (x ≢ 35)

word_in_line : (w : List ℕ) → All InWord w → All InLine w
word_in_line = all_map InWord InLine (λ x h. (omega arith, omega arith))

digits_in_word : (w : List ℕ) → all_digits w ≡ true → All InWord w
unfolding All all_digits
digits_in_word [] e = tt
digits_in_word (x ∷ w) e = go (is_digit x) refl e (digits_in_word w)
  where
    go : (b : Bool) → is_digit x ≡ b → b && all_digits w ≡ true → (all_digits w ≡ true → All InWord w) → InWord x × All InWord w
    go true q h later = ((digit_range x q).0, later h)
    go false q h later = let z : ◌≡◌ {A = ℕ} 0 1 = cc in absurd (omega arith)

number_in_word : (n : ℕ) → All InWord (decimal n)
number_in_word n = digits_in_word (decimal n) (means n).digits

no_gap : (x : ℕ) → InWord x → is_gap x ≡ false
no_gap x h = rw (ne_eqb x 32 (omega arith), ne_eqb x 9 (omega arith))

-- ---- Pieces that are written one after another

module _ (p : ℕ → Bool) where
  abbrev Clear : ℕ → Type 0
  Clear x = p x ≡ false

  split_at : (w : List ℕ) (x : ℕ) (rest : List ℕ) → All Clear w → p x ≡ true → split p (w ++ x ∷ rest) ≡ w ∷ split p rest
  unfolding All split
  split_at [] x rest c e = rw e
  split_at (y ∷ w) x rest (h, c) e = rw (h, split_at w x rest c e)

  split_whole : (w : List ℕ) → All Clear w → split p w ≡ w ∷ []
  unfolding All split
  split_whole [] c = refl
  split_whole (y ∷ w) (h, c) = rw (h, split_whole w c)

-- A word before a blank, and the last one.
word_then : (w rest : List ℕ) → All InWord w → 0 < length w → words_of (w ++ 32 ∷ rest) ≡ w ∷ words_of rest
word_then w rest c h = rw (split_at is_gap w 32 rest (all_map InWord (Clear is_gap) no_gap w c) refl) (kept w (split is_gap rest) h)

last_word : (w : List ℕ) → All InWord w → 0 < length w → words_of w ≡ w ∷ []
unfolding filled
last_word w c h = rw (split_whole is_gap w (all_map InWord (Clear is_gap) no_gap w c)) (kept w [] h)

-- A line of such bytes has them for its content.
content_whole : (l : List ℕ) → All InLine l → content_of l ≡ l
content_whole l c =
    let last : get_or l (length l - 1) 0 ≢ 13 = all_at (λ x. x ≢ 13) l (length l - 1) (all_map InLine (λ x. x ≢ 13) (λ x h. omega arith) l c) (omega arith) in
    rw (ne_eqb (get_or l (length l - 1) 0) 13 last, split_whole is_hash l (all_map InLine (Clear is_hash) (λ x h. ne_eqb x 35 h.1) l c))

-- A line that is ended, and what follows it.
line_then : (l rest : List ℕ) → All InLine l → lines_of (l ++ text "\n" ++ rest) ≡ l ∷ lines_of rest
unfolding text
line_then l rest c = rw append_assoc (split_at is_line_feed l 10 rest (all_map InLine (Clear is_line_feed) (λ x h. ne_eqb x 10 (omega arith)) l c) refl)

-- ---- The lines of a budget and of a task

budget_name : All InWord (text "budget")
unfolding text All
budget_name = (lit≤ tt, (lit≤ tt, (lit≤ tt, (lit≤ tt, (lit≤ tt, (lit≤ tt, tt))))))

task_name : All InWord (text "task")
unfolding text All
task_name = (lit≤ tt, (lit≤ tt, (lit≤ tt, (lit≤ tt, tt))))

button_name : All InWord (text "button")
unfolding text All
button_name = (lit≤ tt, (lit≤ tt, (lit≤ tt, (lit≤ tt, (lit≤ tt, (lit≤ tt, tt))))))

and_blank : (l : List ℕ) → All InLine l → All InLine (l ++ text " ")
unfolding text All
and_blank l c = all_append InLine l (text " ") c ((lit≤ tt, omega arith), tt)

and_number : (l : List ℕ) (n : ℕ) → All InLine l → All InLine (l ++ decimal n)
and_number l n c = all_append InLine l (decimal n) c (word_in_line (decimal n) (number_in_word n))

-- The words of a budget's line, and what they say.
module _ (b : ℕ) where
  abbrev budget_content : List ℕ
  budget_content = text "budget " ++ decimal b

  budget_clear : All InLine budget_content
  unfolding text
  budget_clear = and_number (text "budget ") b (and_blank (text "budget") (word_in_line (text "budget") budget_name))

  budget_words : words_of budget_content ≡ text "budget" ∷ decimal b ∷ []
  unfolding text
  budget_words =
      word_then (text "budget") (decimal b) budget_name (lit< tt)
      ∙ ap (λ (ws : List (List ℕ)). text "budget" ∷ ws) (last_word (decimal b) (number_in_word b) (means b).some)

  budget_said_lem : b < budget_limit → line_of false 0 (words_of (content_of budget_content)) ≡ budget_said b
  unfolding line_of budget_line numbers_fault same text
  budget_said_lem h = rw (content_whole budget_content budget_clear, budget_words, no_fault budget_limit b h, (means b).back)

-- A number and the words behind it.
number_then : (n : ℕ) (rest : List ℕ) (ws : List (List ℕ)) → words_of rest ≡ ws → words_of (decimal n ++ 32 ∷ rest) ≡ decimal n ∷ ws
number_then n rest ws e = word_then (decimal n) rest (number_in_word n) (means n).some ∙ ap (λ (l : List (List ℕ)). decimal n ∷ l) e

-- The words of a task's line, of either sort, and what they say.
module _ (c d p : ℕ) where
  abbrev sorted : Sort → Task
  sorted q = record { sort = q; cost = c; deadline = d; period = p }

  abbrev sort_content : Sort → List ℕ
  sort_content q = sort_text q ++ decimal c ++ text " " ++ decimal d ++ text " " ++ decimal p

  name_clear : (q : Sort) → All InLine (sort_text q)
  unfolding text
  name_clear (Sort.Periodic o) =
      and_blank (text "task " ++ decimal o) (and_number (text "task ") o (and_blank (text "task") (word_in_line (text "task") task_name)))
  name_clear Sort.Button = and_blank (text "button") (word_in_line (text "button") button_name)

  sort_clear : (q : Sort) → All InLine (sort_content q)
  sort_clear q =
      let cost = and_number (sort_text q) c (name_clear q) in
      let deadline = and_number (sort_text q ++ decimal c ++ text " ") d (and_blank (sort_text q ++ decimal c) cost) in
      and_number (sort_text q ++ decimal c ++ text " " ++ decimal d ++ text " ") p (and_blank (sort_text q ++ decimal c ++ text " " ++ decimal d) deadline)

  abbrev numbers : List ℕ
  numbers = decimal c ++ 32 ∷ (decimal d ++ 32 ∷ decimal p)

  number_words : words_of numbers ≡ decimal c ∷ decimal d ∷ decimal p ∷ []
  number_words = number_then c _ _ (number_then d _ _ (last_word (decimal p) (number_in_word p) (means p).some))

  abbrev name_words : Sort → List (List ℕ)
  name_words (Sort.Periodic o) = text "task" ∷ decimal o ∷ []
  name_words Sort.Button = text "button" ∷ []

  sort_words : (q : Sort) → words_of (sort_content q) ≡ name_words q ++ (decimal c ∷ decimal d ∷ decimal p ∷ [])
  unfolding text
  sort_words (Sort.Periodic o) =
      let grouped : sort_content (Sort.Periodic o) ≡ text "task" ++ 32 ∷ (decimal o ++ 32 ∷ numbers) = simp append_assoc in
      ap (λ (l : List ℕ). words_of l) grouped
      ∙ word_then (text "task") _ task_name (lit< tt)
      ∙ ap (λ (ws : List (List ℕ)). text "task" ∷ ws) (number_then o _ _ number_words)
  sort_words Sort.Button =
      let grouped : sort_content Sort.Button ≡ text "button" ++ 32 ∷ numbers = simp append_assoc in
      ap (λ (l : List ℕ). words_of l) grouped ∙ word_then (text "button") _ button_name (lit< tt) ∙ ap (λ (ws : List (List ℕ)). text "button" ∷ ws) number_words

  sort_said_lem : (q : Sort) (given : Bool) (count : ℕ) → count < task_limit → Fits32 (sorted q)
      → line_of given count (words_of (content_of (sort_content q))) ≡ Ok (Entry.OneTask (sorted q))
  unfolding line_of task_line numbers_fault same text
  sort_said_lem (Sort.Periodic o) given count room (a, b, e, t) =
      rw (
        content_whole (sort_content (Sort.Periodic o)) (sort_clear (Sort.Periodic o)),
        sort_words (Sort.Periodic o),
        lt-leb task_limit count room,
        no_fault word_limit o a,
        no_fault word_limit c b,
        no_fault word_limit d e,
        no_fault word_limit p t,
        (means o).back,
        (means c).back,
        (means d).back,
        (means p).back,
      )
  sort_said_lem Sort.Button given count room (a, b, e, t) =
      rw (
        content_whole (sort_content Sort.Button) (sort_clear Sort.Button),
        sort_words Sort.Button,
        lt-leb task_limit count room,
        no_fault word_limit c b,
        no_fault word_limit d e,
        no_fault word_limit p t,
        (means c).back,
        (means d).back,
        (means p).back,
      )

module _ (k : Task) where
  abbrev task_content : List ℕ
  task_content = sort_content k.cost k.deadline k.period k.sort

  task_clear : All InLine task_content
  task_clear = sort_clear k.cost k.deadline k.period k.sort

  task_said : (given : Bool) (count : ℕ) → count < task_limit → Fits32 k → line_of given count (words_of (content_of task_content)) ≡ Ok (Entry.OneTask k)
  task_said given count room fits = sort_said_lem k.cost k.deadline k.period k.sort given count room fits

-- ---- The whole text

-- Behind the last line feed stands a line that says nothing.
nothing_left : (given : Bool) (b n : ℕ) (ks : List Task) → read_lines given b ks n (lines_of []) ≡ admit b ks
unfolding read_lines line_of split filled
nothing_left given b n ks = refl

tasks_read : (given : Bool) (b n : ℕ) (ks more : List Task) → AllFit more → length ks + length more ≤ task_limit
    → read_lines given b ks n (lines_of (task_texts more)) ≡ admit b (ks ++ more)
unfolding read_lines task_texts
tasks_read given b n ks [] fits room = nothing_left given b n ks ∙ ap (admit b) (sym (append-nil ks))
tasks_read given b n ks (k ∷ more) fits room =
    rw (line_then (task_content k) (task_texts more) (task_clear k), task_said k given (length ks) (omega arith) (fits 0 (omega arith)))
    (tasks_read given b (suc n) (ks ++ (k ∷ [])) more (λ i l. fits (suc i) (omega arith)) (omega (arith, length-append ks (k ∷ [])))
    ∙ ap (admit b) (append_snoc ks k more))

-- The text of a budget above 0 and below 2^64 and of at most `task_limit` tasks, each number below 2^32, has a good form and holds these.
pub text_read_lem : (b : ℕ) (ks : List Task) → 0 < b → b < budget_limit → AllFit ks → length ks ≤ task_limit
    → text_form (text_of b ks) ≡ admit b ks
unfolding text_form read_lines
text_read_lem b ks some limit fits few =
    rw (line_then (budget_content b) (task_texts ks) (budget_clear b), budget_said_lem b limit, ne_eqb b 0 (omega arith))
    (tasks_read true b 1 [] ks fits (omega arith))

-- That of tasks alone holds these and the largest budget.
pub tasks_text_read : (ks : List Task) → AllFit ks → length ks ≤ task_limit → text_form (task_texts ks) ≡ admit largest_budget ks
unfolding text_form
tasks_text_read ks fits few = tasks_read false largest_budget 0 [] ks fits (omega arith)

-- That of a budget of 0 is refused at its first line.
pub text_nothing : (ks : List Task) → text_form (text_of 0 ks) ≡ refuse_file 27 1
unfolding text_form read_lines
text_nothing ks = rw (line_then (budget_content 0) (task_texts ks) (budget_clear 0), budget_said_lem 0 (omega arith))
