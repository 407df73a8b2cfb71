-- The lines of a text: what a line says, and reading on from line to line.
use Rattle.std.specs.Prelude.{◌≡◌, refl, ◌≢◌, Bool, true, false, cond, ◌&&◌, ℕ, zero, suc, ◌+◌, ◌-◌, min, ◌≤◌, ◌<◌}
use Rattle.std.specs.Prelude.{leb, ltb, eqb, length, get_or, take, drop, Ok, Err}
use Rattle.std.proofs.Math.Path.{sym, ap}
use Rattle.std.proofs.Common.{◌∙◌, arith, length-take-le, take-take, take_all, drop-cons, Bor, Option, None, Some}
use lib.Pointwise.{pointwise}
use lib.ListN.{drop_of_length-le}
use Rattle.std.specs.Option.{MatchOption, unwrap_or}
use mathlib.Core.List.{List, [], ◌∷◌, ◌++◌}
use Rattle.std.proofs.Math.Decide.{dec_lt}
use borrow.Author.Tests.{eq-eqb, ne_eqb, lt-leb, lt-ltb, le-ltb, leb-false}
use Rattle.values.specs.declared.Sort.{Sort}
use Rattle.values.specs.declared.Task.{Task}
use Rattle.values.specs.declared.Table.{Table}
use Rattle.model.specs.Values.{Line}
use Rattle.values.specs.declared.Entry.{Entry}
use Rattle.model.specs.Limits.{task_limit, word_limit, budget_limit}
use Rattle.model.specs.Notation.{text}
use Rattle.model.specs.TableFile.{table_of, refuse_file}
use Rattle.model.specs.PlainText.{is_line_feed, is_hash, split, lines_of, without_return, content_of, words_of, numbers_fault, number, same, unless}
use Rattle.model.specs.PlainText.{budget_line, task_in, button_in, task_line, line_of, after_line, read_lines, largest_budget, text_form}
use Rattle.tablefile.specs.Built.{with_task, stored}
use Rattle.pieces.specs.Marks.{length_to, length_to_le}
use Rattle.pieces.specs.Pieces.{split_last, split_more, first_piece}
use Rattle.plaintext.specs.Numbers.{NumbersRead}

-- A line of no bytes.
pub no_bytes : (l : List ℕ) → length l ≤ 0 → take (length l) l ≡ without_return l
no_bytes [] h = refl
no_bytes (x ∷ l) h = absurd (omega arith)

-- The bytes before a comment.
pub before_comment : (l : List ℕ) (n r : ℕ) → n ≤ length l → take n l ≡ without_return l → r ≡ length_to is_hash (take n l) → (r ≤ length l)
    × (take r l ≡ content_of l)
before_comment l n r h e q =
    let size : length (take n l) ≡ n = length-take-le n l h in
    let few : length_to is_hash (take n l) ≤ length (take n l) = length_to_le is_hash (take n l) in
    (omega arith, sym (take-take r n l (omega arith)) ∙ rw q (sym (first_piece is_hash (take n l))) ∙ ap (λ (w : List ℕ). get_or (split is_hash w) 0 []) e)

and_true_same : (b : Bool) → b && true ≡ b
and_true_same true = refl
and_true_same false = refl

-- A line without the carriage return at its end, where it has one.
return_is : (l : List ℕ) → pointwise eqb (drop (length l - 1) l) (13 ∷ []) ≡ eqb (get_or l (length l - 1) 0) 13
return_is [] = refl
return_is (x ∷ l) =
    let last = length (x ∷ l) - 1 in
    let end : drop (suc last) (x ∷ l) ≡ [] = drop_of_length-le (x ∷ l) {i = suc last} (omega arith) in
    rw (drop-cons (x ∷ l) last 0 (omega arith), end) (and_true_same (eqb (get_or (x ∷ l) last 0) 13))

pub line_end : (l : Bor (List ℕ)) (r : Option (Bor (List ℕ))) → let returns = pointwise eqb (drop (length l.now - 1) l.now) (13 ∷ []) in
    MatchOption r (returns ≡ false) (λ x. (returns ≡ true) × (x.now ≡ take (length l.now - 1) l.now) × (length x.now + 1 ≡ length l.now))
    → (unwrap_or r l).now ≡ without_return l.now
line_end l None h = rw (← return_is l.now, h)
line_end l (Some x) h = rw (← return_is l.now, h.0) h.1

-- What words say that have a fault.
said_fault : (f : ℕ) (l : Line) → f ≢ 0 → unless f l ≡ Err f
said_fault zero l h = absurd (h refl)
said_fault (suc f) l h = refl

module _ {ws : List (List ℕ)} {f : ℕ} {vs : List ℕ} (count : ℕ) (first : count ≤ 0) (r : NumbersRead budget_limit 1 ws f vs) where
  pub budget_fault : f ≢ 0 → Err f ≡ budget_line false count ws
  unfolding budget_line
  budget_fault h = rw (le-ltb 0 count first, ← r.fault_is) (sym (said_fault f _ h))

  pub budget_nothing : f ≡ 0 → get_or vs 0 0 ≡ 0 → Err 27 ≡ budget_line false count ws
  unfolding budget_line
  budget_nothing z none = rw (le-ltb 0 count first, ← r.fault_is, z, ← r.values z 0 (omega arith), eq-eqb (get_or vs 0 0) 0 none)

  pub budget_good : f ≡ 0 → get_or vs 0 0 ≢ 0 → Ok (Entry.Budget (get_or vs 0 0)) ≡ budget_line false count ws
  unfolding budget_line
  budget_good z some = rw (le-ltb 0 count first, ← r.fault_is, z, ← r.values z 0 (omega arith), ne_eqb (get_or vs 0 0) 0 some)

pub second_budget : (count : ℕ) (ws : List (List ℕ)) → Err 65 ≡ budget_line true count ws
unfolding budget_line
second_budget count ws = refl

pub budget_behind : (count : ℕ) (ws : List (List ℕ)) → 0 < count → Err 64 ≡ budget_line false count ws
unfolding budget_line
budget_behind count ws h = rw (lt-ltb 0 count h)

-- The numbers of a task's line by its sort, and the task of these numbers and of these words.
abbrev pub numbers_due : Bool → ℕ
numbers_due button = cond button 3 4

abbrev pub task_from : Bool → List ℕ → Task
task_from true vs = record { sort = Sort.Button; cost = get_or vs 0 0; deadline = get_or vs 1 0; period = get_or vs 2 0 }
task_from false vs = record { sort = Sort.Periodic (get_or vs 0 0); cost = get_or vs 1 0; deadline = get_or vs 2 0; period = get_or vs 3 0 }

abbrev pub word_task : Bool → List (List ℕ) → Task
word_task true ws = button_in ws
word_task false ws = task_in ws

abbrev pub sort_line : Bool → ℕ → List (List ℕ) → Line
sort_line button count ws = task_line (numbers_due button) (word_task button ws) count ws

-- The numbers of such a line fit their words.
abbrev pub WordsFit : Bool → List ℕ → Type 0
WordsFit button vs = (i : ℕ) → i < numbers_due button → get_or vs i 0 < word_limit

pub due_le : (button : Bool) → numbers_due button ≤ 4
due_le true = omega arith
due_le false = omega arith

module _ {ws : List (List ℕ)} {f : ℕ} {vs : List ℕ} where
  task_numbers : (button : Bool) → NumbersRead word_limit (numbers_due button) ws f vs → f ≡ 0 → task_from button vs ≡ word_task button ws
  task_numbers true r z = rw (r.values z 0 (omega arith), r.values z 1 (omega arith), r.values z 2 (omega arith))
  task_numbers false r z = rw (r.values z 0 (omega arith), r.values z 1 (omega arith), r.values z 2 (omega arith), r.values z 3 (omega arith))

  module _ (button : Bool) (count : ℕ) (room : count < task_limit) (r : NumbersRead word_limit (numbers_due button) ws f vs) where
    pub task_fault_lem : f ≢ 0 → Err f ≡ sort_line button count ws
    unfolding task_line
    task_fault_lem h = rw (lt-leb task_limit count room, ← r.fault_is) (sym (said_fault f _ h))

    pub task_good : {k : Task} → f ≡ 0 → k ≡ task_from button vs → Ok (Entry.OneTask k) ≡ sort_line button count ws
    unfolding task_line
    task_good z e = rw (lt-leb task_limit count room, ← r.fault_is, z) (ap (λ (x : Task). Ok (Entry.OneTask x)) (e ∙ task_numbers button r z))

-- A line that says a task found room for it.
room_for_task : (given : Bool) (count : ℕ) (ws : List (List ℕ)) (k : Task) → line_of given count ws ≡ Ok (Entry.OneTask k) → count < task_limit
unfolding line_of budget_line task_line
room_for_task given count [] k e = let z : ◌≡◌ {A = ℕ} 0 1 = cc in absurd (omega arith)
room_for_task given count (w ∷ ws) k e =
    go (same w (text "budget")) (same w (text "task")) (same w (text "button")) given (ltb 0 count) (eqb (number ws 0) 0) (numbers_fault budget_limit 1 ws) e
  where
    taken : (n : ℕ) (j : Task) (full : Bool) → leb task_limit count ≡ full
        → cond full (Err 66) (unless (numbers_fault word_limit n ws) (Ok (Entry.OneTask j))) ≡ Ok (Entry.OneTask k) → count < task_limit
    taken n j true q e = let z : ◌≡◌ {A = ℕ} 0 1 = cc in absurd (omega arith)
    taken n j false q e = leb-false task_limit count q

    go : (budget task button g behind nothing : Bool) (f : ℕ)
        → cond budget (cond g (Err 65) (cond behind (Err 64) (unless f (cond nothing (Err 27) (Ok (Entry.Budget (number ws 0)))))))
        (cond task (task_line 4 (task_in ws) count ws) (cond button (task_line 3 (button_in ws) count ws) (Err 60))) ≡ Ok (Entry.OneTask k)
        → count < task_limit
    go true task button true behind nothing f e = let z : ◌≡◌ {A = ℕ} 0 1 = cc in absurd (omega arith)
    go true task button false true nothing f e = let z : ◌≡◌ {A = ℕ} 0 1 = cc in absurd (omega arith)
    go true task button false false true zero e = let z : ◌≡◌ {A = ℕ} 0 1 = cc in absurd (omega arith)
    go true task button false false false zero e = let z : ◌≡◌ {A = ℕ} 0 1 = cc in absurd (omega arith)
    go true task button false false nothing (suc f) e = let z : ◌≡◌ {A = ℕ} 0 1 = cc in absurd (omega arith)
    go false true button g behind nothing f e = taken 4 (task_in ws) (leb task_limit count) refl e
    go false false true g behind nothing f e = taken 3 (button_in ws) (leb task_limit count) refl e
    go false false false g behind nothing f e = let z : ◌≡◌ {A = ℕ} 0 1 = cc in absurd (omega arith)

-- Up to the lines that are left, reading on makes the form of the text; `line` counts the lines before them, or is 65,535.
pub record Reached (s : List ℕ) (given : Bool) (b : ℕ) (t : Table) (line : ℕ) (ls : List (List ℕ)) : Type 0 where
  pub n : ℕ
  pub ks : List Task
  pub table : t ≡ table_of ks
  pub at : line ≡ min n 65535
  pub same : read_lines given b ks n ls ≡ text_form s

pub start : (s : List ℕ) {t : Table} → t ≡ table_of [] → Reached s false largest_budget t 0 (lines_of s)
unfolding text_form
start s e = record { n = 0; ks = []; table = e; at = omega arith; same = refl }

-- What a line leads to, with these lines behind it.
abbrev pub Follows : List ℕ → Bool → ℕ → Table → ℕ → List (List ℕ) → Line → Type 0
Follows s given b t line ls (Ok Entry.Nothing) = Reached s given b t line ls
Follows s given b t line ls (Ok (Entry.Budget x)) = Reached s true x t line ls
Follows s given b t line ls (Ok (Entry.OneTask k)) = (t.count < task_limit) × Reached s given b (with_task t k) line ls
Follows s given b t line ls (Err f) = refuse_file f line ≡ text_form s

-- The first line, and those behind it.
first_line : (s : List ℕ) → lines_of s ≡ take (length_to is_line_feed s) s ∷ drop 1 (lines_of s)
first_line s = elim (dec_lt (length_to is_line_feed s) (length s)) [
  | yes h ↦ rw (split_more is_line_feed s h)
  | no h ↦
      let all : length_to is_line_feed s ≡ length s = omega (arith, length_to_le is_line_feed s) in
      rw (split_last is_line_feed s all, take_all (length_to is_line_feed s) s (omega arith))
]

module _ {s : List ℕ} {given : Bool} {b : ℕ} {t : Table} {line : ℕ} (left : List ℕ) (r : Reached s given b t line (lines_of left)) where
  -- What the first of the lines that are left says.
  abbrev pub said_first : Line
  said_first = line_of given t.count (words_of (content_of (take (length_to is_line_feed left) left)))

  counted : t.count ≡ length r.ks
  counted = ap (λ (x : Table). x.count) r.table

  leads : (l : Line) → said_first ≡ l → after_line (λ g x js. read_lines g x js (suc r.n) (drop 1 (lines_of left))) given b r.ks (suc r.n) l ≡ text_form s
  unfolding read_lines
  leads l e =
      let words = words_of (content_of (take (length_to is_line_feed left) left)) in
      let said : l ≡ line_of given (length r.ks) words = sym e ∙ ap (λ (c : ℕ). line_of given c words) counted in
      ap (λ (k : Line). after_line (λ g x js. read_lines g x js (suc r.n) (drop 1 (lines_of left))) given b r.ks (suc r.n) k) said
      ∙ sym (ap (λ (ls : List (List ℕ)). read_lines given b r.ks r.n ls) (first_line left))
      ∙ r.same

  pub follows : {line' : ℕ} (l : Line) → line' ≡ min (suc line) 65535 → said_first ≡ l → Follows s given b t line' (drop 1 (lines_of left)) l
  follows (Ok Entry.Nothing) e q = record { n = suc r.n; ks = r.ks; table = r.table; at = omega (arith, r.at); same = leads (Ok Entry.Nothing) q }
  follows (Ok (Entry.Budget x)) e q = record { n = suc r.n; ks = r.ks; table = r.table; at = omega (arith, r.at); same = leads (Ok (Entry.Budget x)) q }
  follows (Ok (Entry.OneTask k)) e q =
      let room : t.count < task_limit = room_for_task given t.count _ k q in
      let held : with_task t k ≡ table_of (r.ks ++ (k ∷ [])) = ap (λ (x : Table). with_task x k) r.table ∙ stored r.ks k (omega (arith, counted)) in
      (room, record { n = suc r.n; ks = r.ks ++ (k ∷ []); table = held; at = omega (arith, r.at); same = leads (Ok (Entry.OneTask k)) q })
  follows (Err f) e q = let at : min (suc line) 65535 ≡ min (suc r.n) 65535 = omega (arith, r.at) in rw (e, at) (leads (Err f) q)

  -- Behind the last line nothing is left; behind any other the lines of what follows its line feed.
  pub last_line : length left ≤ length_to is_line_feed left → drop 1 (lines_of left) ≡ []
  last_line h = rw (split_last is_line_feed left (omega (arith, length_to_le is_line_feed left)))

  pub later_line : length_to is_line_feed left < length left → drop 1 (lines_of left) ≡ lines_of (drop (length_to is_line_feed left + 1) left)
  later_line h = let next : length_to is_line_feed left + 1 ≡ suc (length_to is_line_feed left) = omega arith in rw (split_more is_line_feed left h, next)

-- The text ends.
pub text_ends : {s : List ℕ} {given : Bool} {b : ℕ} {t : Table} {line : ℕ} → Reached s given b t line []
    → record { admission = Ok tt; budget = b; table = t } ≡ text_form s
unfolding read_lines
text_ends r = rw r.table r.same
