-- ROWS (`all_permitted`): of a list of tables with budgets and answers,
-- the answers are the permitted ones if they are the computed ones.
use Rattle.std.specs.Prelude.{◌≡◌, List, [], ◌∷◌, map, ℕ}
use Rattle.values.specs.declared.Table.{Table}
use Rattle.values.specs.declared.Answer.{Answer}
use Rattle.model.specs.Verdict.{Permitted}
use Rattle.backlog.proofs.Computed.{answer_of}
use Rattle.telling.specs.Answers.{permitted_of}

-- A table, a budget, and the answer that is given.
pub record Row : Type 0 where
  pub table : Table
  pub budget : ℕ
  pub answer : Answer

-- Every row's answer is the one permitted.
abbrev pub AllPermitted : List Row → Type 0
AllPermitted [] = Unit {0}
AllPermitted (r ∷ rs) = Permitted r.table r.budget r.answer × AllPermitted rs

pub all_permitted : (rs : List Row)
    → map (λ r. answer_of r.table r.budget) rs ≡ map (λ r. r.answer) rs → AllPermitted rs
all_permitted [] e = tt
all_permitted (r ∷ rs) e =
    let h : answer_of r.table r.budget ≡ r.answer = cc in
    let k : map (λ r. answer_of r.table r.budget) rs ≡ map (λ r. r.answer) rs = cc in
    (permitted_of r.table r.budget r.answer h, all_permitted rs k)
