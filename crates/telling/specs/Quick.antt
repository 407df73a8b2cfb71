-- THE QUICK ANSWER (`quick_either`): to a well-formed table it is pass or no answer,
-- and is told so in words and as a number.
use Rattle.values.specs.declared.Quick.{Quick}
use Rattle.std.specs.Prelude.{◌≡◌, refl, ◌⊎◌, [], ◌∷◌, Bool, true, false, cond, ◌≤◌, Ok, Err}
use Rattle.std.proofs.Common.{inl, inr, arith}
use Rattle.values.specs.declared.Table.{Table}
use Rattle.values.specs.declared.Refusal.{Refusal}
use Rattle.values.specs.declared.Measure.{Measure}
use Rattle.model.specs.Values.{quick_said, QuickAnswer}
use Rattle.model.specs.Tasks.{judged}
use Rattle.model.specs.Patterns.{quick_pass, quick_answer}
use Rattle.model.specs.Report.{refusal_number, quick_number}

-- The answer to a well-formed table, by whether it passes.
abbrev told : Bool → QuickAnswer
told pass = cond pass (Ok Quick.Pass) (Ok Quick.NoAnswer)

said_by : (b : Bool) → quick_said (told b) ≡ cond b (0 ∷ 1 ∷ []) (0 ∷ 0 ∷ [])
said_by true = refl
said_by false = refl

either_by : (b : Bool) → (told b ≡ Ok Quick.Pass) ⊎ (told b ≡ Ok Quick.NoAnswer)
either_by true = inl refl
either_by false = inr refl

low_by : (b : Bool) → quick_number (told b) ≤ 1
low_by true = omega arith
low_by false = omega arith

pub quick_refuses : (t : Table) (r : Refusal) → judged t ≡ Err r
    → quick_number (quick_answer t) ≡ refusal_number r
unfolding quick_answer
quick_refuses t r e = rw e refl

module _ (t : Table) (m : Measure) (well : judged t ≡ Ok m) where
  pub quick_either : (quick_answer t ≡ Ok Quick.Pass) ⊎ (quick_answer t ≡ Ok Quick.NoAnswer)
  unfolding quick_answer
  quick_either = rw well (either_by (quick_pass t))

  pub quick_words : quick_said (quick_answer t) ≡ cond (quick_pass t) (0 ∷ 1 ∷ []) (0 ∷ 0 ∷ [])
  unfolding quick_answer
  quick_words = rw well (said_by (quick_pass t))

  pub quick_low : quick_number (quick_answer t) ≤ 1
  unfolding quick_answer
  quick_low = rw well (low_by (quick_pass t))

  -- The number 1 is that of pass alone.
  pub quick_one : quick_number (quick_answer t) ≡ 1 → quick_answer t ≡ Ok Quick.Pass
  quick_one e = elim quick_either [ inl q ↦ q | inr q ↦ absurd (omega (arith, rw q at e)) ]
