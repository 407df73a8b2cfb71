-- THE DISTANCE ANSWER (`distance_words`): to a well-formed table it is overload, pass or no answer,
-- and is told so in words and as a number.
use Rattle.values.specs.declared.ByDistance.{ByDistance}
use Rattle.std.specs.Prelude.{◌≡◌, [], ◌∷◌, Bool, true, false, cond, ℕ, ◌≤◌, ◌<◌, T, Ok, Err}
use Rattle.std.proofs.Math.Path.{refl}
use Rattle.std.proofs.Math.Decide.{dec_lt}
use Rattle.std.proofs.Common.{arith}
use Rattle.values.specs.declared.Table.{Table}
use Rattle.values.specs.declared.Refusal.{Refusal}
use Rattle.values.specs.declared.Measure.{Measure}
use Rattle.model.specs.Values.{distance_said, DistanceAnswer}
use Rattle.model.specs.Tasks.{round, load, judged_mixed}
use Rattle.model.specs.Patterns.{light, distance_pass, distance_answer}
use Rattle.model.specs.Report.{refusal_number, distance_number}
use Rattle.counting.specs.Count.{tests}

-- The answer to a well-formed table, by its load and its patterns.
abbrev told : Bool → Bool → DistanceAnswer
told light pass = cond light (cond pass (Ok ByDistance.Pass) (Ok ByDistance.NoAnswer)) (Ok ByDistance.Overload)

said_by : (a b : Bool) → distance_said (told a b) ≡ cond a (cond b (0 ∷ 1 ∷ []) (0 ∷ 0 ∷ [])) (0 ∷ 2 ∷ [])
said_by true true = refl
said_by true false = refl
said_by false b = refl

low_by : (a b : Bool) → distance_number (told a b) ≤ 2
low_by true true = omega arith
low_by true false = omega arith
low_by false b = omega arith

one_by : (a b : Bool) → distance_number (told a b) ≡ 1 → told a b ≡ Ok ByDistance.Pass
one_by true true n = refl
one_by true false n = absurd (omega arith)
one_by false b n = absurd (omega arith)

heavy_by : (t : Table) (a : Bool) → light t ≡ a → (b : Bool) → told a b ≡ Ok ByDistance.Overload → round t < load t
heavy_by t true q true e = let z : ◌≡◌ {A = ℕ} 0 1 = cc in absurd (omega arith)
heavy_by t true q false e = let z : ◌≡◌ {A = ℕ} 0 1 = cc in absurd (omega arith)
heavy_by t false q b e = elim (dec_lt (round t) (load t)) [
  | yes l ↦ l
  | no l ↦ let z : T (light t) = omega tests in absurd (rw q at z)
]

pub distance_refuses : (t : Table) (r : Refusal) → judged_mixed t ≡ Err r
    → distance_number (distance_answer t) ≡ refusal_number r
unfolding distance_answer
distance_refuses t r e = rw e refl

module _ (t : Table) (m : Measure) (well : judged_mixed t ≡ Ok m) where
  pub distance_words :
      distance_said (distance_answer t) ≡ cond (light t) (cond (distance_pass t) (0 ∷ 1 ∷ []) (0 ∷ 0 ∷ [])) (0 ∷ 2 ∷ [])
  unfolding distance_answer
  distance_words = rw well (said_by (light t) (distance_pass t))

  pub distance_low : distance_number (distance_answer t) ≤ 2
  unfolding distance_answer
  distance_low = rw well (low_by (light t) (distance_pass t))

  -- The number 1 is that of pass alone.
  pub distance_one : distance_number (distance_answer t) ≡ 1 → distance_answer t ≡ Ok ByDistance.Pass
  unfolding distance_answer
  distance_one e = rw well (one_by (light t) (distance_pass t) (rw well at e))

  -- Overload is said only of a load above 1.
  pub distance_heavy : distance_answer t ≡ Ok ByDistance.Overload → round t < load t
  unfolding distance_answer
  distance_heavy e = heavy_by t (light t) refl (distance_pass t) (rw well at e)
