-- What each answer to a log means, in words of what a camera writes that runs the dispatcher.
use Rattle.std.specs.Prelude.{◌≡◌, ◌⊎◌, List, [], ◌∷◌, ◌++◌, Bool, true, false, ℕ, ◌+◌, ◌≤◌, ◌<◌, length}
use Rattle.model.specs.Values.{Table, Finding}
use Rattle.model.specs.Limits.{log_limit}
use Rattle.model.specs.History.{owner_at}
use Rattle.model.specs.Log.{slot_record, log_of}

-- A fault or a difference: more input does not change it.
abbrev pub Final : Finding → Type 0
Final Finding.Nothing = ⊥
Final Finding.Good = ⊥
Final (Finding.Differs slot) = Unit
Final (Finding.Fault n p) = Unit

-- A record of a slot: an empty one, or a task's.
abbrev pub IsSlot : List ℕ → Type 0
IsSlot r = (r ≡ 17 ∷ []) ⊎ ((k : ℕ) × (r ≡ 16 ∷ k ∷ []))

-- What may be read behind whole records and not be wrong yet: nothing, the kind of a task's slot, the end.
abbrev pub IsPart : List ℕ → Type 0
IsPart r = (r ≡ []) ⊎ ((r ≡ 16 ∷ []) ⊎ (r ≡ 19 ∷ []))

module _ (t : Table) (log : List ℕ) where
  -- The log begins with what a camera writes of n slots under these done reports, and goes on with these bytes.
  -- There is no report before a slot.
  pub record Begins (n : ℕ) (more : List ℕ) : Type 0 where
    pub done : ℕ → Bool
    pub none : done 0 ≡ false
    pub bytes : log ≡ log_of t done n ++ more

  -- What was written of these n slots, and how many bytes that are.
  abbrev pub written : {n : ℕ} {more : List ℕ} → Begins n more → List ℕ
  written {n} b = log_of t b.done n

  -- Good: it is what a camera writes, with an end. A slot differs: up to it the log is what a camera writes,
  -- and the slot's record is not. The faults: another byte where a kind should be;
  -- a done report with no slot before it or twice; a byte behind the end; no end; too long, and right up to the limit.
  -- Every other answer is found within the limit.
  pub data Found : Finding → Type 0 where
    good : {n : ℕ} → Begins n (19 ∷ []) → length log ≤ log_limit → Found Finding.Good
    differs : {n : ℕ} (slot rest : List ℕ) (b : Begins n (slot ++ rest))
        → IsSlot slot → (slot ≡ slot_record (owner_at t b.done n) → ⊥) → length (written b) + length slot ≤ log_limit
        → Found (Finding.Differs n)
    unknown : {n : ℕ} (k : ℕ) (rest : List ℕ) (b : Begins n (k ∷ rest))
        → (k < 16) ⊎ (19 < k) → length (written b) < log_limit → Found (Finding.Fault 40 (length (written b)))
    unheard : {n : ℕ} (rest : List ℕ) (b : Begins n (18 ∷ rest))
        → (n ≡ 0) ⊎ (b.done n ≡ true) → length (written b) < log_limit → Found (Finding.Fault 41 (length (written b)))
    behind : {n : ℕ} (k : ℕ) (rest : List ℕ) (b : Begins n (19 ∷ k ∷ rest))
        → length (written b) + 1 < log_limit → Found (Finding.Fault 42 (length (written b) + 1))
    endless : {n : ℕ} (part : List ℕ) → Begins n part → (part ≡ []) ⊎ (part ≡ 16 ∷ []) → length log ≤ log_limit
        → Found (Finding.Fault 43 (length log))
    long : {n : ℕ} (part : List ℕ) (k : ℕ) (rest : List ℕ) (b : Begins n (part ++ (k ∷ rest)))
        → IsPart part → length (written b) + length part ≡ log_limit → Found (Finding.Fault 44 log_limit)
