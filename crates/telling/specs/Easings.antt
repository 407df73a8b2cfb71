-- WHAT IS TOLD OF TWO FILES (`eased_told_as`): by its remainder by 4 the number tells of no easing,
-- of an easing, or of a file's refusal. The kept tasks are tasks of the old table (`kept_below`),
-- and where an easing is told there is one (`files_eased`).
use Rattle.model.specs.Values.{Admission}
use Rattle.std.specs.Prelude.{◌≡◌, refl, ◌⊎◌, List, Bool, true, false, cond, ℕ, ◌+◌, ◌*◌, ◌/◌, ◌%◌, ◌^◌, ◌<◌, ltb, Ok, Err}
use Rattle.std.proofs.Common.{subst, inl, inr, arith}
use Rattle.values.specs.declared.Table.{Table}
use Rattle.values.specs.declared.Refusal.{Refusal}
use Rattle.values.specs.declared.Easing.{Easing}
use Rattle.model.specs.TableFile.{periodic_from}
use Rattle.model.specs.Report.{refusal_number}
use Rattle.model.specs.Easing.{Eased, unmatched, kept_set, easing, eased_number, eased_exported}
use Rattle.counting.specs.Bits.{bits_lt}
use Rattle.backlog.specs.FirstChoice.{Told, first_choice}
use Rattle.tablefile.specs.Refused.{AdmissionTellable}
use Rattle.tablefile.specs.Periodic.{periodic_tellable}

module _ (before after : Table) where
  abbrev Below : Easing → Type 0
  Below (Easing.Unmatched i) = i ≡ i
  Below (Easing.Kept set) = set < 2 ^ before.count

  below_by : (b : Bool)
      → Below (cond b (Easing.Unmatched (unmatched before after)) (Easing.Kept (kept_set before after)))
  below_by true = refl
  below_by false = bits_lt _ before.count

  told_below : Below (easing before after)
  unfolding easing
  told_below = below_by (ltb (unmatched before after) after.count)

  pub kept_below : (set : ℕ) → easing before after ≡ Easing.Kept set → set < 2 ^ before.count
  kept_below set e = subst Below e told_below

-- A file is read, and has no button; a file is refused, by 11 at a button too,
-- in a way that its number and place are told by one number v.
abbrev pub Read : List ℕ → Type 0
Read file = (periodic_from file).admission ≡ Ok tt

abbrev pub RefusedAs : List ℕ → ℕ → Type 0
RefusedAs file v =
    (r : Refusal) × ((periodic_from file).admission ≡ Err r) × (v ≡ refusal_number r)
    × ((0 < r.number) × (r.place < 65536))

-- What is told of the tables of two files.
abbrev pub easing_of : List ℕ → List ℕ → Easing
easing_of old new = easing (periodic_from old).table (periodic_from new).table

-- What the number means, by its remainder by 4 and its quotient v.
abbrev pub EasedMeans : List ℕ → List ℕ → ℕ → ℕ → Type 0
EasedMeans old new rest v =
    ((rest ≡ 0) × Read old × Read new × (easing_of old new ≡ Easing.Unmatched v))
    ⊎ ((rest ≡ 1) × Read old × Read new × (easing_of old new ≡ Easing.Kept v))
    ⊎ ((rest ≡ 2) × RefusedAs old v)
    ⊎ ((rest ≡ 3) × Read old × RefusedAs new v)

module _ (old new : List ℕ) where
  -- The number by what the files are admitted as, and its meaning.
  abbrev number : Admission → Admission → ℕ
  number = eased_number (periodic_from old).table (periodic_from new).table

  means_by : (a b : Admission)
      → (periodic_from old).admission ≡ a → (periodic_from new).admission ≡ b → AdmissionTellable a → AdmissionTellable b
      → (x : Easing) → easing_of old new ≡ x → EasedMeans old new (number a b % 4) (number a b / 4)
  means_by (Err r) b p q h g x e = inr (inr (inl (omega arith, (r, p, omega arith, h))))
  means_by (Ok u) (Err r) p q h g x e =
      inr (inr (inr (omega arith, p, (r, q, omega arith, g))))
  means_by (Ok u) (Ok v) p q h g (Easing.Unmatched i) e =
      let v : (4 * i) / 4 ≡ i = omega arith in rw e (inl (omega arith, p, q, rw v refl))
  means_by (Ok u) (Ok v) p q h g (Easing.Kept set) e =
      let v : (4 * set + 1) / 4 ≡ set = omega arith in rw e (inr (inl (omega arith, p, q, rw v refl)))

  pub eased_told_as : EasedMeans old new (eased_exported old new % 4) (eased_exported old new / 4)
  eased_told_as =
      means_by (periodic_from old).admission (periodic_from new).admission refl refl
      (periodic_tellable old) (periodic_tellable new) (easing_of old new) refl

  eased_by : (rest v : ℕ) → rest ≡ 1 → EasedMeans old new rest v
      → Read old × Read new × Eased (periodic_from old).table (periodic_from new).table
  eased_by rest v one (inl x) = absurd (omega (arith, x.0))
  eased_by rest v one (inr (inl (r, p, q, e))) =
      let told = first_choice (periodic_from old).table (periodic_from new).table in
      (p, q, (subst (Told (periodic_from old).table (periodic_from new).table) e told).0)
  eased_by rest v one (inr (inr (inl x))) = absurd (omega (arith, x.0))
  eased_by rest v one (inr (inr (inr x))) = absurd (omega (arith, x.0))

  pub files_eased : eased_exported old new % 4 ≡ 1
      → Read old × Read new × Eased (periodic_from old).table (periodic_from new).table
  files_eased one = eased_by (eased_exported old new % 4) (eased_exported old new / 4) one eased_told_as
