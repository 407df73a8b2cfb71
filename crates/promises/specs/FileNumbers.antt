-- A CALL ON A FILE ALONE: whatever it says of a table (`tell`), a refused file is refused as it is by reading it,
-- and no number means two things.
use Rattle.model.specs.Values.{Admission}
use Rattle.std.specs.Prelude.{◌≡◌, refl, ◌⊎◌, List, ℕ, ◌≤◌, ◌<◌, Ok, Err}
use Rattle.std.proofs.Common.{inl, inr}
use Rattle.values.specs.declared.Table.{Table}
use Rattle.values.specs.declared.Refusal.{Refusal}
use Rattle.values.specs.declared.Measure.{Measure}
use Rattle.model.specs.Tasks.{judged_mixed, judged}
use Rattle.model.specs.TableFile.{form_of, file_read, periodic_from}
use Rattle.model.specs.Report.{refusal_number, file_number}
use Rattle.wellformed.specs.WellFormed.{refused_both}
use Rattle.tablefile.specs.Admitted.{admitted, refused_for}
use Rattle.tablefile.specs.Refused.{read_tellable}
use Rattle.tablefile.specs.Periodic.{periodic_refused, periodic_read, periodic_tellable}
use Rattle.telling.specs.Refusals.{admitted_or_told}

-- The number n is at most `most` and of what is admitted, or the refusal of what is refused:
-- its number is above 0 and its place below 65,536, so that exactly the numbers from 65,536 on are refusals.
abbrev pub Apart : Admission → ℕ → ℕ → Type 0
Apart a most n =
    ((a ≡ Ok tt) × (n ≤ most))
    ⊎ ((r : Refusal) × (a ≡ Err r) × (n ≡ refusal_number r) × ((0 < r.number) × (r.place < 65536)))

-- The call refuses the tables that are refused, as they are; or those as well that have a button, by 11.
abbrev pub Refuses : (Table → ℕ) → Type 0
Refuses tell = (t : Table) (r : Refusal) → judged_mixed t ≡ Err r → tell t ≡ refusal_number r

abbrev pub RefusesButtons : (Table → ℕ) → Type 0
RefusesButtons tell = (t : Table) (r : Refusal) → judged t ≡ Err r → tell t ≡ refusal_number r

module _ (file : List ℕ) (tell : Table → ℕ) where
  pub refused_file_lem : Refuses tell → (r : Refusal) → (file_read file).admission ≡ Err r
      → file_number file tell ≡ refusal_number r
  refused_file_lem refuses r h = elim (refused_for file r h) [
    | inl f ↦ rw (f, file_number)
    | inr (f, j) ↦ rw (f, file_number) (refuses (form_of file).table r j)
  ]

  pub read_file : (file_read file).admission ≡ Ok tt → file_number file tell ≡ tell (file_read file).table
  read_file h =
      let (e, well) = admitted file h in
      let good : (form_of file).admission ≡ (Ok tt) = rw e at h in
      rw (e, good, file_number) refl

  pub file_apart : Refuses tell
      → (most : ℕ) → ((t : Table) (m : Measure) → judged_mixed t ≡ Ok m → tell t ≤ most)
      → Apart (file_read file).admission most (file_number file tell)
  file_apart refuses most low = elim (admitted_or_told (file_read file).admission (read_tellable file)) [
    | inr (r, e, h) ↦ inr (r, e, refused_file_lem refuses r e, h)
    | inl e ↦ let (same, (m, well)) = admitted file e in
        inl (e, rw (read_file e) (low (file_read file).table m (rw same well)))
  ]

  -- Of a call that refuses buttons: the file is then refused by 11 at the lowest.
  pub refused_periodic : RefusesButtons tell → (r : Refusal) → (periodic_from file).admission ≡ Err r
      → file_number file tell ≡ refusal_number r
  refused_periodic refuses r h = elim (periodic_refused file r h) [
    | inl e ↦ refused_file_lem (λ t w f. refuses t w (refused_both t w f)) r e
    | inr (e, f) ↦ rw (read_file e) (refuses (file_read file).table r f)
  ]

  pub periodic_apart : RefusesButtons tell
      → (most : ℕ) → ((t : Table) (m : Measure) → judged t ≡ Ok m → tell t ≤ most)
      → Apart (periodic_from file).admission most (file_number file tell)
  periodic_apart refuses most low = elim (admitted_or_told (periodic_from file).admission (periodic_tellable file)) [
    | inr (r, e, h) ↦ inr (r, e, refused_periodic refuses r e, h)
    | inl e ↦ let (read, same, (m, well)) = periodic_read file e in
        inl (e, rw (read_file read) (low (file_read file).table m well))
  ]
