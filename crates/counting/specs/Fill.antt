-- Laws of a loop that writes a list from the front: `fill n f w` is w with its entries below n replaced by f 0, f 1, ..
use Rattle.std.specs.Prelude.{◌≡◌, ◌≢◌, List, length, replicate}
use Rattle.std.proofs.Math.Path.{refl}
use Rattle.std.proofs.Common.{sym, ap, ◌∙◌, le_antisymm, le_refl, add-one, arith, get_or-set_same, ext_get_or}
use Prim.Native.Nat.{ℕ, zero, suc, ◌+◌, ◌≤◌, ◌<◌}
use Rattle.std.proofs.Math.Nat.{le_step}
use Rattle.std.proofs.Math.Decide.{ℕ_discrete, dec_lt}
use Rattle.std.proofs.Math.ListN.{get_or, set, length-set, get_or-eq_default}
use Rattle.std.proofs.lemmas.List.{length-replicate, get_or-replicate, set_comm}
use Rattle.std.proofs.Math.Seq.{set-get_or, set-set, get_or-set_other}
use Rattle.model.specs.Notation.{fill}

-- What a loop's invariant says of its counter holds at the end.
pub at_end_lem {ℓ} : {A : Type ℓ} (f : ℕ → A) {r : A} (i n : ℕ) → i ≤ n → n ≤ i → r ≡ f i → r ≡ f n
at_end_lem f i n a b e = e ∙ ap f (le_antisymm a b)

module _ {A : Type 0} where
  -- A list of one value has no other, past its end too, if that is what stands for an entry there.
  pub get_d_same : (n : ℕ) (x : A) (i : ℕ) → get_or (replicate n x) i x ≡ x
  get_d_same n x i = elim (dec_lt i n) [
    | yes l ↦ get_or-replicate n i x x l
    | no l ↦ get_or-eq_default (replicate n x) x {n = i} (omega (arith, length-replicate n x))
  ]

  -- A loop's start: no entry is replaced.
  pub fill_none : (f : ℕ → A) (w : List A) → w ≡ fill 0 f w
  unfolding fill
  fill_none f w = refl

  -- The store of one turn of a loop: l is the list as the loop has it, v what is stored at i.
  pub fill_put : (i : ℕ) (f : ℕ → A) (w : List A) {l : List A} {v : A} → l ≡ fill i f w → v ≡ f i → set l i v ≡ fill (i + 1) f w
  unfolding fill
  fill_put i f w e q = rw (add-one, e, q)

  -- The end of a loop of n turns.
  pub fill_done : (f : ℕ → A) (w : List A) {l : List A} (i n : ℕ) → i ≤ n → n ≤ i → l ≡ fill i f w → l ≡ fill n f w
  fill_done f w = at_end_lem (λ (k : ℕ). fill k f w)

  -- The length stays.
  pub fill_length : (n : ℕ) (f : ℕ → A) (w : List A) → length (fill n f w) ≡ length w
  unfolding fill
  fill_length zero f w = refl
  fill_length (suc n) f w = length-set (fill n f w) n (f n) ∙ fill_length n f w

  -- An entry below n is replaced.
  pub fill_passed : (n : ℕ) (f : ℕ → A) (w : List A) (k : ℕ) (d : A) → k < n → k < length w → get_or (fill n f w) k d ≡ f k
  unfolding fill
  fill_passed zero f w k d a b = absurd (omega arith)
  fill_passed (suc n) f w k d a b = go (ℕ_discrete k n) (λ c. fill_passed n f w k d c b)
    where
      go : Dec (k ≡ n) → (k < n → get_or (fill n f w) k d ≡ f k) → get_or (set (fill n f w) n (f n)) k d ≡ f k
      go (yes e) r = rw e (get_or-set_same (fill n f w) n (f n) d (omega (arith, fill_length n f w)))
      go (no e) r = get_or-set_other (fill n f w) n k (f n) d e ∙ r (omega arith)

  -- An entry from n on stays.
  pub fill_ahead : (n : ℕ) (f : ℕ → A) (w : List A) (k : ℕ) (d : A) → n ≤ k → get_or (fill n f w) k d ≡ get_or w k d
  unfolding fill
  fill_ahead zero f w k d a = refl
  fill_ahead (suc n) f w k d a = get_or-set_other (fill n f w) n k (f n) d (omega arith) ∙ fill_ahead n f w k d (omega arith)

  -- The entry that a turn of a loop in place reads is still the old one.
  pub fill_read : (i : ℕ) (f : ℕ → A) (w : List A) {l : List A} (d : A) → l ≡ fill i f w → get_or l i d ≡ get_or w i d
  fill_read i f w d e = rw e (fill_ahead i f w i d (le_refl i))

  -- Two functions that agree below n fill alike.
  pub fill_eq : (n : ℕ) (f g : ℕ → A) (w : List A) → ((i : ℕ) → i < n → f i ≡ g i) → fill n f w ≡ fill n g w
  unfolding fill
  fill_eq zero f g w h = refl
  fill_eq (suc n) f g w h = rw (fill_eq n f g w (λ i l. h i (le_step l)), h n (le_refl (suc n)))

  -- A list filled with its own entries is as it was.
  pub fill_same : (n : ℕ) (w : List A) (d : A) → fill n (λ i. get_or w i d) w ≡ w
  unfolding fill
  fill_same zero w d = refl
  fill_same (suc n) w d = rw (fill_same n w d, set-get_or w n d)

  -- What was filled before is filled anew.
  pub fill_again : (n : ℕ) (f g : ℕ → A) (w : List A) → fill n f (fill n g w) ≡ fill n f w
  fill_again n f g w =
      ext_get_or (f 0) (fill n f (fill n g w)) (fill n f w) (fill_length n f (fill n g w) ∙ fill_length n g w ∙ sym (fill_length n f w))
      (λ i l.
      let h : i < length w = omega (arith, fill_length n f (fill n g w), fill_length n g w) in
      elim (dec_lt i n) [
        | yes a ↦ fill_passed n f (fill n g w) i (f 0) a (omega (arith, fill_length n g w)) ∙ sym (fill_passed n f w i (f 0) a h)
        | no a ↦ fill_ahead n f (fill n g w) i (f 0) (omega arith) ∙ fill_ahead n g w i (f 0) (omega arith) ∙ sym (fill_ahead n f w i (f 0) (omega arith))
      ])

  -- A store into a filled list, as one fill.
  pub fill_set : (n : ℕ) (f g : ℕ → A) (w : List A) (k : ℕ) {v : A} → k < n → v ≡ g k → ((i : ℕ) → i < n → i ≢ k → f i ≡ g i)
      → set (fill n f w) k v ≡ fill n g w
  unfolding fill
  fill_set zero f g w k l e h = absurd (omega arith)
  fill_set (suc n) f g w k {v} l e h = go (ℕ_discrete n k) (λ a. fill_set n f g w k a e (λ i b. h i (le_step b)))
    where
      go : Dec (n ≡ k) → (k < n → set (fill n f w) k v ≡ fill n g w) → set (set (fill n f w) n (f n)) k v ≡ set (fill n g w) n (g n)
      go (yes q) ih = rw (← q, set-set, fill_eq n f g w (λ i b. h i (le_step b) (omega arith)), e, ← q)
      go (no q) ih = rw (set_comm (fill n f w) n k (f n) v q, ih (omega arith), h n (le_refl (suc n)) q)
