-- DOMINATION (`held_le_left`): a dispatcher that is told of early ends never has more left, in any class, than the run at full cost.
use Rattle.std.specs.Prelude.{◌≡◌, refl, ◌⊎◌, ◌≢◌, ℕ, suc, ◌+◌, ◌-◌, ◌*◌, ◌≤◌, ◌<◌}
use Rattle.std.proofs.Common.{sym, ap, subst, ◌∙◌, inl, inr, eq-zero-or-pos, le_refl}
use Rattle.std.proofs.Math.Decide.{ℕ_discrete, dec_le, le_ind}
use native.Mathlib.Omega.{arith}
use Rattle.model.specs.Notation.{sum}
use Rattle.counting.specs.Sum.{sum_le, sum_add, sum_zero, sum_by, sum_member}
use Rattle.counting.specs.Below.{below, lt_below, below_mono, below_after, grows_lt, below_same, below_next, work_le}
use Rattle.backlog.specs.Queue.{backlog, backlog_bounds}
use Rattle.backlog.specs.Streams.{Jobs, Run, released, work, left, arrive, arrive_of}
use Rattle.backlog.specs.Left.{left_is}
use Rattle.backlog.specs.Finish.{first_done}

-- A number where something is so, and else 0.
abbrev if_so : {P : Type 0} → Dec P → ℕ → ℕ
if_so (yes p) a = a
if_so (no p) a = 0

if_so_none : {P : Type 0} (d : Dec P) (a : ℕ) → (P → a ≡ 0) → if_so d a ≡ 0
if_so_none (yes p) a h = h p
if_so_none (no p) a h = refl

-- The open job of stream i before slot t, if there is one, is the last that is released before t: this is its key.
abbrev pub open_key : Jobs → ℕ → ℕ → ℕ
open_key J t i = J.key i (below (J.rel i) t - 1)

-- Closings and releases in slot t, with l slots left before and x after: a job that is not fresh has no more than before, and a fresh one no more
-- than its cost.
pub record Opens (J : Jobs) (t : ℕ) (l x : ℕ → ℕ) : Type 0 where
  pub kept : (i : ℕ) → i < J.n → ((j : ℕ) → J.rel i j ≢ t) → x i ≤ l i
  pub fresh : (i j : ℕ) → i < J.n → J.rel i j ≡ t → x i ≤ J.cost i

-- The slot goes to the open job of least key, or none is open.
pub record Gives (J : Jobs) (t : ℕ) (x l' : ℕ → ℕ) (k : ℕ) : Type 0 where
  pub bound : k < J.n
  pub ready : 0 < x k
  pub least_key : (i : ℕ) → i < J.n → 0 < x i → open_key J (suc t) k ≤ open_key J (suc t) i
  pub one : x k ≡ l' k + 1
  pub rest : (i : ℕ) → i < J.n → i ≢ k → l' i ≡ x i

pub record Rests (J : Jobs) (x l' : ℕ → ℕ) : Type 0 where
  pub none : (i : ℕ) → i < J.n → x i ≡ 0
  pub rest : (i : ℕ) → i < J.n → l' i ≡ x i

abbrev pub Turn : Jobs → ℕ → (ℕ → ℕ) → (ℕ → ℕ) → Type 0
Turn J t l l' = (x : ℕ → ℕ) × Opens J t l x × (Rests J x l' ⊎ ((k : ℕ) × Gives J t x l' k))

-- A dispatch: the slots left of each stream's open job before each slot.
pub record Dispatch (J : Jobs) (lf : ℕ → ℕ → ℕ) : Type 0 where
  pub start : (i : ℕ) → i < J.n → lf 0 i ≡ 0
  pub turn : (t : ℕ) → Turn J t (lf t) (lf (suc t))

-- The slots left of the open jobs up to a key, before slot t.
abbrev pub held_of : Jobs → ℕ → ℕ → (ℕ → ℕ) → ℕ → ℕ
held_of J κ t l i = if_so (dec_le (open_key J t i) κ) (l i)

unfoldable pub held : Jobs → (ℕ → ℕ → ℕ) → ℕ → ℕ → ℕ
held J lf κ t = sum J.n (held_of J κ t (lf t))

-- Slot t releases a job of stream i, or none.
abbrev pub Releases : Jobs → ℕ → ℕ → Type 0
Releases J i t =
    ((j : ℕ) × (J.rel i j ≡ t) × (below (J.rel i) t ≡ j) × (below (J.rel i) (suc t) ≡ suc j))
    ⊎ (((j : ℕ) → J.rel i j ≢ t) × (below (J.rel i) (suc t) ≡ below (J.rel i) t))

module _ (J : Jobs) where
  pub releases : (i t : ℕ) → i < J.n → Releases J i t
  releases i t l = go (ℕ_discrete (J.rel i (below (J.rel i) t)) t)
    where
      go : Dec (J.rel i (below (J.rel i) t) ≡ t) → Releases J i t
      go (yes e) =
          inl (below (J.rel i) t, e, refl, ap (λ (x : ℕ). below (J.rel i) (suc x)) (sym e) ∙ below_after (J.rel i) (J.rel_grows i l) (below (J.rel i) t))
      go (no e) = inr (none, sym (below_same (J.rel i) (J.rel_grows i l) t (suc t) (omega arith) (λ j h. omega (arith, none j))))
        where
          none : (j : ℕ) → J.rel i j ≢ t
          none j q =
              let m : j < below (J.rel i) t = grows_lt (J.rel i) (J.rel_grows i l) j (below (J.rel i) t)
              (omega (arith, e, below_next (J.rel i) (J.rel_grows i l) t)) in
              absurd (omega (arith, (lt_below (J.rel i) (J.rel_grows i l) t j).0 m))

  -- What is open after the closings and releases is no more than what was open and what arrives.
  opened : (κ t : ℕ) (l x : ℕ → ℕ) → Opens J t l x → (i : ℕ) → i < J.n → held_of J κ (suc t) x i ≤ held_of J κ t l i + arrive_of J κ t i
  opened κ t l x o i k = go (releases i t k)
    where
      go : Releases J i t → held_of J κ (suc t) x i ≤ held_of J κ t l i + arrive_of J κ t i
      go (inr (none, e)) = omega (
        arith,
        subst (λ (y : ℕ). if_so (dec_le (J.key i (y - 1)) κ) (x i) ≤ held_of J κ t l i) (sym e)
            (at (dec_le (open_key J t i) κ)),
      )
        where
          at : (d : Dec (open_key J t i ≤ κ)) → if_so d (x i) ≤ if_so d (l i)
          at (yes d) = o.kept i k none
          at (no d) = le_refl 0
      go (inl (j, r, e, f)) = at (dec_le (open_key J (suc t) i) κ)
        where
          at : (d : Dec (open_key J (suc t) i ≤ κ)) → if_so d (x i) ≤ held_of J κ t l i + arrive_of J κ t i
          at (no d) = omega arith
          at (yes d) =
              let v : below (J.rel i) (suc t) - 1 ≡ j = omega arith in
              let q : J.key i j ≤ κ = subst (λ (y : ℕ). J.key i y ≤ κ) v d in
              let w : J.cost i * suc j ≤ work J κ i = work_le (J.key i) (J.key_grows i k) (J.cost i) (suc κ) j (omega arith) in
              let a : released J t i ≡ J.cost i * j = ap (λ (y : ℕ). J.cost i * y) e in
              let b : released J (suc t) i ≡ J.cost i * suc j = ap (λ (y : ℕ). J.cost i * y) f in
              omega (arith, o.fresh i j k r)

module _ (J : Jobs) (lf : ℕ → ℕ → ℕ) (P : Dispatch J lf) where
  held_step : (κ t : ℕ) → held J lf κ (suc t) ≤ (held J lf κ t + arrive J κ t) - 1
  unfolding held arrive
  held_step κ t = go (P.turn t)
    where
      go : Turn J t (lf t) (lf (suc t)) → sum J.n (held_of J κ (suc t) (lf (suc t))) ≤ (sum J.n (held_of J κ t (lf t)) + sum J.n (arrive_of J κ t)) - 1
      go (x, o, c) = slot c
        where
          enough : sum J.n (held_of J κ (suc t) x) ≤ sum J.n (held_of J κ t (lf t)) + sum J.n (arrive_of J κ t)
          enough =
              omega (
                arith,
                sum_le J.n (held_of J κ (suc t) x) (λ i. held_of J κ t (lf t) i + arrive_of J κ t i) (λ i l. opened J κ t (lf t) x o i l),
                sum_add J.n (held_of J κ t (lf t)) (arrive_of J κ t),
              )

          slot : Rests J x (lf (suc t)) ⊎ ((k : ℕ) × Gives J t x (lf (suc t)) k)
              → sum J.n (held_of J κ (suc t) (lf (suc t))) ≤ (sum J.n (held_of J κ t (lf t)) + sum J.n (arrive_of J κ t)) - 1
          slot (inl d) =
              omega (
                arith,
                sum_zero J.n (held_of J κ (suc t) (lf (suc t)))
                    (λ i l. if_so_none (dec_le (open_key J (suc t) i) κ) (lf (suc t) i) (λ p. omega (arith, d.none i l, d.rest i l))),
              )
          slot (inr (k, d)) = at (dec_le (open_key J (suc t) k) κ) refl
            where
              at : (e : Dec (open_key J (suc t) k ≤ κ)) → dec_le (open_key J (suc t) k) κ ≡ e
                  → sum J.n (held_of J κ (suc t) (lf (suc t))) ≤ (sum J.n (held_of J κ t (lf t)) + sum J.n (arrive_of J κ t)) - 1
              at (yes p) e =
                  let q : held_of J κ (suc t) x k ≡ held_of J κ (suc t) (lf (suc t)) k + 1 = rw e d.one in
                  omega (
                    arith,
                    enough,
                    sum_by J.n (held_of J κ (suc t) x) (held_of J κ (suc t) (lf (suc t))) k 1 d.bound q
                        (λ i l f. ap (λ (y : ℕ). if_so (dec_le (open_key J (suc t) i) κ) y) (sym (d.rest i l f))),
                  )
              at (no p) e =
                  omega (
                    arith,
                    sum_zero J.n (held_of J κ (suc t) (lf (suc t)))
                        (λ i l. if_so_none (dec_le (open_key J (suc t) i) κ) (lf (suc t) i) (λ h. each i l h (ℕ_discrete i k))),
                  )
                where
                  each : (i : ℕ) → i < J.n → open_key J (suc t) i ≤ κ → Dec (i ≡ k) → lf (suc t) i ≡ 0
                  each i l h (yes f) = absurd (p (subst (λ (y : ℕ). open_key J (suc t) y ≤ κ) f h))
                  each i l h (no f) = elim (eq-zero-or-pos (x i)) [ inl z ↦ omega (arith, d.rest i l f) | inr z ↦ absurd (omega (arith, d.least_key i l z)) ]

  held_start : (κ : ℕ) → held J lf κ 0 ≡ 0
  unfolding held
  held_start κ = sum_zero J.n _ (λ i l. if_so_none (dec_le (open_key J 0 i) κ) (lf 0 i) (λ p. P.start i l))

  held_bounded : (κ t : ℕ) → held J lf κ t ≤ backlog (arrive J κ) t
  held_bounded κ = backlog_bounds (arrive J κ) (held J lf κ) (omega (arith, held_start κ)) (held_step κ)

  -- While no job of it is released, what is left of a stream's open job does not grow.
  only_falls : (i t u : ℕ) → i < J.n → t ≤ u → below (J.rel i) u ≡ below (J.rel i) t → lf u i ≤ lf t i
  only_falls i t u l h = le_ind (λ (v : ℕ). below (J.rel i) v ≡ below (J.rel i) t → lf v i ≤ lf t i) (λ e. le_refl _) step u h
    where
      slot : (v : ℕ) (x : ℕ → ℕ) → Rests J x (lf (suc v)) ⊎ ((k : ℕ) × Gives J v x (lf (suc v)) k) → lf (suc v) i ≤ x i
      slot v x (inl d) = omega (arith, d.rest i l)
      slot v x (inr (k, d)) = elim (ℕ_discrete i k) [ yes e ↦ rw e (omega (arith, d.one)) | no e ↦ omega (arith, d.rest i l e) ]

      step : (v : ℕ) → t ≤ v → (below (J.rel i) v ≡ below (J.rel i) t → lf v i ≤ lf t i) → below (J.rel i) (suc v) ≡ below (J.rel i) t
          → lf (suc v) i ≤ lf t i
      step v k ih e = go (releases J i v l) (P.turn v)
        where
          a : below (J.rel i) t ≤ below (J.rel i) v
          a = below_mono (J.rel i) (J.rel_grows i l) t v k

          go : Releases J i v → Turn J v (lf v) (lf (suc v)) → lf (suc v) i ≤ lf t i
          go (inl (j, r, b, c)) y = absurd (omega (arith, a))
          go (inr (none, c)) (x, o, d) = omega (arith, ih (omega (arith, a)), o.kept i l none, slot v x d)

  module _ (s : ℕ → ℕ → ℕ) (R : Run J s) where
    -- The run at full cost is the worst case, for every cut.
    pub held_le_left : (κ t : ℕ) → held J lf κ t ≤ left J s κ t
    held_le_left κ t = omega (arith, held_bounded κ t, left_is J s R κ t)

    -- Where no work up to its key is left in the run, the open job has nothing left.
    none_held : (i j t : ℕ) → i < J.n → below (J.rel i) t ≡ suc j → left J s (J.key i j) t ≡ 0 → lf t i ≡ 0
    unfolding held
    none_held i j t l e z =
        at (dec_le (open_key J t i) (J.key i j)) (omega (arith, held_le_left (J.key i j) t, sum_member J.n (held_of J (J.key i j) t (lf t)) i l))
      where
        at : (d : Dec (open_key J t i ≤ J.key i j)) → if_so d (lf t i) ≤ 0 → lf t i ≡ 0
        at (yes d) h = omega arith
        at (no d) h =
            let v : below (J.rel i) t - 1 ≡ j = omega arith in
            absurd (d (subst (λ (y : ℕ). J.key i y ≤ J.key i j) (sym v) (le_refl _)))

    -- A job that the run has done by f, and that is the last released, has nothing left at f.
    pub not_open : (i j f : ℕ) → i < J.n → J.cost i * suc j ≤ s f i → below (J.rel i) f ≡ suc j → lf f i ≡ 0
    not_open i j f l d e =
        let (g, h, q, c) = first_done J s R i j l f d in
        let b : below (J.rel i) g ≡ suc j = omega (
          arith,
          below_mono (J.rel i) (J.rel_grows i l) g f h,
          (lt_below (J.rel i) (J.rel_grows i l) g j).1 c.0,
        ) in
        omega (arith, only_falls i g f l h (e ∙ sym b), none_held i j g l b c.1)
