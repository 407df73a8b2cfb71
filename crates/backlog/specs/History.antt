-- A HISTORY IS A DISPATCH (`dispatches`): what was open, reported and given in each slot keeps what domination asks of a dispatcher, for any release streams.
use Rattle.std.specs.Prelude.{◌≡◌, ◌⊎◌, ◌≢◌, ℕ, suc, ◌+◌, ◌≤◌, ◌<◌}
use Rattle.std.proofs.Common.{inl, inr, arith}
use Rattle.model.specs.Notation.{sum}
use Rattle.backlog.specs.Streams.{Jobs}
use Rattle.backlog.specs.Criterion.{Dues}
use Rattle.backlog.specs.Domination.{Dispatch, Gives, Rests, open_key}

-- Between releases a job is kept, or closed: reported, or late.
abbrev pub Keeps : (J : Jobs) → Dues J → (ℕ → ℕ → Type 0) → (ℕ → ℕ → ℕ) → (ℕ → ℕ → ℕ) → ℕ → ℕ → Type 0
Keeps J D told open' ready t i = (ready t i ≡ open' t i) ⊎ ((ready t i ≡ 0) × (told t i ⊎ ((j : ℕ) × (D.due i j ≡ t))))

-- The slot goes to the open job of least key; to none only if none is open.
abbrev pub Goes : Jobs → (ℕ → ℕ → ℕ) → (ℕ → ℕ → ℕ) → ℕ → Type 0
Goes J ready gave t =
    ((i : ℕ) → i < J.n → ready t i ≡ 0) ⊎ ((k : ℕ) × (k < J.n) × (0 < ready t k)
    × ((i : ℕ) → i < J.n → 0 < ready t i → open_key J (suc t) k ≤ open_key J (suc t) i) × (gave t k ≡ 1) × ((i : ℕ) → i < J.n → i ≢ k → gave t i ≡ 0))

-- Before slot t the open job of stream i has `open t i` slots left; after closings and releases `ready t i`; of slot t it is
-- given `gave t i`, 1 or 0. `told t i`: its end is reported before slot t.
pub record History (J : Jobs) (D : Dues J) (told : ℕ → ℕ → Type 0) (open' ready gave : ℕ → ℕ → ℕ) : Type 0 where
  pub start : (i : ℕ) → i < J.n → open' 0 i ≡ 0
  -- A released job has its whole cost.
  pub fresh : (t i j : ℕ) → i < J.n → J.rel i j ≡ t → ready t i ≡ J.cost i
  pub kept : (t i : ℕ) → i < J.n → ((j : ℕ) → J.rel i j ≢ t) → Keeps J D told open' ready t i
  pub spent : (t i : ℕ) → i < J.n → ready t i ≡ open' (suc t) i + gave t i
  pub slot : (t : ℕ) → Goes J ready gave t

-- The slots of the first d from r on that went to stream i.
abbrev pub given_to : (ℕ → ℕ → ℕ) → ℕ → ℕ → ℕ → ℕ
given_to gave i r d = sum d (λ u. gave (r + u) i)

module _ (J : Jobs) (D : Dues J) (told : ℕ → ℕ → Type 0) (open' ready gave : ℕ → ℕ → ℕ) (P : History J D told open' ready gave) where
  pub dispatches : Dispatch J open'
  dispatches =
      record {
        start = P.start;
        turn = λ t. (
          ready t,
          record { kept = λ i l n. keep t i (P.kept t i l n); fresh = λ i j l e. omega (arith, P.fresh t i j l e) },
          slot t (P.slot t),
        );
      }
    where
      keep : (t i : ℕ) → Keeps J D told open' ready t i → ready t i ≤ open' t i
      keep t i (inl e) = omega arith
      keep t i (inr (e, c)) = omega arith

      slot : (t : ℕ) → Goes J ready gave t
          → Rests J (ready t) (open' (suc t)) ⊎ ((k : ℕ) × Gives J t (ready t) (open' (suc t)) k)
      slot t (inl z) = inl (record { none = z; rest = λ i l. omega (arith, z i l, P.spent t i l) })
      slot t (inr (k, b, r, m, o, q)) =
          inr (k, record { bound = b; ready = r; least_key = m; one = omega (arith, P.spent t k b); rest = λ i l e. omega (arith, P.spent t i l, q i l e) })
