-- Laws of the model's choice: a turn of the loop that makes it, how far it reaches, and what it depends on.
use Rattle.std.specs.Prelude.{◌≡◌, ◌⊎◌, Bool, cond, ◌&&◌, ◌||◌, ltb, eqb}
use Rattle.std.proofs.Math.Path.{refl}
use Rattle.std.proofs.Common.{ap, le_refl, add-one, arith, lt-ltb, le-ltb, eq-eqb, ne_eqb}
use Rattle.std.proofs.Math.Logic.{inl, inr}
use Rattle.std.proofs.Math.Bool.{true, false}
use Prim.Native.Nat.{ℕ, zero, suc, ◌+◌, ◌-◌, ◌*◌, ◌^◌, ◌≤◌, ◌<◌}
use Rattle.std.proofs.Math.Nat.{le_step}
use Rattle.std.proofs.Math.Decide.{ℕ_discrete, dec_lt}
use Rattle.model.specs.Limits.{task_limit}
use Rattle.model.specs.Run.{Order, precedes, choose}

-- Ranks are below this, so that a deadline and a rank are compared as one number.
abbrev pub ranks : ℕ
ranks = 2 ^ 16

-- What a task that is not open is compared by: it is above every such number of an open one.
abbrev pub no_key : ℕ
no_key = 2 ^ 64 - 1

abbrev pub key_of : Bool → ℕ → ℕ → ℕ
key_of is_open due rank = cond is_open (due * ranks + rank) no_key

key_order : (d e r s : ℕ) → r < ranks → s < ranks → ltb (d * ranks + r) (e * ranks + s) ≡ (ltb d e || (eqb d e && ltb r s))
key_order d e r s a b = go (dec_lt d e) (ℕ_discrete d e) (dec_lt r s)
  where
    go : Dec (d < e) → Dec (d ≡ e) → Dec (r < s) → ltb (d * ranks + r) (e * ranks + s) ≡ (ltb d e || (eqb d e && ltb r s))
    go (yes x) y z = simp (lt-ltb d e x, lt-ltb (d * ranks + r) (e * ranks + s) (omega arith))
    go (no x) (yes y) (yes z) = simp (le-ltb d e (omega arith), eq-eqb d e y, lt-ltb r s z, lt-ltb (d * ranks + r) (e * ranks + s) (omega arith))
    go (no x) (yes y) (no z) = simp (le-ltb d e (omega arith), eq-eqb d e y, le-ltb r s (omega arith), le-ltb (d * ranks + r) (e * ranks + s) (omega arith))
    go (no x) (no y) z = simp (le-ltb d e (omega arith), ne_eqb d e y, le-ltb (d * ranks + r) (e * ranks + s) (omega arith))

module _ (open? : ℕ → Bool) (deadline : ℕ → ℕ) (rank : Order) where
  -- The numbers of task i are small enough for its key.
  pub record Small (i : ℕ) : Type 0 where
    pub due : deadline i < 2 ^ 32
    pub low : rank i < ranks

  -- The loop's choice among the tasks below i, and the key of the chosen task.
  pub record Best (i owner least : ℕ) : Type 0 where
    pub owned : owner ≡ choose open? deadline rank i
    pub none : owner ≡ task_limit → least ≡ no_key
    pub some : (owner ≡ task_limit → ⊥) → (least ≡ deadline owner * ranks + rank owner) × Small owner

  pub best_none : Best 0 task_limit no_key
  unfolding choose
  best_none = record { owned = refl; none = λ e. refl; some = λ h. absurd (h refl) }

  module _ (i : ℕ) {owner least key : ℕ} (few : i < task_limit) (best : Best i owner least) (is : key ≡ key_of (open? i) (deadline i) (rank i))
      (small : Small i) where
    least_le : least ≤ no_key
    least_le = go (ℕ_discrete owner task_limit)
      where
        go : Dec (owner ≡ task_limit) → least ≤ no_key
        go (yes e) = omega (arith, best.none e)
        go (no e) = let (q, s) = best.some e in omega (arith, s.due, s.low)

    -- The smaller key is that of the task that comes first.
    comes_first : ltb key least ≡ (open? i && (eqb owner task_limit || precedes deadline rank i owner))
    comes_first = go (open? i) (ℕ_discrete owner task_limit) is
      where
        go : (b : Bool) → Dec (owner ≡ task_limit) → key ≡ key_of b (deadline i) (rank i)
            → ltb key least ≡ (b && (eqb owner task_limit || precedes deadline rank i owner))
        go true (yes e) q = rw (eq-eqb owner task_limit e, q, best.none e) (lt-ltb (deadline i * ranks + rank i) no_key (omega (arith, small.due, small.low)))
        go true (no e) q =
            let (p, s) = best.some e in
            rw (ne_eqb owner task_limit e, q, p) (key_order (deadline i) (deadline owner) (rank i) (rank owner) small.low s.low)
        go false r q = le-ltb key least (omega (arith, least_le))

    more : {b : Bool} → ltb key least ≡ b → cond b i owner ≡ choose open? deadline rank (i + 1)
    unfolding choose
    more e = rw (add-one, ← e, comes_first, best.owned)

    key_is : key < least → key ≡ deadline i * ranks + rank i
    key_is l = go (open? i) is
      where
        go : (b : Bool) → key ≡ key_of b (deadline i) (rank i) → key ≡ deadline i * ranks + rank i
        go true q = q
        go false q = absurd (omega (arith, least_le))

    -- A turn of the loop: i comes first, or it does not.
    pub best_turn : (key < least → Best (i + 1) i key) × (least ≤ key → Best (i + 1) owner least)
    best_turn = (
      λ l. record { owned = more (lt-ltb key least l); none = λ e. absurd (omega arith); some = λ h. (key_is l, small) },
      λ l. record { owned = more (le-ltb key least l); none = best.none; some = best.some },
    )

  -- A turn past a task that is not open.
  pub best_skip : (i : ℕ) {owner least : ℕ} → Best i owner least → open? i ≡ false → Best (i + 1) owner least
  unfolding choose
  best_skip i best e = record { owned = rw (add-one, e) best.owned; none = best.none; some = best.some }

  -- The choice is no task, or one of those below n.
  pub choose_range : (n : ℕ) → (choose open? deadline rank n ≡ task_limit) ⊎ (choose open? deadline rank n < n)
  unfolding choose
  choose_range zero = inl refl
  choose_range (suc n) =
      go (open? n && (eqb (choose open? deadline rank n) task_limit || precedes deadline rank n (choose open? deadline rank n))) (choose_range n)
    where
      go : (b : Bool) → (choose open? deadline rank n ≡ task_limit) ⊎ (choose open? deadline rank n < n)
          → (cond b n (choose open? deadline rank n) ≡ task_limit) ⊎ (cond b n (choose open? deadline rank n) < suc n)
      go true r = inr (le_refl (suc n))
      go false (inl e) = inl e
      go false (inr l) = inr (le_step l)

-- It depends on nothing but the tasks below n.
pub choose_eq :
    (o o' : ℕ → Bool) (d d' : ℕ → ℕ) (r r' : Order) (n : ℕ)
    → ((i : ℕ) → i < n → o i ≡ o' i) → ((i : ℕ) → i < n → d i ≡ d' i) → ((i : ℕ) → i < n → r i ≡ r' i)
    → choose o d r n ≡ choose o' d' r' n
unfolding choose
choose_eq o o' d d' r r' zero p q s = refl
choose_eq o o' d d' r r' (suc n) p q s =
    rw (choose_eq o o' d d' r r' n (λ i l. p i (le_step l)) (λ i l. q i (le_step l)) (λ i l. s i (le_step l)), p n (le_refl (suc n)))
    (ap (λ (b : Bool). cond (o' n && b) n (choose o' d' r' n)) (go (choose o' d' r' n) (choose_range o' d' r' n)))
  where
    go : (best : ℕ) → (best ≡ task_limit) ⊎ (best < n) → (eqb best task_limit || precedes d r n best) ≡ (eqb best task_limit || precedes d' r' n best)
    go best (inl e) = rw (eq-eqb best task_limit e)
    go best (inr l) = rw (q n (le_refl (suc n)), s n (le_refl (suc n)), q best (le_step l), s best (le_step l))
