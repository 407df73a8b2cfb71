-- ARRIVALS IN ORDER (`comes_enumerates`): up to any instant, arrivals that respect a table are jobs that come at least a period apart, one by one.
use Rattle.std.specs.Prelude.{◌≡◌, refl, ◌↔◌, Bool, true, false, ℕ, suc, ◌+◌, ◌≤◌, ◌<◌, T}
use Rattle.std.proofs.Common.{arith}
use Rattle.values.specs.declared.Task.{Task}
use Rattle.values.specs.declared.Table.{Table}
use Rattle.model.specs.Tasks.{task, is_button, release}
use Rattle.model.specs.Demand.{Arrivals}
use Rattle.model.specs.Arrivals.{Respects}
use Rattle.counting.specs.Enumerate.{Enumerates, nth, nth_enumerates, nth_apart, nth_same}
use Rattle.wellformed.specs.Demand.{released_enumerates}
use Rattle.patterns.proofs.DistancePass.{Punctual}

-- When job j comes: of a button, as it arrives before n, and then at its spacing; of a periodic task, when it is released.
abbrev pub comes_by : Bool → (ℕ → Bool) → Task → ℕ → ℕ → ℕ
comes_by true p k n j = nth p k.period n j
comes_by false p k n j = release k j

module _ (t : Table) (a : Arrivals) where
  abbrev pub comes_at : ℕ → ℕ → ℕ → ℕ
  comes_at n i j = comes_by (is_button (task t i)) (a i) (task t i) n j

  -- What comes before both of two instants comes at the same time.
  pub comes_same : (n n' u i j : ℕ) → u ≤ n → u ≤ n' → comes_at n i j < u → comes_at n' i j ≡ comes_at n i j
  comes_same n n' u i j x y = go (is_button (task t i))
    where
      go : (b : Bool) → comes_by b (a i) (task t i) n j < u → comes_by b (a i) (task t i) n' j ≡ comes_by b (a i) (task t i) n j
      go true h = nth_same (a i) (task t i).period n n' u j x y h
      go false h = refl

  pub comes_punctual : (n : ℕ) → Punctual t (comes_at n)
  comes_punctual n i j l e = rw e refl

  module _ (k : Respects t a) where
    pub comes_apart : (n i j : ℕ) → i < t.count → comes_at n i j + (task t i).period ≤ comes_at n i (suc j)
    comes_apart n i j l = go (is_button (task t i)) refl
      where
        go : (b : Bool) → is_button (task t i) ≡ b → comes_by b (a i) (task t i) n j + (task t i).period ≤ comes_by b (a i) (task t i) n (suc j)
        go true e = nth_apart (a i) (task t i).period n (λ u v. k.spaced i u v l e) j
        go false e = omega arith

    pub comes_enumerates : (n i : ℕ) → i < t.count → Enumerates (a i) (comes_at n i) n
    comes_enumerates n i l u h = go (is_button (task t i)) refl
      where
        go : (b : Bool) → is_button (task t i) ≡ b → T (a i u) ↔ ((j : ℕ) × (comes_by b (a i) (task t i) n j ≡ u))
        go true e = nth_enumerates (a i) (task t i).period n u h
        go false e = rw (k.periodic i u l e) (released_enumerates (task t i) n u h)
