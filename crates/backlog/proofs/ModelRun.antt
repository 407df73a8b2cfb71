-- THE MODEL'S RUN (`model_run`) is a run of its streams.
use Rattle.std.specs.Prelude.{◌≡◌, ◌≢◌, ◌↔◌, T, leb, get_or, length, set}
use Rattle.std.proofs.Math.Path.{refl}
use Rattle.std.proofs.Math.Logic.{inl, inr}
use Prim.Native.Nat.{ℕ, zero, suc, ◌+◌, ◌/◌, ◌<◌}
use Rattle.std.proofs.Math.Decide.{dec_lt}
use native.Mathlib.Omega.{arith}
use Rattle.std.proofs.Math.ListN.{length-set, length-replicate, get_or-replicate}
use Rattle.std.proofs.Common.{get_or-set_same, get_or-set_other}
use Rattle.model.specs.Run.{current, owner_of, served, owner}
use Rattle.counting.specs.Count.{tests}
use Rattle.counting.specs.Below.{work_lt}
use Rattle.backlog.specs.Streams.{Run, SlotOf, released}
use Rattle.backlog.specs.Choice.{Chosen, choose_is}
use Rattle.backlog.specs.System.{System, size, cost_of, release_of, due_of}
use Rattle.backlog.proofs.Keys.{keys_order}
use Rattle.backlog.proofs.System.{jobs}

-- The slots given to task i before slot t.
abbrev pub served_of : System → ℕ → ℕ → ℕ
served_of S t i = get_or (served S.table S.rank t) i 0

-- The job that task i is at in slot t.
abbrev pub at : System → ℕ → ℕ → ℕ
at S t i = current S.table (served S.table S.rank t) i

-- Slot t goes to the task that comes first of those whose job is released, or to none.
abbrev pub Owned : System → ℕ → Type 0
Owned S t = Chosen (λ i. leb (release_of S i (at S t i)) t) (λ i. due_of S i (at S t i)) S.rank (size S) (owner S.table S.rank t)

module _ (S : System) where
  served_length : (t : ℕ) → length (served S.table S.rank t) ≡ size S
  unfolding served
  served_length zero = length-replicate (size S) 0
  served_length (suc t) = simp length-set (served_length t)

  -- A task is ready exactly if some of its released work is not served.
  pub ready_iff : (i t s : ℕ) → i < size S → T (leb (release_of S i (s / cost_of S i)) t) ↔ (s < released (jobs S) (suc t) i)
  ready_iff i t s l =
      let law = work_lt (release_of S i) ((jobs S).rel_grows i l) (cost_of S i) (suc t) s (S.cost_pos i l) in
      (λ h. law.1 (omega tests), λ h. omega (tests, law.0 h))

  pub owned : (t : ℕ) → Owned S t
  unfolding owner owner_of
  owned t = choose_is _ _ _ (size S) S.size_le

  after_slot : (t : ℕ) → served S.table S.rank (suc t) ≡ set (served S.table S.rank t) (owner S.table S.rank t)
      (served_of S t (owner S.table S.rank t) + 1)
  unfolding served owner
  after_slot t = refl

  -- The owner has one slot more, and no other task has.
  pub owner_served : (t : ℕ) → owner S.table S.rank t < size S → served_of S (suc t) (owner S.table S.rank t) ≡ served_of S t
      (owner S.table S.rank t) + 1
  owner_served t l = rw (after_slot t) (get_or-set_same (served S.table S.rank t) (owner S.table S.rank t) _ 0 (omega (arith, served_length t)))

  pub others_served : (t i : ℕ) → i ≢ owner S.table S.rank t → served_of S (suc t) i ≡ served_of S t i
  others_served t i e = rw (after_slot t) (get_or-set_other (served S.table S.rank t) (owner S.table S.rank t) i _ 0 e)

  pub model_run : Run (jobs S) (served_of S)
  unfolding served
  model_run = record { start = λ i l. get_or-replicate (size S) i 0 0 l; slot = λ t. slot t (owned t) }
    where
      slot : (t : ℕ) → Owned S t → SlotOf (jobs S) t (served_of S t) (served_of S (suc t))
      slot t (inl c) = inl (record {
        none =
            λ i l. elim (dec_lt (served_of S t i) (released (jobs S) (suc t) i)) [
              | yes p ↦ absurd (c.shut i l ((ready_iff i t (served_of S t i) l).1 p))
              | no p ↦ omega arith
            ];
        rest = λ i l. others_served t i (λ e. absurd (omega (arith, c.none, S.size_le)));
      })
      slot t (inr c) = inr (
        owner S.table S.rank t,
        record {
          bound = c.bound;
          ready = (ready_iff _ t _ c.bound).0 c.opened;
          least = λ i l p. keys_order S (release_of S) _ _ i _ c.bound (c.ahead i l ((ready_iff i t (served_of S t i) l).1 p));
          one = owner_served t c.bound;
          rest = λ i l e. others_served t i e;
        },
      )
