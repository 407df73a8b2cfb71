-- A ROUND AGAIN (`again`): a walk with no slot left a round after an instant repeats from that instant on.
use Rattle.std.specs.Prelude.{◌≡◌, List, [], false, ℕ, suc, ◌+◌, ◌≤◌, ◌<◌, length, get_or}
use Rattle.std.proofs.Common.{sym, ◌∙◌, arith, ext_get_or}
use Rattle.std.proofs.Math.Path.{ap}
use Rattle.std.proofs.Math.Nat.{suc-add}
use Rattle.std.proofs.Math.Decide.{dec_lt, le_ind}
use Rattle.values.specs.declared.Table.{Table}
use Rattle.model.specs.Dispatcher.{State, wait_of, left_of, is_late, owner_now, owner_now_by, after, after_by}
use Rattle.model.specs.History.{state_at_by}
use Rattle.model.specs.Run.{tie_order}
use Rattle.counting.specs.Below.{below_later}
use Rattle.wellformed.specs.Ranges.{Ranged}
use Rattle.backlog.specs.System.{System, release_of, released_by}
use Rattle.backlog.proofs.System.{jobs}
use Rattle.backlog.proofs.ModelRun.{served_of, model_run}
use Rattle.backlog.specs.Shift.{Cycle}
use Rattle.backlog.proofs.Shift.{release_later}
use Rattle.backlog.proofs.TableSystem.{tie_system}
use Rattle.backlog.proofs.Stepping.{sound, past_none}
use Rattle.backlog.specs.Walk.{quiet, walked, Clear}
use Rattle.backlog.proofs.Walk.{agrees}
use Rattle.patterns.specs.IdleBefore.{idle_before}

-- Two states with the same waits and the same slots left.
pub record Same (d e : State) : Type 0 where
  pub waits : d.wait ≡ e.wait
  pub lefts : d.left ≡ e.left

-- Without a done report a step reads no more of a state than these.
abbrev blanked : State → State
blanked d = record { wait = d.wait; left = d.left; last = 0; given = []; empty = 0 }

same_blanked : {d e : State} → Same d e → blanked d ≡ blanked e
same_blanked s = cc (s.waits, s.lefts)

module _ (t : Table) {d e : State} (s : Same d e) where
  pub late_same : (i : ℕ) → is_late t d false i ≡ is_late t e false i
  late_same i = ap (λ (x : State). is_late t x false i) (same_blanked s)

  pub owner_same : owner_now t d false ≡ owner_now t e false
  unfolding owner_now_by
  owner_same = ap (λ (x : State). owner_now t x false) (same_blanked s)

  after_same : Same (after t d false) (after t e false)
  unfolding after_by owner_now_by
  after_same = record {
    waits = ap (λ (x : State). (after t x false).wait) (same_blanked s);
    lefts = ap (λ (x : State). (after t x false).left)
        (same_blanked s);
  }

module _ (t : Table) (r : Ranged t) (Y : Cycle (tie_system t r)) where
  abbrev S : System
  S = tie_system t r

  -- An instant from the start of the cycle on: a round later no deadline has been late, and no job is open before the releases.
  pub record Rests (u : ℕ) : Type 0 where
    pub started : Y.start ≤ u
    pub clear : Clear t (u + Y.round)
    pub shut : (i : ℕ) → i < t.count → left_of (walked t (u + Y.round)) i ≡ 0

  abbrev SameLater : ℕ → Type 0
  SameLater n = Same (walked t n) (walked t (n + Y.round))

  module _ (u : ℕ) (rests : Rests u) where
    -- So it had none left at u.
    shut_before : (i : ℕ) → i < t.count → left_of (walked t u) i ≡ 0
    shut_before i l =
        omega (
          arith,
          agrees t r (tie_order t) u (λ v m. rests.clear v (omega arith)) i l,
          idle_before S Y (served_of S) (model_run S) u (λ k m. omega (arith, agrees t r (tie_order t) (u + Y.round) rests.clear k m, rests.shut k m)) i l,
        )

    -- And its waits are the same.
    wait_later : (i : ℕ) → i < t.count → wait_of (walked t u) i ≡ wait_of (walked t (u + Y.round)) i
    wait_later i l =
        let more : released_by S i (u + Y.round) ≡ released_by S i u + Y.times i = below_later (release_of S i) ((jobs S).rel_grows i l) (Y.times i)
        Y.round (release_later S Y i l) u (omega (arith, Y.starts i l, rests.started)) in
        omega (
          arith,
          (sound t r (tie_order t) quiet u).next i l,
          (sound t r (tie_order t) quiet (u + Y.round)).next i l,
          ap (release_of S i) more,
          release_later S Y i l (released_by S i u),
        )

    same_first : SameLater u
    same_first =
        let now = (sound t r (tie_order t) quiet u).belongs in
        let later = (sound t r (tie_order t) quiet (u + Y.round)).belongs in
        let none = past_none t (tie_order t) quiet u in
        let none-later = past_none t (tie_order t) quiet (u + Y.round) in
        record {
          waits = listed (now.waits ∙ sym later.waits) wait_later (λ i l. (none i l).0 ∙ sym (none-later i l).0);
          lefts = listed (now.lefts ∙ sym later.lefts) (λ i l. shut_before i l ∙ sym (rests.shut i l)) (λ i l. (none i l).1 ∙ sym (none-later i l).1);
        }
      where
        listed : {v w : List ℕ} → length v ≡ length w → ((i : ℕ) → i < t.count → get_or v i 0 ≡ get_or w i 0)
            → ((i : ℕ) → t.count ≤ i → get_or v i 0 ≡ get_or w i 0) → v ≡ w
        listed {v} {w} e tasks others = ext_get_or 0 v w e (λ i l. elim (dec_lt i t.count) [ yes p ↦ tasks i p | no p ↦ others i (omega arith) ])

  same_next : (n : ℕ) → SameLater n → SameLater (suc n)
  unfolding state_at_by
  same_next n s = rw suc-add (after_same t s)

  pub again : (u : ℕ) → Rests u → (n : ℕ) → u ≤ n → Same (walked t n) (walked t (n + Y.round))
  again u rests n h = le_ind SameLater (same_first u rests) (λ m k s. same_next m s) n h
