-- What each way of a turn hands back.
use Rattle.std.specs.Prelude.{◌≡◌, refl, List, Bool, true, false, cond, not, ◌&&◌, ℕ, ◌+◌, ◌-◌, ◌/◌, ◌≤◌, ◌<◌, ltb, eqb, get_or, set}
use Rattle.std.proofs.Common.{sym, ap, ◌∙◌, arith}
use Rattle.std.proofs.lemmas.List.{set-get_or}
use Rattle.backlog.specs.WalkWorst.{noted}
use Rattle.slots.specs.Slot.{at}
use Rattle.walks.specs.Tally.{idle_then}
use Rattle.leaps.specs.Entry.{span}
use Rattle.leaps.specs.declared.Landed.{Landed}
use Rattle.leaps.specs.declared.Way.{Way}

-- Whether a walk is over, and late; and its way by these.
abbrev pub is_over : Way → Bool
is_over Way.Going = false
is_over Way.Over = true
is_over Way.Late = true

abbrev pub is_late : Way → Bool
is_late Way.Going = false
is_late Way.Over = false
is_late Way.Late = true

abbrev pub over_way : Bool → Way
over_way true = Way.Late
over_way false = Way.Over

abbrev pub done_way : Bool → Way
done_way true = Way.Late
done_way false = Way.Going

pub done_over : (late : Bool) → is_over (done_way late) ≡ late
done_over true = refl
done_over false = refl

pub done_late : (late : Bool) → is_late (done_way late) ≡ late
done_late true = refl
done_late false = refl

-- The walk goes on from a time; it is over there, late or not; a job is done, and another may be late: so many are still open.
abbrev pub going_at : ℕ → ℕ → Landed
going_at time idle = record { time = time; idle = idle; way = Way.Going }

abbrev pub over_at : ℕ → ℕ → Bool → Landed
over_at time idle late = record { time = time; idle = idle; way = over_way late }

abbrev pub done_at : ℕ → ℕ → ℕ → Bool → Landed
done_at time jobs idle late = record { time = time; idle = idle_then idle (eqb jobs 0) time; way = done_way late }

-- With no job open at n: the first idle instant, and where the walk goes.
abbrev pub rested_at : ℕ → ℕ → ℕ → ℕ → Landed
rested_at n soon end idle = let first = idle_then idle (ltb n end) (n + 1) in cond (ltb soon end) (going_at soon first) (over_at end first false)

-- A job done at its deadline, and the next of the open ones has the same.
abbrev pub next_late : List ℕ → ℕ → ℕ → ℕ → Bool
next_late ready jobs due done = not (ltb done due) && (ltb 0 jobs && eqb (at ready (jobs - 1) / span) done)

-- A response is noted, or is no larger than those before.
pub noted_more : (w : List ℕ) (i x : ℕ) → get_or w i 0 < x → set w i x ≡ noted w i x
noted_more w i x h = ap (set w i) (omega arith)

pub noted_same : (w : List ℕ) (i x : ℕ) → x ≤ get_or w i 0 → w ≡ noted w i x
noted_same w i x h = sym (set-get_or w i 0) ∙ ap (set w i) (omega arith)
