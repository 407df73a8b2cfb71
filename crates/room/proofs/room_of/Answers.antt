-- By what the table is judged to be, whether the number is one of its tasks, and what the distance test says.
use mathlib.Core.Path.{◌≡◌, sym, ap, ◌∙◌}
use native.Mathlib.Omega.{arith}
use borrow.Author.Tests.{lt-ltb, le-ltb}
use Rattle.std.specs.Prelude.{Ok}
use Rattle.std.proofs.lemmas.Result.{err_from_is_err_and}
use Rattle.model.specs.Tasks.{judged_mixed}
use Rattle.model.specs.Patterns.{distance_answer}
use Rattle.model.specs.Room.{room_told, room_answer}
use Rattle.wellformed.specs.WellFormed.{refused_is, admitted_is}
use Rattle.room.specs.Halving.{Well}
use Rattle.room.proofs.room_of.Goals.{In_ok-admit_mixed, Else-t-i}
use Rattle.room.proofs.room_of.Goals as goal

-- The table is well-formed where it is admitted.
well : (c : In_ok-admit_mixed) → Well c.args.t
well c = admitted_is (judged_mixed _) (sym c.admit_mixed.ensures ∙ c.in_ok-admit_mixed.was)

-- What is told of one of its tasks.
told : (c : Else-t-i) → room_answer c.args.t c.args.task ≡ room_told c.args.t c.args.task (distance_answer c.args.t)
unfolding room_answer
told c = rw ((well (goal.at.Else-t-i c).In_ok-admit_mixed).1, lt-ltb c.args.task c.args.t.count (omega arith))

pub search-requires : goal.search-requires
search-requires c =
    record {
      well = well (goal.at.search-requires c).In_ok-admit_mixed;
      i_lt_count = omega arith;
      t_value = sym c.test.ensures ∙ c.in_ok-test.was ∙ ap Ok c.in-Pass.is;
    }

pub returns-in_err-admit_mixed : goal.returns-in_err-admit_mixed
unfolding room_answer
returns-in_err-admit_mixed c =
    let p = err_from_is_err_and c.from_residual.result c.from_residual.ensures.1 in
    rw (p.1, p.2, refused_is (judged_mixed c.args.t) _ (sym c.admit_mixed.ensures ∙ c.in_err-admit_mixed.was))

pub returns-then-t-i : goal.returns-then-t-i
unfolding room_answer
returns-then-t-i c =
    rw (c.new.ensures, (well (goal.at.returns-then-t-i c).In_ok-admit_mixed).1, le-ltb c.args.task c.args.t.count (omega arith))

pub returns-in_err-test : goal.returns-in_err-test
unfolding room_answer
returns-in_err-test c =
    let p = err_from_is_err_and c.from_residual-in_err-test.result c.from_residual-in_err-test.ensures.1 in
    rw (p.1, p.2, told (goal.at.returns-in_err-test c).Else-t-i, ← c.test.ensures, c.in_err-test.was)

pub returns-in-Overload : goal.returns-in-Overload
unfolding room_answer
returns-in-Overload c = rw (told (goal.at.returns-in-Overload c).Else-t-i, ← c.test.ensures, c.in_ok-test.was, c.in-Overload.is)

pub returns-in-Pass : goal.returns-in-Pass
unfolding room_answer
returns-in-Pass c =
    rw (told (goal.at.returns-in-Pass c).Else-t-i, ← c.test.ensures, c.in_ok-test.was, c.in-Pass.is, c.from.ensures, ← c.search.ensures)

pub returns-in-NoAnswer : goal.returns-in-NoAnswer
unfolding room_answer
returns-in-NoAnswer c = rw (told (goal.at.returns-in-NoAnswer c).Else-t-i, ← c.test.ensures, c.in_ok-test.was, c.in-NoAnswer.is)
