-- The loop has passed no task that does not belong; then the other two ways out of the tests.
use Rattle.std.proofs.Common.{◌≡◌, sym, ◌∙◌, ap, true, false, ◌≤◌, ◌<◌, arith, rules, lt-ltb, le-ltb, take, length, get_or}
use Rattle.std.proofs.lemmas.List.{get_or-take, length-take, length-take-le}
use Rattle.values.specs.declared.Task.{Task}
use Rattle.model.specs.Limits.{task_limit}
use Rattle.model.specs.Tasks.{no_task}
use Rattle.model.specs.Dispatcher.{strange, first_strange, slot_count}
use Rattle.counting.specs.Sum.{sum_eq}
use Rattle.counting.specs.Search.{none_up, first_is, first_none}
use Rattle.belonging.specs.Strange.{strange_at}
use Rattle.belonging.specs.Room.{room_for}
use Rattle.belonging.proofs.belonging.Goals.{After-is_strange, After-loop-i}
use Rattle.belonging.proofs.belonging.Goals as goal

-- The task of this turn is one of the table's.
below : (c : After-is_strange) → c.loop-i.i < c.args.t.count
below c = omega (arith, length-take c.args.t.count c.args.t.tasks)

told : (c : After-is_strange) → c.is_strange.result ≡ strange c.args.t c.args.d c.loop-i.i
told c =
    c.is_strange.ensures
    ∙ ap (λ (k : Task). strange_at k (get_or c.args.d.wait c.loop-i.i 0) (get_or c.args.d.left c.loop-i.i 0))
    (get_or-take c.args.t.count c.args.t.tasks c.loop-i.i no_task (below c))

pub returns-then-is_strange : goal.returns-then-is_strange
unfolding first_strange
returns-then-is_strange c =
    let p = strange c.args.t c.args.d in
    let at = (goal.at.returns-then-is_strange c).After-is_strange in
    let e : p c.loop-i.i ≡ true = sym (told at) ∙ c.if-is_strange.true in
    let here = first_is p 0 c.args.t.count c.loop-i.i (omega arith) (omega (arith, below at)) (rw e tt) c.loop-i.invariant in
    rw (here, lt-ltb c.loop-i.i c.args.t.count (below at), c.strange_state.ensures)

pub loop-i-preserved : goal.loop-i-preserved
loop-i-preserved c =
    let p = strange c.args.t c.args.d in
    let e : p c.loop-i.i ≡ false = sym (told (goal.at.loop-i-preserved c).After-is_strange) ∙ c.if-is_strange.false in
    none_up p 0 c.loop-i.i c.loop-i.invariant (λ h. rw e at h)

-- None is found.
none : (c : After-loop-i) → c.args.t.count ≤ first_strange c.args.t c.args.d
unfolding first_strange
none c =
    let whole : length c.args.t.tasks ≡ task_limit = search rules in
    omega (
      arith,
      first_none (strange c.args.t c.args.d) 0 c.args.t.count
          (λ k l m. c.loop-i.invariant k l (omega (arith, whole, c.requires, length-take c.args.t.count c.args.t.tasks))),
    )

pub returns-then-last_strange : goal.returns-then-last_strange
returns-then-last_strange c = rw (
  le-ltb _ _ (none (goal.at.returns-then-last_strange c).After-loop-i),
  ← c.last_strange.ensures,
  c.if-last_strange.true,
  c.strange_state-then-last_strange.ensures,
)

pub returns : goal.returns
unfolding slot_count room_for
returns c =
    let n = c.args.t.count in
    let given = c.args.d.given in
    let whole : length given ≡ task_limit = search rules in
    let few = length-take-le n given (omega (arith, whole, c.requires)) in
    let same = sum_eq n (λ i. get_or (take n given) i 0) (λ i. get_or given i 0) (λ i l. get_or-take n given i 0 l) in
    rw (le-ltb _ _ (none (goal.at.returns c).After-loop-i), ← c.last_strange.ensures, c.if-last_strange.false, c.room_for.ensures, few, same)
