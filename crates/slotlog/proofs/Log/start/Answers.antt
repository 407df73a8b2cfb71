-- As the dispatcher is started.
use Rattle.model.specs.Values.{Judgement}
use Rattle.std.specs.Prelude.{Ok, Err}
use mathlib.Core.Path.{◌≡◌, refl, sym, ap, ◌∙◌}
use Prim.Native.Nat.{ℕ}
use native.Mathlib.Omega.{arith}
use Rattle.values.specs.declared.Table.{Table}
use Rattle.values.specs.declared.State.{State}
use Rattle.model.specs.Tasks.{judged}
use Rattle.model.specs.Dispatcher.{Started, start_of, start_judged, started}
use Rattle.model.specs.Log.{log_started}
use Rattle.slotlog.proofs.Log.start.Goals as goal

-- A dispatcher that is started is in its first state.
first-state : (t : Table) (d : State) → (started t d).admission ≡ Ok tt → (started t d).state ≡ start_of t
unfolding started
first-state t d = go (judged t)
  where
    go : (j : Judgement) → (start_judged t d j).admission ≡ Ok tt → (start_judged t d j).state ≡ start_of t
    go (Err r) e = let z : ◌≡◌ {A = ℕ} 0 1 = cc in absurd (omega arith)
    go (Ok m) e = refl

pub returns-in-Err : goal.returns-in-Err
unfolding log_started
returns-in-Err c =
    rw (← c.start-started.ensures, c.in-Err.is) c.handed_back.ensures

pub returns-in-Ok : goal.returns-in-Ok
unfolding log_started
returns-in-Ok c =
    let same = c.start-started.ensures in
    let admitted = ap (λ (x : Started). x.admission) (sym same) ∙ c.in-Ok.is in
    rw (admitted, c.unread.ensures, ← first-state c.args.t _ admitted, ← same)
