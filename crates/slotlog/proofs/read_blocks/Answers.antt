-- What is left is still to be read, and then the piece is.
use Rattle.std.proofs.Common.{◌≡◌, refl, sym, ap, ◌∙◌, ℕ, List, [], ◌∷◌, length, arith, eqb-true}
use Rattle.values.specs.declared.Table.{Table}
use Rattle.model.specs.Log.{Log, read_all}
use Rattle.slotlog.specs.State.{log_state_of}
use Rattle.slotlog.specs.Bytes.{all_read}
use Rattle.slotlog.specs.Cuts.{stays, read_joined}
use Rattle.slotlog.proofs.read_blocks.Goals as goal

pub returns-then-is_final : goal.returns-then-is_final
returns-then-is_final c t u r = sym (stays t _ _ (c.is_final.ensures c.if-is_final.true)) ∙ (c.loop-rest.invariant t u r).1

pub loop-rest-preserved : goal.loop-rest-preserved
loop-rest-preserved c t u r =
    let v = c.loop-rest.invariant t u r in
    let read = c.read_block-next.ensures t u v.0 in
    let (front, back) = c.split_at.result in (
      read.may,
      ap (λ (x : Log). read_all t x back.now) (all_read (omega arith) read)
          ∙ sym (read_joined t (log_state_of c.loop-rest.next) front.now back.now)
          ∙ ap (read_all t (log_state_of c.loop-rest.next)) (sym c.split_at.ensures.by_index.0) ∙ v.1,
    )

-- Nothing is left.
none_read : (t : Table) (l : Log) (rest : List ℕ) → length rest ≡ 0 → l ≡ read_all t l rest
unfolding read_all
none_read t l [] e = refl
none_read t l (x ∷ rest) e = absurd (omega arith)

pub returns : goal.returns
returns c t u r =
    none_read t _ c.loop-rest.rest.now (eqb-true _ 0 (sym c.is_empty.ensures ∙ c.loop-rest-test.false)) ∙ (c.loop-rest.invariant t u r).1
