-- What is read in place, and then the rest.
use Rattle.std.proofs.Common.{◌≡◌, sym, ap, ◌∙◌, ℕ, ◌-◌, List, take, drop, length, arith, take-append-drop, take_all}
use Rattle.std.proofs.lemmas.List.{length-drop}
use Rattle.values.specs.declared.Table.{Table}
use Rattle.model.specs.Log.{Log, read_all}
use Rattle.slotlog.specs.Bytes.{ReadTo, all_read}
use Rattle.slotlog.specs.Cuts.{read_joined}
use Rattle.slotlog.proofs.read_block.Goals as goal

-- A front of the block, and the rest of it.
both : (t : Table) (start l next : Log) (block : List ℕ) (at : ℕ) → ReadTo t start block at l
    → ReadTo t l (take (length block - at) (drop at block)) (length (take (length block - at) (drop at block))) next
    → ReadTo t start block (length block) next
both t start l next block at p q =
    let rest : take (length block - at) (drop at block) ≡ drop at block = take_all _ _ (omega (arith, length-drop at block)) in
    record {
      may = q.may;
      so = all_read (omega arith) q ∙ ap (read_all t l) rest ∙ ap (λ (x : Log). read_all t x (drop at block)) p.so
          ∙ sym (read_joined t start (take at block) (drop at block))
          ∙ ap (read_all t start) (take-append-drop at block ∙ sym (take_all _ block (omega arith)));
    }

pub returns : goal.returns
returns c t u r =
    let place = c.read_in_place-run.ensures.read t u r in
    both t _ _ _ _ _ place (c.read_bytes.ensures t u place.may)
