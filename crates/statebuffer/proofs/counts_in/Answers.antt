-- Each entry is read at its place.
use Rattle.std.proofs.Common.{◌+◌, ◌*◌, ℕ, rules}
use Rattle.model.specs.TableFile.{eight}
use Rattle.counting.specs.FromFn.{from_fn_fill}
use Rattle.statebuffer.proofs.counts_in.Goals as goal

pub returns : goal.returns
returns c =
    let buffer = c.args.buffer.now in
    from_fn_fill _ _ (λ (i : ℕ). eight buffer (c.args.at + 8 * i)) (λ x y q k. search rules) 0 c.from_fn.ensures.items
