-- The budget decides first, then the length of the file.
use mathlib.Core.Path.{◌≡◌}
use native.Mathlib.Omega.{arith}
use lib.ListN.{length}
use Rattle.model.specs.TableFile.{file_of}
use Rattle.tablefile.specs.Written.{file_length, records_le}
use Rattle.writer.specs.Records.{file_bytes, nothing, something, short, fits}
use Rattle.writer.proofs.write_file.Goals.{Start}
use Rattle.writer.proofs.write_file.Goals as goal

-- The file is as long as its tasks say.
size : (c : Start) → length (file_of c.args.budget c.args.tasks.now) ≡ file_bytes c.args.tasks.now
size c = file_length c.args.budget c.args.tasks.now

pub returns-then-budget-eq0 : goal.returns-then-budget-eq0
returns-then-budget-eq0 c =
    nothing c.args.budget (file_of c.args.budget c.args.tasks.now) c.args.buffer.now c.if-budget-eq0.true c.no_budget.ensures

pub short_buffer-requires : goal.short_buffer-requires
short_buffer-requires c = omega (arith, c.file_bytes.ensures, records_le c.args.tasks.now)

pub returns-then-buffer-file_bytes : goal.returns-then-buffer-file_bytes
returns-then-buffer-file_bytes c =
    let file = file_of c.args.budget c.args.tasks.now in
    something c.args.budget file c.args.buffer.now c.if-budget-eq0.false
    (short file c.args.buffer.now (omega (arith, size (goal.at.returns-then-buffer-file_bytes c).Start)) c.short_buffer.ensures)

pub returns : goal.returns
returns c =
    something c.args.budget (file_of c.args.budget c.args.tasks.now) c.args.buffer.now c.if-budget-eq0.false
    (fits c.put_file.ensures (omega (arith, size (goal.at.returns c).Start)))
