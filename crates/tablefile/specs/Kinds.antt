-- The kinds of records, and the byte of each.
use Rattle.std.specs.Prelude.{◌≡◌, ◌≢◌, ℕ, false, eqb, Result, Ok, Err}
use borrow.Author.Tests.{ne_eqb}
use Rattle.tablefile.specs.declared.Kind.{Kind}
use Rattle.tablefile.specs.declared.UnknownKind.{UnknownKind}

abbrev pub kind_byte : Kind → ℕ
kind_byte Kind.Budget = 1
kind_byte Kind.Task = 2
kind_byte Kind.End = 3
kind_byte Kind.Button = 4

-- A byte is read as the kind whose byte it is, and as none only if it is none's.
abbrev pub KindOf : ℕ → Result Kind UnknownKind → Type 0
KindOf byte (Ok kind) = byte ≡ kind_byte kind
KindOf byte (Err e) = (kind : Kind) → byte ≢ kind_byte kind

pub kind_is : (byte : ℕ) (read : Result Kind UnknownKind) (k kind : Kind) → read ≡ Ok k → k ≡ kind → KindOf byte read → byte ≡ kind_byte kind
kind_is byte read k kind e f h = let is = rw e at h in rw f at is

pub no_kind : (byte : ℕ) (read : Result Kind UnknownKind) (e : UnknownKind) → read ≡ Err e → KindOf byte read
    → (eqb byte 1 ≡ false) × (eqb byte 2 ≡ false) × (eqb byte 4 ≡ false) × (eqb byte 3 ≡ false)
no_kind byte read e f h =
    let none = rw f at h in
    (ne_eqb _ _ (none Kind.Budget), ne_eqb _ _ (none Kind.Task), ne_eqb _ _ (none Kind.Button), ne_eqb _ _ (none Kind.End))
