-- A reader or a writer with the last error that it returned.
use Rattle.std.specs.Prelude.{◌≡◌, Option, Some, Result, Ok, Err, ℕ}
use Rattle.std.specs.declared.io.Error.{Error}

-- A reader or a writer as contracts see it: the device, and the last error that it returned, if it has returned one.
pub record NamedDevice (D : Type 0) : Type 0 where
  pub device : D
  pub error : Option Error

-- A call's error is the last one from then on, and a call without one leaves it.
abbrev pub NotesError : Option Error → Option Error → Result ℕ Error → Type 0
NotesError old new (Ok _) = new ≡ old
NotesError old new (Err error) = new ≡ Some error
