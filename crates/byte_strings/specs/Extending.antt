-- What a call that appends to a vector of bytes leaves there.
use Rattle.std.specs.Prelude.{◌≡◌, ℕ, List, ◌++◌, Result, OnOk}
use Rattle.std.specs.declared.vec.Vec.{Vec}

-- where the call succeeded, the vector has what it had before, followed by the bytes; an error says nothing of it
abbrev pub Extends : {A T E : Type 0} → Vec ℕ A → Vec ℕ A → List ℕ → Result T E → Type 0
Extends old new bytes result = OnOk result (new.items ≡ old.items ++ bytes)
