-- What a byte is, as a number.
use Rattle.std.specs.Prelude.{ℕ, ◌<◌, List}
use Rattle.std.specs.List.{All}

-- a byte is a number below 256
abbrev pub IsByte : ℕ → Type 0
IsByte byte = byte < 256

-- each item is a byte
abbrev pub AreBytes : List ℕ → Type 0
AreBytes bytes = All IsByte bytes
