-- The elements of a slice or a `Vec` of bytes are bytes.
use Rattle.std.proofs.Common.{ℕ, List, get_or, arith, Fits, w8}
use Rattle.std.proofs.lemmas.List.Elements.{All-from_get_or}
use Rattle.byte_strings.specs.Bytes.{IsByte, AreBytes}

-- what the type of a slice or a `Vec` of u8 says of its elements
pub bytes_are : (bytes : List ℕ) → ((i : ℕ) → Fits w8 (get_or bytes i 0)) → AreBytes bytes
bytes_are bytes fits = All-from_get_or IsByte bytes 0 (λ i h. omega (arith, (fits i).fits))
