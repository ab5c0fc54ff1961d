-- A day file that is given in hexadecimal digits of either case, two a byte. Spaces and line feeds may stand anywhere,
-- also between the two digits of a byte. It is of this project.
use Rattle.std.specs.Prelude.{ℕ, ◌==◌, ◌%◌, ◌&&◌, ◌||◌, not, Bool, List, filter, length, Option}
use Rattle.std.specs.Result.{result_ok}
use Rattle.std.specs.List.{list_all}
use Rattle.hex.specs.Hex.{decode_of, is_hex_digit}
use Rattle.itch_text.specs.Characters.{line_feed, space}

-- spaces and line feeds are passed over
abbrev pub is_kept : ℕ → Bool
is_kept byte = not ((byte == space) || (byte == line_feed))

-- the input without its spaces and line feeds
abbrev pub digits_of : List ℕ → List ℕ
digits_of input = filter is_kept input

-- an even number of hexadecimal digits of either case, and no other byte
abbrev pub are_pairs : List ℕ → Bool
are_pairs digits = (length digits % 2 == 0) && list_all is_hex_digit digits

-- the bytes that the input's digits denote, where they denote some
abbrev pub denoted : List ℕ → Option (List ℕ)
denoted input = result_ok (decode_of (digits_of input))
