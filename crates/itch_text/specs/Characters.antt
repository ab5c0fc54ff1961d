-- The bytes that the text form gives a meaning, as numbers.
use Rattle.std.specs.Prelude.{ℕ}

abbrev pub line_feed : ℕ
line_feed = 10

abbrev pub space : ℕ
space = 32

abbrev pub quote_mark : ℕ
quote_mark = 34

abbrev pub number_sign : ℕ
number_sign = 35

abbrev pub backslash : ℕ
backslash = 92

abbrev pub small_x : ℕ
small_x = 120

abbrev pub tilde : ℕ
tilde = 126
