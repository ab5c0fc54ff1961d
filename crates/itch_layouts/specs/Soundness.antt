-- What every layout of the table keeps to, as tests that compute.
use Rattle.std.specs.Prelude.{ℕ, ◌+◌, ◌==◌, ◌&&◌, ◌||◌, leb, Bool, false, List, [], ◌∷◌}
use Rattle.std.specs.List.{list_all}
use Rattle.itch_layouts.specs.Layouts.{Field, Form, Integer, Alpha, Layout, fields}

-- bytes by name
abbrev small_a : ℕ
small_a = 97

abbrev small_z : ℕ
small_z = 122

abbrev digit_0 : ℕ
digit_0 = 48

abbrev digit_9 : ℕ
digit_9 = 57

abbrev underscore : ℕ
underscore = 95

-- whether it is a small letter, a digit or an underscore
abbrev pub is_word_byte : ℕ → Bool
is_word_byte b = (leb small_a b && leb b small_z) || (leb digit_0 b && leb b digit_9) || (b == underscore)

-- whether there is a byte, and each is one of a word
abbrev pub is_word : List ℕ → Bool
is_word [] = false
is_word (b ∷ bs) = is_word_byte b && list_all is_word_byte bs

-- whether a field of this form may have this width: numbers have 2, 4, 6 or 8 bytes, and texts 1 to 8
abbrev pub is_width : Form → ℕ → Bool
is_width Integer width = (width == 2) || (width == 4) || (width == 6) || (width == 8)
is_width Alpha width = leb 1 width && leb width 8

-- whether a field's name is a word, and its width one of its form
abbrev pub is_sound_field : Field → Bool
is_sound_field field = is_word field.name && is_width field.form field.width

-- whether the fields follow one another from one offset to another
abbrev pub tiles : ℕ → List Field → ℕ → Bool
tiles from [] to = from == to
tiles from (f ∷ fs) to = (f.offset == from) && tiles (from + f.width) fs to

-- whether the mnemonic is a word, each field is sound, and the fields follow the type up to the size
abbrev pub is_sound : Layout → Bool
is_sound layout =
    is_word layout.mnemonic && list_all is_sound_field (fields layout) && tiles 1 (fields layout) layout.size
