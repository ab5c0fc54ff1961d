-- What the printing of a field requires of the payload and of the field.
use Rattle.std.specs.Prelude.{ℕ, List, IsTrue}
use Rattle.itch_layouts.specs.Layouts.{Field, Holds}
use Rattle.itch_layouts.specs.Soundness.{is_sound_field}

-- the payload has all of the field's bytes, and the field has the width of a value
abbrev pub HasField : List ℕ → Field → Type 0
HasField payload field = Holds payload field × IsTrue (is_sound_field field)
