-- The order references that a message has: what its fields `reference` and `new_reference` hold.
-- Nasdaq TotalView-ITCH 5.0, "Message Formats"; the names of the fields are of this project.
use Rattle.std.specs.Prelude.{ℕ, ◌||◌, eqb, Bool, if◌then◌else◌, List, [], ◌∷◌, codes}
use Rattle.std.specs.Cmp.Lexicographic.{pointwise}
use Rattle.itch_layouts.specs.Layouts.{Field, Value, Number}
use Rattle.itch_layouts.specs.Means.{fields_of}
use Rattle.itch_layouts.specs.declared.message.Msg.{Msg}

-- whether a field holds an order reference, by its name
abbrev pub is_reference : Field → Bool
is_reference field =
    pointwise eqb field.name (codes "reference") || pointwise eqb field.name (codes "new_reference")

-- the order references among the values of some fields
abbrev pub references_among : List Field → List Value → List ℕ
references_among (field ∷ fields) (Number n ∷ values) =
    if is_reference field then n ∷ references_among fields values else references_among fields values
references_among (field ∷ fields) (other ∷ values) = references_among fields values
references_among fields values = []

-- the order references in a message's fields `reference` and `new_reference`
abbrev pub references : Msg → List ℕ
references m = references_among (fields_of m).layout.body (fields_of m).body
