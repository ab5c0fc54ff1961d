-- Messages by their kind.
use Rattle.std.specs.Prelude.{ℕ, ◌==◌, Bool, true, false, List, Option, Some, None, slice_get}
use Rattle.itch_layouts.specs.Shapes.{shape_of}
use Rattle.itch_layouts.specs.declared.shape.Shape.{Shape}
use Rattle.itch_layouts.specs.declared.shape.Shape.TheVariants.{Known, Unknown, BadLength}

-- whether there is a first byte and it is this one
abbrev pub is_first : ℕ → Option ℕ → Bool
is_first byte None = false
is_first byte (Some first) = first == byte

-- whether a shape is a message's, and the first byte the type
abbrev pub is_kind : ℕ → Option ℕ → Shape → Bool
is_kind kind first (Known msg) = is_first kind first
is_kind kind first Unknown = false
is_kind kind first BadLength = false

-- whether a payload is a message of a kind
abbrev pub is_message_of : ℕ → List ℕ → Bool
is_message_of kind payload = is_kind kind (slice_get payload 0) (shape_of payload)
