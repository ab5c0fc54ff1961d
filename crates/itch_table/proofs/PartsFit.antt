-- The locate code of a payload of bytes has two bytes.
use Rattle.std.proofs.Common.{◌≡◌, ◌<◌, ℕ, List, refl, arith}
use Rattle.std.specs.List.{All}
use Rattle.itch_layouts.specs.Encoding.{Fits}
use Rattle.itch_layouts.specs.Means.{fields_of}
use Rattle.itch_layouts.specs.Shapes.{shape_of}
use Rattle.itch_layouts.specs.declared.message.Msg.{Msg}
use Rattle.itch_layouts.specs.declared.message.Msg.TheVariants.{System}
use Rattle.itch_layouts.specs.declared.shape.Shape.{Shape}
use Rattle.itch_layouts.specs.declared.shape.Shape.TheVariants.{Known, Unknown, BadLength}
use Rattle.itch_layouts.proofs.OneShape.{reads_shape_of}
use Rattle.itch_layouts.proofs.Uniqueness.{fits}
use Rattle.itch_table.specs.declared.outcome.Part.TheVariants.{Locate}
use Rattle.itch_table.specs.Parts.{part, part_of_message, part_of_shape}

message_part_fits : (m : Msg) (locate : ℕ) → Fits m → part_of_message m ≡ Locate locate → locate < 0x1_0000
message_part_fits (System head m) locate fit e = let never : ⊥ = cc in absurd never
message_part_fits m locate fit e = let same : (fields_of m).head.locate ≡ locate = cc in omega (arith, fit.0, same)

shape_part_fits : (s : Shape) (locate : ℕ) → ((m : Msg) → s ≡ Known m → Fits m) → part_of_shape s ≡ Locate locate → locate < 0x1_0000
shape_part_fits Unknown locate fit e = let never : ⊥ = cc in absurd never
shape_part_fits BadLength locate fit e = let never : ⊥ = cc in absurd never
shape_part_fits (Known m) locate fit e = message_part_fits m locate (fit m refl) e

pub part_fits : (payload : List ℕ) (locate : ℕ) → All (λ byte. byte < 256) payload → part payload ≡ Locate locate → locate < 0x1_0000
part_fits payload locate bytes e =
    shape_part_fits (shape_of payload) locate (λ m is. fits payload (shape_of payload) m bytes (reads_shape_of payload) is) e
