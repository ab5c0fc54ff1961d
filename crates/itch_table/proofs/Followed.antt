-- A payload that means a message is followed as that message is.
use Rattle.std.proofs.Common.{ℕ, List, Option, Result, sym, subst}
use Rattle.itch_layouts.specs.Means.{Means, Reads}
use Rattle.itch_layouts.specs.Shapes.{shape_of}
use Rattle.itch_layouts.specs.declared.message.Msg.{Msg}
use Rattle.itch_layouts.specs.declared.shape.Shape.{Shape}
use Rattle.itch_layouts.specs.declared.shape.Shape.TheVariants.{Known}
use Rattle.itch_layouts.proofs.Uniqueness.{reads_shape}
use Rattle.itch_table.specs.declared.instructions.Unchanged.{Unchanged}
use Rattle.itch_table.specs.Held.{Held, HoldsPart}
use Rattle.itch_table.specs.Instructions.{Follows, FollowsShape}
use Rattle.itch_table.specs.Parts.{part, part_of_message, part_of_shape}
use Rattle.itch_table.specs.World.{empty_world}

-- the rows of a payload's part are those of its message's
pub holds : (own : Option ℕ) (payload : List ℕ) (m : Msg) → Means payload m → let held : Held = record { own = own; world = empty_world } in HoldsPart held (part payload) → HoldsPart held (part_of_message m)
holds own payload m means here = subst (λ (shape : Shape). HoldsPart (record { own = own; world = empty_world }) (part_of_shape shape)) (sym (reads_shape payload (Known m) means)) here

pub followed : (old new : Held) (payload : List ℕ) (m : Msg) (result : Result (Unit {0}) Unchanged) → Means payload m → Follows old m new result → FollowsShape old (shape_of payload) new result
followed old new payload m result means follows = subst (λ (shape : Shape). FollowsShape old shape new result) (reads_shape payload (Known m) means) follows

-- the same of a payload that means none
pub read_as : (old new : Held) (payload : List ℕ) (shape : Shape) (result : Result (Unit {0}) Unchanged) → Reads payload shape → FollowsShape old shape new result → FollowsShape old (shape_of payload) new result
read_as old new payload shape result reads follows = subst (λ (s : Shape). FollowsShape old s new result) (reads_shape payload shape reads) follows
