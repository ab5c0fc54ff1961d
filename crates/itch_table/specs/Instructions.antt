-- What following one message does to rows. Of this project.
use Rattle.std.specs.Prelude.{◌≡◌, IsTrue, Some, None, Result, Ok, Err}
use Rattle.itch_layouts.specs.declared.message.Msg.{Msg}
use Rattle.itch_layouts.specs.declared.shape.Shape.{Shape}
use Rattle.itch_layouts.specs.declared.shape.Shape.TheVariants.{Known, Unknown, BadLength}
use Rattle.itch_table.specs.declared.instructions.Unchanged.{Unchanged}
use Rattle.itch_table.specs.declared.instructions.Unchanged.TheVariants.{Memory, Passed, Refused}
use Rattle.itch_table.specs.declared.outcome.Fault.TheVariants.{WrongLength}
use Rattle.itch_table.specs.Held.{Held, on_world}
use Rattle.itch_table.specs.Machine.{adds_row}
use Rattle.itch_table.specs.Table.{checks, effect, first_fault}

-- a message whose checks pass has its effect; else the first check that fails refuses it, and where memory is refused
-- for a row that it may need, its checks have passed: the rows stay as they were
abbrev pub Follows : Held → Msg → Held → Result (Unit {0}) Unchanged → Type 0
Follows old m new (Ok done) = (first_fault (checks m old.world) ≡ None) × (new ≡ on_world (effect m) old)
Follows old m new (Err (Refused fault)) = (first_fault (checks m old.world) ≡ Some fault) × (new ≡ old)
Follows old m new (Err Memory) =
    (first_fault (checks m old.world) ≡ None) × (new ≡ old) × IsTrue (adds_row old.own m)
Follows old m new (Err Passed) = ⊥

-- the same of a payload of this shape: one of an unknown type is passed over, and one of a wrong length is refused
abbrev pub FollowsShape : Held → Shape → Held → Result (Unit {0}) Unchanged → Type 0
FollowsShape old (Known m) new result = Follows old m new result
FollowsShape old Unknown new result = (result ≡ Err Passed) × (new ≡ old)
FollowsShape old BadLength new result = (result ≡ Err (Refused WrongLength)) × (new ≡ old)
