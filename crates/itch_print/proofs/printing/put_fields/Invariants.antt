use Rattle.std.proofs.Common.{◌≡◌, ◌++◌, codes, map, take}
use Rattle.std.specs.List.{flat_map}
use Rattle.itch_layouts.specs.StaticFields.{as_field}
use Rattle.itch_print.specs.Disassembly.{field_text}
use Rattle.itch_print.proofs.printing.put_fields.Given as goal

abbrev pub invariant-loop-field : goal.invariant-loop-field
invariant-loop-field g l = l.text.items ≡ l.fn.text.items ++ flat_map (λ field. codes " " ++ field_text l.payload field) (map as_field (take l.field-index l.fields))
