use Rattle.std.proofs.Common.{◌≡◌, ◌++◌, List, drop, map}
use Rattle.itch_layouts.specs.Layouts.{Field}
use Rattle.itch_layouts.specs.StaticFields.{as_field}
use Rattle.itch_text.specs.Words.{words}
use Rattle.itch_text.specs.Fields.{extended, fields_bytes}
use Rattle.itch_text.proofs.fields.put_fields.Given as goal

abbrev pub invariant-fields : goal.invariant-fields
invariant-fields g l = (gs : List Field) → extended l.fn.out.items (fields_bytes (map as_field l.fields ++ gs) (words l.line)) ≡ extended l.out.items (fields_bytes (map as_field (drop l.field-index l.fields) ++ gs) (words l.rest))
