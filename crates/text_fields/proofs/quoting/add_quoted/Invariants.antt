use Rattle.std.proofs.Common.{◌≡◌, ◌++◌, ◌∷◌, [], take}
use Rattle.std.specs.List.{flat_map}
use Rattle.text_fields.specs.Quoted.{escaped}
use Rattle.text_fields.proofs.quoting.add_quoted.Given as goal

abbrev pub invariant-loop-byte : goal.invariant-loop-byte
invariant-loop-byte g l = l.text.items ≡ (l.fn.text.items ++ 34 ∷ []) ++ flat_map escaped (take l.byte-index l.kept)
