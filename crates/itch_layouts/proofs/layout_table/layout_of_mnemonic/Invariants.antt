use Rattle.std.proofs.Common.{◌≡◌, eqb, drop, map}
use Rattle.std.specs.Cmp.Lexicographic.{pointwise}
use Rattle.std.specs.List.{find}
use Rattle.itch_layouts.specs.Layouts.{Layout, layout_of_mnemonic}
use Rattle.itch_layouts.specs.StaticLayouts.{as_static_layout}
use Rattle.itch_layouts.proofs.layout_table.layout_of_mnemonic.Given as goal

abbrev pub invariant-loop-item : goal.invariant-loop-item
invariant-loop-item l = find (λ (layout : Layout). pointwise eqb layout.mnemonic l.mnemonic) (map as_static_layout (drop l.item-index l.item-items)) ≡ layout_of_mnemonic l.mnemonic
