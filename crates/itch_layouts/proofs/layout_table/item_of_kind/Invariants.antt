use Rattle.std.proofs.Common.{◌≡◌, ◌==◌, drop, map}
use Rattle.std.specs.List.{find}
use Rattle.itch_layouts.specs.Layouts.{Layout, layout_of_kind}
use Rattle.itch_layouts.specs.StaticLayouts.{as_static_layout}
use Rattle.itch_layouts.proofs.layout_table.item_of_kind.Given as goal

abbrev pub invariant-loop-item : goal.invariant-loop-item
invariant-loop-item l = find (λ (layout : Layout). layout.kind == l.kind) (map as_static_layout (drop l.item-index l.item-items)) ≡ layout_of_kind l.kind
