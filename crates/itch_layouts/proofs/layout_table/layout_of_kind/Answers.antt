use Rattle.std.proofs.Common.{sym}
use Rattle.itch_layouts.specs.StaticLayouts.{as_static_layout}
use Rattle.itch_layouts.proofs.SoundLayouts.{of_kind}
use Rattle.itch_layouts.proofs.layout_table.layout_of_kind.Goals as goal

pub layout_of-requires : goal.layout_of-requires
layout_of-requires c = of_kind c.args.kind (as_static_layout c.in-Some.item.now) (sym c.in-Some.ensures)
