use Rattle.std.proofs.Common.{arith}
use Rattle.itch_layouts.specs.StaticLayouts.{as_static_layout}
use Rattle.itch_layouts.proofs.SoundLayouts.{item_sound}
use Rattle.itch_layouts.proofs.layout_table.layout_of_mnemonic.Goals as goal

pub layout_of-requires : goal.layout_of-requires
layout_of-requires c = item_sound as_static_layout c.layouts-item-items.result.now c.loop-item.item-index _ c.layouts-item-items.ensures (omega (arith, c.loop-item-test.true))
