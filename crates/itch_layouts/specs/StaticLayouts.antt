-- The layouts that the program holds, as the layouts of the definitions that they are.
use Rattle.std.specs.Prelude.{map}
use Rattle.itch_layouts.specs.Layouts as layouts
use Rattle.itch_layouts.specs.StaticFields.{as_field}
use Rattle.itch_layouts.specs.declared.layout.Layout.{Layout}
use Rattle.itch_layouts.specs.declared.layout_table.StaticLayout.{StaticLayout}

-- the layout that a layout of the program is
abbrev pub as_layout : Layout → layouts.Layout
as_layout layout =
    layouts.make_layout layout.kind layout.mnemonic.now layout.size (map as_field layout.body.now)

-- the layout that an item of the program's table is
abbrev pub as_static_layout : StaticLayout → layouts.Layout
as_static_layout item = layouts.make_layout item.kind item.mnemonic.now item.size (map as_field item.body.now)
