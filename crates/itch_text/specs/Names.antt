-- The names of lines as the program has them.
use Rattle.itch_layouts.specs.declared.layout.Layout.{Layout}
use Rattle.itch_layouts.specs.StaticLayouts.{as_layout}
use Rattle.itch_text.specs.Faults.{Name as LineName, Message as MessageName, RawName, EndName, CutName, RestName}
use Rattle.itch_text.specs.declared.name.Name.{Name}
use Rattle.itch_text.specs.declared.name.Name.TheVariants.{Message, Raw, End, Cut, Rest}

-- the name that a name of the program is
abbrev pub as_name : Name Layout → LineName
as_name (Message layout) = MessageName (as_layout layout)
as_name Raw = RawName
as_name End = EndName
as_name Cut = CutName
as_name Rest = RestName
