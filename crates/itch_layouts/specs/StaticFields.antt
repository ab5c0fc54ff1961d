-- The fields that the program holds, as the fields of layouts that they are.
use Rattle.itch_layouts.specs.Layouts as layouts
use Rattle.itch_layouts.specs.declared.field.Form.{Form}
use Rattle.itch_layouts.specs.declared.field.Form.TheVariants.{Integer, Alpha}
use Rattle.itch_layouts.specs.declared.field.Field.{Field}

-- the form that a form of the program is
abbrev pub as_form : Form → layouts.Form
as_form Integer = layouts.Integer
as_form Alpha = layouts.Alpha

-- the field that a field of the program is
abbrev pub as_field : Field → layouts.Field
as_field field =
    record { name = field.name.now; offset = field.offset; width = field.width; form = as_form field.form }
