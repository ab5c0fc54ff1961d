-- Which message a payload means.
use Rattle.std.specs.Prelude.{◌≡◌, ◌≢◌, ◌⊎◌, ℕ, List, [], ◌∷◌, ◌++◌, length, slice_index, Some, None}
use Rattle.itch_layouts.specs.Layouts.{Layout, size_of, Value, Number, Bytes, values_at}
use Rattle.itch_layouts.specs.Layouts as layouts
use Rattle.itch_layouts.specs.declared.kind.Kind.{Kind}
use Rattle.itch_layouts.specs.declared.kind.Kind.TheVariants as kind
use Rattle.itch_layouts.specs.declared.message.Head.{Head}
use Rattle.itch_layouts.specs.declared.message.Msg.{Msg}
use Rattle.itch_layouts.specs.declared.message.Msg.TheVariants as msg
use Rattle.itch_layouts.specs.declared.shape.Shape.{Shape}
use Rattle.itch_layouts.specs.declared.shape.Shape.TheVariants.{Known, Unknown, BadLength}

-- the values of the fields of a head
abbrev pub head_values : Head → List Value
head_values head = Number head.locate ∷ Number head.tracking ∷ Number head.time ∷ []

-- the value of a field of one byte
abbrev pub byte : ℕ → Value
byte b = Bytes (b ∷ [])

-- a message's layout, its head, and the values of the fields after the head, in the order of the layout
pub record MessageFields : Type 0 where
  pub layout : Layout
  pub head : Head
  pub body : List Value

abbrev pub fields_by : Layout → Head → List Value → MessageFields
fields_by layout head body = record { layout = layout; head = head; body = body }

-- the fields of a message
abbrev pub fields_of : Msg → MessageFields
fields_of (msg.System head m) = fields_by layouts.system head (byte m.event ∷ [])
fields_of (msg.Directory head m) = fields_by layouts.directory head
    (Bytes m.stock ∷ byte m.category ∷ byte m.status ∷ Number m.lot ∷ byte m.lots_only ∷ byte m.issue_class ∷
    Bytes m.issue_subtype ∷ byte m.authenticity ∷ byte m.short_sale ∷ byte m.ipo ∷ byte m.luld ∷ byte m.etp ∷
    Number m.leverage ∷ byte m.inverse ∷ [])
fields_of (msg.Trading head m) = fields_by layouts.trading head
    (Bytes m.stock ∷ byte m.state ∷ byte m.reserved ∷ Bytes m.reason ∷ [])
fields_of (msg.Regsho head m) = fields_by layouts.regsho head (Bytes m.stock ∷ byte m.action ∷ [])
fields_of (msg.Participant head m) = fields_by layouts.participant head
    (Bytes m.mpid ∷ Bytes m.stock ∷ byte m.primary ∷ byte m.mode ∷ byte m.state ∷ [])
fields_of (msg.Decline head m) = fields_by layouts.decline head
    (Number m.level1 ∷ Number m.level2 ∷ Number m.level3 ∷ [])
fields_of (msg.Breach head m) = fields_by layouts.breach head (byte m.level ∷ [])
fields_of (msg.Ipo head m) = fields_by layouts.ipo head
    (Bytes m.stock ∷ Number m.release ∷ byte m.qualifier ∷ Number m.price ∷ [])
fields_of (msg.Collar head m) = fields_by layouts.collar head
    (Bytes m.stock ∷ Number m.reference_price ∷ Number m.upper ∷ Number m.lower ∷ Number m.extension ∷ [])
fields_of (msg.Operational head m) = fields_by layouts.operational head
    (Bytes m.stock ∷ byte m.market ∷ byte m.action ∷ [])
fields_of (msg.Add head m) = fields_by layouts.add head
    (Number m.reference ∷ byte m.side ∷ Number m.shares ∷ Bytes m.stock ∷ Number m.price ∷ [])
fields_of (msg.AddMpid head m) = fields_by layouts.add_mpid head
    (Number m.reference ∷ byte m.side ∷ Number m.shares ∷ Bytes m.stock ∷ Number m.price ∷
    Bytes m.attribution ∷ [])
fields_of (msg.Execute head m) = fields_by layouts.execute head
    (Number m.reference ∷ Number m.shares ∷ Number m.match_no ∷ [])
fields_of (msg.ExecutePrice head m) = fields_by layouts.execute_price head
    (Number m.reference ∷ Number m.shares ∷ Number m.match_no ∷ byte m.printable ∷ Number m.price ∷ [])
fields_of (msg.Cancel head m) = fields_by layouts.cancel head (Number m.reference ∷ Number m.shares ∷ [])
fields_of (msg.Delete head m) = fields_by layouts.delete head (Number m.reference ∷ [])
fields_of (msg.Replace head m) = fields_by layouts.replace head
    (Number m.reference ∷ Number m.new_reference ∷ Number m.shares ∷ Number m.price ∷ [])
fields_of (msg.Trade head m) = fields_by layouts.trade head
    (Number m.reference ∷ byte m.side ∷ Number m.shares ∷ Bytes m.stock ∷ Number m.price ∷ Number m.match_no ∷
    [])
fields_of (msg.Cross head m) = fields_by layouts.cross head
    (Number m.shares ∷ Bytes m.stock ∷ Number m.price ∷ Number m.match_no ∷ byte m.cross_type ∷ [])
fields_of (msg.Broken head m) = fields_by layouts.broken head (Number m.match_no ∷ [])
fields_of (msg.Imbalance head m) = fields_by layouts.imbalance head
    (Number m.paired ∷ Number m.imbalance ∷ byte m.direction ∷ Bytes m.stock ∷ Number m.far ∷ Number m.near ∷
    Number m.reference_price ∷ byte m.cross_type ∷ byte m.variation ∷ [])
fields_of (msg.Retail head m) = fields_by layouts.retail head (Bytes m.stock ∷ byte m.interest ∷ [])

-- the layout of a message
abbrev pub layout_of : Msg → Layout
layout_of m = (fields_of m).layout

-- the values of a message's fields, in the order of its layout
abbrev pub values_of : Msg → List Value
values_of m = head_values (fields_of m).head ++ (fields_of m).body

-- the payload begins with the layout's type and has its size
abbrev pub IsOf : Layout → List ℕ → Type 0
IsOf layout payload = (slice_index payload 0 ≡ layout.kind) × (length payload ≡ layout.size)

-- the payload is of the message's layout, and the value of each of its fields is the message's
abbrev pub Means : List ℕ → Msg → Type 0
Means payload m = IsOf (layout_of m) payload × (values_of m ≡ values_at (layout_of m) payload)

-- a payload is known where it means a message, unknown where it is empty or its type has no layout,
-- and of a bad length where its type has a layout of another size
abbrev pub Reads : List ℕ → Shape → Type 0
Reads payload (Known m) = Means payload m
Reads payload Unknown = (length payload ≡ 0) ⊎ (size_of (slice_index payload 0) ≡ None)
Reads payload BadLength =
    (size : ℕ) × (size_of (slice_index payload 0) ≡ Some size) × (length payload ≢ size)

-- a payload is of a message's kind where it is of its layout, and unknown or of a bad length where it reads so
abbrev pub IsKind : List ℕ → Kind → Type 0
IsKind payload kind.System = IsOf layouts.system payload
IsKind payload kind.Directory = IsOf layouts.directory payload
IsKind payload kind.Trading = IsOf layouts.trading payload
IsKind payload kind.Regsho = IsOf layouts.regsho payload
IsKind payload kind.Participant = IsOf layouts.participant payload
IsKind payload kind.Decline = IsOf layouts.decline payload
IsKind payload kind.Breach = IsOf layouts.breach payload
IsKind payload kind.Ipo = IsOf layouts.ipo payload
IsKind payload kind.Collar = IsOf layouts.collar payload
IsKind payload kind.Operational = IsOf layouts.operational payload
IsKind payload kind.Add = IsOf layouts.add payload
IsKind payload kind.AddMpid = IsOf layouts.add_mpid payload
IsKind payload kind.Execute = IsOf layouts.execute payload
IsKind payload kind.ExecutePrice = IsOf layouts.execute_price payload
IsKind payload kind.Cancel = IsOf layouts.cancel payload
IsKind payload kind.Delete = IsOf layouts.delete payload
IsKind payload kind.Replace = IsOf layouts.replace payload
IsKind payload kind.Trade = IsOf layouts.trade payload
IsKind payload kind.Cross = IsOf layouts.cross payload
IsKind payload kind.Broken = IsOf layouts.broken payload
IsKind payload kind.Imbalance = IsOf layouts.imbalance payload
IsKind payload kind.Retail = IsOf layouts.retail payload
IsKind payload kind.Unknown = Reads payload Unknown
IsKind payload kind.BadLength = Reads payload BadLength
