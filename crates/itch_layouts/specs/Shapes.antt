-- The shape of a payload, as a function. The law `one_shape` says that it and the relation `Reads` agree.
use Rattle.std.specs.Prelude.{Bool, ℕ, ◌==◌, if◌then◌else◌, List, [], ◌∷◌, length, slice_get, Option, Some, None}
use Rattle.std.specs.List.{find}
use Rattle.itch_layouts.specs.Layouts.{Layout, Value, Number, Bytes, values_at}
use Rattle.itch_layouts.specs.Layouts as layouts
use Rattle.itch_layouts.specs.declared.message.Head.{Head}
use Rattle.itch_layouts.specs.declared.message.Msg.{Msg}
use Rattle.itch_layouts.specs.declared.message.Msg.TheVariants as msg
use Rattle.itch_layouts.specs.declared.shape.Shape.{Shape}
use Rattle.itch_layouts.specs.declared.shape.Shape.TheVariants.{Known, Unknown, BadLength}

-- the number of a value, or 0 where it is none
abbrev pub as_number : Option Value → ℕ
as_number None = 0
as_number (Some (Number n)) = n
as_number (Some (Bytes bs)) = 0

-- the bytes of a value, or none where it has none
abbrev pub as_bytes : Option Value → List ℕ
as_bytes None = []
as_bytes (Some (Number n)) = []
as_bytes (Some (Bytes bs)) = bs

-- the first of some bytes, or 0 where there is none
abbrev pub first_byte : List ℕ → ℕ
first_byte [] = 0
first_byte (b ∷ bs) = b

-- the value at an index, counted from 0: a number, bytes, or a single byte
abbrev pub number : List Value → ℕ → ℕ
number values index = as_number (slice_get values index)

abbrev pub bytes : List Value → ℕ → List ℕ
bytes values index = as_bytes (slice_get values index)

abbrev pub letter : List Value → ℕ → ℕ
letter values index = first_byte (bytes values index)

-- the head that these values make
abbrev pub head_from : List Value → Head
head_from values = record { locate = number values 0; tracking = number values 1; time = number values 2 }

-- a layout, with the message that the values of its fields make
pub record Decoder : Type 0 where
  pub layout : Layout
  pub message : List Value → Msg

abbrev pub decoder : Layout → (List Value → Msg) → Decoder
decoder layout message = record { layout = layout; message = message }

-- one for each layout, in the order of the table
abbrev pub decoders : List Decoder
decoders =
    decoder layouts.system (λ values. msg.System (head_from values) (record { event = letter values 3 })) ∷
    decoder layouts.directory (λ values. msg.Directory (head_from values) (record {
      stock = bytes values 3;
      category = letter values 4;
      status = letter values 5;
      lot = number values 6;
      lots_only = letter values 7;
      issue_class = letter values 8;
      issue_subtype = bytes values 9;
      authenticity = letter values 10;
      short_sale = letter values 11;
      ipo = letter values 12;
      luld = letter values 13;
      etp = letter values 14;
      leverage = number values 15;
      inverse = letter values 16;
    })) ∷
    decoder layouts.trading (λ values. msg.Trading (head_from values) (record {
      stock = bytes values 3;
      state = letter values 4;
      reserved = letter values 5;
      reason = bytes values 6;
    })) ∷
    decoder layouts.regsho (λ values. msg.Regsho (head_from values) (record {
      stock = bytes values 3;
      action = letter values 4;
    })) ∷
    decoder layouts.participant (λ values. msg.Participant (head_from values) (record {
      mpid = bytes values 3;
      stock = bytes values 4;
      primary = letter values 5;
      mode = letter values 6;
      state = letter values 7;
    })) ∷
    decoder layouts.decline (λ values. msg.Decline (head_from values) (record {
      level1 = number values 3;
      level2 = number values 4;
      level3 = number values 5;
    })) ∷
    decoder layouts.breach (λ values. msg.Breach (head_from values) (record { level = letter values 3 })) ∷
    decoder layouts.ipo (λ values. msg.Ipo (head_from values) (record {
      stock = bytes values 3;
      release = number values 4;
      qualifier = letter values 5;
      price = number values 6;
    })) ∷
    decoder layouts.collar (λ values. msg.Collar (head_from values) (record {
      stock = bytes values 3;
      reference_price = number values 4;
      upper = number values 5;
      lower = number values 6;
      extension = number values 7;
    })) ∷
    decoder layouts.operational (λ values. msg.Operational (head_from values) (record {
      stock = bytes values 3;
      market = letter values 4;
      action = letter values 5;
    })) ∷
    decoder layouts.add (λ values. msg.Add (head_from values) (record {
      reference = number values 3;
      side = letter values 4;
      shares = number values 5;
      stock = bytes values 6;
      price = number values 7;
    })) ∷
    decoder layouts.add_mpid (λ values. msg.AddMpid (head_from values) (record {
      reference = number values 3;
      side = letter values 4;
      shares = number values 5;
      stock = bytes values 6;
      price = number values 7;
      attribution = bytes values 8;
    })) ∷
    decoder layouts.execute (λ values. msg.Execute (head_from values) (record {
      reference = number values 3;
      shares = number values 4;
      match_no = number values 5;
    })) ∷
    decoder layouts.execute_price (λ values. msg.ExecutePrice (head_from values) (record {
      reference = number values 3;
      shares = number values 4;
      match_no = number values 5;
      printable = letter values 6;
      price = number values 7;
    })) ∷
    decoder layouts.cancel (λ values. msg.Cancel (head_from values) (record {
      reference = number values 3;
      shares = number values 4;
    })) ∷
    decoder layouts.delete (λ values. msg.Delete (head_from values) (record {
      reference = number values 3;
    })) ∷
    decoder layouts.replace (λ values. msg.Replace (head_from values) (record {
      reference = number values 3;
      new_reference = number values 4;
      shares = number values 5;
      price = number values 6;
    })) ∷
    decoder layouts.trade (λ values. msg.Trade (head_from values) (record {
      reference = number values 3;
      side = letter values 4;
      shares = number values 5;
      stock = bytes values 6;
      price = number values 7;
      match_no = number values 8;
    })) ∷
    decoder layouts.cross (λ values. msg.Cross (head_from values) (record {
      shares = number values 3;
      stock = bytes values 4;
      price = number values 5;
      match_no = number values 6;
      cross_type = letter values 7;
    })) ∷
    decoder layouts.broken (λ values. msg.Broken (head_from values) (record { match_no = number values 3 })) ∷
    decoder layouts.imbalance (λ values. msg.Imbalance (head_from values) (record {
      paired = number values 3;
      imbalance = number values 4;
      direction = letter values 5;
      stock = bytes values 6;
      far = number values 7;
      near = number values 8;
      reference_price = number values 9;
      cross_type = letter values 10;
      variation = letter values 11;
    })) ∷
    decoder layouts.retail (λ values. msg.Retail (head_from values) (record {
      stock = bytes values 3;
      interest = letter values 4;
    })) ∷
    []

-- whether a decoder is for this type
abbrev pub has_kind : ℕ → Decoder → Bool
has_kind kind d = d.layout.kind == kind

-- the shape of a payload, by the decoder for its type
abbrev pub shape_by : List ℕ → Option Decoder → Shape
shape_by payload None = Unknown
shape_by payload (Some d) =
    if length payload == d.layout.size then Known (d.message (values_at d.layout payload)) else BadLength

-- the shape of a payload
unfoldable pub shape_of : List ℕ → Shape
shape_of [] = Unknown
shape_of (kind ∷ rest) = shape_by (kind ∷ rest) (find (has_kind kind) decoders)
