-- The life of an order under all of its references, which applied replacements link, and the lines of it. The replacement is
-- Nasdaq TotalView-ITCH 5.0's "Order Replace Message"; the rest is of this project.
use Rattle.std.specs.Prelude.{ℕ, ◌==◌, Bool, true, false, if◌then◌else◌, List, [], ◌∷◌, ◌++◌, Option, Some, None, find, codes, decimal}
use Rattle.std.specs.List.{flat_map, list_any}
use Rattle.itch_layouts.specs.Shapes.{shape_of}
use Rattle.itch_layouts.specs.declared.message.Msg.TheVariants.{Replace as Replaced}
use Rattle.itch_layouts.specs.declared.message.Replace.{Replace}
use Rattle.itch_layouts.specs.declared.shape.Shape.{Shape}
use Rattle.itch_layouts.specs.declared.shape.Shape.TheVariants.{Known}
use Rattle.itch_print.specs.Disassembly.{ended, payload_line}
use Rattle.itch_table.specs.declared.order.Order.{Order}
use Rattle.itch_table.specs.declared.outcome.Outcome.{Outcome}
use Rattle.itch_table.specs.declared.outcome.Outcome.TheVariants.{Applied}
use Rattle.itch_table.specs.World.{World, is_spent, orders_of}
use Rattle.stock_text.specs.Orders.{order_line, outcome_words}
use Rattle.itch_readings.specs.OwnMessages.{OwnMessage, references_by}

-- ---- lives

-- the replacement that a message is, where it was applied
abbrev pub replacement_by : Outcome → Shape → Option Replace
replacement_by Applied (Known (Replaced head m)) = Some m
replacement_by outcome shape = None

-- the reference that an order had before a message, by the one that it has after it: another one where a replacement gave it
-- this one
abbrev pub earlier_reference : Option Replace → ℕ → ℕ
earlier_reference None reference = reference
earlier_reference (Some m) reference = if m.new_reference == reference then m.reference else reference

abbrev pub earlier_by : OwnMessage → ℕ → ℕ
earlier_by message = earlier_reference (replacement_by message.outcome (shape_of message.payload))

-- the first reference of the life that has this one, by a stock's messages. Two references are of one life where it is the
-- same.
abbrev pub first_reference : List OwnMessage → ℕ → ℕ
first_reference [] reference = reference
first_reference (message ∷ later) reference = earlier_by message (first_reference later reference)

-- ---- lines

-- whether a payload names an order by a reference of this one's life, by the first reference of each life
abbrev pub names_life : (ℕ → ℕ) → ℕ → List ℕ → Bool
names_life first reference payload =
    list_any (λ named. first named == first reference) (references_by (shape_of payload))

-- the line of a message, where it names the life: its number, its outcome, and its line in the day's text
abbrev pub life_line : (ℕ → ℕ) → ℕ → ℕ → Outcome → List ℕ → List ℕ
life_line first reference number outcome payload =
    if names_life first reference payload
    then decimal number ++ codes " " ++ outcome_words outcome ++ codes " " ++ ended (payload_line payload)
    else []

-- the order of the life among those that live
abbrev pub living_order : (ℕ → ℕ) → ℕ → List Order → Option Order
living_order first reference orders = find (λ order. first order.reference == first reference) orders

-- the last line: that order, or that it has gone, or that there never was one under the reference
abbrev pub end_line : Option Order → Bool → ℕ → List ℕ
end_line (Some order) spent reference = order_line order
end_line None true reference = codes "gone\n"
end_line None false reference = codes "no order " ++ decimal reference ++ codes "\n"

-- the life of a reference, by a stock's messages and its rows after them
abbrev pub life_text : (ℕ → ℕ) → List OwnMessage → World → ℕ → ℕ → List ℕ
life_text first messages world locate reference =
    flat_map (λ m. life_line first reference m.number m.outcome m.payload) messages
    ++ end_line (living_order first reference (orders_of world locate))
    (is_spent world locate reference) reference

abbrev pub order_text : List OwnMessage → World → ℕ → ℕ → List ℕ
order_text messages = life_text (first_reference messages) messages
