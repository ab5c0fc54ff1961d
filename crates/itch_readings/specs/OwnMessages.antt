-- The messages of one stock in a day, with what became of each. All is of this project.
use Rattle.std.specs.Prelude.{ℕ, ◌+◌, ◌-◌, List, [], ◌∷◌, Option, None, length, map, filter}
use Rattle.std.specs.List.{range_with_len}
use Rattle.itch_layouts.specs.References.{references}
use Rattle.itch_layouts.specs.Shapes.{shape_of}
use Rattle.itch_layouts.specs.declared.shape.Shape.{Shape}
use Rattle.itch_layouts.specs.declared.shape.Shape.TheVariants.{Known}
use Rattle.itch_table.specs.declared.order.Order.{Order}
use Rattle.itch_table.specs.declared.outcome.Outcome.{Outcome}
use Rattle.itch_table.specs.After.{after, outcome}
use Rattle.itch_table.specs.Projection.{is_of_stock, only, payload_at}
use Rattle.itch_table.specs.Table.{step}
use Rattle.itch_table.specs.World.{World, order}
use Rattle.stock_machine.specs.StockRows.{StockMachine}

-- the references by which a payload names orders
abbrev pub references_by : Shape → List ℕ
references_by (Known m) = references m
references_by other = []

-- the order that lives under the first of these references
abbrev pub first_order : World → ℕ → List ℕ → Option Order
first_order rows locate [] = None
first_order rows locate (reference ∷ others) = order rows locate reference

-- the order that the first reference of a payload names
abbrev pub order_named : World → ℕ → List ℕ → Option Order
order_named rows locate payload = first_order rows locate (references_by (shape_of payload))

-- a message of a stock: the stock's locate code, the message's number in the day, its payload, the order that its first
-- reference named before it, its outcome, and the stock's rows after it
pub record OwnMessage : Type 0 where
  pub locate : ℕ
  pub number : ℕ
  pub payload : List ℕ
  pub named : Option Order
  pub outcome : Outcome
  pub rows : World

-- message n of a day, as one of a stock
abbrev pub own_at : List (List ℕ) → ℕ → ℕ → OwnMessage
own_at day locate n = record {
  locate = locate;
  number = n;
  payload = payload_at day n;
  named = order_named (after day (n - 1)) locate (payload_at day n);
  outcome = outcome day n;
  rows = only locate (after day n);
}

-- the numbers of the stock's messages among so many from message n on
abbrev pub own_numbers : List (List ℕ) → ℕ → ℕ → ℕ → List ℕ
own_numbers day locate n count =
    filter (λ k. is_of_stock locate (payload_at day k)) (range_with_len n count)

-- the stock's messages from message n on
abbrev pub own_from : List (List ℕ) → ℕ → ℕ → List OwnMessage
own_from day locate n = map (own_at day locate) (own_numbers day locate n (length day + 1 - n))

-- a message that a stock's machine has taken
abbrev pub own_message : ℕ → List ℕ → Option Order → Outcome → StockMachine → OwnMessage
own_message number payload named outcome stock = record {
  locate = stock.locate;
  number = number;
  payload = payload;
  named = named;
  outcome = outcome;
  rows = stock.world;
}

-- the message that a stock's machine takes next
abbrev pub next_message : ℕ → List ℕ → StockMachine → OwnMessage
next_message number payload stock = record {
  locate = stock.locate;
  number = number;
  payload = payload;
  named = order_named stock.world stock.locate payload;
  outcome = (step stock.world payload).0;
  rows = (step stock.world payload).1;
}
