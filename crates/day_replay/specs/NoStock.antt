-- What is known of messages of no stock, whose outcomes are the same in every world. All is of this project.
use Rattle.std.specs.Prelude.{ℕ, Bool, false, List, [], ◌∷◌, Option, None, cond, count_by}
use Rattle.std.specs.List.{flat_map}
use Rattle.std.specs.Option.{option_or}
use Rattle.itch_layouts.specs.Shapes.{shape_of}
use Rattle.itch_table.specs.declared.outcome.Outcome.{Outcome}
use Rattle.itch_table.specs.declared.outcome.Part.{Part}
use Rattle.itch_table.specs.declared.outcome.Part.TheVariants.{Locate, Nowhere}
use Rattle.itch_table.specs.Parts.{part}
use Rattle.itch_table.specs.Projection.{event_with}
use Rattle.day_replay.specs.Summaries.{is_passed, is_refused}
use Rattle.day_replay.specs.declared.refusals.RefusedMessage.{RefusedMessage}

-- the refused messages, how many were passed over, and the last event
pub record NoStockFacts : Type 0 where
  pub refused : List RefusedMessage
  pub passed : ℕ
  pub event : Option ℕ

-- a message of this stock or of none, where it was refused
abbrev pub if_refused : ℕ → Option ℕ → Outcome → List RefusedMessage
if_refused number locate outcome =
    cond (is_refused outcome) ((record { message = number; locate = locate; outcome = outcome }) ∷ []) []

-- the same, where its part is no stock's
abbrev pub if_nowhere_refused : ℕ → Part → List RefusedMessage
if_nowhere_refused number (Locate locate) = []
if_nowhere_refused number (Nowhere outcome) = if_refused number None outcome

-- whether a part is no stock's, and what is so is passed over
abbrev pub is_nowhere_passed : Part → Bool
is_nowhere_passed (Locate locate) = false
is_nowhere_passed (Nowhere outcome) = is_passed outcome

-- the event of the last system event message among messages, where there is one
abbrev pub last_event : List (ℕ × List ℕ) → Option ℕ
last_event [] = None
last_event (message ∷ messages) = option_or (last_event messages) (event_with (shape_of message.1) None)

-- what is known of those of the messages that are of no stock
abbrev pub no_stock_of : List (ℕ × List ℕ) → NoStockFacts
no_stock_of messages = record {
  refused = flat_map (λ m. if_nowhere_refused m.0 (part m.1)) messages;
  passed = count_by (λ m. is_nowhere_passed (part m.1)) messages;
  event = last_event messages;
}
