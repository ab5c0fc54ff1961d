-- The lines of a message are in its stock's own rows.
use Rattle.std.proofs.Common.{◌≡◌, ℕ, List, [], ◌∷◌, ◌++◌, refl, ap, ◌∙◌}
use Rattle.std.specs.List.{flat_map}
use Rattle.itch_layouts.specs.Shapes.{shape_of}
use Rattle.itch_readings.specs.OwnMessages.{first_order, references_by}
use Rattle.itch_table.specs.declared.outcome.Outcome.{Outcome}
use Rattle.itch_table.specs.Projection.{only}
use Rattle.itch_table.specs.World.{World}
use Rattle.itch_table.proofs.OneStock.{order-only, spent-only, status-only}
use Rattle.refusal_text.specs.declared.before.Before.{Before}
use Rattle.itch_why.specs.Why.{before_of, found_line, message_lines, once, order_before, orders_before, orders_in, own_lines, shares_left, symbol_in}

module _ (w : World) (locate : ℕ) where
  first_order-only : (references : List ℕ) → first_order (only locate w) locate references ≡ first_order w locate references
  first_order-only [] = refl
  first_order-only (reference ∷ others) = order-only w locate reference

  before_of-only : (payload : List ℕ) → before_of (only locate w) locate payload ≡ before_of w locate payload
  before_of-only payload = λ i. record {
    symbol = symbol_in (status-only w locate i).directory;
    shares = shares_left (first_order-only (references_by (shape_of payload)) i);
  }

  order_before-only : (reference : ℕ) → order_before (only locate w) locate reference ≡ order_before w locate reference
  order_before-only reference = λ i. found_line (order-only w locate reference i) (spent-only w locate reference i) reference

  orders-only : (references : List ℕ) → flat_map (order_before (only locate w) locate) references ≡ flat_map (order_before w locate) references
  orders-only [] = refl
  orders-only (reference ∷ others) = λ i. order_before-only reference i ++ orders-only others i

  pub own_lines-only : (earlier : List ℕ) (n : ℕ) (found : Outcome) (payload : List ℕ)
      → own_lines (only locate w) locate earlier n found payload ≡ own_lines w locate earlier n found payload
  own_lines-only earlier n found payload = λ i.
      message_lines n found payload (before_of-only payload i) ++ orders-only (once (orders_in (shape_of payload))) i ++ earlier
