-- A stock's lines are in its own rows.
use Rattle.std.proofs.Common.{◌≡◌, ℕ, ◌++◌, List, ap, ◌∙◌}
use Rattle.std.specs.List.{flat_map}
use Rattle.itch_table.specs.declared.order.Order.{Order}
use Rattle.itch_table.specs.declared.order.Side.TheVariants.{Buy, Sell}
use Rattle.itch_table.specs.declared.status.Status.{Status}
use Rattle.itch_table.specs.declared.status.Totals.{Totals}
use Rattle.itch_table.specs.Levels.{levels}
use Rattle.itch_table.specs.Projection.{only}
use Rattle.itch_table.specs.World.{World, orders_of, status, totals}
use Rattle.itch_table.proofs.OneStock.{orders_of-only, status-only, totals-only}
use Rattle.stock_text.specs.Orders.{order_line}
use Rattle.stock_text.specs.Sessions.{book_of, listed_text, sides_of, stock_text}
use Rattle.stock_text.specs.Stocks.{ask_line, bid_line, trades_line}

sides_of-only : (w : World) (locate : ℕ) → sides_of (only locate w) locate ≡ sides_of w locate
sides_of-only w locate = ap (λ (orders : List Order). flat_map bid_line (levels orders Buy) ++ flat_map ask_line (levels orders Sell)) (orders_of-only w locate)

book_of-only : (w : World) (locate : ℕ) → book_of (only locate w) locate ≡ book_of w locate
book_of-only w locate =
    ap (λ (sides : List ℕ). sides ++ flat_map order_line (orders_of (only locate w) locate) ++ trades_line (totals (only locate w) locate)) (sides_of-only w locate)
    ∙ ap (λ (orders : List Order). sides_of w locate ++ flat_map order_line orders ++ trades_line (totals (only locate w) locate)) (orders_of-only w locate)
    ∙ ap (λ (sums : Totals). sides_of w locate ++ flat_map order_line (orders_of w locate) ++ trades_line sums) (totals-only w locate)

pub stock_text-only : (w : World) (locate : ℕ) → stock_text (only locate w) locate ≡ stock_text w locate
stock_text-only w locate =
    ap (λ (known : Status). listed_text locate known.directory known (book_of (only locate w) locate)) (status-only w locate)
    ∙ ap (λ (book : List ℕ). listed_text locate (status w locate).directory (status w locate) book) (book_of-only w locate)
