-- What a message does to the trade rows of the table.
use Rattle.std.proofs.Common.{◌≡◌, ◌==◌, ◌-◌, ℕ, List, [], ◌∷◌, ◌++◌, map, Option, Some, None, Bool, true, false, cond, refl, ap, sym, subst, ◌∙◌}
use Rattle.std.specs.Prelude.{is_some, option_map}
use Rattle.std.specs.Option.{unwrap_or}
use Rattle.itch_layouts.specs.Means.{fields_of}
use Rattle.itch_layouts.specs.Shapes.{shape_of}
use Rattle.itch_layouts.specs.declared.message.Execute.{Execute as ExecuteBody}
use Rattle.itch_layouts.specs.declared.message.ExecutePrice.{ExecutePrice as ExecutePriceBody}
use Rattle.itch_layouts.specs.declared.message.Head.{Head}
use Rattle.itch_layouts.specs.declared.message.Msg.{Msg}
use Rattle.itch_layouts.specs.declared.message.Msg.TheVariants.{System, Directory, Trading, Regsho, Participant, Decline, Breach, Ipo, Collar, Operational, Add, AddMpid, Execute, ExecutePrice, Cancel, Delete, Replace, Trade, Cross, Broken, Imbalance, Retail}
use Rattle.itch_layouts.specs.declared.shape.Shape.{Shape}
use Rattle.itch_layouts.specs.declared.shape.Shape.TheVariants.{Known, Unknown, BadLength}
use Rattle.itch_table.specs.declared.order.Order.{Order}
use Rattle.itch_table.specs.declared.order.OrderRow.{OrderRow}
use Rattle.itch_table.specs.declared.outcome.Fault.{Fault}
use Rattle.itch_table.specs.declared.outcome.Fault.TheVariants.{BadPrintable, ReferenceUnknown}
use Rattle.itch_table.specs.declared.outcome.Outcome.{Outcome}
use Rattle.itch_table.specs.declared.outcome.Outcome.TheVariants.{Applied}
use Rattle.itch_table.specs.declared.outcome.Part.TheVariants.{Locate, Nowhere}
use Rattle.itch_table.specs.declared.status.StockRow.{StockRow}
use Rattle.itch_table.specs.declared.status.Trading.{Trading as TradingState}
use Rattle.itch_table.specs.declared.trades.TradeRow.{TradeRow}
use Rattle.itch_table.specs.Parts.{part, part_of_message, part_of_shape}
use Rattle.itch_table.specs.Table.{checks, effect, first_fault, has_left, is_printable, less_shares, listed, no_order, order_row, printed_byte, refuse_unless, result_of, set_regsho, set_trading, step, step_message, step_shape, trade_of, with_order, without_order}
use Rattle.itch_table.specs.Trades.{broken_at}
use Rattle.itch_table.specs.World.{World, key, live, order_of, stock_row}
use Rattle.itch_readings.specs.OwnMessages.{first_order, order_named, references_by}
use Rattle.itch_readings.specs.TradeLaws.{row_of}
use Rattle.itch_readings.specs.Trades.{event_by, executed, executed_at_price}
use Rattle.itch_readings.specs.declared.trades.TradeEvent.{TradeEvent}
use Rattle.itch_readings.specs.declared.trades.TradeEvent.TheVariants.{Broke, Made}

abbrev Rows : Type 0
Rows = List (ℕ × TradeRow)

-- the rows after an event
abbrev pub with_event : Option TradeEvent → Rows → Rows
with_event None rows = rows
with_event (Some (Made trade)) rows = rows ++ row_of (record trade { broken = None }) ∷ []
with_event (Some (Broke b)) rows = map (broken_at b.at.locate b.match_no) rows

-- ---- effects that leave them

less_stays : (w : World) (locate reference : ℕ) (row : OrderRow) (shares : ℕ) → (less_shares w locate reference row shares).trades ≡ w.trades
less_stays w locate reference row shares =
    elim (row.shares == shares) as (λ (b : Bool). (less_by b).trades ≡ w.trades) [ true ↦ refl | false ↦ refl ]
  where
    less_by : Bool → World
    less_by b = cond b (without_order w locate reference) (with_order w locate reference (record row { shares = row.shares - shares }))

trading_stays : (known : Option StockRow) (w : World) (locate : ℕ) (state : TradingState) → (set_trading known w locate state).trades ≡ w.trades
trading_stays None w locate state = refl
trading_stays (Some known) w locate state = refl

regsho_stays : (known : Option StockRow) (w : World) (locate action : ℕ) → (set_regsho known w locate action).trades ≡ w.trades
regsho_stays None w locate action = refl
regsho_stays (Some known) w locate action = refl

-- ---- a message

abbrev event_at : World → ℕ → ℕ → Outcome → Msg → Option TradeEvent
event_at w number locate found m = event_by number locate (first_order w locate (references_by (Known m))) found (Known m)

-- what the rows are after a message of a stock, by its first fault
abbrev Does : World → ℕ → ℕ → Msg → Option Fault → Type 0
Does w number locate m fault =
    (result_of fault w (effect m w)).1.trades ≡ with_event (event_at w number locate (result_of fault w (effect m w)).0 m) w.trades

applied : (w : World) (number locate : ℕ) (m : Msg) → (effect m w).trades ≡ with_event (event_at w number locate Applied m) w.trades
    → (fault : Option Fault) → Does w number locate m fault
applied w number locate m is None = is
applied w number locate m is (Some fault) = refl

-- an execution that passes the checks has an order
executes : (w : World) (number : ℕ) (head : Head) (m : ExecuteBody) (row : Option OrderRow) → live w head.locate m.reference ≡ row
    → (known left : Option Fault) → Does w number head.locate (Execute head m) (first_fault (known ∷ refuse_unless (is_some row) ReferenceUnknown ∷ left ∷ []))
executes w number head m row is (Some fault) left = refl
executes w number head m None is None left = refl
executes w number head m (Some row) is None (Some fault) = refl
executes w number head m (Some row) is None None =
    let traded : Option OrderRow → TradeRow = λ o. trade_of m.match_no m.shares (unwrap_or o no_order).price true in
    let events : Option OrderRow → Option TradeEvent =
    λ o. option_map (λ (order : Order). Made (executed (record { message = number; time = head.time; locate = head.locate }) order m)) (option_map (order_of (key head.locate m.reference)) o) in
    ap (λ (rows : Rows). rows ++ (head.locate, traded (live w head.locate m.reference)) ∷ []) (less_stays w head.locate m.reference (order_row w head.locate m.reference) m.shares)
    ∙ ap (λ (o : Option OrderRow). w.trades ++ (head.locate, traded o) ∷ []) is
    ∙ ap (λ (o : Option OrderRow). with_event (events o) w.trades) (sym is)

executes_at_price : (w : World) (number : ℕ) (head : Head) (m : ExecutePriceBody) (row : Option OrderRow) → live w head.locate m.reference ≡ row
    → (known printable left : Option Fault)
    → Does w number head.locate (ExecutePrice head m) (first_fault (known ∷ printable ∷ refuse_unless (is_some row) ReferenceUnknown ∷ left ∷ []))
executes_at_price w number head m row is (Some fault) printable left = refl
executes_at_price w number head m row is None (Some fault) left = refl
executes_at_price w number head m None is None None left = refl
executes_at_price w number head m (Some row) is None None (Some fault) = refl
executes_at_price w number head m (Some row) is None None None =
    let events : Option OrderRow → Option TradeEvent =
    λ o. option_map (λ (order : Order). Made (executed_at_price (record { message = number; time = head.time; locate = head.locate }) order m)) (option_map (order_of (key head.locate m.reference)) o) in
    ap (λ (rows : Rows). rows ++ (head.locate, trade_of m.match_no m.shares m.price (m.printable == printed_byte)) ∷ []) (less_stays w head.locate m.reference (order_row w head.locate m.reference) m.shares)
    ∙ ap (λ (o : Option OrderRow). with_event (events o) w.trades) (sym is)

by_message : (w : World) (number : ℕ) (m : Msg) → Does w number (fields_of m).head.locate m (first_fault (checks m w))
by_message w number (System head m) = refl
by_message w number (Directory head m) = applied w number head.locate (Directory head m) refl (first_fault (checks (Directory head m) w))
by_message w number (Trading head m) = applied w number head.locate (Trading head m) (trading_stays (stock_row w head.locate) w head.locate _) (first_fault (checks (Trading head m) w))
by_message w number (Regsho head m) = applied w number head.locate (Regsho head m) (regsho_stays (stock_row w head.locate) w head.locate m.action) (first_fault (checks (Regsho head m) w))
by_message w number (Participant head m) = applied w number head.locate (Participant head m) refl (first_fault (checks (Participant head m) w))
by_message w number (Decline head m) = refl
by_message w number (Breach head m) = refl
by_message w number (Ipo head m) = refl
by_message w number (Collar head m) = applied w number head.locate (Collar head m) refl (first_fault (checks (Collar head m) w))
by_message w number (Operational head m) = applied w number head.locate (Operational head m) refl (first_fault (checks (Operational head m) w))
by_message w number (Add head m) = applied w number head.locate (Add head m) refl (first_fault (checks (Add head m) w))
by_message w number (AddMpid head m) = applied w number head.locate (AddMpid head m) refl (first_fault (checks (AddMpid head m) w))
by_message w number (Execute head m) =
    executes w number head m (live w head.locate m.reference) refl (listed w head.locate) (has_left w head.locate m.reference m.shares)
by_message w number (ExecutePrice head m) =
    executes_at_price w number head m (live w head.locate m.reference) refl (listed w head.locate) (refuse_unless (is_printable m.printable) BadPrintable)
    (has_left w head.locate m.reference m.shares)
by_message w number (Cancel head m) =
    applied w number head.locate (Cancel head m) (less_stays w head.locate m.reference (order_row w head.locate m.reference) m.shares) (first_fault (checks (Cancel head m) w))
by_message w number (Delete head m) = applied w number head.locate (Delete head m) refl (first_fault (checks (Delete head m) w))
by_message w number (Replace head m) = applied w number head.locate (Replace head m) refl (first_fault (checks (Replace head m) w))
by_message w number (Trade head m) = applied w number head.locate (Trade head m) refl (first_fault (checks (Trade head m) w))
by_message w number (Cross head m) = applied w number head.locate (Cross head m) refl (first_fault (checks (Cross head m) w))
by_message w number (Broken head m) = applied w number head.locate (Broken head m) refl (first_fault (checks (Broken head m) w))
by_message w number (Imbalance head m) = applied w number head.locate (Imbalance head m) refl (first_fault (checks (Imbalance head m) w))
by_message w number (Retail head m) = applied w number head.locate (Retail head m) refl (first_fault (checks (Retail head m) w))

-- ---- whose it is

own_code : (m : Msg) (locate : ℕ) → part_of_message m ≡ Locate locate → (fields_of m).head.locate ≡ locate
own_code (System head m) locate own = let never : ⊥ = cc in absurd never
own_code (Decline head m) locate own = let never : ⊥ = cc in absurd never
own_code (Breach head m) locate own = let never : ⊥ = cc in absurd never
own_code (Ipo head m) locate own = let never : ⊥ = cc in absurd never
own_code (Directory head m) locate own = cc
own_code (Trading head m) locate own = cc
own_code (Regsho head m) locate own = cc
own_code (Participant head m) locate own = cc
own_code (Collar head m) locate own = cc
own_code (Operational head m) locate own = cc
own_code (Add head m) locate own = cc
own_code (AddMpid head m) locate own = cc
own_code (Execute head m) locate own = cc
own_code (ExecutePrice head m) locate own = cc
own_code (Cancel head m) locate own = cc
own_code (Delete head m) locate own = cc
own_code (Replace head m) locate own = cc
own_code (Trade head m) locate own = cc
own_code (Cross head m) locate own = cc
own_code (Broken head m) locate own = cc
own_code (Imbalance head m) locate own = cc
own_code (Retail head m) locate own = cc

-- a stock's message does what its event says
own_shape : (w : World) (number locate : ℕ) (s : Shape) → part_of_shape s ≡ Locate locate
    → (step_shape w s).1.trades ≡ with_event (event_by number locate (first_order w locate (references_by s)) (step_shape w s).0 s) w.trades
own_shape w number locate Unknown own = refl
own_shape w number locate BadLength own = refl
own_shape w number locate (Known m) own =
    subst (λ (l : ℕ). Does w number l m (first_fault (checks m w))) (own_code m locate own) (by_message w number m)

pub own_step : (w : World) (number locate : ℕ) (payload : List ℕ) → part payload ≡ Locate locate
    → (step w payload).1.trades ≡ with_event (event_by number locate (order_named w locate payload) (step w payload).0 (shape_of payload)) w.trades
own_step w number locate payload own = own_shape w number locate (shape_of payload) own

-- and one of no stock nothing
no_stock_message : (w : World) (m : Msg) (fixed : Outcome) → part_of_message m ≡ Nowhere fixed → (step_message w m).1.trades ≡ w.trades
no_stock_message w (System head m) fixed is = refl
no_stock_message w (Decline head m) fixed is = refl
no_stock_message w (Breach head m) fixed is = refl
no_stock_message w (Ipo head m) fixed is = refl
no_stock_message w (Directory head m) fixed is = let never : ⊥ = cc in absurd never
no_stock_message w (Trading head m) fixed is = let never : ⊥ = cc in absurd never
no_stock_message w (Regsho head m) fixed is = let never : ⊥ = cc in absurd never
no_stock_message w (Participant head m) fixed is = let never : ⊥ = cc in absurd never
no_stock_message w (Collar head m) fixed is = let never : ⊥ = cc in absurd never
no_stock_message w (Operational head m) fixed is = let never : ⊥ = cc in absurd never
no_stock_message w (Add head m) fixed is = let never : ⊥ = cc in absurd never
no_stock_message w (AddMpid head m) fixed is = let never : ⊥ = cc in absurd never
no_stock_message w (Execute head m) fixed is = let never : ⊥ = cc in absurd never
no_stock_message w (ExecutePrice head m) fixed is = let never : ⊥ = cc in absurd never
no_stock_message w (Cancel head m) fixed is = let never : ⊥ = cc in absurd never
no_stock_message w (Delete head m) fixed is = let never : ⊥ = cc in absurd never
no_stock_message w (Replace head m) fixed is = let never : ⊥ = cc in absurd never
no_stock_message w (Trade head m) fixed is = let never : ⊥ = cc in absurd never
no_stock_message w (Cross head m) fixed is = let never : ⊥ = cc in absurd never
no_stock_message w (Broken head m) fixed is = let never : ⊥ = cc in absurd never
no_stock_message w (Imbalance head m) fixed is = let never : ⊥ = cc in absurd never
no_stock_message w (Retail head m) fixed is = let never : ⊥ = cc in absurd never

no_stock_shape : (w : World) (s : Shape) (fixed : Outcome) → part_of_shape s ≡ Nowhere fixed → (step_shape w s).1.trades ≡ w.trades
no_stock_shape w Unknown fixed is = refl
no_stock_shape w BadLength fixed is = refl
no_stock_shape w (Known m) fixed is = no_stock_message w m fixed is

pub no_stock_step : (w : World) (payload : List ℕ) (fixed : Outcome) → part payload ≡ Nowhere fixed → (step w payload).1.trades ≡ w.trades
no_stock_step w payload fixed is = no_stock_shape w (shape_of payload) fixed is
