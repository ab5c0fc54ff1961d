-- The trades of a day's messages as the trade rows of the table.
use Rattle.std.proofs.Common.{◌≡◌, ◌==◌, ◌&&◌, not, ℕ, zero, suc, ◌+◌, ◌-◌, ◌<◌, List, [], ◌∷◌, ◌++◌, length, get_or, map, Option, Some, None, Bool, true, false, cond, refl, ap, sym, ◌∙◌, arith, append-nil}
use Rattle.std.specs.Prelude.{filter, is_some}
use Rattle.std.specs.List.{cons_option}
use Rattle.std.specs.Option.{option_or}
use Rattle.std.proofs.lemmas.List.Elements.{filter_map-append}
use Rattle.itch_layouts.specs.Shapes.{shape_of}
use Rattle.itch_layouts.specs.declared.message.Directory.{Directory as DirectoryRow}
use Rattle.itch_table.specs.declared.outcome.Outcome.{Outcome}
use Rattle.itch_table.specs.declared.outcome.Outcome.TheVariants.{Applied}
use Rattle.itch_table.specs.declared.outcome.Part.{Part}
use Rattle.itch_table.specs.declared.outcome.Part.TheVariants.{Locate as OfStock, Nowhere}
use Rattle.itch_table.specs.declared.trades.TradeRow.{TradeRow}
use Rattle.itch_table.specs.After.{after, outcome}
use Rattle.itch_table.specs.Parts.{part}
use Rattle.itch_table.specs.Projection.{IsQuiet, is_of_stock, only, payload_at}
use Rattle.itch_table.specs.Table.{step}
use Rattle.itch_table.specs.Trades.{broken_at, totals_of}
use Rattle.itch_table.specs.World.{World, directory, empty_world}
use Rattle.itch_table.proofs.Days.{after-next, after-none, outcome-next}
use Rattle.itch_table.proofs.OneStock.{order-only}
use Rattle.itch_table.proofs.OwnSteps.{steps_are_own}
use Rattle.itch_table.proofs.StockDays.{only-empty, other_next, other_part, own_part, rows_stand_still}
use Rattle.itch_readings.specs.AllStocks.{own_by, own_until}
use Rattle.itch_readings.specs.OwnMessages.{OwnMessage, order_named, own_at, own_from, own_numbers, references_by}
use Rattle.itch_readings.specs.Naming.{NamesStock}
use Rattle.itch_readings.specs.TradeLaws.{AllTradesAreRows, StockTradesAreRows, TotalsAreOfTrades, row_of, table_row}
use Rattle.itch_readings.specs.Trades.{event_by, event_of, events_of, first_break, trades_made, trades_of}
use Rattle.itch_readings.specs.declared.naming.StockName.{StockName}
use Rattle.itch_readings.specs.declared.naming.StockName.TheVariants.{Locate, Symbol}
use Rattle.itch_readings.specs.declared.trades.Trade.{Trade}
use Rattle.itch_readings.specs.declared.trades.TradeBreak.{TradeBreak}
use Rattle.itch_readings.specs.declared.trades.TradeEvent.{TradeEvent}
use Rattle.itch_readings.specs.declared.trades.TradeEvent.TheVariants.{Broke, Made}
use Rattle.itch_readings.proofs.AllTaken.{until_more}
use Rattle.itch_readings.proofs.DirectoryRows.{applied_same, row_is_given, rows_of_unlisted}
use Rattle.itch_readings.proofs.OwnMore.{first_own}
use Rattle.itch_readings.proofs.OwnNumbers.{own_more}
use Rattle.itch_readings.proofs.TradeSteps.{no_stock_step, own_step, with_event}

-- ---- one event more

abbrev is_by : TradeBreak → ℕ → ℕ → Bool
is_by b locate match_no = (locate == b.at.locate) && (match_no == b.match_no)

made_breaks_none : (locate match_no : ℕ) (events : List TradeEvent) (trade : Trade) → first_break locate match_no (events ++ Made trade ∷ []) ≡ first_break locate match_no events
made_breaks_none locate match_no [] trade = refl
made_breaks_none locate match_no (Made t ∷ later) trade = made_breaks_none locate match_no later trade
made_breaks_none locate match_no (Broke b ∷ later) trade =
    ap (λ (o : Option ℕ). cond (is_by b locate match_no) (Some b.at.message) o) (made_breaks_none locate match_no later trade)

or_last : (test : Bool) (first : ℕ) (later last : Option ℕ) → cond test (Some first) (option_or later last) ≡ option_or (cond test (Some first) later) last
or_last true first later last = refl
or_last false first later last = refl

last_break : (locate match_no : ℕ) (events : List TradeEvent) (b : TradeBreak)
    → first_break locate match_no (events ++ Broke b ∷ []) ≡ option_or (first_break locate match_no events) (cond (is_by b locate match_no) (Some b.at.message) None)
last_break locate match_no [] b = refl
last_break locate match_no (Made t ∷ later) b = last_break locate match_no later b
last_break locate match_no (Broke c ∷ later) b =
    ap (λ (o : Option ℕ). cond (is_by c locate match_no) (Some c.at.message) o) (last_break locate match_no later b)
    ∙ or_last (is_by c locate match_no) c.at.message (first_break locate match_no later) (cond (is_by b locate match_no) (Some b.at.message) None)

-- the row of a trade with what broke it
abbrev row_with : Trade → Option ℕ → ℕ × TradeRow
row_with trade broken = row_of (record trade { broken = broken })

breaks_row : (trade : Trade) (b : TradeBreak) (found : Option ℕ) (test : Bool) → is_by b trade.at.locate trade.match_no ≡ test
    → row_with trade (option_or found (cond test (Some b.at.message) None))
    ≡ cond (test && not (is_some found)) (row_with trade (Some b.at.message)) (row_with trade found)
breaks_row trade b None true is = refl
breaks_row trade b None false is = refl
breaks_row trade b (Some message) true is = refl
breaks_row trade b (Some message) false is = refl

row_broken : (trade : Trade) (b : TradeBreak) (later : List TradeEvent)
    → row_with trade (first_break trade.at.locate trade.match_no (later ++ Broke b ∷ []))
    ≡ broken_at b.at.locate b.match_no (row_with trade (first_break trade.at.locate trade.match_no later))
row_broken trade b later =
    ap (row_with trade) (last_break trade.at.locate trade.match_no later b)
    ∙ breaks_row trade b (first_break trade.at.locate trade.match_no later) (is_by b trade.at.locate trade.match_no) refl

rows_last : (events : List TradeEvent) (event : TradeEvent) → map row_of (trades_of (events ++ event ∷ [])) ≡ with_event (Some event) (map row_of (trades_of events))
rows_last [] (Made trade) = refl
rows_last [] (Broke b) = refl
rows_last (Made t ∷ later) (Made trade) = λ i. row_with t (made_breaks_none t.at.locate t.match_no later trade i) ∷ rows_last later (Made trade) i
rows_last (Made t ∷ later) (Broke b) = λ i. row_broken t b later i ∷ rows_last later (Broke b) i
rows_last (Broke c ∷ later) (Made trade) = rows_last later (Made trade)
rows_last (Broke c ∷ later) (Broke b) = rows_last later (Broke b)

rows_more : (events : List TradeEvent) (event : Option TradeEvent) → map row_of (trades_of (events ++ cons_option event [])) ≡ with_event event (map row_of (trades_of events))
rows_more events None = ap (λ (l : List TradeEvent). map row_of (trades_of l)) (append-nil events)
rows_more events (Some event) = rows_last events event

-- one message more
message_more : (messages : List OwnMessage) (message : OwnMessage)
    → map row_of (trades_of (events_of (messages ++ message ∷ []))) ≡ with_event (event_of message) (map row_of (trades_of (events_of messages)))
message_more messages message =
    ap (λ (l : List TradeEvent). map row_of (trades_of l)) (filter_map-append event_of messages (message ∷ []))
    ∙ rows_more (events_of messages) (event_of message)

-- ---- all stocks

event_at : (day : List (List ℕ)) (locate n : ℕ) → event_of (own_at day locate (1 + n))
    ≡ event_by (1 + n) locate (order_named (after day n) locate (get_or day n [])) (step (after day n) (get_or day n [])).0 (shape_of (get_or day n []))
event_at day locate n =
    let same : 1 + n - 1 ≡ n = omega arith in
    λ i. event_by (1 + n) locate (order_named (after day (same i)) locate (get_or day (same i) [])) (outcome-next day n i) (shape_of (get_or day (same i) []))

by_part : (day : List (List ℕ)) (n : ℕ) (p : Part) → part (get_or day n []) ≡ p → (messages : List OwnMessage)
    → map row_of (trades_of (events_of messages)) ≡ (after day n).trades
    → map row_of (trades_of (events_of (messages ++ own_by day (1 + n) p))) ≡ (after day (n + 1)).trades
by_part day n (OfStock locate) own messages before =
    message_more messages (own_at day locate (1 + n))
    ∙ (λ i. with_event (event_at day locate n i) (before i))
    ∙ sym (own_step (after day n) (1 + n) locate (get_or day n []) own)
    ∙ ap (λ (w : World). w.trades) (sym (after-next day n))
by_part day n (Nowhere fixed) none messages before =
    ap (λ (l : List OwnMessage). map row_of (trades_of (events_of l))) (append-nil messages) ∙ before
    ∙ sym (no_stock_step (after day n) (get_or day n []) fixed none)
    ∙ ap (λ (w : World). w.trades) (sym (after-next day n))

rows_until : (day : List (List ℕ)) (n : ℕ) → map row_of (trades_of (events_of (own_until day n))) ≡ (after day n).trades
rows_until day zero = ap (λ (w : World). w.trades) (sym (after-none day))
rows_until day (suc n) =
    let one : n + 1 ≡ suc n = omega arith in
    let number : n + 1 ≡ 1 + n = omega arith in
    let same : 1 + n - 1 ≡ n = omega arith in
    ap (λ (k : ℕ). map row_of (trades_of (events_of (own_until day k)))) (sym one)
    ∙ ap (λ (l : List OwnMessage). map row_of (trades_of (events_of l)))
    (until_more day n ∙ ap (λ (k : ℕ). own_until day n ++ own_by day k (part (payload_at day k))) number
    ∙ ap (λ (k : ℕ). own_until day n ++ own_by day (1 + n) (part (get_or day k []))) same)
    ∙ by_part day n (part (get_or day n [])) refl (own_until day n) (rows_until day n)
    ∙ ap (λ (k : ℕ). (after day k).trades) one

pub all_rows : AllTradesAreRows
all_rows day = rows_until day (length day)

-- ---- a stock that is named

event_own : (day : List (List ℕ)) (locate n : ℕ) → part (get_or day n []) ≡ OfStock locate
    → event_of (own_at day locate (1 + n))
    ≡ event_by (1 + n) locate (order_named (only locate (after day n)) locate (get_or day n [])) (step (only locate (after day n)) (get_or day n [])).0 (shape_of (get_or day n []))
event_own day locate n own =
    let payload = get_or day n [] in
    let took = steps_are_own (after day n) payload locate own in
    event_at day locate n
    ∙ (λ i. event_by (1 + n) locate (sym (first_own order-only (after day n) locate (references_by (shape_of payload))) i) (sym (ap (λ (r : Outcome × World). r.0) took) i) (shape_of payload))

by_test : (day : List (List ℕ)) (locate n : ℕ) (own : Bool) → is_of_stock locate (get_or day n []) ≡ own → (messages : List OwnMessage)
    → map row_of (trades_of (events_of messages)) ≡ (only locate (after day n)).trades
    → map row_of (trades_of (events_of (messages ++ cond own (own_at day locate (1 + n) ∷ []) []))) ≡ (only locate (after day (n + 1))).trades
by_test day locate n true is messages before =
    let payload = get_or day n [] in
    let own = own_part locate (part payload) is in
    message_more messages (own_at day locate (1 + n))
    ∙ (λ i. with_event (event_own day locate n own i) (before i))
    ∙ sym (own_step (only locate (after day n)) (1 + n) locate payload own)
    ∙ ap (λ (r : Outcome × World). r.1.trades) (steps_are_own (after day n) payload locate own)
    ∙ ap (λ (w : World). (only locate w).trades) (sym (after-next day n))
by_test day locate n false is messages before =
    ap (λ (l : List OwnMessage). map row_of (trades_of (events_of l))) (append-nil messages) ∙ before
    ∙ ap (λ (w : World). w.trades) (sym (other_next day locate n (other_part locate (part (get_or day n [])) is)))

rows_from : (day : List (List ℕ)) (locate n count : ℕ) → 0 < n → only locate (after day (n - 1)) ≡ empty_world
    → map row_of (trades_of (events_of (map (own_at day locate) (own_numbers day locate n count)))) ≡ (only locate (after day (n - 1 + count))).trades
rows_from day locate n zero some none =
    let same : n - 1 ≡ n - 1 + 0 = omega arith in
    ap (λ (w : World). w.trades) (sym none) ∙ ap (λ (k : ℕ). (only locate (after day k)).trades) same
rows_from day locate n (suc count) some none =
    let one : count + 1 ≡ suc count = omega arith in
    let k : ℕ = n - 1 + count in
    let last : n + count ≡ 1 + k = omega (arith, some) in
    let same : 1 + k - 1 ≡ k = omega arith in
    let all : k + 1 ≡ n - 1 + suc count = omega arith in
    let messages = map (own_at day locate) (own_numbers day locate n count) in
    ap (λ (j : ℕ). map row_of (trades_of (events_of (map (own_at day locate) (own_numbers day locate n j))))) (sym one)
    ∙ ap (λ (l : List OwnMessage). map row_of (trades_of (events_of l)))
    (own_more (own_at day locate) day locate n count (1 + k) last
    ∙ ap (λ (j : ℕ). messages ++ cond (is_of_stock locate (get_or day j [])) (own_at day locate (1 + k) ∷ []) []) same)
    ∙ by_test day locate k (is_of_stock locate (get_or day k [])) refl messages (rows_from day locate n count some none)
    ∙ ap (λ (j : ℕ). (only locate (after day j)).trades) all

-- a stock has no rows before it begins
begins_empty : (day : List (List ℕ)) (name : StockName) (n locate : ℕ) → NamesStock day name n locate → only locate (after day (n - 1)) ≡ empty_world
begins_empty day (Locate code) n locate named =
    let same : code ≡ locate = let e : OfStock code ≡ OfStock locate = sym named.begins ∙ named.own in cc in
    let quiet : IsQuiet day locate 0 (n - 1) =
    λ m some within own. named.first m some (omega (arith, some, within, named.some)) (own ∙ ap OfStock (sym same)) in
    rows_stand_still day locate 0 (n - 1) (omega arith) quiet ∙ ap (only locate) (after-none day) ∙ only-empty locate
begins_empty day (Symbol symbol) n locate named = by_row (directory (after day (n - 1)) locate) refl
  where
    number : 1 + (n - 1) ≡ n
    number = omega (arith, named.some)

    applied : (step (after day (n - 1)) (payload_at day n)).0 ≡ Applied
    applied = sym (outcome-next day (n - 1)) ∙ ap (outcome day) number ∙ named.begins.1

    by_row : (row : Option DirectoryRow) → directory (after day (n - 1)) locate ≡ row → only locate (after day (n - 1)) ≡ empty_world
    by_row None is = rows_of_unlisted day locate (n - 1) is
    by_row (Some row) is =
        let given = row_is_given day locate (n - 1) row is in
        let same : row.stock ≡ symbol = applied_same (after day (n - 1)) (shape_of (payload_at day n)) symbol locate row named.begins.0 named.own is applied in
        absurd (named.first given.message given.some (omega (arith, given.some, given.within, named.some)) (given.gives ∙ ap Some same, given.applied))

only-trades : (locate : ℕ) (w : World) → (only locate w).trades ≡ filter (λ row. row.0 == locate) w.trades
unfolding only
only-trades locate w = refl

pub stock_rows : StockTradesAreRows
stock_rows day name n locate named =
    let all : n - 1 + (length day + 1 - n) ≡ length day = omega (arith, named.some, named.within) in
    rows_from day locate n (length day + 1 - n) named.some (begins_empty day name n locate named)
    ∙ ap (λ (k : ℕ). (only locate (after day k)).trades) all ∙ only-trades locate (after day (length day))

rows_alone : (trades : List Trade) → map table_row trades ≡ map (λ row. row.1) (map row_of trades)
rows_alone [] = refl
rows_alone (trade ∷ rest) = ap (λ (l : List TradeRow). table_row trade ∷ l) (rows_alone rest)

pub stock_totals : TotalsAreOfTrades
stock_totals day name n locate named =
    ap totals_of (rows_alone (trades_made (own_from day locate n)) ∙ ap (map (λ row. row.1)) (stock_rows day name n locate named))

pub ruleset trades_are_rows = (all_rows, stock_rows, stock_totals)
