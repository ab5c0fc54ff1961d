-- Live orders have shares, along the messages of a day.
use Rattle.std.proofs.Common.{◌≡◌, ◌==◌, ◌-◌, ◌≤◌, ℕ, zero, suc, [], ◌∷◌, Option, Some, None, Bool, true, false, cond, refl, sym, subst, arith}
use Rattle.std.specs.Prelude.{IfSome, is_some, not, slice_index_or}
use Rattle.std.specs.Option.{unwrap_or}
use Rattle.std.specs.Ordering.{eq_by_cmp}
use Rattle.std.specs.FinMap.{get-empty, get-insert, get-remove}
use Rattle.std.proofs.lemmas.Bool.Decides.{nat_tests}
use Rattle.itch_layouts.specs.Shapes.{shape_of}
use Rattle.itch_layouts.specs.declared.message.Msg.{Msg}
use Rattle.itch_layouts.specs.declared.message.Msg.TheVariants.{Trading, Regsho, Add, AddMpid, Execute, ExecutePrice, Cancel, Delete, Replace}
use Rattle.itch_layouts.specs.declared.shape.Shape.{Shape}
use Rattle.itch_layouts.specs.declared.shape.Shape.TheVariants.{Known, Unknown, BadLength}
use Rattle.itch_table.specs.declared.order.OrderRow.{OrderRow}
use Rattle.itch_table.specs.declared.outcome.Fault.{Fault}
use Rattle.itch_table.specs.declared.outcome.Fault.TheVariants.{BadPrintable}
use Rattle.itch_table.specs.declared.status.StockRow.{StockRow}
use Rattle.itch_table.specs.declared.status.Trading.{Trading as TradingState}
use Rattle.itch_table.specs.After.{after}
use Rattle.itch_table.specs.LiveShares.{DaysKeepShares, LiveHaveShares, StepsKeepShares}
use Rattle.itch_table.specs.Table.{are_left, checks, effect, first_fault, has_left, has_side, is_live, is_new, is_printable, is_unspent, less_shares, listed, names_stock, no_order, order_row, refuse_unless, result_of, set_regsho, set_trading, step_shape, with_order, without_order}
use Rattle.itch_table.specs.World.{World, key, key_cmp, live, stock_row}
use Rattle.itch_table.proofs.Keys.{key_total}
use Rattle.itch_table.proofs.SpentKept.{holds_by, rest_by}

abbrev HasShares : Option OrderRow → Type 0
HasShares o = IfSome o (λ row. 1 ≤ row.shares)

-- ---- effects

with_shares : (w : World) (l r : ℕ) (row : OrderRow) → 1 ≤ row.shares → LiveHaveShares w → LiveHaveShares (with_order w l r row)
with_shares w l r row some all locate reference =
    subst HasShares (sym (get-insert key_total w.orders (key l r) row (key locate reference)))
    (elim (eq_by_cmp key_cmp (key locate reference) (key l r)) as (λ (b : Bool). HasShares (cond b (Some row) (live w locate reference))) [
      | true ↦ some
      | false ↦ all locate reference
    ])

without_shares : (w : World) (l r : ℕ) → LiveHaveShares w → LiveHaveShares (without_order w l r)
without_shares w l r all locate reference =
    subst HasShares (sym (get-remove key_total w.orders (key l r) (key locate reference)))
    (elim (eq_by_cmp key_cmp (key locate reference) (key l r)) as (λ (b : Bool). HasShares (cond b None (live w locate reference))) [
      | true ↦ tt
      | false ↦ all locate reference
    ])

some_left : (had taken : ℕ) → taken ≤ had → (had == taken) ≡ false → 1 ≤ had - taken
some_left had taken le differ = grind (arith, nat_tests)

less_has : (w : World) (l r : ℕ) (row : OrderRow) (shares : ℕ) → shares ≤ row.shares → LiveHaveShares w → LiveHaveShares (less_shares w l r row shares)
less_has w l r row shares le all =
    elim (row.shares == shares) as (λ (b : Bool). (row.shares == shares) ≡ b → LiveHaveShares (cond b (without_order w l r) (with_order w l r less))) [
      | true ↦ λ same. without_shares w l r all
      | false ↦ λ differ. with_shares w l r less (some_left row.shares shares le differ) all
    ] refl
  where
    less : OrderRow
    less = record row { shares = row.shares - shares }

trading_has : (o : Option StockRow) (w : World) (l : ℕ) (state : TradingState) → LiveHaveShares w → LiveHaveShares (set_trading o w l state)
trading_has None w l state all = all
trading_has (Some known) w l state all = all

regsho_has : (o : Option StockRow) (w : World) (l action : ℕ) → LiveHaveShares w → LiveHaveShares (set_regsho o w l action)
regsho_has None w l action all = all
regsho_has (Some known) w l action all = all

-- ---- what has passed where no check fails

one_share : (shares : ℕ) → not (shares == 0) ≡ true → 1 ≤ shares
one_share shares some = grind (arith, nat_tests)

enough : (o : Option OrderRow) (shares : ℕ) → is_some o ≡ true → are_left shares o ≡ true → shares ≤ (unwrap_or o no_order).shares
enough None shares lives left = let never : ⊥ = cc in absurd never
enough (Some row) shares lives left = grind (arith, nat_tests)

module _ (w : World) (locate reference shares : ℕ) where
  taken : first_fault (is_live w locate reference ∷ has_left w locate reference shares ∷ []) ≡ None → LiveHaveShares w
      → LiveHaveShares (less_shares w locate reference (order_row w locate reference) shares)
  taken none all =
      less_has w locate reference (order_row w locate reference) shares
      (enough (live w locate reference) shares (holds_by _ _ _ none) (holds_by _ _ _ (rest_by (is_live w locate reference) _ none))) all

  added : (row : OrderRow) → row.shares ≡ shares → not (shares == 0) ≡ true → LiveHaveShares w → LiveHaveShares (with_order w locate reference row)
  added row same some all = with_shares w locate reference row (subst (λ (n : ℕ). 1 ≤ n) (sym same) (one_share shares some)) all

effect_has : (m : Msg) (w : World) → first_fault (checks m w) ≡ None → LiveHaveShares w → LiveHaveShares (effect m w)
effect_has (Trading head m) w none all = trading_has (stock_row w head.locate) w head.locate _ all
effect_has (Regsho head m) w none all = regsho_has (stock_row w head.locate) w head.locate m.action all
effect_has (Add head m) w none all =
    added w head.locate m.reference m.shares _ refl
    (holds_by _ _ _ (rest_by (has_side m.side) _ (rest_by (names_stock w head.locate m.stock) _ (rest_by (listed w head.locate) _ none)))) all
effect_has (AddMpid head m) w none all =
    added w head.locate m.reference m.shares _ refl
    (holds_by _ _ _ (rest_by (has_side m.side) _ (rest_by (names_stock w head.locate m.stock) _ (rest_by (listed w head.locate) _ none)))) all
effect_has (Execute head m) w none all = taken w head.locate m.reference m.shares (rest_by (listed w head.locate) _ none) all
effect_has (ExecutePrice head m) w none all =
    taken w head.locate m.reference m.shares (rest_by (refuse_unless (is_printable m.printable) BadPrintable) _ (rest_by (listed w head.locate) _ none)) all
effect_has (Cancel head m) w none all = taken w head.locate m.reference m.shares (rest_by (listed w head.locate) _ none) all
effect_has (Delete head m) w none all = without_shares w head.locate m.reference all
effect_has (Replace head m) w none all =
    added (without_order w head.locate m.reference) head.locate m.new_reference m.shares _ refl
    (holds_by _ _ _
    (rest_by (is_unspent w head.locate m.new_reference) _
    (rest_by (is_new w head.locate m.new_reference) _ (rest_by (is_live w head.locate m.reference) _ (rest_by (listed w head.locate) _ none)))))
    (without_shares w head.locate m.reference all)
effect_has m w none all = all

result_has : (f : Option Fault) (v w : World) → (f ≡ None → LiveHaveShares w) → LiveHaveShares v → LiveHaveShares (result_of f v w).1
result_has None v w has all = has refl
result_has (Some fault) v w has all = all

shape_has : (w : World) (s : Shape) → LiveHaveShares w → LiveHaveShares (step_shape w s).1
shape_has w Unknown all = all
shape_has w BadLength all = all
shape_has w (Known m) all = result_has (first_fault (checks m w)) w (effect m w) (λ none. effect_has m w none all) all

-- ---- the laws

pub steps_keep_shares : StepsKeepShares
steps_keep_shares w payload all = shape_has w (shape_of payload) all

pub days_keep_shares : DaysKeepShares
unfolding after
days_keep_shares day zero = λ locate reference. subst HasShares (sym (get-empty {X = OrderRow} key_cmp (key locate reference))) tt
days_keep_shares day (suc n) = steps_keep_shares (after day n) (slice_index_or day n []) (days_keep_shares day n)

pub ruleset shares_kept = (steps_keep_shares, days_keep_shares)
