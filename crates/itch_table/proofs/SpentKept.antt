-- The references that orders have had, along the messages of a day.
use Rattle.std.proofs.Common.{◌≡◌, ◌==◌, ◌+◌, ◌-◌, ℕ, zero, suc, List, [], ◌∷◌, Option, Some, None, Bool, true, false, cond, refl, subst, arith}
use Rattle.std.specs.Prelude.{slice_index_or}
use Rattle.std.specs.Option.{IsSome}
use Rattle.std.specs.FinMap.{contains_key}
use Rattle.std.proofs.lemmas.Grind.{common_steps}
use Rattle.itch_layouts.specs.Shapes.{shape_of}
use Rattle.itch_layouts.specs.declared.message.Msg.{Msg}
use Rattle.itch_layouts.specs.declared.message.Msg.TheVariants.{Trading, Regsho, Add, AddMpid, Execute, ExecutePrice, Cancel, Delete, Replace}
use Rattle.itch_layouts.specs.declared.shape.Shape.{Shape}
use Rattle.itch_layouts.specs.declared.shape.Shape.TheVariants.{Known, Unknown, BadLength}
use Rattle.itch_table.specs.declared.order.OrderKey.{OrderKey}
use Rattle.itch_table.specs.declared.order.OrderRow.{OrderRow}
use Rattle.itch_table.specs.declared.outcome.Fault.{Fault}
use Rattle.itch_table.specs.declared.outcome.Fault.TheVariants.{BadPrintable}
use Rattle.itch_table.specs.declared.status.StockRow.{StockRow}
use Rattle.itch_table.specs.declared.status.Trading.{Trading as TradingState}
use Rattle.itch_table.specs.declared.trades.TradeRow.{TradeRow}
use Rattle.itch_table.specs.After.{after}
use Rattle.itch_table.specs.KeySets.{KeysAreIn}
use Rattle.itch_table.specs.Spent.{LiveIsSpent, SpentStays, StepsKeepSpent}
use Rattle.itch_table.specs.Table.{step, step_shape, checks, effect, first_fault, is_printable, listed, refuse_unless, result_of, with_new_order, with_order, without_order, less_shares, with_trade, set_trading, set_regsho}
use Rattle.itch_table.specs.World.{World, key, live, stock_row}
use Rattle.itch_table.proofs.Keys.{key_total}
use Rattle.itch_table.proofs.KeysIn.{keys_insert, keys_of_none, keys_remove, keys_update}
use Rattle.itch_table.proofs.SetViews.{contains_with}

-- what is spent in a world is spent in the next one, and so are all live orders' references where they were before
pub record Keeps (old new : World) : Type 0 where
  pub spent : (k : OrderKey) → contains_key old.spent k ≡ true → contains_key new.spent k ≡ true
  pub live : KeysAreIn old.orders old.spent → KeysAreIn new.orders new.spent

same_keeps : (w : World) → Keeps w w
same_keeps w = record { spent = λ k h. h; live = λ all. all }

-- ---- effects

new_keeps : (w : World) (l r : ℕ) (row : OrderRow) → Keeps w (with_new_order w l r row)
new_keeps w l r row = record {
  spent = λ k h. grind (arith, common_steps, contains_with key_total w.spent (key l r) k);
  live = λ all. keys_insert key_total w.orders w.spent all (key l r) row;
}

removed_keeps : (w : World) (l r : ℕ) → Keeps w (without_order w l r)
removed_keeps w l r = record {
  spent = λ k h. h;
  live = λ all. keys_remove key_total w.orders w.spent all (key l r);
}

less_keeps : (w : World) (l r : ℕ) (row : OrderRow) (shares : ℕ) → IsSome (live w l r) → Keeps w (less_shares w l r row shares)
less_keeps w l r row shares lives = elim (row.shares == shares) as (λ (b : Bool). Keeps w (less_by b)) [
  | true ↦ removed_keeps w l r
  | false ↦ record {
    spent = λ k h. h;
    live = λ all. keys_update key_total w.orders w.spent all (key l r) less lives;
  }
]
  where
    less : OrderRow
    less = record row { shares = row.shares - shares }

    less_by : Bool → World
    less_by b = cond b (without_order w l r) (with_order w l r less)

-- a trade more changes neither
traded_keeps : (v w : World) (l : ℕ) (trade : TradeRow) → Keeps v w → Keeps v (with_trade w l trade)
traded_keeps v w l trade k = record { spent = k.spent; live = k.live }

trading_keeps : (o : Option StockRow) (w : World) (l : ℕ) (state : TradingState) → Keeps w (set_trading o w l state)
trading_keeps None w l state = same_keeps w
trading_keeps (Some known) w l state = record { spent = λ k h. h; live = λ all. all }

regsho_keeps : (o : Option StockRow) (w : World) (l action : ℕ) → Keeps w (set_regsho o w l action)
regsho_keeps None w l action = same_keeps w
regsho_keeps (Some known) w l action = record { spent = λ k h. h; live = λ all. all }

then_keeps : (u v w : World) → Keeps u v → Keeps v w → Keeps u w
then_keeps u v w first next = record {
  spent = λ k h. next.spent k (first.spent k h);
  live = λ all. next.live (first.live all);
}

-- ---- what has passed where no check fails

pub holds_by : (b : Bool) (fault : Fault) (rest : List (Option Fault)) → first_fault (refuse_unless b fault ∷ rest) ≡ None → b ≡ true
holds_by true fault rest none = refl
holds_by false fault rest none = cc

pub rest_by : (o : Option Fault) (rest : List (Option Fault)) → first_fault (o ∷ rest) ≡ None → first_fault rest ≡ None
rest_by None rest none = none
rest_by (Some fault) rest none = cc

effect_keeps : (m : Msg) (w : World) → first_fault (checks m w) ≡ None → Keeps w (effect m w)
effect_keeps (Trading head m) w none = trading_keeps (stock_row w head.locate) w head.locate _
effect_keeps (Regsho head m) w none = regsho_keeps (stock_row w head.locate) w head.locate m.action
effect_keeps (Add head m) w none = new_keeps w head.locate m.reference _
effect_keeps (AddMpid head m) w none = new_keeps w head.locate m.reference _
effect_keeps (Execute head m) w none =
    traded_keeps w _ head.locate _
    (less_keeps w head.locate m.reference _ m.shares (holds_by _ _ _ (rest_by (listed w head.locate) _ none)))
effect_keeps (ExecutePrice head m) w none =
    traded_keeps w _ head.locate _
    (less_keeps w head.locate m.reference _ m.shares
    (holds_by _ _ _ (rest_by (refuse_unless (is_printable m.printable) BadPrintable) _ (rest_by (listed w head.locate) _ none))))
effect_keeps (Cancel head m) w none =
    less_keeps w head.locate m.reference _ m.shares (holds_by _ _ _ (rest_by (listed w head.locate) _ none))
effect_keeps (Delete head m) w none = removed_keeps w head.locate m.reference
effect_keeps (Replace head m) w none =
    then_keeps w _ _ (removed_keeps w head.locate m.reference) (new_keeps (without_order w head.locate m.reference) head.locate m.new_reference _)
effect_keeps m w none = record { spent = λ k h. h; live = λ all. all }

result_keeps : (f : Option Fault) (v w : World) → (f ≡ None → Keeps v w) → Keeps v (result_of f v w).1
result_keeps None v w keeps = keeps refl
result_keeps (Some fault) v w keeps = same_keeps v

shape_keeps : (w : World) (s : Shape) → Keeps w (step_shape w s).1
shape_keeps w Unknown = same_keeps w
shape_keeps w BadLength = same_keeps w
shape_keeps w (Known m) = result_keeps (first_fault (checks m w)) w (effect m w) (effect_keeps m w)

step_keeps : (w : World) (payload : List ℕ) → Keeps w (step w payload).1
step_keeps w payload = shape_keeps w (shape_of payload)

-- ---- a day

pub steps_keep_spent : StepsKeepSpent
steps_keep_spent w payload locate reference spent = (step_keeps w payload).spent (key locate reference) spent

later : (day : List (List ℕ)) (k : OrderKey) (m d : ℕ) → contains_key (after day m).spent k ≡ true → contains_key (after day (d + m)).spent k ≡ true
unfolding after
later day k m zero spent = let same : 0 + m ≡ m = omega arith in rw same spent
later day k m (suc d) spent =
    let next : suc d + m ≡ suc (d + m) = omega arith in
    rw next ((step_keeps (after day (d + m)) (slice_index_or day (d + m) [])).spent k (later day k m d spent))

pub spent_stays : SpentStays
spent_stays day locate reference m n le spent =
    let same : (n - m) + m ≡ n = omega arith in
    subst (λ (k : ℕ). contains_key (after day k).spent (key locate reference) ≡ true) same (later day (key locate reference) m (n - m) spent)

all_spent : (day : List (List ℕ)) (n : ℕ) → KeysAreIn (after day n).orders (after day n).spent
unfolding after
all_spent day zero = keys_of_none OrderRow _
all_spent day (suc n) = (step_keeps (after day n) (slice_index_or day n [])).live (all_spent day n)

pub live_is_spent : LiveIsSpent
live_is_spent day locate reference n lives = all_spent day n (key locate reference) lives

pub ruleset spent_kept = (steps_keep_spent, spent_stays, live_is_spent)
