-- The levels that a book keeps beside its orders.
use Rattle.std.specs.Prelude.{◌≡◌, ℕ, ◌+◌, ◌-◌, ◌<◌, ◌≤◌, ◌^◌, ◌==◌, if◌then◌else◌, List, length, map, reverse}
use Rattle.std.specs.declared.cmp.Ordering.{Ordering}
use Rattle.std.specs.declared.cmp.Ordering.TheVariants.{Less, Greater}
use Rattle.std.specs.Ordering.{nat_cmp}
use Rattle.std.specs.List.{HoldsAt}
use Rattle.std.specs.List.Sorted.{IsPartitionPoint, IsStrictlySortedBy}
use Rattle.std.specs.Option.{IfSome, unwrap_or}
use Rattle.std.specs.FinMap as maps
use Rattle.std.specs.FinMap.{FinMap}
use Rattle.itch_table.specs.declared.order.Level.{Level}
use Rattle.itch_table.specs.declared.order.Side.{Side}
use Rattle.itch_table.specs.declared.order.Side.TheVariants.{Buy, Sell}
use Rattle.itch_table.specs.Levels.{level_map, level_of, same_side}
use Rattle.order_book.specs.Orders.{Orders, orders_in}

-- the prices at which a side has shares, each with the shares there
abbrev pub LevelMap : Type 0
LevelMap = FinMap nat_cmp ℕ

-- the shares at a price, 0 where there are none
abbrev pub shares_on : LevelMap → ℕ → ℕ
shares_on levels price = unwrap_or (maps.get levels price) 0

-- a price has these shares, and no level where there are none
abbrev pub with_shares : LevelMap → ℕ → ℕ → LevelMap
with_shares levels price shares =
    if shares == 0 then maps.remove levels price else maps.insert levels price shares

-- shares more at a price
abbrev pub raised : LevelMap → ℕ → ℕ → LevelMap
raised levels price shares = with_shares levels price (shares_on levels price + shares)

-- shares fewer at a price
abbrev pub lowered : LevelMap → ℕ → ℕ → LevelMap
lowered levels price shares = with_shares levels price (shares_on levels price - shares)

-- a side's levels as they are shown, with the best first: bids by falling price, asks by rising price
abbrev pub shown : Side → LevelMap → List Level
shown Buy levels = reverse (map level_of (maps.entries levels))
shown Sell levels = map level_of (maps.entries levels)

-- ---- one side's levels in a list

-- the order of a side's prices, with the best last
abbrev pub price_cmp : Side → ℕ → ℕ → Ordering
price_cmp Buy price other = nat_cmp price other
price_cmp Sell price other = nat_cmp other price

-- a price's rank on its side: of two prices of 32 bits the better one has the higher rank
abbrev pub rank : Side → ℕ → ℕ
rank Buy price = price
rank Sell price = 2 ^ 32 - 1 - price

-- each level is worse than all after it
abbrev pub AreInOrder : Side → List Level → Type 0
AreInOrder side levels = IsStrictlySortedBy (λ level other. price_cmp side level.price other.price) levels

-- the levels of a list by their prices
abbrev pub by_price : List Level → LevelMap
by_price levels = maps.from_entries (map (λ level. (level.price, level.shares)) levels)

-- the level at a price stands at this index
abbrev pub IsFound : List Level → ℕ → ℕ → Type 0
IsFound levels price index = (index < length levels) × HoldsAt (λ level. level.price ≡ price) levels index

abbrev pub IsWorse : Side → ℕ → Level → Type 0
IsWorse side price level = price_cmp side level.price price ≡ Less

abbrev pub IsBetter : Side → ℕ → Level → Type 0
IsBetter side price level = price_cmp side level.price price ≡ Greater

-- the levels before this index are worse than a price, and those from it on are better
abbrev pub IsGap : Side → List Level → ℕ → ℕ → Type 0
IsGap side levels price index =
    (index ≤ length levels) × IsPartitionPoint (IsWorse side price) (IsBetter side price) levels index

-- one side's levels, and for how many more there is room
pub record SideLevels : Type 0 where
  pub side : Side
  pub levels : LevelMap
  pub room : ℕ

-- ---- the levels of both sides

pub record BothSides : Type 0 where
  pub bids : SideLevels
  pub asks : SideLevels

-- the levels of one side
abbrev pub on_side : BothSides → Side → SideLevels
on_side both Buy = both.bids
on_side both Sell = both.asks

abbrev pub levels_on : BothSides → Side → LevelMap
levels_on both side = (on_side both side).levels

abbrev pub room_on : BothSides → Side → ℕ
room_on both side = (on_side both side).room

-- the levels of either side are the same
abbrev pub SameLevels : BothSides → BothSides → Type 0
SameLevels old new = (side : Side) → levels_on new side ≡ levels_on old side

-- the levels of one side are changed, and those of the other side the same
abbrev pub AreChanged : BothSides → BothSides → Side → (LevelMap → LevelMap) → Type 0
AreChanged old new side change =
    (s : Side) → levels_on new s ≡ (if same_side side s then change (levels_on old s) else levels_on old s)

-- ---- a book

-- each order's shares fit 32 bits
abbrev pub SharesFit : Orders → Type 0
SharesFit orders = (reference : ℕ) → IfSome (maps.get orders reference) (λ row. row.shares < 2 ^ 32)

-- the levels that are kept are those of the orders, and no order has more shares than 32 bits hold
pub record LevelsAreKept (orders : Orders) (both : BothSides) : Type 0 where
  pub levels_are : (side : Side) → levels_on both side ≡ level_map (orders_in orders) side
  pub shares_fit : SharesFit orders

-- a book's orders, few enough that a `u32` counts them and the shares of a level fit a `u64`, and their levels
abbrev pub IsBook : Orders → BothSides → Type 0
IsBook orders both = (maps.len orders < 2 ^ 32) × LevelsAreKept orders both
