-- The last message of a stock that was noted, and the stock's machine.
use Rattle.std.proofs.Common.{◌≡◌, ℕ, zero, suc, ◌+◌, ◌-◌, ◌≤◌, List, [], ◌∷◌, ◌++◌, length, refl, sym, ap, subst, ◌∙◌, arith}
use Rattle.std.specs.Prelude.{map}
use Rattle.std.specs.List.{All, range_with_len}
use Rattle.std.proofs.lemmas.List.Elements.{All-cons, All-filter, All-head, All-nil, All-tail}
use Rattle.itch_readings.specs.Naming.{NamesStock}
use Rattle.itch_readings.specs.Noting.{HasNoted}
use Rattle.itch_readings.specs.OwnMessages.{OwnMessage, own_at, own_numbers}
use Rattle.itch_readings.specs.declared.naming.StockName.{StockName}
use Rattle.itch_readings.specs.declared.naming.StockName.TheVariants.{Locate, Symbol}
use Rattle.itch_show.specs.Shown.{IsLastOf, IsShownAfter, StandsFor, last_noted}
use Rattle.itch_show.specs.declared.last_outcome.LastOutcome.{LastOutcome}
use Rattle.itch_table.specs.declared.outcome.Part.{Part}
use Rattle.itch_table.specs.declared.outcome.Part.TheVariants.{Locate as OfStock, Nowhere}
use Rattle.itch_table.specs.Projection.{is_of_stock, payload_at}
use Rattle.stock_machine.specs.StockRows.{StockMachine}

-- one message more
pub last_push : (before : List OwnMessage) (message : OwnMessage)
    → last_noted (before ++ message ∷ []) ≡ record { number = message.number; outcome = message.outcome }
last_push [] message = refl
last_push (one ∷ []) message = refl
last_push (one ∷ next ∷ later) message = last_push (next ∷ later) message

-- the numbers of a range
range_within : (n count most : ℕ) → n + count ≤ most + 1 → All (λ k. k ≤ most) (range_with_len n count)
range_within n zero most fits = All-nil (λ k. k ≤ most)
range_within n (suc count) most fits =
    All-cons (λ k. k ≤ most) n (range_with_len (n + 1) count) (omega (arith, fits)) (range_within (n + 1) count most (omega (arith, fits)))

last_of : (day : List (List ℕ)) (locate : ℕ) (numbers : List ℕ) → All (λ k. k ≤ length day) numbers
    → IsLastOf day (last_noted (map (own_at day locate) numbers))
last_of day locate [] all = λ some. absurd (omega (arith, some))
last_of day locate (k ∷ []) all = λ some. (All-head (λ k. k ≤ length day) k [] all, refl)
last_of day locate (k ∷ next ∷ later) all = last_of day locate (next ∷ later) (All-tail (λ k. k ≤ length day) k (next ∷ later) all)

code_in : Part → ℕ
code_in (OfStock locate) = locate
code_in (Nowhere fixed) = 0

pub stands_for : (day : List (List ℕ)) (name : StockName) (n locate : ℕ) → NamesStock day name n locate → StandsFor day name locate
unfolding code_in
stands_for day (Locate code) n locate named = ap code_in (sym named.own ∙ named.begins)
stands_for day (Symbol symbol) n locate named = (n, named)

module _ (first : LastOutcome) (day : List (List ℕ)) (name : StockName) (n : ℕ) (stock : StockMachine) (noted : LastOutcome)
    (named : NamesStock day name n stock.locate) (has : HasNoted (λ _ now messages. now ≡ last_noted messages) first day n stock noted) where
  last_is : IsLastOf day noted
  last_is =
      let numbers = own_numbers day stock.locate n (length day + 1 - n) in
      let all : All (λ k. k ≤ length day) numbers =
      All-filter (λ k. is_of_stock stock.locate (payload_at day k)) (λ k. k ≤ length day) (range_with_len n (length day + 1 - n))
      (range_within n (length day + 1 - n) (length day) (omega (arith, named.within))) in
      subst (IsLastOf day) (sym has.noted) (last_of day stock.locate numbers all)

  pub shown_after : IsShownAfter day name stock noted
  shown_after = record {
    stands = stands_for day name n stock.locate named;
    world = has.world;
    steps = has.steps;
    last = last_is;
  }
