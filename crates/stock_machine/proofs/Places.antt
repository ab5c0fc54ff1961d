-- Where trades with a match number stand, where match numbers never fall.
use Rattle.std.proofs.Common.{◌≡◌, ℕ, ◌==◌, leb, ltb, true, false, List, arith}
use Rattle.std.specs.List.Sorted.{IsPartitionPoint}
use Rattle.std.proofs.lemmas.Bool.Decides.{nat_tests}
use Rattle.itch_table.specs.declared.trades.TradeRow.{TradeRow}

-- match numbers below one stand before an index, and those up to it before another
abbrev pub IsStart : ℕ → List TradeRow → ℕ → Type 0
IsStart m ts start = IsPartitionPoint (λ (t : TradeRow). ltb t.match_no m ≡ true) (λ (t : TradeRow). ltb t.match_no m ≡ false) ts start

abbrev pub IsEnd : ℕ → List TradeRow → ℕ → Type 0
IsEnd m ts end = IsPartitionPoint (λ (t : TradeRow). leb t.match_no m ≡ true) (λ (t : TradeRow). leb t.match_no m ≡ false) ts end

pub below_other : (m n : ℕ) → ltb n m ≡ true → (n == m) ≡ false
below_other m n below = grind (arith, nat_tests)

pub above_other : (m n : ℕ) → leb n m ≡ false → (n == m) ≡ false
above_other m n above = grind (arith, nat_tests)

pub between_same : (m n : ℕ) → ltb n m ≡ false → leb n m ≡ true → n ≡ m
between_same m n low high = grind (arith, nat_tests)
