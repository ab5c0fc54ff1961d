use Rattle.std.proofs.Common.{◌≡◌, ℕ, ◌+◌, ◌-◌, ◌<◌, List, length, drop, take, true, leb, ltb, get_or, ap, sym, ◌∙◌, subst, arith, length-drop, rules}
use Rattle.std.specs.List.{All, slice_range}
use Rattle.std.specs.List.Sorted.{IsNonDecreasingBy}
use Rattle.std.proofs.lemmas.List.{drop-drop, get_or-drop, get_or-take, length-take, take_all}
use Rattle.std.proofs.lemmas.List.Sorted.{IsNonDecreasingBy-drop, IsPartitionPoint-from_clause, IsPartitionedBy-leb, IsPartitionedBy-ltb}
use Rattle.itch_table.specs.declared.trades.TradeRow.{TradeRow}
use Rattle.stock_machine.specs.StockTrades.{IsOther}
use Rattle.stock_machine.proofs.Places.{IsStart, IsEnd, above_other, below_other, between_same}
use Rattle.stock_machine.proofs.Ranges.{all_before, all_after}
use Rattle.stock_machine.proofs.trades.indices_of.Goals as goal

abbrev number : TradeRow → ℕ
number t = t.match_no

is_start : (c : goal.After-partition_point-count) → IsStart c.args.match_no c.args.rows.now c.partition_point-start.result
is_start c =
    let rows = c.args.rows.now in
    let parted = IsPartitionedBy-ltb number rows c.args.match_no (c.requires c.if-not-rising.false) in
    IsPartitionPoint-from_clause (λ (t : TradeRow). ltb t.match_no c.args.match_no) rows _ c.partition_point-start.ensures.partitioned parted (λ a r q k. search rules)

-- the trades from an index on
rest_is : (xs : List TradeRow) (n : ℕ) → slice_range xs n (length xs) ≡ drop n xs
rest_is xs n = take_all (length xs - n) (drop n xs) (omega (arith, length-drop n xs))

is_end : (c : goal.After-partition_point-count) → IsEnd c.args.match_no (slice_range c.args.rows.now c.partition_point-start.result (length c.args.rows.now)) c.partition_point-count.result
is_end c =
    let rows = c.args.rows.now in
    let start = c.partition_point-start.result in
    let rest = slice_range rows start (length rows) in
    let sorted = IsNonDecreasingBy-drop number start rows (c.requires c.if-not-rising.false) in
    let parted = IsPartitionedBy-leb number rest c.args.match_no (subst (λ (ts : List TradeRow). IsNonDecreasingBy number ts) (sym (rest_is rows start)) sorted) in
    IsPartitionPoint-from_clause (λ (t : TradeRow). leb t.match_no c.args.match_no) rest _ c.partition_point-count.ensures.partitioned parted (λ a r q k. search rules)

pub returns-clause-before : goal.returns-clause-before
returns-clause-before c =
    let m = c.args.match_no in
    let rows = c.args.rows.now in
    all_before (IsOther m) rows _ (λ k d low high. below_other m (get_or rows k d).match_no ((is_start c).0 k d low high))

pub returns-clause-after : goal.returns-clause-after
returns-clause-after c =
    let m = c.args.match_no in
    let rows = c.args.rows.now in
    let start = c.partition_point-start.result in
    let count = c.partition_point-count.result in
    let rest = slice_range rows start (length rows) in
    subst (λ (ts : List TradeRow). All (IsOther m) ts) (ap (drop count) (rest_is rows start) ∙ drop-drop count start rows)
    (all_after (IsOther m) rest count (λ k d low high. above_other m (get_or rest k d).match_no ((is_end c).1 k d low high)))

pub returns-clause-narrow : goal.returns-clause-narrow
returns-clause-narrow c _ k d lt =
    let m = c.args.match_no in
    let rows = c.args.rows.now in
    let start = c.partition_point-start.result in
    let count = c.partition_point-count.result in
    let rest = slice_range rows start (length rows) in
    let small : start + count - start ≡ count = omega arith in
    let within : k < count = omega (arith, ap (λ (n : ℕ). length (take n (drop start rows))) small, lt, length-take count (drop start rows)) in
    let there : get_or (slice_range rows start (start + count)) k d ≡ get_or rows (start + k) d =
    rw small (get_or-take count (drop start rows) k d within ∙ get_or-drop start rows k d)
    in
    let here : get_or rest k d ≡ get_or rows (start + k) d = ap (λ (ts : List TradeRow). get_or ts k d) (rest_is rows start) ∙ get_or-drop start rows k d in
    let high : leb (get_or rows (start + k) d).match_no m ≡ true = rw here at ((is_end c).0 k d (omega arith) within) in
    let low = (is_start c).1 (start + k) d (omega arith) (omega arith) in
    ap number there ∙ between_same m (get_or rows (start + k) d).match_no low high
