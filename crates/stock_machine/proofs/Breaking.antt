-- A stock's trades, of which those with a match number are broken one after another.
use Rattle.std.proofs.Common.{◌≡◌, ℕ, ◌+◌, ◌<◌, List, map, set, get_or, take, drop, length, cond, Bool, true, false, refl, ap, sym, ◌∙◌, arith}
use Rattle.std.specs.List.{All}
use Rattle.std.proofs.lemmas.Grind.{common_steps}
use Rattle.std.proofs.lemmas.List.{length-set, set-get_or}
use Rattle.itch_table.specs.RunningTotals.{plus_trade}
use Rattle.itch_table.specs.declared.status.Totals.{Totals}
use Rattle.itch_table.specs.declared.trades.TradeRow.{TradeRow}
use Rattle.itch_table.proofs.Edited.{mapped_more}
use Rattle.stock_machine.specs.StockTrades.{TotalsAreKept, IsOther, broken_trade, is_unbroken_trade}
use Rattle.stock_machine.proofs.KeptTrades.{kept_broken, others_stay}
use Rattle.stock_machine.proofs.Ranges.{map_unchanged, mapped_whole}

-- of the trades as they were, those before an index are broken where they have the match number, and the others stay
pub record AreBroken (m : ℕ) (old new : List TradeRow) (totals : Totals) (rising : Bool) (index : ℕ) : Type 0 where
  pub done : take index new ≡ map (broken_trade m) (take index old)
  pub rest : drop index new ≡ drop index old
  pub long : length new ≡ length old
  pub kept : TotalsAreKept new totals rising

pub none_broken : (m : ℕ) (old : List TradeRow) (totals : Totals) (rising : Bool) (start : ℕ) → TotalsAreKept old totals rising → All (IsOther m) (take start old) → AreBroken m old old totals rising start
none_broken m old totals rising start kept before = record {
  done = sym (map_unchanged (broken_trade m) (take start old) (others_stay m (take start old) before));
  rest = refl;
  long = refl;
  kept = kept;
}

pub all_broken : (m : ℕ) (old new : List TradeRow) (totals : Totals) (rising : Bool) (end : ℕ) → AreBroken m old new totals rising end → All (IsOther m) (drop end old) → new ≡ map (broken_trade m) old
all_broken m old new totals rising end b after =
    mapped_whole (broken_trade m) old new end b.done b.rest (others_stay m (drop end old) after)

module _ (m : ℕ) (old new : List TradeRow) (totals : Totals) (rising : Bool) (index : ℕ) (lt : index < length old) (b : AreBroken m old new totals rising index) (t : TradeRow) (at : t ≡ get_or new index t) where
  -- the next index, where it holds the trade as it is after the match number is broken
  next : (u : TradeRow) (totals : Totals) → broken_trade m t ≡ u → TotalsAreKept (set new index u) totals rising → AreBroken m old (set new index u) totals rising (index + 1)
  next u totals e kept =
      let long = b.long in
      record {
        done = ap (λ u. take (index + 1) (set new index u)) (sym e ∙ ap (broken_trade m) at) ∙ mapped_more (broken_trade m) old new index t lt b.long b.done b.rest;
        rest = grind (arith, common_steps, b.rest);
        long = length-set new index u ∙ b.long;
        kept = kept;
      }

  pub one_broken : (less : Totals) → is_unbroken_trade m t ≡ true → plus_trade less t ≡ totals → AreBroken m old (set new index (record t { broken = true })) less rising (index + 1)
  one_broken less unbroken e =
      let long = b.long in
      next (record t { broken = true }) less (ap (λ c. cond c (record t { broken = true }) t) unbroken)
      (kept_broken new totals rising b.kept index t (omega arith) (sym at) less e)

  pub one_stays : is_unbroken_trade m t ≡ false → AreBroken m old (set new index t) totals rising (index + 1)
  one_stays stays =
      let same : set new index t ≡ new = ap (set new index) at ∙ set-get_or new index t in
      next t totals (ap (λ c. cond c (record t { broken = true }) t) stays) (rw same b.kept)
