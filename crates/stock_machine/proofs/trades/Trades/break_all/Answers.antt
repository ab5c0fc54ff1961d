use Rattle.std.proofs.Common.{◌≡◌, ◌<◌, ℕ, List, length, map, drop, take, ap, sym, ◌∙◌, subst, arith}
use Rattle.std.specs.List.{All}
use Rattle.itch_table.specs.declared.trades.TradeRow.{TradeRow}
use Rattle.stock_machine.specs.StockTrades.{IsOther, broken_trade}
use Rattle.stock_machine.proofs.Breaking.{AreBroken, none_broken, all_broken, one_broken, one_stays}
use Rattle.stock_machine.proofs.trades.Trades.break_all.Goals as goal
use Rattle.stock_machine.proofs.trades.Trades.break_all.Goals.{then-is_unbroken, else-is_unbroken}

pub loop-index-init : goal.loop-index-init
loop-index-init g c =
    let m = c.args.match_no in
    let i = c.self.inside in
    let start = c.indices_of-start.result.0 in
    none_broken m i.rows.items i.totals i.rising start c.self.invariant
    (subst (λ (ts : List TradeRow). All (IsOther m) (take start ts)) c.deref.ensures.value c.indices_of-start.ensures.before)

pub loop-index-preserved : goal.loop-index-preserved
loop-index-preserved g c =
    let m = c.args.match_no in
    let old = c.self.inside.rows.items in
    let at = c.loop-index in
    let inside = at.self-inside in
    let trade = c.index_mut-trade in
    let lt : at.index < length old = omega (arith, c.loop-index-test.true, c.indices_of-start.ensures.bound, ap length c.deref.ensures.value) in
    elim c.if-is_unbroken.branch [
      | then-is_unbroken w ↦ rw w.self-inside-is (
          one_broken m old inside.rows.items inside.totals inside.rising at.index lt at.invariant trade.result.now trade.ensures.value
          w.without_trade-self-inside.result (sym (w.if-is_unbroken.ensures {u = tt})) w.without_trade-self-inside.ensures
          )
      | else-is_unbroken w ↦ rw w.self-inside-is (
          one_stays m old inside.rows.items inside.totals inside.rising at.index lt at.invariant trade.result.now trade.ensures.value (sym (w.if-is_unbroken.ensures {u = tt}))
          )
    ]

pub returns : goal.returns
returns g c =
    let m = c.args.match_no in
    let i = c.self.inside in
    let end = c.indices_of-start.result.1 in
    let at = c.loop-index in
    let order = c.indices_of-start.ensures.order in
    let is : at.index ≡ end = omega (arith, at.auto.index-end) in
    all_broken m i.rows.items at.self-inside.rows.items at.self-inside.totals at.self-inside.rising end
    (subst (λ (k : ℕ). AreBroken m i.rows.items at.self-inside.rows.items at.self-inside.totals at.self-inside.rising k) is at.invariant)
    (subst (λ (ts : List TradeRow). All (IsOther m) (drop end ts)) c.deref.ensures.value c.indices_of-start.ensures.after)
    ∙ ap (map (broken_trade m)) c.self.view_is
