use Rattle.std.proofs.Common.{rules, ◌≡◌, ℕ, map}
use Rattle.std.specs.Ordering.{nat_cmp}
use Rattle.std.specs.BTreeMap.{IsFromIterResult}
use Rattle.std.proofs.lemmas.Iterator.{YieldsList-from_map}
use Rattle.std.proofs.lemmas.Iterator.Adapters.{fact_from_collect}
use Rattle.std.proofs.lemmas.Iterator.Consumers.{YieldsList-at, YieldsList-from_rest}
use Rattle.std.proofs.lemmas.Result.{IfOk-weaker}
use Rattle.itch_table.specs.declared.order.OrderRow.{OrderRow}
use Rattle.order_book.proofs.RowViews.{collected}
use Rattle.order_book.proofs.rows.copied.Goals as goal

pub returns : goal.returns
returns g c =
    let rows = c.args.rows.now in
    let pair : ℕ × OrderRow → ℕ × OrderRow = λ e. (e.0, e.1) in
    IfOk-weaker c.collect.result (IsFromIterResult nat_cmp (map pair rows.entries)) (λ copied. copied.entries ≡ rows.entries) (λ copied made. collected rows copied c.iter.ensures.ordered made) (
    fact_from_collect (IsFromIterResult nat_cmp) c.collect.result c.collect.ensures.ran (
    YieldsList-from_map _ pair (YieldsList-at c.map.ensures.source (YieldsList-from_rest rows.entries c.iter.ensures.rest)) c.map.ensures.closure (λ x r q k. search rules)
    )
    )
