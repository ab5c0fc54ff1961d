use Rattle.std.proofs.Common.{◌≡◌, rules}
use Rattle.std.specs.declared.cmp.Ordering.{Ordering}
use Rattle.std.specs.List.Sorted.{IsBinarySearchResult}
use Rattle.std.proofs.lemmas.Fn.{always_returns_same}
use Rattle.itch_table.specs.declared.order.Level.{Level}
use Rattle.order_book.specs.Kept.{price_cmp}
use Rattle.order_book.proofs.LevelLists.{found_by_search, gap_by_search}
use Rattle.order_book.proofs.ladder.search.Goals as goal

pub returns : goal.returns
returns c =
    let levels = c.args.levels.now in
    let price = c.args.price in
    let by : Level → Ordering = λ level. price_cmp c.args.side level.price price in
    let result : IsBinarySearchResult by levels c.binary_search_by.result =
    c.binary_search_by.ensures.position by (always_returns_same _ (λ a r. r ≡ by a.0.now) _ (λ a r q k. search rules)) in
    record {
      found = found_by_search c.args.side levels price _ c.binary_search_by.ensures.bound result;
      missing = gap_by_search c.args.side levels price _ c.requires c.binary_search_by.ensures.bound result;
    }
