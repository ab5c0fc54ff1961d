use Rattle.std.proofs.Common.{ap, refl, sym, ◌∙◌}
use Rattle.std.specs.FinMap.{from_entries}
use Rattle.itch_table.specs.Machine.{row_found}
use Rattle.order_book.proofs.Joined.{from_some, from_others}
use Rattle.order_book.proofs.RowViews.{get_row}
use Rattle.order_book.proofs.table.OrderTable.find.Goals as goal

pub returns-in-Some : goal.returns-in-Some
returns-in-Some g c =
    let others = from_entries c.self.inside.others.entries in
    rw (← c.self.view_is) (sym (from_some c.self.inside.rising others c.args.reference c.in-Some.found.row (sym c.find.ensures ∙ ap row_found c.in-Some.is)))

pub returns-in-None : goal.returns-in-None
returns-in-None g c =
    let rows = c.self.inside.others.entries in
    let others = from_entries rows in
    rw (← c.self.view_is) (
    c.found_among.ensures ∙ sym (get_row rows others refl c.args.reference)
    ∙ sym (from_others c.self.inside.rising others c.args.reference (sym c.find.ensures ∙ ap row_found c.in-None.is))
    )
