use Rattle.std.proofs.Common.{rules, ◌≡◌, ◌-◌, Some, refl, ap, sym, ◌∙◌}
use Rattle.std.specs.Option.{option_copied_mut}
use Rattle.std.specs.FinMap.{from_entries}
use Rattle.std.proofs.lemmas.Map.Steps.{set_value_same}
use Rattle.itch_table.specs.declared.order.OrderRow.{OrderRow}
use Rattle.order_book.proofs.Live.{reduced_part, reduced_whole}
use Rattle.order_book.proofs.RowViews.{Rows, row_at, with_row, without_row}
use Rattle.order_book.proofs.rows.reduce_row.Goals as goal

-- what was read, written back, leaves the rows as they were
pub returns-then-row-shares-clause-left : goal.returns-then-row-shares-clause-left
returns-then-row-shares-clause-left g c =
    let rows = c.args.rows.now.entries in
    let reference = c.args.reference in
    let row = c.unwrap-row.result.now in
    let there : row_at rows reference ≡ Some row = sym c.get_mut.ensures.value ∙ ap option_copied_mut c.unwrap-row.ensures in
    let same = (c.get_mut.follows.holds row).0 ∙ set_value_same _ rows row there in
    without_row (c.get_mut.follows.lender row).entries (from_entries rows) (ap (λ (rows : Rows). from_entries rows) same) c.remove.new.self.entries reference c.remove.ensures.updates.0
    ∙ sym (reduced_whole (from_entries rows) reference row c.args.shares c.if-row-shares.true)

pub returns-else-row-shares-clause-left : goal.returns-else-row-shares-clause-left
returns-else-row-shares-clause-left g c =
    let rows = c.args.rows.now.entries in
    let reference = c.args.reference in
    let row = c.unwrap-row.result.now in
    let left : OrderRow = record row { shares = row.shares - c.args.shares } in
    with_row rows (from_entries rows) refl (c.get_mut.follows.lender left).entries reference left (((c.get_mut.follows.holds left).3 (search rules)).0)
    ∙ sym (reduced_part (from_entries rows) reference row c.args.shares c.if-row-shares.false)
