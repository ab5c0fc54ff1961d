use Rattle.std.proofs.Common.{◌≡◌, None, refl}
use Rattle.std.specs.FinMap.{from_entries, get}
use Rattle.itch_table.specs.World.{row_of}
use Rattle.order_book.specs.Parts.{joined}
use Rattle.order_book.proofs.Joined.{joined_insert_other, joined_insert_some, none_in_some, table_insert_other, table_insert_some}
use Rattle.order_book.proofs.RowViews.{with_row}
use Rattle.order_book.proofs.table.OrderTable.insert.Goals as goal
use Rattle.order_book.proofs.table.OrderTable.insert.Goals.{then-not-branch+in_ok-insert, else-not-branch}

pub invariant_of-self-2 : goal.invariant_of-self-2
invariant_of-self-2 g c =
    let some = c.self.inside.rising in
    let others = from_entries c.self.inside.others.entries in
    let order = c.args.order in
    let row = row_of order in
    let free : get (joined some others) order.reference ≡ None = rw c.self.view_is c.requires.new in
    elim c.if-not-branch.branch [
      | then-not-branch+in_ok-insert w ↦
          let same = rw w.if-not-branch.true at c.in_ok-push.ensures.ok in
          let came = with_row c.self.inside.others.entries others refl w.insert.new.self.entries order.reference w.row.result w.in_ok-insert.ensures.updates.0 in
          rw (w.self-inside-is, same, came, w.row.ensures) (table_insert_other some others c.self.inside.count order.reference c.self.invariant row free)
      | else-not-branch w ↦
          let came = rw w.if-not-branch.false at c.in_ok-push.ensures.ok in
          rw (w.self-inside-is, came) (table_insert_some some others c.self.inside.count order.reference c.self.invariant row free)
    ]

pub returns-clause-ok : goal.returns-clause-ok
returns-clause-ok g c =
    let some = c.self.inside.rising in
    let others = from_entries c.self.inside.others.entries in
    let order = c.args.order in
    let row = row_of order in
    let free : get (joined some others) order.reference ≡ None = rw c.self.view_is c.requires.new in
    elim c.if-not-branch.branch [
      | then-not-branch+in_ok-insert w ↦
          let same = rw w.if-not-branch.true at c.in_ok-push.ensures.ok in
          let came = with_row c.self.inside.others.entries others refl w.insert.new.self.entries order.reference w.row.result w.in_ok-insert.ensures.updates.0 in
          rw (w.self-inside-is, same, came, w.row.ensures, ← c.self.view_is) (joined_insert_other some others order.reference row (none_in_some some others order.reference free))
      | else-not-branch w ↦
          let came = rw w.if-not-branch.false at c.in_ok-push.ensures.ok in
          rw (w.self-inside-is, came, ← c.self.view_is) (joined_insert_some some others order.reference row)
    ]
