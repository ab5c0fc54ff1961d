use Rattle.std.proofs.Common.{◌≡◌, ◌++◌, List, ℕ, subst, rules}
use Rattle.std.specs.Prelude.{OnOk}
use Rattle.itch_table.specs.After.{after}
use Rattle.day_core.specs.Owners.{machine_of}
use Rattle.itch_debug.proofs.StockLines.{shown}
use Rattle.itch_debug.proofs.stock.put_shown.Goals as goal

pub returns-clause-text : goal.returns-clause-text
returns-clause-text g c =
    let session = c.args.debugger.now in
    let machine = machine_of session.day c.args.locate session.position in
    let is : c.in_ok-stock.stock ≡ machine = search rules in
    subst (λ (text : List ℕ). OnOk c.put_shown_stock.result (c.put_shown_stock.new.text.items ≡ c.args.text.now.items ++ text))
    (shown c.in_ok-stock.stock (after session.day session.position) c.args.locate machine.steps is) c.put_shown_stock.ensures
