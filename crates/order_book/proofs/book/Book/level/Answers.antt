use Rattle.std.proofs.Common.{◌∙◌}
use Rattle.order_book.proofs.Keeps.{shares_are}
use Rattle.order_book.proofs.book.Book.level.Goals as goal

pub returns : goal.returns
returns g c =
    let kept = rw c.self.view_is at c.self.invariant.1 in
    c.shares.ensures ∙ shares_are kept c.args.side c.args.price
