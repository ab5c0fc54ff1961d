use Rattle.std.proofs.Common.{◌∙◌}
use Rattle.order_book.proofs.book.Book.copy.Goals as goal

pub invariant_of-result : goal.invariant_of-result
invariant_of-result g c =
    let kept = c.self.invariant.1 in
    rw c.in_ok-copy.ensures (
      c.self.invariant.0,
      record {
        levels_are = λ side. c.in_ok-copy-2.ensures side ∙ kept.levels_are side;
        shares_fit = kept.shares_fit;
      },
    )
