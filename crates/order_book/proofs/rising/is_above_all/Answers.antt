use Rattle.std.proofs.Common.{ℕ, ◌<◌, subst, arith}
use Rattle.std.specs.Prelude.{nat_lt}
use Rattle.std.specs.Bool.{IsTrue}
use Rattle.std.proofs.lemmas.Bool.Decides.{nat_tests}
use Rattle.order_book.specs.Parts.{IsBelow}
use Rattle.order_book.proofs.ReferenceSearch.{all_below_by_last}
use Rattle.order_book.proofs.rising.is_above_all.Goals as goal

below : (m n : ℕ) → IsTrue (nat_lt m n) → m < n
below m n less = grind (arith, nat_tests)

pub returns-in-Some : goal.returns-in-Some
returns-in-Some c above =
    let last = c.in-Some.ensures.item.3.1 in
    all_below_by_last c.args.rows.now c.args.distance c.requires (λ d some. subst (IsBelow c.args.distance) (last d) (below _ _ above))
