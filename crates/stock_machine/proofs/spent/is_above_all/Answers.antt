use Rattle.std.proofs.Common.{ℕ, ◌<◌, subst, arith}
use Rattle.std.specs.Prelude.{nat_lt}
use Rattle.std.specs.Bool.{IsTrue}
use Rattle.std.proofs.lemmas.Bool.Decides.{nat_tests}
use Rattle.stock_machine.proofs.SpentLists.{all_below_by_last}
use Rattle.stock_machine.proofs.spent.is_above_all.Goals as goal

below : (m n : ℕ) → IsTrue (nat_lt m n) → m < n
below m n less = grind (arith, nat_tests)

pub returns-in-Some : goal.returns-in-Some
returns-in-Some c above =
    let last = c.in-Some.ensures.item.3.1 in
    all_below_by_last c.args.distance c.args.distances.now c.requires (subst (λ (n : ℕ). n < c.args.distance) (last 0) (below _ _ above))
