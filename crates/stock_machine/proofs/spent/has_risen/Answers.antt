use Rattle.std.proofs.Common.{◌∙◌, sym, ap, arith}
use Rattle.std.proofs.lemmas.List.{get_or_default}
use Rattle.stock_machine.specs.SpentParts.{risen}
use Rattle.stock_machine.proofs.SpentLists.{is_in, no_distance, same_distance}
use Rattle.stock_machine.proofs.spent.has_risen.Goals as goal

pub returns-in-Some : goal.returns-in-Some
returns-in-Some c =
    let distances = c.args.distances.now in
    c.is_one_of.ensures ∙ sym (same_distance c.args.first c.in-Some.distance distances)
    ∙ ap (λ n. is_in n (risen c.args.first distances)) c.in-Some.ensures.some

pub returns-in-None : goal.returns-in-None
returns-in-None c =
    sym (no_distance c.args.first c.args.reference c.args.distances.now (λ k d lt. c.in-None.ensures.none _ (omega (arith, c.type_inv.distances k, get_or_default c.args.distances.now k d 0 lt))))
