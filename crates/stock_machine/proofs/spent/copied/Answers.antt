use Rattle.std.proofs.Common.{◌≡◌}
use Rattle.std.specs.Ordering.{nat_cmp}
use Rattle.std.specs.BTreeSet.{IsFromIterResult}
use Rattle.std.proofs.lemmas.Iterator.Adapters.{fact_from_collect}
use Rattle.std.proofs.lemmas.Iterator.Consumers.{YieldsList-at, YieldsList-from_copied, YieldsList-from_rest}
use Rattle.std.proofs.lemmas.Result.{IfOk-weaker}
use Rattle.stock_machine.proofs.SpentLists.{same_keys}
use Rattle.stock_machine.proofs.spent.copied.Goals as goal

pub returns : goal.returns
returns g c =
    let known = c.args.references.now in
    IfOk-weaker c.collect.result (IsFromIterResult nat_cmp known.keys) (λ copied. copied.keys ≡ known.keys) (λ copied made. same_keys known copied c.iter.ensures.ordered made) (
    fact_from_collect (IsFromIterResult nat_cmp) c.collect.result c.collect.ensures.ran (
    YieldsList-from_copied (YieldsList-at c.copied.ensures.source (YieldsList-from_rest known.keys c.iter.ensures.rest))
    )
    )
