use Rattle.std.proofs.Common.{ap, ◌∙◌}
use Rattle.std.specs.FinMap.{remove}
use Rattle.itch_table.specs.KeySets.{KeySet}
use Rattle.itch_table.specs.World.{World, key, key_cmp}
use Rattle.itch_table.proofs.Keys.{key_total, key_exact}
use Rattle.itch_table.proofs.SetViews.{taken_back}
use Rattle.itch_table.proofs.rows.Rows.set_new_order.Goals as goal

pub returns-in-Err-clause-err : goal.returns-in-Err-clause-err
returns-in-Err-clause-err g c =
    let old = c.args.self.now in
    let place = key c.args.locate c.args.reference in
    let unspent : World → World = λ w. record w { spent = remove w.spent place } in
    c.unspend.ensures ∙ ap unspent (c.in-Err.ensures.err ∙ c.in_ok-spend.ensures.ok)
    ∙ ap (λ (s : KeySet key_cmp). record old { spent = s }) (taken_back key_total key_exact old.spent place c.requires)
