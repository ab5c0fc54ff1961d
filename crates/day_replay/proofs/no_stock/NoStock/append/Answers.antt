use Rattle.std.proofs.Common.{◌++◌, List, ap, refl, ◌∙◌}
use Rattle.day_replay.specs.declared.refusals.RefusedMessage.{RefusedMessage}
use Rattle.day_replay.proofs.NoStockMessages.{facts, facts_more, same_facts}
use Rattle.day_replay.proofs.no_stock.NoStock.append.Goals as goal

pub returns : goal.returns
returns g c = λ messages further was is.
    let inside = c.self.inside in
    let more = c.more.inside in
    let items = (c.in_ok-extend_from_slice.ensures {u = tt}).items ∙ ap (λ (ps : List RefusedMessage). inside.refused.items ++ ps) c.deref.ensures.value in
    same_facts _ _ _ _ _ _ items refl c.or-self-inside.ensures
    ∙ facts_more messages further (facts inside.refused.items inside.passed inside.event) (facts more.refused.items more.passed more.event) (c.self.view_is ∙ was) (c.more.view_is ∙ is)
