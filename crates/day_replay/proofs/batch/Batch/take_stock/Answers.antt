use Rattle.std.proofs.Common.{set, ap, ◌∙◌}
use Rattle.std.specs.Option.{option_map}
use Rattle.std.proofs.lemmas.List.{map-set}
use Rattle.day_replay.specs.Batches.{BatchState}
use Rattle.day_replay.proofs.batch.Batch.take_stock.Goals as goal

pub returns-clause-left : goal.returns-clause-left
returns-clause-left g c =
    map-set (option_map (λ stock. stock.value)) c.self.inside.stocks.items c.args.slot c.take.new.dest
    ∙ ap (λ (s : BatchState). set s.stocks c.args.slot (option_map (λ stock. stock.value) c.take.new.dest)) c.self.view_is
    ∙ ap (set c.args.self.now.stocks c.args.slot) (ap (option_map (λ stock. stock.value)) c.take.ensures.after)
