use Rattle.std.proofs.Common.{ap, sym, subst, ◌∙◌}
use Rattle.day_replay.specs.NoStock.{NoStockFacts}
use Rattle.day_replay.specs.Replays.{AreAfter, HasReplayed}
use Rattle.day_replay.proofs.WholeDay.{event_is, passed_are}
use Rattle.day_replay.proofs.replay.Replay.end.Goals as goal

pub returns-clause-summary : goal.returns-clause-summary
returns-clause-summary g c = λ day replayed.
    let has = subst (HasReplayed day) (sym c.self.view_is) replayed in
    record {
      refused_are = c.in_ok-refused.ensures {u = tt} day (subst (AreAfter day) (sym c.deref.ensures.value) has.batches_are) has.no_stock_is;
      stocks_are = c.in_ok-stocks.ensures {u = tt} day has.batches_are;
      event_is = c.event.ensures ∙ ap (λ (f : NoStockFacts). f.event) has.no_stock_is ∙ event_is day;
    }

pub returns-clause-passed : goal.returns-clause-passed
returns-clause-passed g c = λ day replayed.
    let has = subst (HasReplayed day) (sym c.self.view_is) replayed in
    c.passed.ensures ∙ ap (λ (f : NoStockFacts). f.passed) has.no_stock_is ∙ passed_are day
