use Rattle.std.proofs.Common.{◌++◌, ◌∷◌, [], List, ℕ, sym, subst}
use Rattle.std.proofs.lemmas.Result.{on_ok_weaker}
use Rattle.itch_readings.specs.OrderHistory.{AreKept, kept_of}
use Rattle.itch_readings.specs.OwnMessages.{own_message}
use Rattle.itch_readings.specs.declared.order_history.Kept.{Kept}
use Rattle.itch_readings.proofs.KeptHistory.{one_kept_more}
use Rattle.itch_readings.proofs.order_history.OrderHistoryNotes.note.Goals as goal

pub returns : goal.returns
returns g c = on_ok_weaker c.take.result
    (λ linked first before kept.
    let self = c.args.self.now in
    let payload = c.args.payload.now in
    let all = before ++ own_message c.args.number payload c.args._named c.args.outcome c.args._stock.now ∷ [] in
    subst (λ (l : List Kept). AreKept l c.extend_from_slice.new.self.items c.take.new.self.firsts all) (sym (c.in_ok-push.ensures {u = tt}).items)
    (subst (λ (l : List ℕ). AreKept (self.kept.items ++ kept_of (own_message c.args.number payload c.args._named c.args.outcome c.args._stock.now) ∷ []) l c.take.new.self.firsts all) (sym (c.in_ok-extend_from_slice.ensures {u = tt}).items)
    (one_kept_more self.kept.items self.payloads.items self.lives.firsts c.take.new.self.firsts before kept c.args.number payload c.args._named c.args.outcome c.args._stock.now linked)))
    c.take.ensures
