use Rattle.std.proofs.Common.{◌+◌, ℕ, List, get_or, sym, subst, ap, ◌∙◌, arith}
use Rattle.day_replay.specs.Batches.{Does, MayDo}
use Rattle.day_replay.specs.NoStock.{NoStockFacts}
use Rattle.day_replay.specs.Replays.{HasReplayed}
use Rattle.day_replay.proofs.ReplayGoesOn.{gone_on, may_do, passed_fit}
use Rattle.day_replay.proofs.replay.Replay.go_on.Goals as goal

pub do_all-requires-clause-may : goal.do_all-requires-clause-may
do_all-requires-clause-may g c κs within = λ k d b lt.
    let r = c.requires in
    let inside = c.self.inside in
    let has = subst (HasReplayed r.0) (sym c.self.view_is) r.2 in
    let may = may_do r.0 r.1 inside.batches.items inside.batches.items inside.no_stock inside.messages c.args.dealt.now has r.3 k d b (omega (arith, lt, c.batches.ensures.long)) in
    subst (λ (xs : List (List (ℕ × List ℕ))). MayDo (get_or xs k d) (get_or inside.batches.items k b)) (sym c.batches.ensures.batches) may

pub append-requires : goal.append-requires
append-requires g c =
    let r = c.requires in
    let inside = c.self.inside in
    let has = subst (HasReplayed r.0) (sym c.self.view_is) r.2 in
    let fit = passed_fit r.0 r.1 inside.batches.items inside.batches.items inside.no_stock inside.messages c.args.dealt.now has r.3 in
    omega (arith, fit, ap (λ (f : NoStockFacts). f.passed) c.no_stock.ensures)

pub returns : goal.returns
returns g c = λ day payloads replayed is.
    let inside = c.self.inside in
    let has = subst (HasReplayed day) (sym c.self.view_is) replayed in
    gone_on day payloads inside.batches.items c.do_all.new.batches.items inside.no_stock inside.messages c.args.dealt.now has is c.append.new.self (inside.messages + c.len.result)
    (λ k d b lt.
    subst (λ (xs : List (List (ℕ × List ℕ))). Does (get_or xs k d) (get_or inside.batches.items k b) (get_or c.do_all.new.batches.items k b)) c.batches.ensures.batches
    ((c.in_ok-do_all.ensures {u = tt}).done k d b (omega (arith, lt, c.batches.ensures.long))))
    (λ known further was more. c.in_ok-append.ensures {u = tt} known further was (c.no_stock.ensures ∙ more))
    (ap (λ (n : ℕ). inside.messages + n) c.len.ensures)
