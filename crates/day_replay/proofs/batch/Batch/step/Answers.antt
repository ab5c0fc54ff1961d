use Rattle.std.proofs.Common.{◌≡◌, [], ◌/◌, ℕ, List, get_or, sym, subst, ap, true, ◌∙◌, arith}
use Rattle.std.proofs.lemmas.List.Elements.{All-head}
use Rattle.day_replay.specs.Batches.{HasDone}
use Rattle.day_replay.specs.Messages.{is_of_batch}
use Rattle.day_replay.proofs.BatchSteps.{done_more, few_before, on_ok, own_found, same_before}
use Rattle.day_replay.proofs.batch.Batch.step.Goals as goal

pub locate_in-locate-requires : goal.locate_in-locate-requires
locate_in-locate-requires g c = own_found c.requires.batch c.args.number c.args.payload.now c.requires.own

pub step_in-requires-clause-same : goal.step_in-requires-clause-same
step_in-requires-clause-same g c =
    let r = c.requires in
    let inside = c.self.inside in
    let x = c.index_mut.result.now in
    let done = subst (HasDone r.batch r.before) (sym c.self.view_is) r.done in
    same_before r.batch c.locate_in-locate.result c.args.payload.now c.locate_in-locate.ensures (All-head (λ (m : ℕ × List ℕ). is_of_batch r.batch m ≡ true) (c.args.number, c.args.payload.now) [] r.own) _ (λ v. v.value) r.before inside.stocks.items inside.refused.items inside.failed done c.self.invariant (omega arith) x
    (c.index_mut.ensures.value ∙ ap (λ (n : ℕ). get_or inside.stocks.items (n / 128) x) c.from.ensures)

pub step_in-requires-clause-few : goal.step_in-requires-clause-few
step_in-requires-clause-few g c =
    let r = c.requires in
    let inside = c.self.inside in
    let x = c.index_mut.result.now in
    let done = subst (HasDone r.batch r.before) (sym c.self.view_is) r.done in
    few_before r.batch c.locate_in-locate.result c.args.payload.now c.locate_in-locate.ensures (All-head (λ (m : ℕ × List ℕ). is_of_batch r.batch m ≡ true) (c.args.number, c.args.payload.now) [] r.own) _ (λ v. v.value) r.before inside.stocks.items inside.refused.items inside.failed done c.self.invariant (omega arith) (omega (arith, r.few)) x
    (c.index_mut.ensures.value ∙ ap (λ (n : ℕ). get_or inside.stocks.items (n / 128) x) c.from.ensures)

pub returns : goal.returns
returns g c =
    let inside = c.self.inside in
    let x = c.index_mut.result.now in
    on_ok c.note_refused.result c.note_refused.ensures.ok (λ notes batch before has own.
    rw c.from.ensures (
    done_more batch c.locate_in-locate.result c.args.payload.now c.locate_in-locate.ensures (All-head (λ (m : ℕ × List ℕ). is_of_batch batch m ≡ true) (c.args.number, c.args.payload.now) [] own) _ (λ v. v.value) before inside.stocks.items inside.refused.items inside.failed
    (subst (HasDone batch before) (sym c.self.view_is) has) c.self.invariant (omega arith)
    c.args.number x c.step_in.new.slot c.in_ok-outcome.outcome _
    (c.index_mut.ensures.value ∙ ap (λ (n : ℕ). get_or inside.stocks.items (n / 128) x) c.from.ensures)
    (c.in_ok-outcome.ensures {u = tt}).outcome
    (c.in_ok-outcome.ensures {u = tt}).stepped
    notes))
