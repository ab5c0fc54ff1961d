use Rattle.std.proofs.Common.{◌≡◌, ◌++◌, ◌∷◌, [], ap, subst}
use Rattle.std.proofs.lemmas.Result.{on_ok_weaker}
use Rattle.itch_table.specs.declared.outcome.Outcome.{Outcome}
use Rattle.itch_table.specs.World.{World}
use Rattle.itch_readings.specs.OwnMessages.{OwnMessage, next_message, own_message}
use Rattle.itch_readings.proofs.notes.note_next.Goals as goal

pub returns : goal.returns
returns g c =
    let took = c.in_ok-outcome.ensures {u = tt} in
    let stock = c.args.stock.now in
    let same : own_message c.args.number c.args.payload.now c.order_named-named.result c.in_ok-outcome.outcome c.step.new.self
    ≡ next_message c.args.number c.args.payload.now stock = λ i. record {
      locate = took.locate i;
      number = c.args.number;
      payload = c.args.payload.now;
      named = c.order_named-named.ensures i;
      outcome = ap (λ (r : Outcome × World). r.0) took.ok i;
      rows = ap (λ (r : Outcome × World). r.1) took.ok i;
    } in
    on_ok_weaker c.note.result
    (λ noted. record {
      locate = took.locate;
      world = ap (λ (r : Outcome × World). r.1) took.ok;
      steps = took.steps;
      noted = λ first before are. subst (λ (m : OwnMessage). g.N.Notes.noted first c.note.new.self (before ++ m ∷ [])) same (noted first before are);
    })
    c.note.ensures
