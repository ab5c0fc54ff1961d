use Rattle.std.proofs.Common.{◌≡◌, ◌+◌, ◌<◌, ℕ, List, length, ap, sym, ◌∙◌, subst, arith}
use Rattle.itch_table.specs.After.{after}
use Rattle.itch_table.specs.Shows.{top_after}
use Rattle.top_cell.specs.Boards.{IsOn, WriterAt}
use Rattle.test_top_cell.proofs.Shown.{next_world, top_is}
use Rattle.test_top_cell.proofs.showing.show_next.Goals as goal

pub publish-requires-clause-top : goal.publish-requires-clause-top
publish-requires-clause-top g c =
    let day = c.args.day.now.payloads in
    let n : ℕ = c.steps-message.result in
    let stands = c.requires.world ∙ ap (after day) (sym c.steps-message.ensures) in
    let lt : n < length day = omega (arith, c.if-message-len.false, c.len.ensures, c.requires.within, c.steps-message.ensures) in
    let world = next_world day n _ _ _ _ stands lt c.payload.ensures (c.in_ok-step.ensures {u = tt}).ok in
    top_is day c.locate.result (n + 1) _ _ world c.top.ensures
    ∙ ap (λ (l : ℕ). top_after day l (n + 1)) c.locate.ensures
    ∙ ap (λ (d : List (List ℕ)). top_after d c.args.writer.now.place.locate (n + 1)) (sym c.requires.day_is)

pub returns-clause-in_step : goal.returns-clause-in_step
returns-clause-in_step g c =
    let day = c.args.day.now.payloads in
    let n : ℕ = c.steps-message.result in
    let stands = c.requires.world ∙ ap (after day) (sym c.steps-message.ensures) in
    let lt : n < length day = omega (arith, c.if-message-len.false, c.len.ensures, c.requires.within, c.steps-message.ensures) in
    let took = c.in_ok-step.ensures {u = tt} in
    let same : n + 1 ≡ c.step.new.self.steps = omega (arith, took.steps, c.steps-message.ensures) in
    record {
      few = c.requires.few;
      world = next_world day n _ _ _ _ stands lt c.payload.ensures took.ok ∙ ap (after day) same;
      within = omega (arith, lt, same);
      day_is = ap (λ (w : WriterAt). w.place.day) c.publish.ensures ∙ c.requires.day_is;
      on = subst (λ (w : WriterAt). IsOn c.args.board.now w.place) (sym c.publish.ensures) c.requires.on;
      message = ap (λ (w : WriterAt). w.message) c.publish.ensures ∙ same;
    }
