use Rattle.std.proofs.Common.{◌++◌, ℕ, List, None, ap, get_or, sym, ◌∙◌, take}
use Rattle.std.specs.List.{flat_map}
use Rattle.std.proofs.lemmas.List.{flat_map_more, take_more}
use Rattle.itch_table.specs.declared.outcome.Outcome.TheVariants.{Applied}
use Rattle.day_replay.specs.declared.refusals.RefusedMessage.{RefusedMessage}
use Rattle.itch_engine.proofs.Summaries.{line_of}
use Rattle.itch_engine.proofs.report.messages.put_refused_lines.Goals as goal

pub loop-message-preserved : goal.loop-message-preserved
loop-message-preserved g c =
    let messages = c.args.refused.now in
    let at : ℕ = c.loop-message.message-index in
    let none : RefusedMessage = record { message = 0; locate = None; outcome = Applied } in
    let message = get_or messages at none in
    (c.in_ok-put_refused.ensures {u = tt})
    ∙ ap (λ (text : List ℕ). text ++ line_of message) c.loop-message.invariant
    ∙ flat_map_more line_of c.args.text.now.items (take at messages) message
    ∙ ap (λ (some : List RefusedMessage). c.args.text.now.items ++ flat_map line_of some) (sym (take_more messages at none c.loop-message-test.true))
