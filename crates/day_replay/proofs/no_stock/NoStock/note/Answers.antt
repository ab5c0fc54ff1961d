use Rattle.std.proofs.Common.{◌≡◌, ◌+◌, ◌++◌, ◌∷◌, [], ℕ, List, None, append-nil, ap, cond, sym, ◌∙◌, arith}
use Rattle.itch_layouts.specs.Shapes.{shape_of}
use Rattle.itch_table.specs.declared.outcome.Outcome.{Outcome}
use Rattle.itch_table.specs.Projection.{event_with}
use Rattle.day_replay.specs.declared.refusals.RefusedMessage.{RefusedMessage}
use Rattle.day_replay.specs.Summaries.{is_passed, is_refused}
use Rattle.day_replay.specs.NoStock.{if_refused}
use Rattle.day_replay.proofs.NoStockMessages.{fact_more, facts}
use Rattle.day_replay.proofs.no_stock.NoStock.note.Goals.{in-Applied, in-Passed, in-Refused+in_ok-push-in-Refused}
use Rattle.day_replay.proofs.no_stock.NoStock.note.Goals as goal

abbrev counted : ℕ → Outcome → ℕ
counted passed o = passed + cond (is_passed o) 1 0

abbrev listed : List RefusedMessage → ℕ → Outcome → List RefusedMessage
listed refused n o = refused ++ if_refused n None o

pub returns : goal.returns
returns g c = λ messages was.
    let n = c.args.number in
    let payload = c.args.payload.now in
    let before = c.self.inside in
    let now = c.match-outcome.self-inside in
    let old = facts before.refused.items before.passed before.event in
    let more = fact_more messages n payload c.args.outcome c.requires.part old (c.self.view_is ∙ was) now.refused.items now.passed c.event_after-self-inside.result in
    let none : (x : ℕ) → x ≡ x + 0 = λ x. omega arith in
    elim c.match-outcome.branch [
      | in-Applied w ↦ more
          (ap (λ s. s.refused.items) w.self-inside-is ∙ sym (ap (listed before.refused.items n) w.in-Applied.is ∙ append-nil before.refused.items))
          (ap (λ s. s.passed) w.self-inside-is ∙ none before.passed ∙ sym (ap (counted before.passed) w.in-Applied.is))
          (c.event_after-self-inside.ensures ∙ ap (λ s. event_with (shape_of payload) s.event) w.self-inside-is)
      | in-Passed w ↦ more
          (ap (λ s. s.refused.items) w.self-inside-is ∙ sym (ap (listed before.refused.items n) w.in-Passed.is ∙ append-nil before.refused.items))
          (ap (λ s. s.passed) w.self-inside-is ∙ sym (ap (counted before.passed) w.in-Passed.is))
          (c.event_after-self-inside.ensures ∙ ap (λ s. event_with (shape_of payload) s.event) w.self-inside-is)
      | in-Refused+in_ok-push-in-Refused w ↦ more
          (ap (λ s. s.refused.items) w.self-inside-is ∙ (w.in_ok-push-in-Refused.ensures {u = tt}).items
          ∙ sym (ap (λ (o : Outcome). before.refused.items ++ cond (is_refused o) ((record { message = n; locate = None; outcome = c.args.outcome }) ∷ []) []) w.in-Refused.is))
          (ap (λ s. s.passed) w.self-inside-is ∙ none before.passed ∙ sym (ap (counted before.passed) w.in-Refused.is))
          (c.event_after-self-inside.ensures ∙ ap (λ s. event_with (shape_of payload) s.event) w.self-inside-is)
    ]
