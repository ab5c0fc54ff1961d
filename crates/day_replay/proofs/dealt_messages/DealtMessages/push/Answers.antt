use Rattle.std.proofs.Common.{◌+◌, ◌%◌, ℕ, get_or, refl, sym, subst, ap, ◌∙◌}
use Rattle.day_replay.specs.Dealing.{IsDealt}
use Rattle.day_replay.proofs.DealtOneByOne.{dealt_nowhere, dealt_own, passed_below}
use Rattle.day_replay.proofs.dealt_messages.DealtMessages.push.Goals.{in-Locate+in_ok-push-in-Locate, in-Nowhere+in_ok-note-in-Nowhere}
use Rattle.day_replay.proofs.dealt_messages.DealtMessages.push.Goals as goal

pub note-requires-clause-few : goal.note-requires-clause-few
note-requires-clause-few g c =
    let r = c.requires.dealt in
    let inside = c.self.inside in
    let dealt = subst (IsDealt c.args.before r.0) (sym c.self.view_is) r.1 in
    passed_below c.args.before r.0 c.args.payload.now inside.batches.items inside.no_stock inside.messages (c.args.before + inside.messages + 1) dealt refl r.2

pub returns : goal.returns
returns g c = λ payloads has room.
    let before = c.args.before in
    let payload = c.args.payload.now in
    let inside = c.self.inside in
    let batches = inside.batches.items in
    let number = before + inside.messages + 1 in
    let dealt = subst (IsDealt before payloads) (sym c.self.view_is) has in
    elim c.match-part.branch [
      | in-Locate+in_ok-push-in-Locate w ↦
          let x = w.index_mut.result.now in
          rw (w.self-inside-is, w.from.ensures) (
          dealt_own before payloads payload batches inside.no_stock inside.messages number dealt refl room w.in-Locate.locate x w.push.new.self
          (sym c.part.ensures ∙ w.in-Locate.is) c.self.invariant
          (w.index_mut.ensures.value ∙ ap (λ (n : ℕ). get_or batches (n % 128) x) w.from.ensures)
          (w.in_ok-push-in-Locate.ensures {u = tt}).ok)
      | in-Nowhere+in_ok-note-in-Nowhere w ↦
          rw w.self-inside-is (
          dealt_nowhere before payloads payload batches inside.no_stock inside.messages number dealt refl room w.in-Nowhere.outcome w.note.new.self
          (sym c.part.ensures ∙ w.in-Nowhere.is)
          (w.in_ok-note-in-Nowhere.ensures {u = tt}))
    ]
