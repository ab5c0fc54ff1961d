use Rattle.std.proofs.Common.{◌+◌, ◌<◌, ◌^◌, ◌++◌, ◌∷◌, [], ℕ, List, length, subst, arith, append-nil, rules, sym}
use Rattle.std.proofs.lemmas.List.{append_assoc, length-append}
use Rattle.day_replay.specs.Dealing.{IsDealt}
use Rattle.day_replay.proofs.BatchSteps.{split_at_end, split_long, split_next}
use Rattle.day_replay.proofs.dealt_messages.DealtMessages.deal.Goals as goal

pub loop-payload-init : goal.loop-payload-init
loop-payload-init g c = record {
  done = [];
  so_far = search (rules);
  dealt = λ payloads is. subst (λ (ps : List (List ℕ)). IsDealt c.args.before ps c.args.self.now) (sym (append-nil payloads)) is;
}

pub push-requires-clause-dealt : goal.push-requires-clause-dealt
push-requires-clause-dealt g c =
    let inv = c.loop-payload.invariant in
    let r = c.requires.dealt in
    let steps = (c.in-Some.ensures {u = tt}).steps in (
      r.0 ++ inv.done,
      inv.dealt r.0 r.1,
      omega (arith, r.2, length-append r.0 inv.done, split_long c.args.segment.now.payloads inv.done c.loop-payload.payload-iterator c.next.new.self c.in-Some.payload.now inv.so_far steps),
    )

pub loop-payload-preserved : goal.loop-payload-preserved
loop-payload-preserved g c =
    let inv = c.loop-payload.invariant in
    let r = c.requires.dealt in
    let payload = c.in-Some.payload.now in
    let steps = (c.in-Some.ensures {u = tt}).steps in
    record {
      done = inv.done ++ payload ∷ [];
      so_far = split_next c.args.segment.now.payloads inv.done c.loop-payload.payload-iterator c.next.new.self payload inv.so_far steps;
      dealt = λ payloads is.
          let room : c.args.before + length (payloads ++ inv.done) + 1 < 2 ^ 32 = omega (arith, r.2, r.1.messages_are, is.messages_are, length-append payloads inv.done, split_long c.args.segment.now.payloads inv.done c.loop-payload.payload-iterator c.next.new.self payload inv.so_far steps) in
          subst (λ (ps : List (List ℕ)). IsDealt c.args.before ps c.push.new.self) (append_assoc payloads inv.done (payload ∷ []))
          (c.in_ok-push.ensures {u = tt} (payloads ++ inv.done) (inv.dealt payloads is) room);
    }

pub returns : goal.returns
returns g c =
    let inv = c.loop-payload.invariant in
    record {
      dealt = λ payloads is.
          subst (λ (ps : List (List ℕ)). IsDealt c.args.before (payloads ++ ps) c.loop-payload.self)
          (split_at_end c.args.segment.now.payloads inv.done c.loop-payload.payload-iterator inv.so_far (c.in-None.ensures {u = tt}).steps.0) (inv.dealt payloads is);
    }
