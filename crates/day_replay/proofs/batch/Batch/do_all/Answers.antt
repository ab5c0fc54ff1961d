use Rattle.std.proofs.Common.{◌≡◌, ◌++◌, ◌∷◌, [], ℕ, List, subst, true, arith}
use Rattle.std.proofs.lemmas.List.{append_assoc, length-append}
use Rattle.std.proofs.lemmas.List.Elements.{All-cons, All-nil}
use Rattle.day_replay.specs.Batches.{AreOwn, HasDone}
use Rattle.day_replay.specs.Messages.{is_of_batch}
use Rattle.day_replay.proofs.BatchSteps.{next_of, split_at_end, split_long, split_next}
use Rattle.day_replay.proofs.batch.Batch.do_all.Goals as goal

one_own : (batch : ℕ) (m : ℕ × List ℕ) → is_of_batch batch m ≡ true → AreOwn batch (m ∷ [])
one_own batch m own = All-cons (λ m. is_of_batch batch m ≡ true) m [] own (All-nil (λ m. is_of_batch batch m ≡ true))

pub step-requires : goal.step-requires
step-requires g c =
    let r = c.requires in
    let inv = c.loop-message.invariant in
    let steps = (c.in-Some.ensures {u = tt}).steps in
    let m : ℕ × List ℕ = (c.in-Some.message.number, c.in-Some.message.payload.now) in
    record {
      batch = r.batch;
      before = r.before ++ inv.0;
      done = inv.2 r.batch r.before r.done r.own;
      own = one_own r.batch m (next_of (λ (m : ℕ × List ℕ). is_of_batch r.batch m ≡ true) c.args.messages.now inv.0 c.loop-message.message-iterator c.next.new.self m inv.1 steps r.own);
      few = omega (arith, r.few, length-append r.before inv.0, split_long c.args.messages.now inv.0 c.loop-message.message-iterator c.next.new.self m inv.1 steps);
    }

pub loop-message-preserved : goal.loop-message-preserved
loop-message-preserved g c =
    let inv = c.loop-message.invariant in
    let steps = (c.in-Some.ensures {u = tt}).steps in
    let m : ℕ × List ℕ = (c.in-Some.message.number, c.in-Some.message.payload.now) in (
      inv.0 ++ m ∷ [],
      split_next c.args.messages.now inv.0 c.loop-message.message-iterator c.next.new.self m inv.1 steps,
      λ batch before has all.
          subst (λ (ms : List (ℕ × List ℕ)). HasDone batch ms c.step.new.self)
          (append_assoc before inv.0 (m ∷ []))
          (c.in_ok-step.ensures {u = tt} batch (before ++ inv.0) (inv.2 batch before has all)
          (one_own batch m (next_of (λ (m : ℕ × List ℕ). is_of_batch batch m ≡ true) c.args.messages.now inv.0 c.loop-message.message-iterator c.next.new.self m inv.1 steps all))),
    )

pub returns : goal.returns
returns g c = λ batch before has all.
    let inv = c.loop-message.invariant in
    subst (λ (ms : List (ℕ × List ℕ)). HasDone batch (before ++ ms) c.loop-message.self)
    (split_at_end c.args.messages.now inv.0 c.loop-message.message-iterator inv.1 (c.in-None.ensures {u = tt}).steps.0)
    (inv.2 batch before has all)
