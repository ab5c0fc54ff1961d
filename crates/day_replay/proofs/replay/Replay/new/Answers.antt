use Rattle.std.proofs.Common.{ℕ, [], All, subst, sym, refl, arith}
use Rattle.std.proofs.lemmas.Grind.{common_steps}
use Rattle.std.proofs.lemmas.List.Elements.{All-push}
use Rattle.day_replay.specs.Batches.{HasDone}
use Rattle.day_replay.proofs.replay.Replay.new.Goals as goal

pub loop-batch-preserved : goal.loop-batch-preserved
loop-batch-preserved g c =
    let inv = c.loop-batch.invariant in (
      grind (arith, common_steps, inv.0),
      subst (All (λ b. (batch : ℕ) → HasDone batch [] b)) (sym (c.in_ok-push.ensures {u = tt}).items)
          (All-push (λ b. (batch : ℕ) → HasDone batch [] b) c.loop-batch.batches.items c.in_ok-new.field-0 inv.1 (c.in_ok-new.ensures {u = tt})),
    )

pub returns : goal.returns
returns g c = record {
  batches_are = λ batch d lt. c.loop-batch.invariant.1 batch d (omega (arith, lt, c.loop-batch.invariant.0)) batch;
  no_stock_is = c.new-2.ensures;
  messages_are = refl;
}
