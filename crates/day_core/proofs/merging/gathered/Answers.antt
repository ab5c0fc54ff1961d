use Rattle.std.proofs.Common.{arith, refl, None, ◌∙◌}
use Rattle.std.proofs.lemmas.List.{get_or_default}
use Rattle.itch_table.specs.declared.outcome.Outcome.TheVariants.{Passed}
use Rattle.day_core.proofs.MergedDay.{is_some-some}
use Rattle.day_core.proofs.merging.gathered.Goals as goal

pub returns-in_default-clause-missing : goal.returns-in_default-clause-missing
returns-in_default-clause-missing g c = (
  c.loop-before.before,
  refl,
  omega arith,
  λ d. get_or_default c.args.slots.now c.loop-before.before d None (omega arith) ∙ c.in_default.is,
  λ k d lt. is_some-some _ _ (c.loop-before.invariant.each k Passed d lt),
)
