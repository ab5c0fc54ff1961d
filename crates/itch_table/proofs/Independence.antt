-- The law of one payload, whole.
use Rattle.itch_table.proofs.OwnSteps.{steps_are_own}
use Rattle.itch_table.proofs.OtherSteps.{others_stay}
use Rattle.itch_table.proofs.NoStock.{outcomes_are_fixed, system_sets_event}

pub ruleset independent = (steps_are_own, others_stay, outcomes_are_fixed, system_sets_event)
