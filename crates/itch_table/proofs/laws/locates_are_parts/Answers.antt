use Rattle.itch_table.proofs.DayLocates.{members}
use Rattle.itch_table.proofs.laws.locates_are_parts.Goals as goal

pub returns-clause-parts : goal.returns-clause-parts
returns-clause-parts c = members
