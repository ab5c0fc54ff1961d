use Rattle.itch_table.proofs.StockDays.{outcomes_stay_fixed}
use Rattle.itch_table.proofs.laws.days_split_by_stock.Goals as goal

pub returns-clause-fixed : goal.returns-clause-fixed
returns-clause-fixed c = outcomes_stay_fixed
