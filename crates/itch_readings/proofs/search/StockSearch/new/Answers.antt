use Rattle.itch_readings.proofs.Searched.{searched_first}
use Rattle.itch_readings.proofs.search.StockSearch.new.Goals as goal

pub returns-clause-searched : goal.returns-clause-searched
returns-clause-searched g c = searched_first c.args.name c.in_ok-listed.listed.items (c.in_ok-listed.ensures.items_if_clones_equal (λ y is. is))
