use Rattle.std.proofs.Common.{◌≡◌, ◌∙◌, Bool, List, length, sym, ap, subst, arith}
use Rattle.std.proofs.lemmas.List.{with_items_is}
use Rattle.itch_readings.specs.Searching.{FindsNext, Search}
use Rattle.itch_readings.proofs.Searched.{by_symbol, code_is}
use Rattle.itch_readings.proofs.search.StockSearch.take.Goals as goal

pub returns-in-Locate-clause-next : goal.returns-in-Locate-clause-next
returns-in-Locate-clause-next g c = λ day searched.
    code_is day c.args.payload.now c.args.self.now c.in-Locate.locate (sym (ap (λ (s : Search). s.name) c.self.view_is) ∙ c.in-Locate.is) searched
    (sym c.is_of_stock.ensures ∙ c.if-is_of_stock.true)

pub returns-in-Symbol-clause-next : goal.returns-in-Symbol-clause-next
returns-in-Symbol-clause-next g c = λ day searched.
    let long : length c.begun_with.new.listed ≡ c.self.inside.listed.len = omega (arith, c.begun_with.auto.listed, c.deref_mut.ensures.len) in
    subst (λ (l : List Bool). FindsNext day c.args.payload.now c.args.self.now (record { name = c.self.inside.name; listed = l }) c.begun_with.result)
    (sym (with_items_is c.self.inside.listed c.begun_with.new.listed long))
    (by_symbol day c.args.payload.now c.args.self.now c.in-Symbol.symbol c.self.inside.name c.self.inside.listed.items c.deref_mut.result.now
    c.begun_with.new.listed c.begun_with.result c.self.view_is c.in-Symbol.is c.deref_mut.ensures.value searched (c.begun_with.ensures day))
