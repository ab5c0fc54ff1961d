use Rattle.std.proofs.Common.{◌∙◌, List, ℕ, sym, subst}
use Rattle.itch_readings.proofs.Found.{IsSearching, found_none, found_now, searching_first, searching_next}
use Rattle.itch_readings.proofs.search.find_stock.Goals as goal

pub loop-payload-init : goal.loop-payload-init
loop-payload-init g c =
    let day = c.args.day.now.payloads in
    let all = c.into_iter-payload-iterator.ensures.into_iter_gives ∙ c.payloads-payload-items.ensures.payloads in
    let made = c.in_ok-search.ensures {u = tt} in
    subst (λ (rest : List (List ℕ)). IsSearching day rest c.args.name c.in_ok-search.search) (sym all)
    (searching_first day c.args.name c.in_ok-search.search made.searched made.name)

pub returns-in-Some-take : goal.returns-in-Some-take
returns-in-Some-take g c =
    let before = c.loop-payload.invariant in
    let found = (c.in-Some-take.ensures {u = tt}).next before.so_far before.searched in
    found_now c.args.day.now.payloads c.loop-payload.payload-iterator c.args.name c.loop-payload.search before c.in-Some.payload.now _
    ((c.in-Some.ensures {u = tt}).steps) c.in-Some-take.locate found.0

pub loop-payload-preserved : goal.loop-payload-preserved
loop-payload-preserved g c =
    let before = c.loop-payload.invariant in
    let took = c.in_default.ensures {u = tt} in
    searching_next c.args.day.now.payloads c.loop-payload.payload-iterator c.args.name c.loop-payload.search before c.in-Some.payload.now _
    ((c.in-Some.ensures {u = tt}).steps) c.take.new.self took.name (took.next before.so_far before.searched)

pub returns : goal.returns
returns g c =
    found_none c.args.day.now.payloads c.loop-payload.payload-iterator c.args.name c.loop-payload.search c.loop-payload.invariant
    ((c.in-None.ensures {u = tt}).steps.0)
