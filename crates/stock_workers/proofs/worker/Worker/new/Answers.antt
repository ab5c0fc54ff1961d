use Rattle.std.proofs.Common.{List, eqb, map, ap, sym, subst, ◌∙◌}
use Rattle.std.specs.List.Sorted.{IsStrictlyIncreasing}
use Rattle.std.proofs.lemmas.List.Kept.{IsStrictlyIncreasing-filter}
use Rattle.day_core.specs.Owners.{new_machine, owner}
use Rattle.stock_machine.specs.StockRows.{StockMachine}
use Rattle.stock_workers.specs.Working.{IsWorkerOf, Working, first_working}
use Rattle.stock_workers.proofs.WorkerInvariant.{first_stands, own_codes_are}
use Rattle.stock_workers.proofs.worker.Worker.new.Goals as goal

pub invariant_of-result : goal.invariant_of-result
invariant_of-result g c =
    let codes = own_codes_are c.args.parts.now c.workers.result c.args.worker c.locates.result.now c.in_ok-locates.locates.items c.workers.ensures.workers c.locates.ensures.locates c.in_ok-locates.ensures in
    (subst IsStrictlyIncreasing (sym c.in_ok-locates.ensures) (IsStrictlyIncreasing-filter (λ l. eqb (owner c.workers.result l) c.args.worker) c.locates.result.now c.locates.ensures.rising), codes)

pub returns-clause-of : goal.returns-clause-of
returns-clause-of g c = λ day are fresh.
    let codes = own_codes_are c.args.parts.now c.workers.result c.args.worker c.locates.result.now c.in_ok-locates.locates.items c.workers.ensures.workers c.locates.ensures.locates c.in_ok-locates.ensures in
    let made = c.in_ok-stocks.ensures ∙ ap (map new_machine) (c.deref.ensures.value ∙ codes) in
    subst (λ (stocks : List StockMachine). let w : Working = record (first_working c.args.parts.now c.args.worker c.args.writers.items) { stocks = stocks } in IsWorkerOf day w) (sym made)
    (first_stands day c.args.parts.now c.args.worker c.args.writers.items are fresh)
