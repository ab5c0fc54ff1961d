use Rattle.std.proofs.Common.{◌++◌, ◌∷◌, [], List, map, take, ap, sym, ◌∙◌, arith}
use Rattle.std.proofs.lemmas.List.{map-append, take_all, take_more}
use Rattle.stock_machine.specs.StockRows.{StockMachine}
use Rattle.day_core.specs.Owners.{new_machine}
use Rattle.day_core.proofs.MachineSteps.{new_is}
use Rattle.day_core.proofs.machines.new_stocks.Goals as goal

pub loop-locate-preserved : goal.loop-locate-preserved
loop-locate-preserved g c =
    let locates = c.args.locates.now in
    let at = c.loop-locate.locate-index in
    let made = new_is c.new.result _ c.new.ensures.locate c.new.ensures.world c.new.ensures.steps in
    c.in_ok-push.ensures.items
    ∙ ap (λ (xs : List StockMachine). xs ++ c.new.result ∷ []) c.loop-locate.invariant
    ∙ ap (λ (m : StockMachine). map new_machine (take at locates) ++ m ∷ []) made
    ∙ sym (ap (map new_machine) (take_more locates at 0 (omega arith)) ∙ map-append new_machine (take at locates) _)

pub returns : goal.returns
returns g c = c.loop-locate.invariant ∙ ap (map new_machine) (take_all c.loop-locate.locate-index c.args.locates.now (omega arith))
