use Rattle.std.proofs.Common.{◌∙◌, ap}
use Rattle.std.proofs.lemmas.Result.{on_ok_weaker}
use Rattle.stock_machine.specs.StockRows.{StockMachine}
use Rattle.itch_readings.proofs.MachineSlots.{new_machine, old_machine}
use Rattle.itch_readings.proofs.machines.note_in.Goals as goal

pub returns-in-Some : goal.returns-in-Some
returns-in-Some g c = on_ok_weaker c.note_next.result
    (λ took. old_machine (λ stock. stock.value) g.N.Notes.noted c.args.number c.args.payload.now c.args.locate c.args.slot.now c.in-Some.stock _ _ _ _
    c.in-Some.is c.deref_mut.ensures.value took)
    c.note_next.ensures

pub returns : goal.returns
returns g c =
    let made = c.deref_mut-2.ensures.value ∙ (c.in_ok-stock.ensures {u = tt}).ok in
    new_machine (λ stock. stock.value) g.N.Notes.noted c.args.number c.args.payload.now c.args.locate c.args.slot.now _ _ _ _ c.in_default.is
    (ap (λ (m : StockMachine). m.locate) made ∙ c.new.ensures.locate) (ap (λ (m : StockMachine). m.world) made ∙ c.new.ensures.world)
    (ap (λ (m : StockMachine). m.steps) made ∙ c.new.ensures.steps) (c.in_ok-note_next.ensures {u = tt})
