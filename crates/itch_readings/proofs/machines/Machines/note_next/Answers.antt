use Rattle.std.proofs.Common.{◌∙◌, ℕ, get_or, ap, arith}
use Rattle.std.proofs.lemmas.Result.{on_ok_weaker}
use Rattle.itch_readings.proofs.MachineSlots.{one_noted}
use Rattle.itch_readings.proofs.machines.Machines.note_next.Goals as goal

pub returns : goal.returns
returns g c =
    let slots = c.self.inside.slots.items in
    let slot = c.index_mut-slot.result.now in
    on_ok_weaker c.note_in.result
    (λ took. rw c.from.ensures (
    one_noted (λ stock. stock.value) slots c.args.locate slot (omega (arith, c.self.invariant)) (c.index_mut-slot.ensures.value ∙ ap (λ (n : ℕ). get_or slots n slot) c.from.ensures)
    g.N.Notes.noted c.args.number c.args.payload.now c.note_in.new.slot c.args.notes.now c.note_in.new.notes c.args.self.now c.self.view_is took))
    c.note_in.ensures
