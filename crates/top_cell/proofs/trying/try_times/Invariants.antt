use Rattle.std.proofs.Common.{◌≡◌, ◌+◌, ◌*◌, ◌<◌, ◌≤◌}
use Rattle.top_cell.specs.Rule.{IsScreen, stock_of, number_of, sight_of}
use Rattle.top_cell.specs.Seats.{IsSameSeat}
use Rattle.top_cell.specs.Tries.{AreLost, Busied, CountsRise}
use Rattle.top_cell.proofs.trying.try_times.Given as goal

abbrev pub invariant-loop : goal.invariant-loop
invariant-loop l =
    IsSameSeat l.initial.seat l.seat × IsScreen l.seat.me.0 × (stock_of l.seat.me.0 ≡ stock_of l.initial.seat.me.0) × (l.seat.me.1 ≡ l.initial.seat.me.1)
    × (number_of l.seat.me.0 ≡ number_of l.initial.seat.me.0)
    × ((sight_of l.initial.seat.me.0).loads ≤ (sight_of l.seat.me.0).loads)
    × ((sight_of l.seat.me.0).loads ≤ (sight_of l.initial.seat.me.0).loads + 6 * l.counter)
    × CountsRise l.initial.seat.me.0 l.seat.me.0 × AreLost l.initial.seat.me.0 l.counter l.seat.me.0
    × (0 < l.counter → Busied l.initial.seat.me.0 l.count l.seat.me.0)
