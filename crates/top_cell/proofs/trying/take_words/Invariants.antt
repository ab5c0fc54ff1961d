use Rattle.std.proofs.Common.{◌≡◌, ◌+◌, length, take, Some}
use Rattle.top_cell.specs.Rule.{stock_of, sight_of, sight}
use Rattle.top_cell.specs.Seats.{IsSameSeat}
use Rattle.top_cell.specs.declared.rule.View.TheVariants.{ScreenOf}
use Rattle.top_cell.proofs.trying.take_words.Given as goal

abbrev pub invariant-loop-index : goal.invariant-loop-index
invariant-loop-index l =
    let v = sight_of l.initial.seat.me.0 in
    IsSameSeat l.initial.seat l.seat × (length l.words ≡ 4)
    × (l.seat.me.0 ≡ ScreenOf (stock_of l.initial.seat.me.0) (sight v.number (v.loads + l.index) v.looks v.tries v.wins v.last v.began (Some (take l.index l.words))))
    × (l.seat.me.1 ≡ l.initial.seat.me.1)
