use Rattle.std.proofs.Common.{◌≡◌}
use Rattle.day_core.specs.Owners.{last_or}
use Rattle.top_cell.specs.Boards.{IsOn}
use Rattle.itch_watch.specs.Watching.{AreSeen, numbers}
use Rattle.itch_watch.proofs.watching.watch.Given as goal

abbrev pub invariant-loop : goal.invariant-loop
invariant-loop g l = record {
  place : l.screen.place ≡ l.fn.screen.place;
  on : IsOn l.board l.screen.place;
  seen : AreSeen l.screen.place.day l.screen.place.locate l.readings.items;
  noted : l.fn.screen.message ≡ 0 → last_or 0 (numbers l.readings.items) ≡ l.screen.message;
}
