use Rattle.std.proofs.Common.{◌≡◌, ◌≤◌, drop, length}
use Rattle.itch_table.specs.After.{after}
use Rattle.itch_table.specs.Projection.{only}
use Rattle.itch_readings.specs.Tops.{tops_until}
use Rattle.itch_readings.proofs.moments.tops.Given as goal

abbrev pub invariant-loop-payload : goal.invariant-loop-payload
invariant-loop-payload g l = record {
  within : l.message ≤ length l.day.payloads;
  left : l.payload-iterator ≡ drop l.message l.day.payloads;
  tops : l.tops.items ≡ tops_until l.day.payloads l.locate l.message;
  locate : l.stock.locate ≡ l.locate;
  world : l.stock.world ≡ only l.locate (after l.day.payloads l.message);
  steps : l.stock.steps ≤ l.message;
}
