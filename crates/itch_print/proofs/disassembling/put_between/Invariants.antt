use Rattle.std.proofs.Common.{◌≡◌, ◌++◌, ◌-◌, ◌<◌, ◌≤◌, drop, length, map, min, take}
use Rattle.std.specs.List.{flat_map}
use Rattle.itch_print.specs.Disassembly.{ended, payload_line}
use Rattle.itch_print.proofs.disassembling.put_between.Given as goal

abbrev pub invariant-loop-index : goal.invariant-loop-index
invariant-loop-index g l = record {
  began : l.first - 1 ≤ l.index;
  within : l.first - 1 < l.index → l.index ≤ min l.last (length l.day.payloads);
  lines : l.text.items ≡ l.fn.text.items ++ flat_map ended (map payload_line (drop (l.first - 1) (take l.index l.day.payloads)));
}
