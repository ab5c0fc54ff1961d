use Rattle.std.proofs.Common.{◌≡◌, ◌++◌, map}
use Rattle.std.specs.List.{flat_map}
use Rattle.itch_print.specs.Disassembly.{ended, payload_line}
use Rattle.itch_print.proofs.disassembling.put_day.Given as goal

abbrev pub invariant-loop-payload : goal.invariant-loop-payload
invariant-loop-payload g l = l.text.items ++ flat_map ended (map payload_line l.payload-iterator) ≡ l.fn.text.items ++ flat_map ended (map payload_line l.day.payloads)
