use Rattle.std.proofs.Common.{◌≡◌, ◌++◌, drop}
use Rattle.itch_readings.specs.OrderHistory.{HavePayloads, first_by, kept_lines}
use Rattle.itch_readings.proofs.order_history.OrderHistory.put_lines.Given as goal

abbrev pub invariant-loop-kept : goal.invariant-loop-kept
invariant-loop-kept g l = record {
  there : HavePayloads (drop l.kept-index l.self.kept.items) l.rest;
  lines : l.text.items ++ kept_lines (first_by l.self.lives.firsts) l.reference (drop l.kept-index l.self.kept.items) l.rest
      ≡ l.fn.text.items ++ kept_lines (first_by l.self.lives.firsts) l.reference l.self.kept.items l.self.payloads.items;
}
