use Rattle.std.proofs.Common.{◌≡◌, ◌++◌, drop}
use Rattle.itch_watch.specs.Lines.{reading_lines}
use Rattle.itch_watch.proofs.lines.put_readings.Given as goal

abbrev pub invariant-loop-reading : goal.invariant-loop-reading
invariant-loop-reading g l = l.text.items ++ reading_lines (drop l.reading-index l.readings) ≡ l.fn.text.items ++ reading_lines l.readings
