use Rattle.std.proofs.Common.{◌≡◌, ◌+◌, ◌++◌, drop}
use Rattle.itch_debug.specs.Answering.{break_lines}
use Rattle.itch_debug.proofs.lines.put_breaks.Given as goal

abbrev pub invariant-breaks : goal.invariant-breaks
invariant-breaks g l = l.text.items ++ break_lines (l.index + 1) (drop l.index l.debugger.breaks) ≡ l.fn.text.items ++ break_lines 1 l.debugger.breaks
