use Rattle.std.proofs.Common.{◌≡◌, ◌++◌, take}
use Rattle.std.specs.List.{flat_map}
use Rattle.itch_engine.specs.Report.{refused_line}
use Rattle.itch_engine.proofs.report.messages.put_refused_lines.Given as goal

abbrev pub invariant-loop-message : goal.invariant-loop-message
invariant-loop-message g l =
    l.text.items ≡ l.fn.text.items ++ flat_map (λ r. refused_line r.message r.outcome) (take l.message-index l.refused)
