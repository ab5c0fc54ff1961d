use Rattle.std.proofs.Common.{◌≡◌, ◌+◌, ◌++◌, ℕ, List, Some, ap, drop, rules, ◌∙◌}
use Rattle.std.specs.Prelude.{slice_get}
use Rattle.itch_debug.specs.Answering.{break_lines}
use Rattle.itch_debug.proofs.StockLines.{break_more}
use Rattle.itch_debug.proofs.lines.put_breaks.Goals as goal

pub breaks-preserved : goal.breaks-preserved
breaks-preserved g c =
    let breaks = c.args.debugger.now.breaks in
    let index : ℕ = c.breaks.index in
    let at : slice_get breaks index ≡ Some c.unwrap-breakpoint.result = search rules in
    ap (λ (text : List ℕ). text ++ break_lines (index + 1 + 1) (drop (index + 1) breaks)) (c.in_ok-put_numbered_break.ensures {u = tt})
    ∙ break_more breaks index c.unwrap-breakpoint.result c.breaks.text.items _ at c.breaks.invariant
