use Rattle.std.proofs.Common.{◌-◌, ◌^◌, ◌≤◌, ◌∙◌, Bool, length, ap, arith}
use Rattle.itch_dis.specs.TextEnds.{text_end_after}
use Rattle.itch_dis.proofs.Extended.{printed_more}
use Rattle.itch_dis.proofs.day_text.DayTextPrinting.print_segment.Goals as goal

pub returns : goal.returns
returns g c = λ first read text given before counted split.
    let self = c.args.self.now in
    let segment = c.args.segment.now in
    let few : length segment.payloads ≤ 2 ^ 32 - 1 = omega (arith, c.requires.5) in
    printed_more first.extent self.extent self.end read text before _ segment given c.in_ok-text.text.items c.args.before counted split few (c.in_ok-text.ensures {u = tt})
    (c.after-self.ensures ∙ ap (λ (marked : Bool). text_end_after self.end marked c.tail.result.now) c.marked.ensures ∙ ap (text_end_after self.end segment.marked) c.tail.ensures)
