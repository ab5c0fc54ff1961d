use Rattle.std.proofs.Common.{◌∙◌, ap}
use Rattle.itch_trace.specs.Lines.{trace_text}
use Rattle.itch_trace.specs.Messages.{messages_of}
use Rattle.itch_trace.proofs.Written.{begins_trace, go_on, is_all}
use Rattle.itch_trace.proofs.day_trace.DayTracePrinting.texts_go_on.Goals as goal

pub returns-clause-leads : goal.returns-clause-leads
returns-clause-leads g c = λ first now read next text given whole before split right.
    let extent = first.made.extent in
    let on = go_on extent read.payloads next.payloads in
    begins_trace extent now.begun before.sent text now.made (messages_of read.payloads) before.traced.lines before.written on.rest whole (right ∙ ap (trace_text extent) on.are)

pub returns-clause-enough : goal.returns-clause-enough
returns-clause-enough g c = λ first now read next text given whole before split suffices right.
    let extent = first.made.extent in
    let on = go_on extent read.payloads next.payloads in
    let all = before.all_sent suffices.some in
    is_all extent now.begun before.sent text now.made (messages_of read.payloads) before.traced.lines before.written on.rest whole all.0 all.1 (on.none suffices.last) (right ∙ ap (trace_text extent) on.are)
