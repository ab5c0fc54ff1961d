use Rattle.std.proofs.Common.{◌∙◌, ◌++◌, Bool, ap, subst, sym}
use Rattle.itch_trace.specs.Made.{AreMade, IsBegun, MadeLines, head_left}
use Rattle.itch_trace.specs.Messages.{messages_of}
use Rattle.itch_trace.proofs.Written.{sent_all, written_more}
use Rattle.itch_trace.proofs.day_trace.DayTracePrinting.print_segment.Goals as goal

pub returns : goal.returns
returns g c = λ first read text given before counted split.
    let extent = first.made.extent in
    let self = c.args.self.now in
    let between = c.take_segment.new.self in
    let messages = messages_of (read.payloads ++ c.args.segment.now.payloads) in
    let more = c.in_ok-text.text.items in
    let took = (c.in_ok-take_segment.ensures {u = tt}).took (record { extent = extent; text = before.sent }) read.payloads before.traced in
    let made = c.in_ok-text.ensures {u = tt} in
    let is = made.text ∙ ap (λ (begun : Bool). head_left begun between.made.extent.depth ++ between.made.text) c.take_segment.ensures.begun in
    record {
      sent = before.sent ++ between.made.text;
      traced = record {
        took = took.took;
        lines = subst (λ (m : MadeLines). AreMade (record { extent = extent; text = before.sent ++ between.made.text }) m messages) (sym made.left)
            (sent_all extent self.begun before.sent text between.made messages took.lines before.written);
      };
      written = subst (λ (begun : Bool). IsBegun extent begun (before.sent ++ between.made.text) (text ++ more)) (sym made.begun)
          (written_more extent self.begun before.sent text between.made messages took.lines before.written more is);
      all_sent = λ some. (made.begun, ap (λ (m : MadeLines). m.text) made.left);
    }
