use Rattle.itch_debug.specs.Answering.{stop_text}
use Rattle.itch_debug.proofs.Replying.{came, rearward_done, replied}
use Rattle.itch_debug.proofs.answer.rearward.Goals as goal

pub returns-in-Ok-clause-reply : goal.returns-in-Ok-clause-reply
returns-in-Ok-clause-reply g c =
    let stop = c.in-Ok.stop in
    replied c.put_stop.result c.args.text.now.items c.put_stop.new.text.items (stop_text c.rearward.new.self stop.hit) _ c.rearward.new.self
    (rearward_done c.args.debugger.now c.rearward.new.self stop.at stop.hit c.in-Ok.ensures.at c.in-Ok.ensures.earlier c.in-Ok.ensures.hit c.in-Ok.ensures.start c.in-Ok.ensures.moved) c.put_stop.ensures

pub returns-in-Ok-clause-err : goal.returns-in-Ok-clause-err
returns-in-Ok-clause-err g c =
    let stop = c.in-Ok.stop in
    came c.put_stop.result c.args.debugger.now (stop_text c.rearward.new.self stop.hit) _ c.rearward.new.self
    (rearward_done c.args.debugger.now c.rearward.new.self stop.at stop.hit c.in-Ok.ensures.at c.in-Ok.ensures.earlier c.in-Ok.ensures.hit c.in-Ok.ensures.start c.in-Ok.ensures.moved)
