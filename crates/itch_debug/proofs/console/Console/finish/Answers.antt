use Rattle.itch_debug.specs.Going.{session_of}
use Rattle.itch_debug.proofs.Consoles.{all_answered, finish_halts}
use Rattle.itch_debug.proofs.console.Console.finish.Goals as goal

pub returns-clause-ok : goal.returns-clause-ok
returns-clause-ok g c = λ day before commands h.
    let start = c.args.self.now in
    all_answered c.end_line.result day before (g.W.Write.contents c.args.sink.now.device) (g.W.Write.contents c.end_line.new.sink.device) commands start.begun.items (session_of start.next start.debugger) h c.end_line.ensures.sent

pub returns-clause-err : goal.returns-clause-err
returns-clause-err g c = λ day before commands h.
    let start = c.args.self.now in
    finish_halts c.end_line.result day before (g.W.Write.contents c.args.sink.now.device) (g.W.Write.contents c.end_line.new.sink.device) commands start.begun.items (session_of start.next start.debugger) h c.end_line.ensures.err
