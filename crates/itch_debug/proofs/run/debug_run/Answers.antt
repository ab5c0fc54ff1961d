use Rattle.std.proofs.Common.{◌≡◌, [], true, false, rules}
use Rattle.std.specs.Prelude.{IfErr}
use Rattle.engine_rules.specs.declared.fault.ProgFault.TheVariants.{Memory}
use Rattle.itch_debug.specs.Going.{session_of}
use Rattle.itch_debug.specs.Runs.{Faults}
use Rattle.itch_debug.specs.Sessions.{start}
use Rattle.itch_debug.proofs.Serving.{all_served, end_fails, faults_fail, memory_first, read_first, serves_first}
use Rattle.itch_debug.proofs.run.debug_run.Goals as goal

pub returns-then-failed-clause-err : goal.returns-then-failed-clause-err
returns-then-failed-clause-err g c =
    let r = g.R.Read.remaining c.args.commands.now.device in
    let w = g.W.Write.contents c.args.sink.now.device in
    let failed : c.args.commands.now.failed ≡ true = search rules in
    read_first c.args.day.now.payloads r w c.args.commands.now.failed failed

pub returns-in_err-room-clause-err : goal.returns-in_err-room-clause-err
returns-in_err-room-clause-err g c =
    let r = g.R.Read.remaining c.args.commands.now.device in
    let w = g.W.Write.contents c.args.sink.now.device in
    let working : c.args.commands.now.failed ≡ false = search rules in
    let memory : IfErr c.from_residual.result (λ fault. fault ≡ Memory) = search rules in
    memory_first c.from_residual.result c.args.day.now.payloads r w c.args.commands.now.failed working memory

pub returns-in_err-debugger-clause-err : goal.returns-in_err-debugger-clause-err
returns-in_err-debugger-clause-err g c =
    let r = g.R.Read.remaining c.args.commands.now.device in
    let w = g.W.Write.contents c.args.sink.now.device in
    let working : c.args.commands.now.failed ≡ false = search rules in
    let memory : IfErr c.from_residual-in_err-debugger.result (λ fault. fault ≡ Memory) = search rules in
    memory_first c.from_residual-in_err-debugger.result c.args.day.now.payloads r w c.args.commands.now.failed working memory

pub returns-in_err-serve-clause-err : goal.returns-in_err-serve-clause-err
returns-in_err-serve-clause-err g c =
    let day = c.args.day.now.payloads in
    let r = g.R.Read.remaining c.args.commands.now.device in
    let w = g.W.Write.contents c.args.sink.now.device in
    let s = g.R.Read.remaining c.serve.new.feed.device in
    let v = g.W.Write.contents c.serve.new.sink.device in
    let first = c.new-console.result in
    let is : session_of first.next first.debugger ≡ start day = search rules in
    let empty : first.begun.items ≡ [] = search rules in
    let halted = c.serve.ensures.err day r w (serves_first day r w (session_of first.next first.debugger) first.begun.items is empty) in
    let part : IfErr c.from_residual-in_err-serve.result (Faults day r s w v c.serve.new.feed.failed) = search rules in
    faults_fail c.from_residual-in_err-serve.result day r s w v c.serve.new.feed.failed part

pub returns-clause-ok : goal.returns-clause-ok
returns-clause-ok g c =
    let day = c.args.day.now.payloads in
    let r = g.R.Read.remaining c.args.commands.now.device in
    let w = g.W.Write.contents c.args.sink.now.device in
    let s = g.R.Read.remaining c.serve.new.feed.device in
    let v = g.W.Write.contents c.serve.new.sink.device in
    let u = g.W.Write.contents c.finish.new.sink.device in
    let first = c.new-console.result in
    let then = c.serve.new.console in
    let is : session_of first.next first.debugger ≡ start day = search rules in
    let empty : first.begun.items ≡ [] = search rules in
    let served = c.in_ok-serve.ensures.ok day r w (serves_first day r w (session_of first.next first.debugger) first.begun.items is empty) in
    all_served c.finish.result day r s w v u (session_of then.next then.debugger) then.begun.items served (c.finish.ensures.ok day w served.commands served.stands)

pub returns-clause-err : goal.returns-clause-err
returns-clause-err g c =
    let day = c.args.day.now.payloads in
    let r = g.R.Read.remaining c.args.commands.now.device in
    let w = g.W.Write.contents c.args.sink.now.device in
    let s = g.R.Read.remaining c.serve.new.feed.device in
    let v = g.W.Write.contents c.serve.new.sink.device in
    let u = g.W.Write.contents c.finish.new.sink.device in
    let first = c.new-console.result in
    let then = c.serve.new.console in
    let is : session_of first.next first.debugger ≡ start day = search rules in
    let empty : first.begun.items ≡ [] = search rules in
    let served = c.in_ok-serve.ensures.ok day r w (serves_first day r w (session_of first.next first.debugger) first.begun.items is empty) in
    let working : c.serve.new.feed.failed ≡ false = search rules in
    end_fails c.finish.result day r s w v u (session_of then.next then.debugger) then.begun.items c.serve.new.feed.failed served working (c.finish.ensures.err day w served.commands served.stands)
