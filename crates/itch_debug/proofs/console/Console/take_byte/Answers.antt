use Rattle.std.proofs.Common.{◌≡◌, ◌<◌, ◌≤◌, ◌++◌, ◌∷◌, [], false, length, rules, arith, refl}
use Rattle.std.specs.Prelude.{IfErr}
use Rattle.std.proofs.lemmas.Bool.Decides.{nat_tests}
use Rattle.engine_rules.specs.declared.fault.ProgFault.TheVariants.{Memory}
use Rattle.itch_debug.specs.Going.{session_of}
use Rattle.itch_debug.specs.Runs.{Unfinished}
use Rattle.itch_debug.specs.Sessions.{is_line_feed, reply_of}
use Rattle.itch_debug.proofs.Consoles.{halts_ended, memory_halts, stands_byte, stands_ended}
use Rattle.itch_debug.proofs.console.Console.take_byte.Goals as goal

pub returns-in_err-end_line-clause-err : goal.returns-in_err-end_line-clause-err
returns-in_err-end_line-clause-err g c = λ day before commands h.
    let start = c.args.self.now in
    let session = session_of start.next start.debugger in
    let mid = g.W.Write.contents c.args.sink.now.device in
    let after = g.W.Write.contents c.end_line.new.sink.device in
    let is_feed : c.args.byte ≡ 10 = c.if-byte-eq10.true in
    let part : IfErr c.from_residual.result (λ fault. Unfinished fault mid after (reply_of session start.begun.items).text) = search rules in
    rw is_feed (halts_ended c.from_residual.result day before mid after commands start.begun.items session h part)

pub returns-then-byte-eq10-clause-ok : goal.returns-then-byte-eq10-clause-ok
returns-then-byte-eq10-clause-ok g c = λ day before commands h.
    let start = c.args.self.now in
    let then = c.end_line.new.self in
    let mid = g.W.Write.contents c.args.sink.now.device in
    let after = g.W.Write.contents c.end_line.new.sink.device in
    let is_feed : c.args.byte ≡ 10 = c.if-byte-eq10.true in
    let empty : then.begun.items ≡ [] = search rules in
    rw (is_feed, empty) (stands_ended day before mid after commands start.begun.items (session_of start.next start.debugger) (session_of then.next then.debugger) h c.in_ok-end_line.ensures.sent c.in_ok-end_line.ensures.next)

pub returns-in_err-push-clause-err : goal.returns-in_err-push-clause-err
returns-in_err-push-clause-err g c = λ day before commands h.
    let start = c.args.self.now in
    let memory : IfErr c.from_residual-in_err-push.result (λ fault. fault ≡ Memory) = search rules in
    memory_halts c.from_residual-in_err-push.result day before (g.W.Write.contents c.args.sink.now.device) commands start.begun.items (c.args.byte ∷ []) (session_of start.next start.debugger) memory h

pub returns-in_ok-push-clause-ok : goal.returns-in_ok-push-clause-ok
returns-in_ok-push-clause-ok g c = λ day before commands h.
    let start = c.args.self.now in
    let other : is_line_feed c.args.byte ≡ false = grind (arith, nat_tests) in
    let pushed : c.push.new.self.items ≡ start.begun.items ++ c.args.byte ∷ [] = search rules in
    let few : length start.begun.items < 1001 = search rules in
    stands_byte day before (g.W.Write.contents c.args.sink.now.device) commands start.begun.items c.push.new.self.items (session_of start.next start.debugger) c.args.byte h other (λ _. pushed) (λ many. absurd (omega (arith, few, many)))

pub returns-else-len-lt-KEPT-clause-ok : goal.returns-else-len-lt-KEPT-clause-ok
returns-else-len-lt-KEPT-clause-ok g c = λ day before commands h.
    let start = c.args.self.now in
    let other : is_line_feed c.args.byte ≡ false = grind (arith, nat_tests) in
    let many : 1001 ≤ length start.begun.items = search rules in
    stands_byte day before (g.W.Write.contents c.args.sink.now.device) commands start.begun.items start.begun.items (session_of start.next start.debugger) c.args.byte h other (λ few. absurd (omega (arith, few, many))) (λ _. refl)
