use Rattle.std.proofs.Common.{◌≡◌, ◌≢◌, ◌<◌, ◌≤◌, ◌++◌, ℕ, true, false, length, take, rules}
use Rattle.std.specs.Prelude.{Err, IfErr}
use Rattle.std.specs.Io.KnownBytes.{Consumes, Keeps}
use Rattle.engine_rules.specs.declared.fault.ProgFault.TheVariants.{Read}
use Rattle.itch_debug.specs.Going.{session_of}
use Rattle.itch_debug.specs.Runs.{Halts}
use Rattle.itch_debug.proofs.Serving.{exceeds, piece_fails, read_fails, serves_more}
use Rattle.itch_debug.proofs.run.serve_piece.Goals as goal

pub returns-in_default-clause-err : goal.returns-in_default-clause-err
returns-in_default-clause-err g c = λ day unread before h.
    let start = c.args.console.now in
    let r = g.R.Read.remaining c.args.feed.now.device in
    let s = g.R.Read.remaining c.read.new.self.device in
    let w = g.W.Write.contents c.args.sink.now.device in
    let keeps : Keeps r s = search rules in
    let failed : c.read.new.self.failed ≡ true = search rules in
    read_fails day unread r s before w (session_of start.next start.debugger) start.begun.items c.args.left c.read.new.self.failed h keeps failed

pub returns-then-count-left-clause-err : goal.returns-then-count-left-clause-err
returns-then-count-left-clause-err g c = λ day unread before h.
    let start = c.args.console.now in
    let r = g.R.Read.remaining c.args.feed.now.device in
    let s = g.R.Read.remaining c.read.new.self.device in
    let w = g.W.Write.contents c.args.sink.now.device in
    let count : ℕ = c.in-Ok.count in
    let piece = take count c.read.new.buffer in
    let gave : Consumes r s piece = search rules in
    let is : length piece ≡ count = search rules in
    let more : c.args.left < count = search rules in
    let working : c.read.new.self.failed ≡ false = search rules in
    exceeds day unread r s before w (session_of start.next start.debugger) start.begun.items piece c.args.left count c.read.new.self.failed h gave is more working

pub returns-in_err-take_piece-clause-err : goal.returns-in_err-take_piece-clause-err
returns-in_err-take_piece-clause-err g c = λ day unread before h.
    let start = c.args.console.now in
    let r = g.R.Read.remaining c.args.feed.now.device in
    let s = g.R.Read.remaining c.read.new.self.device in
    let w = g.W.Write.contents c.args.sink.now.device in
    let v = g.W.Write.contents c.take_piece.new.sink.device in
    let count : ℕ = c.in-Ok.count in
    let piece = take count c.read.new.buffer in
    let gave : Consumes r s piece = search rules in
    let is : length piece ≡ count = search rules in
    let within : count ≤ c.args.left = search rules in
    let working : c.read.new.self.failed ≡ false = search rules in
    let not_read : c.from_residual.result ≢ Err Read = search rules in
    let halted = c.take_piece.ensures.err day before h.commands h.stands in
    let part : IfErr c.from_residual.result (Halts day before v (h.commands ++ piece)) = search rules in
    piece_fails c.from_residual.result day unread r s before w v (session_of start.next start.debugger) start.begun.items piece c.args.left count c.read.new.self.failed h gave is within working not_read part

pub returns-clause-ok : goal.returns-clause-ok
returns-clause-ok g c = λ day unread before h.
    let start = c.args.console.now in
    let then = c.take_piece.new.self in
    let r = g.R.Read.remaining c.args.feed.now.device in
    let s = g.R.Read.remaining c.read.new.self.device in
    let w = g.W.Write.contents c.args.sink.now.device in
    let v = g.W.Write.contents c.take_piece.new.sink.device in
    let count : ℕ = c.in-Ok.count in
    let piece = take count c.read.new.buffer in
    let gave : Consumes r s piece = search rules in
    let is : length piece ≡ count = search rules in
    let within : count ≤ c.args.left = search rules in
    let stood = c.in_ok-take_piece.ensures.ok day before h.commands h.stands in
    serves_more day unread r s before w v (session_of start.next start.debugger) (session_of then.next then.debugger) start.begun.items then.begun.items piece c.args.left count h gave is within stood
