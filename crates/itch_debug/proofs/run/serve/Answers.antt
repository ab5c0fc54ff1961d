use Rattle.std.proofs.Common.{◌≡◌, ◌-◌, true, rules}
use Rattle.std.specs.Prelude.{is_none}
use Rattle.std.specs.Io.KnownBytes.{IsAtEnd}
use Rattle.itch_debug.specs.Going.{session_of}
use Rattle.itch_debug.proofs.Serving.{serves_end, serves_over}
use Rattle.itch_debug.proofs.run.serve.Goals as goal

pub returns-then-count-eq0-clause-ok : goal.returns-then-count-eq0-clause-ok
returns-then-count-eq0-clause-ok g c = λ day unread before h.
    let then = c.serve_piece.new in
    let r = g.R.Read.remaining then.feed.device in
    let w = g.W.Write.contents then.sink.device in
    let ended : IsAtEnd r = search rules in
    let served = c.in_ok-count.ensures.ok day unread before (c.pieces.invariant.serves day unread before h) in
    serves_end day unread r before w (session_of then.console.next then.console.debugger) then.console.begun.items (c.pieces.left - c.in_ok-count.count) ended served

pub returns-clause-ok : goal.returns-clause-ok
returns-clause-ok g c = λ day unread before h.
    let now = c.pieces in
    let r = g.R.Read.remaining now.feed.device in
    let w = g.W.Write.contents now.sink.device in
    let over : is_none (session_of now.console.next now.console.debugger) ≡ true = search rules in
    serves_over day unread r before w (session_of now.console.next now.console.debugger) now.console.begun.items now.left over (now.invariant.serves day unread before h)
