use Rattle.std.proofs.Common.{◌+◌}
use Rattle.itch_debug.specs.Answering.{break_line}
use Rattle.itch_debug.proofs.Replying.{added, came, replied}
use Rattle.itch_debug.proofs.answer.add_break.Goals as goal

pub returns-clause-reply : goal.returns-clause-reply
returns-clause-reply g c =
    let index = c.in_ok-index.index in
    let session = c.add_break.new.self in
    replied c.put_break_number.result c.args.text.now.items c.put_break_number.new.text.items (break_line (index + 1)) _ session
    (added c.args.debugger.now session c.args.breakpoint index c.in_ok-index.ensures.index c.in_ok-index.ensures.first c.in_ok-index.ensures.there c.in_ok-index.ensures.new) c.put_break_number.ensures

pub returns-clause-err : goal.returns-clause-err
returns-clause-err g c =
    let index = c.in_ok-index.index in
    let session = c.add_break.new.self in
    came c.put_break_number.result c.args.debugger.now (break_line (index + 1)) _ session
    (added c.args.debugger.now session c.args.breakpoint index c.in_ok-index.ensures.index c.in_ok-index.ensures.first c.in_ok-index.ensures.there c.in_ok-index.ensures.new)
