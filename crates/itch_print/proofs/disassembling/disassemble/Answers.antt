use Rattle.itch_print.proofs.RoundTrip.{text_denotes}
use Rattle.itch_print.proofs.disassembling.disassemble.Goals as goal

pub returns-clause-denotes : goal.returns-clause-denotes
returns-clause-denotes g c =
    let file = c.bytes.ensures in
    text_denotes c.bytes.result.now _ c.put_day.new.text.items c.args.day.now file.are file.split c.in_ok-text.ensures.items c.in_ok-put_day.ensures
