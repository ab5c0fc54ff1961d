use Rattle.itch_dis.proofs.Extended.{ends, if_ok}
use Rattle.itch_dis.proofs.day_text.DayTextPrinting.print_end.Goals as goal

pub returns : goal.returns
returns g c =
    let self = c.args.self.now in
    if_ok _ _ c.closing_text.result (λ more is first read text before carried. ends first.extent self.extent self.end read text before more.items c.args.carried.now is carried) c.closing_text.ensures
