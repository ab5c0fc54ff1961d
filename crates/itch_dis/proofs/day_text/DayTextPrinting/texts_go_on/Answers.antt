use Rattle.itch_dis.proofs.Extended.{begins, is_all}
use Rattle.itch_dis.proofs.day_text.DayTextPrinting.texts_go_on.Goals as goal

pub returns-clause-leads : goal.returns-clause-leads
returns-clause-leads g c = λ first now read next text given whole before split right.
    begins first.extent now.extent now.end read text before next given whole split right

pub returns-clause-enough : goal.returns-clause-enough
returns-clause-enough g c = λ first now read next text given whole before split suffices right.
    is_all first.extent now.extent now.end read text before next whole suffices right
