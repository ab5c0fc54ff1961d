use Rattle.std.proofs.Common.{◌∙◌, sym, ap}
use Rattle.std.proofs.lemmas.Result.{on_ok_weaker}
use Rattle.itch_layouts.specs.declared.message.Replace.{Replace}
use Rattle.itch_readings.specs.OrderHistory.{first_by}
use Rattle.itch_readings.specs.OrderLives.{earlier_reference}
use Rattle.std.specs.Prelude.{Option}
use Rattle.itch_readings.proofs.LinkedLives.{linked}
use Rattle.itch_readings.proofs.lives.Lives.take.Goals as goal

pub returns-in-Some : goal.returns-in-Some
returns-in-Some g c = on_ok_weaker c.link.result
    (λ puts reference.
    linked c.args.self.now.firsts c.link.new.self.firsts c.in-Some.message puts reference
    ∙ ap (λ (m : Option Replace). first_by c.args.self.now.firsts (earlier_reference m reference)) (sym c.in-Some.is ∙ c.replacement_in.ensures))
    c.link.ensures

pub returns-in-None : goal.returns-in-None
returns-in-None g c = λ reference.
    ap (λ (m : Option Replace). first_by c.args.self.now.firsts (earlier_reference m reference)) (sym c.in-None.is ∙ c.replacement_in.ensures)
