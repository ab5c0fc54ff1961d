use Rattle.std.proofs.Common.{ℕ, List, ap, sym, ◌∙◌}
use Rattle.itch_table.specs.After.{after}
use Rattle.itch_table.specs.Shows.{top_after}
use Rattle.test_top_cell.proofs.Shown.{top_is}
use Rattle.test_top_cell.proofs.boards.publish_again.Goals as goal

pub publish-requires-clause-top : goal.publish-requires-clause-top
publish-requires-clause-top g c =
    let day = c.args._day.now.payloads in
    let n : ℕ = c.message.result in
    let stands = c.requires.world ∙ ap (after day) (sym c.requires.message ∙ sym c.message.ensures) in
    top_is day c.locate.result n _ _ stands c.top.ensures
    ∙ ap (λ (l : ℕ). top_after day l n) c.locate.ensures
    ∙ ap (λ (d : List (List ℕ)). top_after d c.args.writer.now.place.locate n) (sym c.requires.day_is)
