use Rattle.std.proofs.Common.{◌-◌, List, length, ap, sym, ◌∙◌}
use Rattle.std.specs.List.{slice_get}
use Rattle.std.specs.Option.{unwrap_or}
use Rattle.itch_table.specs.Levels.{first_level, no_level}
use Rattle.itch_table.specs.declared.order.Level.{Level}
use Rattle.order_book.proofs.Listed.{last_is_first, listed_is}
use Rattle.order_book.proofs.ladder.Ladder.best.Goals as goal

pub returns : goal.returns
returns g c =
    let levels = c.self.inside.levels.items in
    rw (← c.self.view_is) (
    c.unwrap_or.ensures ∙ ap (λ o. unwrap_or o no_level) (c.copied.ensures ∙ c.last.ensures.value)
    ∙ ap (λ (ls : List Level). unwrap_or (slice_get ls (length ls - 1)) no_level) c.deref.ensures.value
    ∙ last_is_first levels ∙ ap first_level (sym (listed_is c.self.inside.side levels c.self.invariant))
    )
