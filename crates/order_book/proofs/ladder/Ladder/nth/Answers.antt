use Rattle.std.proofs.Common.{◌≡◌, ◌-◌, ◌<◌, ℕ, List, get_or, length, reverse, ap, sym, ◌∙◌, arith}
use Rattle.std.proofs.lemmas.List.{get_or_past, get_or_read_under, get_or-reverse, length-reverse}
use Rattle.itch_table.specs.Levels.{no_level}
use Rattle.itch_table.specs.declared.order.Level.{Level}
use Rattle.order_book.proofs.Listed.{listed_is}
use Rattle.order_book.proofs.ladder.Ladder.nth.Goals as goal

pub returns-then-place-count : goal.returns-then-place-count
returns-then-place-count g c =
    let levels = c.self.inside.levels.items in
    let place = c.args.place in
    let long : c.len-count.result ≡ length levels = omega (arith, c.len-count.ensures) in
    let within : place < length levels = omega (arith, c.if-place-count.true, long) in
    rw (← c.self.view_is) (
    get_or_read_under levels _ c.len-count.result c.index.result.now no_level c.index.ensures (omega (arith, c.if-place-count.true)) long
    ∙ ap (λ (count : ℕ). get_or levels (count - 1 - place) no_level) long
    ∙ sym (get_or-reverse levels place no_level within)
    ∙ ap (λ (ls : List Level). get_or ls place no_level) (sym (listed_is c.self.inside.side levels c.self.invariant))
    )

pub returns-else-place-count : goal.returns-else-place-count
returns-else-place-count g c =
    let levels = c.self.inside.levels.items in
    let place = c.args.place in
    rw (← c.self.view_is) (sym (
    ap (λ (ls : List Level). get_or ls place no_level) (listed_is c.self.inside.side levels c.self.invariant)
    ∙ get_or_past (reverse levels) place no_level (omega (arith, c.if-place-count.false, c.len-count.ensures, length-reverse levels))
    ))
