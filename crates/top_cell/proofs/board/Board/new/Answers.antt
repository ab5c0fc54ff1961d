use Rattle.std.proofs.Common.{◌≡◌, ◌≤◌, ◌∙◌, ◌+◌, ℕ, Bool, List, filter, ap, arith, length, length-take-le, subst, take, take_all}
use Rattle.std.specs.List.{list_any, range_with_len}
use Rattle.std.proofs.lemmas.List.FromFn.{length-range_with_len}
use Rattle.std.proofs.lemmas.List.Sums.{count_by-le-length, length-filter}
use Rattle.itch_table.specs.Projection.{is_of_stock}
use Rattle.itch_table.specs.Shows.{locates_of_day}
use Rattle.std.proofs.lemmas.List.{length-map, take_more}
use Rattle.top_cell.specs.Boards.{AreNew}
use Rattle.top_cell.proofs.BoardCells.{day_apart, more_new, none_new}
use Rattle.top_cell.proofs.board.Board.new.Goals as goal

-- there are no more stocks than locate codes
few_kept : (p : ℕ → Bool) (a n : ℕ) → length (filter p (range_with_len a n)) ≤ n
few_kept p a n = omega (arith, length-filter p (range_with_len a n), count_by-le-length p (range_with_len a n), length-range_with_len a n)

few_stocks : (day : List (List ℕ)) → length (locates_of_day day) ≤ 0x1_0000
unfolding locates_of_day
few_stocks day = few_kept (λ locate. list_any (is_of_stock locate) day) 0 0x1_0000

pub overflow_cast-index : goal.overflow_cast-index
overflow_cast-index g c =
    let items = c.deref-locate-items.result.now in
    let at = c.loop-locate.locate-index in
    let ws = c.loop-locate.writers.items in
    let stood : length ws ≡ at = omega (arith, ap length c.loop-locate.invariant.stocks, length-map ws (λ w. w.place.locate), length-take-le at items (omega (arith, c.loop-locate-test.true))) in
    record { fits = omega (arith, stood, c.len-index.ensures, c.loop-locate.writers.ok.0, c.loop-locate-test.true, few_stocks c.args.day.now.payloads, ap length (c.deref-locate-items.ensures.value ∙ c.in_ok-locates.ensures)) }

pub loop-locate-init : goal.loop-locate-init
loop-locate-init g c = none_new _ _ _ c.in_ok-cells.ensures.items c.in_ok-writers.ensures.items

pub loop-locate-preserved : goal.loop-locate-preserved
loop-locate-preserved g c =
    let made = c.in_ok-cell.ensures in
    let items = c.deref-locate-items.result.now in
    let at = c.loop-locate.locate-index in
    more_new c.args.day.now.payloads (take at items) (take (at + 1) items) c.loop-locate.cells.items c.push.new.self.items c.loop-locate.writers.items c.push-in-loop-locate.new.self.items _ c.len-index.result c.in_ok-cell.cell c.in_ok-cell.writer c.loop-locate.invariant (omega (arith, c.len-index.ensures, c.loop-locate.writers.ok.0)) made.cell made.writer
    (take_more items at 0 c.loop-locate-test.true) c.in_ok-push.ensures.items c.in_ok-push-2.ensures.items

pub invariant_of-result : goal.invariant_of-result
invariant_of-result g c =
    let items = c.deref-locate-items.result.now in
    let all = take_all c.loop-locate.locate-index items (omega (arith, c.loop-locate-test.false)) in
    day_apart c.args.day.now.payloads c.loop-locate.cells.items c.loop-locate.writers.items
    (subst (λ (ls : List ℕ). AreNew c.args.day.now.payloads ls c.loop-locate.cells.items c.loop-locate.writers.items) (all ∙ c.deref-locate-items.ensures.value ∙ c.in_ok-locates.ensures) c.loop-locate.invariant)

pub returns : goal.returns
returns g c =
    let items = c.deref-locate-items.result.now in
    let all = take_all c.loop-locate.locate-index items (omega (arith, c.loop-locate-test.false)) in
    subst (λ (ls : List ℕ). AreNew c.args.day.now.payloads ls c.loop-locate.cells.items c.loop-locate.writers.items) (all ∙ c.deref-locate-items.ensures.value ∙ c.in_ok-locates.ensures) c.loop-locate.invariant
