use Rattle.std.proofs.Common.{◌≡◌, ◌+◌, ◌<◌, ◌≤◌, ◌/◌, get_or, length, sym, ap, ◌∙◌, arith}
use Rattle.std.specs.FinMap as maps
use Rattle.std.proofs.lemmas.List.{get_or_default}
use Rattle.order_book.specs.declared.rising.RisenRow.{RisenRow}
use Rattle.order_book.specs.Parts.{has_shares, live_in}
use Rattle.order_book.proofs.ReferenceSearch.{all_above, all_below, missing, no_row, none_has}
use Rattle.order_book.proofs.RisingLists.{gone}
use Rattle.order_book.proofs.rising.index_of.Goals as goal
use Rattle.order_book.proofs.rising.index_of.Goals.{then-from-distance, else-from-distance, else-count-eq1-via-then-count-eq1+then-from-distance-2+else-is_live, else-count-eq1-via-then-count-eq1+else-from-distance-2, else-count-eq1-via-else-count-eq1}

pub loop-count-preserved : goal.loop-count-preserved
loop-count-preserved c =
    let rows = c.args.rows.now in
    let low = c.loop-count.low in
    let half = c.loop-count.count / 2 in
    let before = c.loop-count.invariant in
    let more : half < c.loop-count.count = omega (arith, c.loop-count-test.true) in
    let inside : low + half < length rows = omega (arith, more, before.within) in
    elim c.if-from-distance.branch [
      | then-from-distance w ↦ rw w.low-is (record {
        within = omega (arith, more, before.within);
        below = all_below rows c.in_ok-distance.distance (low + half) _ c.requires inside (rw c.from.ensures at w.if-from-distance.true);
        above = λ k d from. before.above k d (omega (arith, more, from));
      })
      | else-from-distance w ↦ rw w.low-is (record {
        within = omega (arith, more, before.within);
        below = before.below;
        above = λ k d from. all_above rows c.in_ok-distance.distance (low + half) no_row c.requires inside (omega (arith, c.from.ensures, w.if-from-distance.false)) k d (omega (arith, more, from));
      })
    ]

-- the reference is below the first
pub returns-in_err-distance-clause-none : goal.returns-in_err-distance-clause-none
returns-in_err-distance-clause-none c =
    rw c.from_residual.ensures (none_has c.args.first c.args.reference c.args.rows.now (λ k d within same. c.in_err-distance.ensures (omega (arith, same))))

-- the one order of the window has gone, or is at another distance, or there is none
pub returns-else-count-eq1-clause-none : goal.returns-else-count-eq1-clause-none
returns-else-count-eq1-clause-none c =
    let first = c.args.first in
    let reference = c.args.reference in
    let rows = c.args.rows.now in
    let distance = c.in_ok-distance.distance in
    let at : first + distance ≡ reference = omega (arith, c.in_ok-distance.ensures) in
    let low = c.loop-count.low in
    let count = c.loop-count.count in
    let before = c.loop-count.invariant in
    let one : count ≤ 1 = omega (arith, c.loop-count-test.false) in
    let row = get_or rows low no_row in
    elim c.else-count-eq1.branch [
      | else-count-eq1-via-then-count-eq1+then-from-distance-2+else-is_live w ↦
          let within : low < length rows = omega (arith, w.if-count-eq1.true, before.within) in
          let same : first + row.distance ≡ reference = ap (λ d. first + d) (sym w.from-then-count-eq1.ensures ∙ w.if-from-distance-2.true) ∙ at in
          ap (maps.get (live_in first rows)) (sym same)
          ∙ gone first rows low row c.requires within (get_or_default rows low _ row within) (sym (w.if-is_live.ensures ∙ ap has_shares (get_or_default rows low _ no_row within)))
      | else-count-eq1-via-then-count-eq1+else-from-distance-2 w ↦
          missing first reference rows distance low count at one before.below before.above (λ only d same.
          let within : low < length rows = omega (arith, only, before.within) in
          w.if-from-distance-2.false (w.from-then-count-eq1.ensures ∙ ap (λ (r : RisenRow). r.distance) (get_or_default rows low _ d within) ∙ same))
      | else-count-eq1-via-else-count-eq1 w ↦
          missing first reference rows distance low count at one before.below before.above (λ only. absurd (w.if-count-eq1.false only))
    ]
