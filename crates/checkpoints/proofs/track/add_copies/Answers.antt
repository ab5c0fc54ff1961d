use Rattle.std.proofs.Common.{◌≡◌, ◌+◌, ◌*◌, ◌/◌, ◌++◌, ◌∷◌, [], List, length, ap, ◌∙◌, arith}
use Rattle.stock_machine.specs.StockRows.{StockMachine}
use Rattle.checkpoints.specs.Copies.{machine_after_own}
use Rattle.checkpoints.proofs.Along.{copies_more, copies_made, locate_is, numbers_self, room_left, stands_self}
use Rattle.checkpoints.proofs.track.add_copies.Goals as goal

pub loop-last-init : goal.loop-last-init
loop-last-init g c = record {
  kept =
      c.in_ok-add_copy.ensures {u = tt} ∙ ap (λ (ms : List StockMachine). ms ++ c.args.stock.now ∷ []) c.requires.none
      ∙ ap (λ (m : StockMachine). m ∷ []) c.requires.new;
  stands = c.requires.new;
}

pub advance-requires-clause-numbers : goal.advance-requires-clause-numbers
advance-requires-clause-numbers g c = numbers_self _ _ _ _ c.loop-last.invariant.stands _ c.requires.numbers

pub advance-requires-clause-from : goal.advance-requires-clause-from
advance-requires-clause-from g c = stands_self _ _ _ _ c.loop-last.invariant.stands

pub advance-requires-clause-to : goal.advance-requires-clause-to
advance-requires-clause-to g c = room_left _ _ _ c.loop-last-test.true

pub loop-last-preserved : goal.loop-last-preserved
loop-last-preserved g c =
    let day = c.args.day.now.payloads in
    let moved = c.in_ok-advance.ensures ∙ ap (λ l. machine_after_own day l ((c.loop-last.last + 1) * c.args.every)) (locate_is _ _ _ _ c.loop-last.invariant.stands) in
    record {
      kept = copies_more day c.args.locate c.args.every _ _ c.loop-last.invariant.kept _ _ moved (c.in_ok-add_copy-2.ensures {u = tt});
      stands = moved;
    }

pub returns : goal.returns
returns g c =
    let all = ap length c.requires.numbers in
    copies_made c.args.day.now.payloads c.args.locate c.args.every c.loop-last.last _
    (let last : c.loop-last.last ≡ length c.args.numbers.now / c.args.every = omega arith in last ∙ ap (λ n. n / c.args.every) all)
    c.loop-last.invariant.kept
