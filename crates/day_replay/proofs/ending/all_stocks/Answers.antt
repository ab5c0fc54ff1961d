use Rattle.std.proofs.Common.{◌≡◌, ◌++◌, ◌∷◌, [], List, ap, sym, ◌∙◌, arith}
use Rattle.stock_machine.specs.StockRows.{StockMachine}
use Rattle.day_replay.proofs.LastMachines.{below_all, below_none, below_some, found_first, found_in, machines_below}
use Rattle.day_replay.proofs.ending.all_stocks.Goals.{in-Some+in_ok-push, in_default}
use Rattle.day_replay.proofs.ending.all_stocks.Goals as goal

pub loop-locate-init : goal.loop-locate-init
loop-locate-init g c = (c.requires, λ day has. (found_first day c.args.batches.items has, c.new-stocks.ensures.items))

pub loop-locate-preserved : goal.loop-locate-preserved
loop-locate-preserved g c = (
  c.take_out.ensures.long,
  λ day has.
      let inv = c.loop-locate.invariant.1 day has in
      let locate = c.loop-locate.locate in
      let took = c.take_out.ensures.took (found_in day) inv.0 in (
        c.take_out.ensures.left (found_in day) inv.0,
        elim c.match-take_out.branch [
          | in-Some+in_ok-push w ↦
              ap (λ v. v.items) w.stocks-is ∙ (w.in_ok-push.ensures {u = tt}).items
              ∙ ap (λ (ms : List StockMachine). ms ++ w.in-Some.stock ∷ []) inv.1
              ∙ sym (below_some day locate w.in-Some.stock (sym w.in-Some.is ∙ took))
          | in_default w ↦
              ap (λ v. v.items) w.stocks-is ∙ inv.1 ∙ sym (below_none day locate (sym w.in_default.is ∙ took))
        ],
      ),
)

pub returns : goal.returns
returns g c = λ day has.
    let done : c.loop-locate.locate ≡ 0x1_0000 = omega (arith, c.loop-locate-test.false, c.loop-locate.auto.locate-end) in
    (c.loop-locate.invariant.1 day has).1 ∙ ap (machines_below day) done ∙ below_all day
