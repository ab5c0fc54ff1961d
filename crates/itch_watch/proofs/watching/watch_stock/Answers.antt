use Rattle.std.proofs.Common.{◌≡◌, List, ℕ, length, map, ap, subst, sym, ◌∙◌, arith}
use Rattle.std.specs.List.{Contains}
use Rattle.std.proofs.lemmas.List.{length-map}
use Rattle.std.proofs.lemmas.Result.{IfOk-at_ok, IfOk-weaker}
use Rattle.itch_table.proofs.DayLocates.{members}
use Rattle.itch_table.specs.Shows.{locates_of_day}
use Rattle.stock_workers.specs.Running.{at_last}
use Rattle.day_core.specs.Owners.{last_message}
use Rattle.itch_watch.specs.Watching.{AreSeen, AreSeenToTheEnd, IsReading}
use Rattle.itch_watch.proofs.WriterAfterRun.{ends, quiet_at, screens_day}
use Rattle.itch_watch.proofs.NoLaterMessage.{some_last}
use Rattle.itch_watch.proofs.watching.watch_stock.Goals as goal

pub screen_of-index-requires-clause-stock : goal.screen_of-index-requires-clause-stock
screen_of-index-requires-clause-stock g c =
    subst (λ (ls : List ℕ). Contains ls c.args.locate) (sym c.in_ok-board.ensures.stocks)
    ((members c.args.day.now.payloads c.requires.bytes c.args.locate).1 c.requires.stock)

pub index_mut-requires : goal.index_mut-requires
index_mut-requires g c =
    let all = IfOk-at_ok (λ last. last.items ≡ map (at_last c.args.day.now.payloads) c.screen_of-index.new.writers.items) c.in_ok-writers.was c.look_and_replay-readings.ensures.ends in
    omega (
      arith,
      c.screen_of-index.ensures.own.within,
      ap length c.screen_of-index.ensures.same,
      ap length all,
      length-map c.screen_of-index.new.writers.items (at_last c.args.day.now.payloads),
      c.in_ok-writers.writers.ok.0,
    )

pub last_reading-last-requires-clause-own : goal.last_reading-last-requires-clause-own
last_reading-last-requires-clause-own g c =
    let day = c.args.day.now.payloads in
    let all = IfOk-at_ok (λ last. last.items ≡ map (at_last day) c.screen_of-index.new.writers.items) c.in_ok-writers.was c.look_and_replay-readings.ensures.ends in
    (ends day (locates_of_day day) c.in_ok-board.board c.in_ok-board.writers.items _ _ c.args.locate c.screen_of-index.result.0 _ c.index_mut.result.now
    c.in_ok-board.ensures c.screen_of-index.ensures.own c.screen_of-index.ensures.same all c.index_mut.ensures.value).on

pub last_reading-last-requires-clause-quiet : goal.last_reading-last-requires-clause-quiet
last_reading-last-requires-clause-quiet g c =
    let day = c.args.day.now.payloads in
    let all = IfOk-at_ok (λ last. last.items ≡ map (at_last day) c.screen_of-index.new.writers.items) c.in_ok-writers.was c.look_and_replay-readings.ensures.ends in
    quiet_at day c.in_ok-board.board c.args.locate c.index_mut.result.now
    (ends day (locates_of_day day) c.in_ok-board.board c.in_ok-board.writers.items _ _ c.args.locate c.screen_of-index.result.0 _ c.index_mut.result.now
    c.in_ok-board.ensures c.screen_of-index.ensures.own c.screen_of-index.ensures.same all c.index_mut.ensures.value)

pub to_the_end-requires : goal.to_the_end-requires
to_the_end-requires g c =
    let day = c.args.day.now.payloads in
    let all = IfOk-at_ok (λ last. last.items ≡ map (at_last day) c.screen_of-index.new.writers.items) c.in_ok-writers.was c.look_and_replay-readings.ensures.ends in
    let end = ends day (locates_of_day day) c.in_ok-board.board c.in_ok-board.writers.items _ _ c.args.locate c.screen_of-index.result.0 _ c.index_mut.result.now
    c.in_ok-board.ensures c.screen_of-index.ensures.own c.screen_of-index.ensures.same all c.index_mut.ensures.value in
    record { some = omega (arith, some_last day c.args.locate c.requires.stock, end.message_is, c.last_reading-last.ensures.message) }

pub returns : goal.returns
returns g c =
    let day = c.args.day.now.payloads in
    let new = c.in_ok-board.ensures in
    let screen = c.screen_of-index.ensures.own in
    let all = IfOk-at_ok (λ last. last.items ≡ map (at_last day) c.screen_of-index.new.writers.items) c.in_ok-writers.was c.look_and_replay-readings.ensures.ends in
    let end = ends day (locates_of_day day) c.in_ok-board.board c.in_ok-board.writers.items _ _ c.args.locate c.screen_of-index.result.0 _ c.index_mut.result.now
    new screen c.screen_of-index.ensures.same all c.index_mut.ensures.value in
    let own = c.screen_of-index.result.1.place in
    let own_day : own.day ≡ day = screens_day day (locates_of_day day) c.in_ok-board.board c.in_ok-board.writers.items c.args.locate _ own c.index_mut.result.now new screen in
    let seen = IfOk-at_ok (λ r. AreSeen own.day own.locate r.items) c.in_ok-readings.was c.look_and_replay-readings.ensures.seen in
    let last = c.last_reading-last.ensures.shows in
    IfOk-weaker c.to_the_end.result
    (λ made. (day : List (List ℕ)) (locate : ℕ) → AreSeen day locate c.in_ok-readings.field-0.items → IsReading day locate c.last_reading-last.result
    → c.last_reading-last.result.message ≡ last_message day locate → AreSeenToTheEnd day locate made.items)
    (λ made. AreSeenToTheEnd day c.args.locate made.items)
    (λ made sees. sees day c.args.locate (rw (own_day, screen.stock) at seen) (rw (end.day_is, end.stock_is) at last) (c.last_reading-last.ensures.message ∙ end.message_is))
    c.to_the_end.ensures
