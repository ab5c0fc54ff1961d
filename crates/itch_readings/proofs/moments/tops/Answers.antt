use Rattle.std.proofs.Common.{◌≡◌, ℕ, ◌+◌, ◌≤◌, List, [], ◌∷◌, ◌++◌, drop, length, ap, sym, ◌∙◌, arith}
use Rattle.std.proofs.lemmas.List.{length-drop}
use Rattle.itch_table.specs.Parts.{part}
use Rattle.itch_table.specs.Projection.{only, payload_at}
use Rattle.itch_table.specs.Levels.{top}
use Rattle.itch_table.specs.World.{orders_of}
use Rattle.itch_table.proofs.Days.{after-none}
use Rattle.itch_table.proofs.StockDays.{only-empty, other_part, own_part}
use Rattle.itch_readings.specs.declared.moments.Moment.{Moment}
use Rattle.itch_readings.specs.Tops.{tops_until, moment, time_of}
use Rattle.itch_readings.proofs.GoesOn.{left_then, one_more, payload-is}
use Rattle.itch_readings.proofs.NextMoment.{moment-is, next-is, next-is-not, other_rows, own_rows}
use Rattle.itch_readings.proofs.moments.tops.Goals as goal

pub loop-payload-init : goal.loop-payload-init
loop-payload-init g c =
    record {
      within = omega arith;
      left = c.into_iter-payload-iterator.ensures.into_iter_gives ∙ c.payloads-payload-items.ensures.payloads;
      tops = c.new-tops.ensures.items;
      locate = c.new-stock.ensures.locate;
      world = c.new-stock.ensures.world ∙ sym (only-empty c.args.locate) ∙ ap (only c.args.locate) (sym (after-none c.args.day.now.payloads));
      steps = omega (arith, c.new-stock.ensures.steps);
    }

pub loop-payload-preserved-in-Continue-branch-2 : goal.loop-payload-preserved-in-Continue-branch-2
loop-payload-preserved-in-Continue-branch-2 g c =
    let day = c.args.day.now.payloads in
    let locate = c.args.locate in
    let before = c.loop-payload.invariant in
    let n : ℕ = c.loop-payload.message in
    let payload = c.in-Some.payload.now in
    let goes_on : drop n day ≡ payload ∷ c.next.new.self = sym before.left ∙ (c.in-Some.ensures {u = tt}).steps in
    let is_own = sym c.is_of_stock.ensures ∙ c.if-is_of_stock.true in
    let took = c.in_ok-step.ensures {u = tt} in
    let world = own_rows day c.next.new.self n payload goes_on locate _ _ _ c.stocks_are_independent.ensures.own (own_part locate (part payload) is_own) before.world took.ok in
    let stays : c.step.new.self.locate ≡ locate = c.step.ensures.locate ∙ before.locate in
    let at : c.time_in.result ≡ time_of (payload_at day (n + 1)) = c.time_in.ensures ∙ ap time_of (sym (payload-is day c.next.new.self n payload goes_on)) in
    let shown = moment-is day locate (n + 1) _ _ _ c.own_rows_suffice.ensures.orders at world (c.top.ensures ∙ ap (λ (l : ℕ). top (orders_of c.step.new.self.world l)) stays) in
    record {
      within = one_more day c.next.new.self n payload goes_on;
      left = left_then day c.next.new.self n payload goes_on;
      tops =
          (c.in_ok-push.ensures {u = tt}).items
          ∙ ap (λ (m : Moment). c.loop-payload.tops.items ++ m ∷ []) shown
          ∙ ap (λ (ms : List Moment). ms ++ moment day locate (n + 1) ∷ []) before.tops
          ∙ sym (next-is day c.next.new.self n payload goes_on locate is_own);
      locate = stays;
      world = world;
      steps = omega (arith, took.steps, before.steps);
    }

pub loop-payload-preserved : goal.loop-payload-preserved
loop-payload-preserved g c =
    let day = c.args.day.now.payloads in
    let locate = c.args.locate in
    let before = c.loop-payload.invariant in
    let n : ℕ = c.loop-payload.message in
    let payload = c.in-Some.payload.now in
    let goes_on : drop n day ≡ payload ∷ c.next.new.self = sym before.left ∙ (c.in-Some.ensures {u = tt}).steps in
    let is_other = sym c.is_of_stock.ensures ∙ c.if-is_of_stock.false in
    record {
      within = one_more day c.next.new.self n payload goes_on;
      left = left_then day c.next.new.self n payload goes_on;
      tops = before.tops ∙ sym (next-is-not day c.next.new.self n payload goes_on locate is_other);
      locate = before.locate;
      world = other_rows day c.next.new.self n payload goes_on locate _ c.stocks_are_independent.ensures.others (other_part locate (part payload) is_other) before.world;
      steps = omega (arith, before.steps);
    }

-- no payload is left after as many as there are
all_of : (day rest : List (List ℕ)) (n : ℕ) → n ≤ length day → rest ≡ drop n day → rest ≡ [] → n ≡ length day
all_of day rest n within left none = omega (arith, ap length (sym left ∙ none), length-drop n day)

pub returns : goal.returns
returns g c =
    let before = c.loop-payload.invariant in
    before.tops ∙ ap (tops_until c.args.day.now.payloads c.args.locate) (all_of c.args.day.now.payloads _ _ before.within before.left ((c.in-None.ensures {u = tt}).steps.0))
