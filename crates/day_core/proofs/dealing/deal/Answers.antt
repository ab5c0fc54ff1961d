use Rattle.std.proofs.Common.{◌≡◌, ◌+◌, ◌-◌, ◌<◌, ◌^◌, ℕ, length, get_or, map, refl, ap, sym, subst, ◌∙◌, arith}
use Rattle.std.specs.List.Sorted.{IsStrictlyIncreasing}
use Rattle.std.proofs.lemmas.List.{length-map}
use Rattle.std.proofs.lemmas.List.FromFn.{length-map-range_with_len}
use Rattle.std.proofs.lemmas.Nat.{mod_below}
use Rattle.itch_table.proofs.DayLocates.{rising}
use Rattle.day_core.specs.Owners.{own_until}
use Rattle.day_core.proofs.DealtDay.{AreDealt, all_dealt, dealt_fixed, dealt_none, dealt_own, part_read}
use Rattle.day_core.proofs.dealing.deal.Goals.{in-Locate+in_ok-give-in-Locate, in-Nowhere+in_ok-push-in-Nowhere}
use Rattle.day_core.proofs.dealing.deal.Goals as goal

pub loop-before-init : goal.loop-before-init
loop-before-init g c = dealt_none _ _ _ _ _ c.in_ok-own.ensures c.new-fixed.ensures.items refl

pub loop-before-preserved : goal.loop-before-preserved
loop-before-preserved g c =
    let day = c.args.day.now.payloads in
    let n = c.loop-before.before in
    let more : n < length day = omega (arith, c.loop-before-test.true, c.len-before-end.ensures) in
    let before = c.loop-before.invariant in
    let read = part_read day c.args.whose.now c.requires n _ more in
    elim c.match-whose-before.branch [
      | in-Locate+in_ok-give-in-Locate w ↦
          rw (w.own-is, w.fixed-is, w.event-is, w.in_ok-give-in-Locate.ensures, w.from.ensures)
          (dealt_own _ _ _ _ _ _ before more w.in-Locate.locate (sym w.in-Locate.is ∙ read) c.get-count.ensures.some)
      | in-Nowhere+in_ok-push-in-Nowhere w ↦
          let payload = w.payload.ensures ∙ ap (λ (k : ℕ). get_or day k w.payload.result.now) (let same : n + 1 - 1 ≡ n = omega arith in same) in
          rw (w.own-is, w.fixed-is, w.event-is, w.in_ok-push-in-Nowhere.ensures.items, w.event_after-event.ensures)
          (dealt_fixed _ _ _ _ _ _ before more w.in-Nowhere.outcome (sym w.in-Nowhere.is ∙ read) w.payload.result.now payload)
    ]

pub give-requires : goal.give-requires
give-requires g c =
    let count = c.get-count.result in
    let own = λ (worker : ℕ). own_until count worker c.args.day.now.payloads c.loop-before.before in
    omega (
      arith,
      mod_below c.from.result count (omega (arith, c.get-count.ensures)),
      ap length c.loop-before.invariant.own_are ∙ length-map-range_with_len own 0 count,
      length-map c.loop-before.own.items (λ own. own.items),
    )

pub invariant_of-result : goal.invariant_of-result
invariant_of-result g c = subst IsStrictlyIncreasing (sym c.in_ok-locates.ensures) (rising c.args.day.now.payloads)

pub returns-clause-parts : goal.returns-clause-parts
returns-clause-parts g c =
    let day = c.args.day.now.payloads in
    let now = c.loop-before in
    let own = map (λ o. o.items) now.own.items in
    let done : now.before ≡ length day = omega (arith, c.loop-before-test.false, now.auto.before-end, c.len-before-end.ensures) in
    let few : length day < 2 ^ 32 = omega (arith, c.len-before-end.ensures, c.len-before-end.type_inv) in
    all_dealt day _ (omega (arith, c.get-count.ensures)) few
    (subst (λ (n : ℕ). AreDealt day c.args.workers n own now.fixed.items now.event) done
    (subst (λ (w : ℕ). AreDealt day w now.before own now.fixed.items now.event) c.get-count.ensures.value now.invariant)) c.in_ok-locates.ensures
