use Rattle.std.proofs.Common.{◌≡◌, ◌++◌, ◌∷◌, ◌-◌, ◌+◌, ◌<◌, [], ℕ, List, Bool, true, false, cond, length, get_or, filter, refl, ap, sym, subst, ◌∙◌, arith, rules, tests, append-nil}
use Rattle.std.specs.List.{range_with_len}
use Rattle.std.proofs.lemmas.List.{get_or_default}
use Rattle.itch_table.specs.Parts.{part}
use Rattle.day_core.proofs.FilteredRanges.{kept_more}
use Rattle.day_core.proofs.SeenStocks.{AreSeen, locates_are, seen_none, seen_nowhere, seen_own}
use Rattle.day_core.proofs.seeing.locates.Goals as goal
use Rattle.day_core.proofs.seeing.locates.Goals.{in-Locate, in_default, then-is_seen+in_ok-push, else-is_seen}

pub loop-before-init : goal.loop-before-init
loop-before-init g c = seen_none _ _ 0x1_0000 refl (c.in_ok-seen.ensures.items_if_clones_equal (λ y is. search rules))

pub loop-before-preserved : goal.loop-before-preserved
loop-before-preserved g c =
    let day = c.args.day.now.payloads in
    let n = c.loop-before.before in
    let more : n < length day = omega (arith, c.loop-before-test.true, c.len-before-end.ensures) in
    let payload = c.payload.ensures ∙ ap (λ (k : ℕ). get_or day k c.payload.result.now) (let same : n + 1 - 1 ≡ n = omega arith in same) ∙ get_or_default day n c.payload.result.now [] more in
    let read = c.part.ensures ∙ ap part payload in
    elim c.match-part.branch [
      | in-Locate w ↦ rw (w.seen-is, w.from.ensures) (seen_own day n c.loop-before.seen.items c.loop-before.invariant more w.in-Locate.locate (sym w.in-Locate.is ∙ read))
      | in_default w ↦ rw w.seen-is (seen_nowhere day n c.loop-before.seen.items c.loop-before.invariant more (λ locate is. w.in_default.not-Locate locate (read ∙ is)))
    ]

pub loop-locate-init : goal.loop-locate-init
loop-locate-init g c = c.new-locates.ensures.items

pub loop-locate-preserved : goal.loop-locate-preserved
loop-locate-preserved g c =
    let n : ℕ = c.loop-locate.locate in
    let seen : List Bool = c.deref-is_seen-items.result.now in
    let kept : ℕ → Bool = λ locate. get_or seen locate false in
    let more = kept_more kept 0 n n (omega arith) in
    elim c.if-is_seen.branch [
      | then-is_seen+in_ok-push w ↦
          let tested : kept n ≡ true = search (rules, tests) in
          ap (λ v. v.items) w.locates-is ∙ w.in_ok-push.ensures.items ∙ ap (λ (l : List ℕ). l ++ n ∷ []) c.loop-locate.invariant
          ∙ sym (more ∙ ap (λ (b : Bool). filter kept (range_with_len 0 n) ++ cond b (n ∷ []) []) tested)
      | else-is_seen w ↦
          let tested : kept n ≡ false = search (rules, tests) in
          ap (λ v. v.items) w.locates-is ∙ c.loop-locate.invariant
          ∙ sym (more ∙ ap (λ (b : Bool). filter kept (range_with_len 0 n) ++ cond b (n ∷ []) []) tested ∙ append-nil (filter kept (range_with_len 0 n)))
    ]

pub returns : goal.returns
returns g c =
    let day = c.args.day.now.payloads in
    let before = c.loop-before in
    let done : before.before ≡ length day = omega (arith, c.loop-before-test.false, before.auto.before-end, c.len-before-end.ensures) in
    let seen = subst (λ (n : ℕ). AreSeen day n before.seen.items) done before.invariant in
    let whole : c.loop-locate.locate ≡ 0x1_0000 = omega (arith, c.loop-locate-test.false, c.loop-locate.auto.locate-end, before.invariant.long, ap length c.deref-is_seen-items.ensures.value) in
    c.loop-locate.invariant ∙ ap (λ (n : ℕ). filter (λ (locate : ℕ). get_or c.deref-is_seen-items.result.now locate false) (range_with_len 0 n)) whole
    ∙ ap (λ (bs : List Bool). filter (λ (locate : ℕ). get_or bs locate false) (range_with_len 0 0x1_0000)) c.deref-is_seen-items.ensures.value
    ∙ locates_are day before.seen.items seen
