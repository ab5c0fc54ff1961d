use Rattle.std.proofs.Common.{◌∙◌, ◌++◌, ℕ, List, Option, arith, sym, ap, subst}
use Rattle.std.proofs.lemmas.List.{length-append}
use Rattle.std.specs.Option.{option_or}
use Rattle.itch_readings.specs.Naming.{symbol_by}
use Rattle.itch_readings.proofs.Listing.{IsListing, listing_begins, listing_ends, listing_goes_on, listing_passes, messages_fit}
use Rattle.itch_readings.proofs.naming.list_more.Goals as goal
use Rattle.itch_readings.proofs.naming.list_more.Goals.{in-Some-symbol, in-None-symbol}

pub loop-payload-init : goal.loop-payload-init
loop-payload-init g c = λ before are.
    let all = c.into_iter-payload-iterator.ensures.into_iter_gives ∙ c.payloads-payload-items.ensures.payloads in
    subst (λ (rest : List (List ℕ)). IsListing (before ++ c.args.segment.now.payloads) rest c.args.listed.now.items) (sym all)
    (listing_begins before c.args.segment.now.payloads c.args.listed.now.items are)

pub index-before-requires : goal.index-before-requires
index-before-requires g c =
    let so_far = c.loop-payload.invariant c.requires.0 c.requires.1 in
    omega (arith, so_far.are.long)

pub overflow_add-before : goal.overflow_add-before
overflow_add-before g c =
    let before = c.requires.0 in
    let day = before ++ c.args.segment.now.payloads in
    let fits = messages_fit day c.loop-payload.payload-iterator c.loop-payload.listed.items (c.loop-payload.invariant before c.requires.1) c.in-Some.payload.now _
    ((c.in-Some.ensures {u = tt}).steps) c.in-Locate.locate (c.in-Locate.ensures {u = tt}) (omega arith) c.index-before.result.now c.index-before.ensures in
    record { fits = omega (arith, fits, length-append before c.args.segment.now.payloads, c.requires.2) }

pub index_mut-requires : goal.index_mut-requires
index_mut-requires g c =
    let so_far = c.loop-payload.invariant c.requires.0 c.requires.1 in
    omega (arith, so_far.are.long)

pub loop-payload-preserved-in-Locate : goal.loop-payload-preserved-in-Locate
loop-payload-preserved-in-Locate g c = λ before are.
    listing_goes_on (before ++ c.args.segment.now.payloads) c.loop-payload.payload-iterator c.loop-payload.listed.items (c.loop-payload.invariant before are) c.in-Some.payload.now _
    ((c.in-Some.ensures {u = tt}).steps) c.in-Locate.locate (c.in-Locate.ensures {u = tt}) (omega arith) c.index-before.result.now c.index-before.ensures
    c.match-before.symbol (elim c.match-before.branch [
      | in-Some-symbol w ↦ w.symbol-is ∙ ap (λ (own : Option (List ℕ)). option_or own (symbol_by c.in-Some.payload.now)) (sym w.in-Some-symbol.is)
      | in-None-symbol w ↦
          w.symbol-is ∙ w.symbol_in-symbol.ensures
          ∙ ap (λ (own : Option (List ℕ)). option_or own (symbol_by c.in-Some.payload.now)) (sym w.in-None-symbol.is)
    ])

pub loop-payload-preserved : goal.loop-payload-preserved
loop-payload-preserved g c = λ before are.
    listing_passes (before ++ c.args.segment.now.payloads) c.loop-payload.payload-iterator c.loop-payload.listed.items (c.loop-payload.invariant before are) c.in-Some.payload.now _
    ((c.in-Some.ensures {u = tt}).steps) _ (c.in_default.ensures {u = tt})

pub returns : goal.returns
returns g c = λ before are.
    listing_ends (before ++ c.args.segment.now.payloads) c.loop-payload.payload-iterator c.loop-payload.listed.items (c.loop-payload.invariant before are) ((c.in-None.ensures {u = tt}).steps.0)
