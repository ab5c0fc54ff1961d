use Rattle.std.proofs.Common.{◌++◌, ◌∷◌, [], ℕ, List, map, ap, ap₂, ◌∙◌, subst}
use Rattle.std.proofs.lemmas.List.{map-append}
use Rattle.day_core.specs.declared.merging.Piece.{Piece}
use Rattle.day_core.specs.Merging.{IsMerged, IsMergeFault, joined}
use Rattle.day_core.proofs.MergedDay.{all_pieces, merged_is, only_memory}
use Rattle.stock_workers.proofs.running.outcomes_of.Goals as goal

pub returns-in-Ok : goal.returns-in-Ok
returns-in-Ok g c =
    let day = c.args.day.now.payloads in
    let last = c.in_ok-from_slice.ensures.items ∙ c.fixed.ensures ∙ c.requires.parts.fixed_are in
    let lists = ap (map (λ own. own.items)) c.in_ok-push.ensures.items ∙ map-append (λ own. own.items) c.args.by_worker.items _ ∙ ap₂ (λ (ps : List (List Piece)) (p : List Piece). ps ++ p ∷ []) c.requires.pieces last in
    let merged = subst (λ (ps : List (List Piece)). IsMerged c.len.result (joined ps) c.in-Ok.outcomes.items) lists c.in-Ok.ensures.merged in
    merged_is day c.args.parts.now.workers c.requires.parts.some c.in-Ok.outcomes.items (subst (λ (n : ℕ). IsMerged n (joined (all_pieces day c.args.parts.now.workers c.requires.parts.some)) c.in-Ok.outcomes.items) c.len.ensures merged)

pub unreachable-requires : goal.unreachable-requires
unreachable-requires g c =
    let day = c.args.day.now.payloads in
    let last = c.in_ok-from_slice.ensures.items ∙ c.fixed.ensures ∙ c.requires.parts.fixed_are in
    let lists = ap (map (λ own. own.items)) c.in_ok-push.ensures.items ∙ map-append (λ own. own.items) c.args.by_worker.items _ ∙ ap₂ (λ (ps : List (List Piece)) (p : List Piece). ps ++ p ∷ []) c.requires.pieces last in
    let fault = subst (λ (ps : List (List Piece)). IsMergeFault c.len.result (joined ps) c.in-Err.fault) lists (c.in-Err.ensures {u = tt}).fault in
    c.in_default.not-Memory (only_memory day c.args.parts.now.workers c.requires.parts.some c.in-Err.fault (subst (λ (n : ℕ). IsMergeFault n (joined (all_pieces day c.args.parts.now.workers c.requires.parts.some)) c.in-Err.fault) c.len.ensures fault))
