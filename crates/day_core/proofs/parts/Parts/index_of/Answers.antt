use Rattle.std.proofs.Common.{◌≡◌, ◌<◌, MatchOption, ℕ, List, length, get_or, ap, sym, subst, ◌∙◌}
use Rattle.std.specs.List.{Contains}
use Rattle.std.specs.List.Sorted.{IsStrictlyIncreasing}
use Rattle.day_core.specs.Splitting.{DayParts}
use Rattle.day_core.proofs.LocateCodes.{code_found}
use Rattle.day_core.proofs.parts.Parts.index_of.Goals as goal

pub returns : goal.returns
returns g c =
    subst (λ (ls : List ℕ). MatchOption c.ok.result (¬ Contains ls c.args.locate) (λ index. (index < length ls) × (get_or ls index 0 ≡ c.args.locate)))
    (c.deref.ensures.value ∙ ap (λ (p : DayParts). p.locates) c.self.view_is)
    (code_found c.deref.result.now c.args.locate c.binary_search.result c.ok.result (subst IsStrictlyIncreasing (sym c.deref.ensures.value) c.self.invariant) c.ok.ensures.value c.binary_search.ensures.position)
