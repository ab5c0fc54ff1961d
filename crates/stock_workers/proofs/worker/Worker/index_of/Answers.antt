use Rattle.std.proofs.Common.{◌≡◌, ◌<◌, MatchOption, ℕ, List, length, get_or, ap, sym, subst, ◌∙◌}
use Rattle.std.specs.List.{Contains}
use Rattle.std.specs.List.Sorted.{IsStrictlyIncreasing}
use Rattle.day_core.proofs.LocateCodes.{code_found}
use Rattle.stock_workers.specs.Working.{codes_of}
use Rattle.stock_workers.proofs.worker.Worker.index_of.Goals as goal

pub returns : goal.returns
returns g c =
    subst (λ (ls : List ℕ). MatchOption c.ok.result (¬ Contains ls c.args.locate) (λ index. (index < length ls) × (get_or ls index 0 ≡ c.args.locate)))
    (c.deref.ensures.value ∙ c.self.invariant.1 ∙ ap codes_of c.self.view_is)
    (code_found c.deref.result.now c.args.locate c.binary_search.result c.ok.result (subst IsStrictlyIncreasing (sym c.deref.ensures.value) c.self.invariant.0) c.ok.ensures.value c.binary_search.ensures.position)
