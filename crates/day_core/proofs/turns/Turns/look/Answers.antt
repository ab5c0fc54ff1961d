use Rattle.std.proofs.Common.{ℕ, List, [], ◌∷◌, get_or, subst, ◌∙◌}
use Rattle.std.specs.List.{Contains}
use Rattle.itch_table.specs.Shows.{Shows}
use Rattle.day_core.specs.Owners.{owner}
use Rattle.day_core.specs.Turns.{TurnsState, progress_in, state_of, words_at, workers_of}
use Rattle.day_core.proofs.TurnInvariant.{shows_absent}
use Rattle.day_core.proofs.LocateCodes.{value_at}
use Rattle.day_core.proofs.Progress.{progress_within}
use Rattle.day_core.proofs.turns.Turns.look.Goals as goal

pub returns-in-Some : goal.returns-in-Some
returns-in-Some g c =
    let turns = state_of c.self.inside.day.now.payloads c.self.inside.done.items in
    let words = λ (l : ℕ). words_at turns.day l (progress_in turns l) in
    subst (λ (t : TurnsState). Shows t.day c.args.locate (progress_in t c.args.locate) c.index.result.now) c.self.view_is (
      progress_within turns.day (workers_of turns) c.args.locate (get_or turns.done (owner (workers_of turns) c.args.locate) 0),
      c.index.ensures ∙ value_at c.self.inside.parts.locates words c.self.inside.cells.items c.self.invariant.cells_are c.in-Some.index c.args.locate c.in-Some.ensures c.index.result.now,
    )

pub returns-in-None : goal.returns-in-None
returns-in-None g c =
    let turns = state_of c.self.inside.day.now.payloads c.self.inside.done.items in
    subst (λ (t : TurnsState). Shows t.day c.args.locate (progress_in t c.args.locate) (0 ∷ 0 ∷ 0 ∷ 0 ∷ [])) c.self.view_is
    (shows_absent turns.day (workers_of turns) c.args.locate (get_or turns.done (owner (workers_of turns) c.args.locate) 0) c.ranges.locate.fits
    (subst (λ (ls : List ℕ). ¬ Contains ls c.args.locate) c.self.invariant.parts_are.locates_are c.in-None.ensures))
