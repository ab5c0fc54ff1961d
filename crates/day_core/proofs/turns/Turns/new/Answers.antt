use Rattle.std.proofs.Common.{◌≡◌, ℕ, List, [], ◌∷◌, length, map, replicate, Err, sym, ap, subst, ◌∙◌, arith, rules}
use Rattle.std.proofs.lemmas.Result.{err_from_is_err_and}
use Rattle.day_core.specs.declared.splitting.SplitFault.TheVariants.{Memory, Workers}
use Rattle.day_core.specs.Owners.{new_machine}
use Rattle.day_core.specs.Turns.{AreTurns, TurnsState, state_of}
use Rattle.day_core.proofs.TurnInvariant.{turns_first}
use Rattle.day_core.proofs.turns.Turns.new.Goals as goal

pub returns-in_err-cells-clause-workers : goal.returns-in_err-cells-clause-workers
returns-in_err-cells-clause-workers g c =
    let exit = err_from_is_err_and c.from_residual-in_err-cells.result c.from_residual-in_err-cells.ensures.1 in
    let is = exit.1 ∙ ap Err exit.2 in (
      λ wrong. let clash : Err Memory ≡ Err Workers = sym is ∙ wrong in let never : ⊥ = cc in absurd never,
      λ bad. let clash = c.in_ok-parts.ensures.workers.1 bad in let never : ⊥ = cc in absurd never,
    )

pub invariant_of-result : goal.invariant_of-result
invariant_of-result g c =
    let day = c.args.day.now.payloads in
    let parts = c.in_ok-parts.parts in
    let count = c.in_ok-done.ensures.items_if_clones_equal (λ y is. search rules) ∙ ap (λ (n : ℕ). replicate n 0) c.workers.ensures.workers in
    let made = c.in_ok-stocks.ensures ∙ ap (map new_machine) c.locates.ensures.locates in
    let zeros = c.in_ok-cells.ensures.items_if_clones_equal (λ y is. search rules) ∙ ap (λ (n : ℕ). replicate n (0 ∷ 0 ∷ 0 ∷ 0 ∷ [])) (let long : c.len.result ≡ length c.in_ok-stocks.stocks.items = omega (arith, c.len.ensures, c.in_ok-stocks.stocks.ok.0) in long) in
    subst (λ (ds : List ℕ). AreTurns (state_of day ds) parts c.in_ok-stocks.stocks.items c.in_ok-cells.cells.items) (sym count)
    (turns_first day parts c.in_ok-stocks.stocks.items c.in_ok-cells.cells.items c.in_ok-parts.ensures.parts made zeros)

pub returns-clause-first : goal.returns-clause-first
returns-clause-first g c =
    let count = c.in_ok-done.ensures.items_if_clones_equal (λ y is. search rules) ∙ ap (λ (n : ℕ). replicate n 0) (c.workers.ensures.workers ∙ c.in_ok-parts.ensures.count) in
    ap (λ (ds : List ℕ). let turns : TurnsState = record { day = c.args.day.now.payloads; done = ds } in turns) count

pub returns-clause-workers : goal.returns-clause-workers
returns-clause-workers g c = (
  λ clash. let never : ⊥ = cc in absurd never,
  λ bad. let clash = c.in_ok-parts.ensures.workers.1 bad in let never : ⊥ = cc in absurd never,
)
