use Rattle.std.proofs.Common.{◌≡◌, ℕ, ◌∙◌, sym, ap, map, slice_index, arith, inl, inr}
use Rattle.std.proofs.lemmas.Bool.{cases_eq}
use Rattle.std.proofs.lemmas.List.{get_or-map}
use Rattle.top_cell.specs.Boards.{WriterAt}
use Rattle.itch_watch.proofs.watching.index_of.Goals as goal

pub loop-index-preserved : goal.loop-index-preserved
loop-index-preserved c =
    let own = c.loop-index.invariant in
    let writer = c.index-writers-index.result in
    elim (cases_eq c.loop-index.index own.0) [
      | inl here ↦
          let same : writer.place.locate ≡ c.args.locate =
          ap (λ (w : WriterAt). w.place.locate) c.index-writers-index.is
          ∙ sym (get_or-map (λ w. w.place.locate) c.args.writers.now c.loop-index.index writer 0 c.loop-index-test.true)
          ∙ ap (λ (k : ℕ). slice_index (map (λ w. w.place.locate) c.args.writers.now) k) here ∙ own.3 in
          absurd (c.if-locate.false (c.locate.ensures ∙ same))
      | inr later ↦ (own.0, omega (arith, own.1, later), own.2, own.3)
    ]
