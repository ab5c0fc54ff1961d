use Rattle.std.proofs.Common.{arith, ◌+◌, ◌++◌, [], ◌∷◌, ℕ, List, take, Some, refl, sym, ap, ◌∙◌, subst, length-set, length-take-le, add_assoc}
use Rattle.std.proofs.lemmas.List.{take_more_set}
use Rattle.top_cell.specs.Kinds.{ReaderTook}
use Rattle.top_cell.specs.Rule.{stock_of, sight_of, sight}
use Rattle.top_cell.proofs.ReaderSteps.{reader_takes, same_words}
use Rattle.top_cell.specs.declared.rule.View.{View}
use Rattle.top_cell.specs.declared.rule.View.TheVariants.{ScreenOf}
use Rattle.top_cell.proofs.trying.take_words.Goals as goal

pub load-requires : goal.load-requires
load-requires c =
    let i = c.loop-index.invariant in
    let s = c.requires.seat in
    let long = length-take-le c.loop-index.index c.loop-index.words (omega (arith, i.1)) in
    (i.0.0 ∙ s.0, omega (arith, c.loop-index-test.true, s.1), reader_takes _ _ _ _ _ (take c.loop-index.index c.loop-index.words) _ i.2 refl (omega (arith, long)) (omega (arith, long)))

pub loop-index-preserved : goal.loop-index-preserved
loop-index-preserved c =
    let i = c.loop-index.invariant in
    let e = c.load.ensures in
    let s = stock_of c.args.seat.now.me.0 in
    let v = sight_of c.args.seat.now.me.0 in
    let k = c.loop-index.index in
    let t = subst (λ (u : View). ReaderTook c.load.result u c.load.new.seat.me.0) i.2 e.2.0 in
    let same = sym (same_words (take k c.loop-index.words) t.0 t.1) in
    let more = take_more_set c.loop-index.words k c.load.result (omega (arith, i.1)) in (
      (e.0 ∙ i.0.0, e.1 ∙ i.0.1),
      length-set c.loop-index.words k c.load.result ∙ i.1,
      t.3 ∙ ap (λ (ws : List ℕ). ScreenOf s (sight v.number ((v.loads + k) + 1) v.looks v.tries v.wins v.last v.began (Some (ws ++ c.load.result ∷ [])))) same
          ∙ (λ j. ScreenOf s (sight v.number (add_assoc v.loads k 1 j) v.looks v.tries v.wins v.last v.began (Some (sym more j)))),
      e.2.1 ∙ i.3,
    )
