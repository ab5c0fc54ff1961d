use Rattle.std.proofs.Common.{◌≡◌, List, ◌∷◌, [], ◌++◌, filter, rules, subst, sym, ap, ◌∙◌}
use Rattle.std.proofs.lemmas.Fn.{filter_same}
use Rattle.top_cell.specs.declared.reading.Reading.{Reading}
use Rattle.itch_watch.specs.Watching.{AreSeenToTheEnd}
use Rattle.itch_watch.proofs.SeenReadings.{is_before, seen_to_the_end}
use Rattle.itch_watch.proofs.watching.to_the_end.Goals as goal

pub returns : goal.returns
returns g c = λ day locate seen reading is.
    let kept : c.retain.new.self.items ≡ filter (is_before c.args.last.message) c.args.readings.items =
    filter_same _ (is_before c.args.last.message) _ (λ x b f' k. search rules) c.args.readings.items c.retain.new.self.items c.retain.ensures.filtered in
    let all : c.push.new.self.items ≡ filter (is_before c.args.last.message) c.args.readings.items ++ c.args.last ∷ [] =
    c.in_ok-push.ensures.items ∙ ap (λ (l : List Reading). l ++ c.args.last ∷ []) kept in
    subst (AreSeenToTheEnd day locate) (sym all) (seen_to_the_end day locate c.args.readings.items c.args.last c.requires.some seen reading is)
