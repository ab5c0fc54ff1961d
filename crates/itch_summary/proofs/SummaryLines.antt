-- The lines of a summary: those of the machines of a day are those of its stocks.
use Rattle.std.proofs.Common.{◌≡◌, ℕ, List, map, ap, ◌∙◌}
use Rattle.std.specs.List.{flat_map}
use Rattle.std.proofs.lemmas.List.Folds.{flat_map-map}
use Rattle.itch_table.specs.Shows.{locates_of_day}
use Rattle.day_core.specs.Replaying.{last_machine}
use Rattle.day_replay.specs.Summaries.{refused_of}
use Rattle.day_replay.proofs.RefusedByStock.{refused_are_counted}
use Rattle.itch_summary.specs.Lines.{summary_line}
use Rattle.itch_summary.specs.Summaries.{line_of_stock, machine_line}

pub lines_are : (day : List (List ℕ)) → flat_map (machine_line (refused_of day)) (map (last_machine day) (locates_of_day day)) ≡ flat_map (line_of_stock day) (locates_of_day day)
lines_are day =
    flat_map-map (machine_line (refused_of day)) (last_machine day) (locates_of_day day)
    ∙ ap (λ (f : ℕ → List ℕ). flat_map f (locates_of_day day)) (λ i locate. summary_line (last_machine day locate) (refused_are_counted day locate i))
