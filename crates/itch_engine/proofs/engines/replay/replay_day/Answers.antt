use Rattle.std.proofs.Common.{ap, arith, length, ◌∙◌}
use Rattle.std.proofs.lemmas.List.FromFn.{length-map-range_with_len}
use Rattle.itch_table.specs.After.{outcome}
use Rattle.itch_engine.proofs.engines.replay.replay_day.Goals as goal

pub passed_among-requires : goal.passed_among-requires
passed_among-requires g c =
    let day = c.args.day.now.payloads in
    omega (arith, ap length c.deref.ensures.value, ap length c.in-Ok.ensures.replayed.outcomes_are, length-map-range_with_len (outcome day) 1 (length day), c.len.ensures, c.len.type_inv)

pub refused_among-requires-clause-few : goal.refused_among-requires-clause-few
refused_among-requires-clause-few g c =
    let day = c.args.day.now.payloads in
    omega (arith, ap length c.deref-2.ensures.value, ap length c.in-Ok.ensures.replayed.outcomes_are, length-map-range_with_len (outcome day) 1 (length day), c.len.ensures, c.len.type_inv)

pub refused_among-requires-clause-are : goal.refused_among-requires-clause-are
refused_among-requires-clause-are g c = c.deref-2.ensures.value ∙ c.in-Ok.ensures.replayed.outcomes_are
