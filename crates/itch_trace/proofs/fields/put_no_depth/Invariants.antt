use Rattle.std.proofs.Common.{◌≡◌, ◌++◌}
use Rattle.std.specs.List.{flat_map, range_with_len}
use Rattle.itch_table.specs.World.{empty_world, orders_of}
use Rattle.itch_trace.specs.Lines.{place_fields}
use Rattle.itch_trace.proofs.fields.put_no_depth.Given as goal

abbrev pub invariant-loop-place : goal.invariant-loop-place
invariant-loop-place g l = l.text.items ≡ l.fn.text.items ++ flat_map (place_fields (orders_of empty_world 0)) (range_with_len 0 l._place)
