use Rattle.std.proofs.Common.{◌≡◌, ◌++◌, codes}
use Rattle.std.specs.List.{flat_map, range_with_len}
use Rattle.itch_trace.specs.Lines.{place_names}
use Rattle.itch_trace.proofs.fields.put_head.Given as goal

abbrev pub invariant-loop-place : goal.invariant-loop-place
invariant-loop-place g l = l.text.items ≡ (l.fn.text.items ++ codes "message,time,type,locate,outcome") ++ flat_map place_names (range_with_len 0 l.place)
