use Rattle.std.proofs.Common.{ℕ, List, ◌++◌, ap, sym, ◌∙◌}
use Rattle.itch_table.specs.World.{empty_world, orders_of}
use Rattle.itch_trace.specs.Lines.{place_fields}
use Rattle.itch_trace.proofs.NoLevels.{no_place}
use Rattle.itch_trace.proofs.Places.{text_more}
use Rattle.itch_trace.proofs.fields.put_no_depth.Goals as goal

pub loop-place-preserved : goal.loop-place-preserved
loop-place-preserved g c =
    text_more (place_fields (orders_of empty_world 0)) c.loop-place._place c.args.text.now.items c.loop-place.text.items c.extend_from_slice.new.self.items c.loop-place.invariant ((c.in_ok-extend_from_slice.ensures {u = tt}).items ∙ ap (λ (l : List ℕ). c.loop-place.text.items ++ l) (sym (no_place c.loop-place._place)))
