use Rattle.itch_table.specs.World.{orders_of}
use Rattle.itch_trace.specs.Lines.{place_fields}
use Rattle.itch_trace.proofs.Places.{text_more}
use Rattle.itch_trace.proofs.fields.put_depth.Goals as goal

pub loop-place-preserved : goal.loop-place-preserved
loop-place-preserved g c =
    let stock = c.args.stock.now in
    text_more (place_fields (orders_of stock.world stock.locate)) c.loop-place.place c.args.text.now.items c.loop-place.text.items c.put_place.new.text.items c.loop-place.invariant (c.in_ok-put_place.ensures {u = tt})
