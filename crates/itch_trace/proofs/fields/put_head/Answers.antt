use Rattle.std.proofs.Common.{◌++◌, codes}
use Rattle.itch_trace.specs.Lines.{place_names}
use Rattle.itch_trace.proofs.Places.{text_more}
use Rattle.itch_trace.proofs.fields.put_head.Goals as goal

pub loop-place-preserved : goal.loop-place-preserved
loop-place-preserved g c =
    text_more place_names c.loop-place.place (c.args.text.now.items ++ codes "message,time,type,locate,outcome") c.loop-place.text.items c.put_place_names.new.text.items c.loop-place.invariant (c.in_ok-put_place_names.ensures {u = tt})
