use Rattle.std.proofs.Common.{subst}
use Rattle.binaryfile.specs.Entries.{Splits}
use Rattle.binaryfile.proofs.Splitting.{contents_splits}
use Rattle.binaryfile.proofs.PayloadBytes.{payloads_are}
use Rattle.itch_watch.proofs.engine.seen_of_file.Goals as goal

pub watch_stock-requires-clause-bytes : goal.watch_stock-requires-clause-bytes
watch_stock-requires-clause-bytes g c =
    let bytes = c.day.inside.bytes.items in
    let are = c.day.invariant.are in
    λ _ _. payloads_are bytes c.in_ok-day.day are (subst (Splits bytes) c.day.view_is (contents_splits bytes are))

pub watch_stock-requires-clause-stock : goal.watch_stock-requires-clause-stock
watch_stock-requires-clause-stock g c =
    let found = rw c.in-Some.is at (c.in_ok-locate.ensures {u = tt}) in
    λ _ _. (found.0, found.1.some, found.1.within, found.1.own)
