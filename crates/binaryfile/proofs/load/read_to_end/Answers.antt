use Rattle.std.proofs.Common.{◌++◌, arith, length-append}
use Rattle.std.proofs.KnownBytes.{Consumes-trans}
use Rattle.binaryfile.proofs.load.read_to_end.Goals as goal

pub returns-in_err-read_piece-clause-taken : goal.returns-in_err-read_piece-clause-taken
returns-in_err-read_piece-clause-taken g c =
    let left = g.R.Read.remaining in
    let before = c.loop-feed.bytes.items in
    let took = c.read_piece.ensures.took in
    record {
      bytes = before ++ took.bytes;
      gave = Consumes-trans (left c.args.feed.now.device) (left c.loop-feed.feed.device) (left c.read_piece.new.feed.device) before took.bytes c.loop-feed.invariant.gave took.gave;
      within = omega (arith, length-append before took.bytes, took.within);
    }
