use Rattle.std.proofs.Common.{◌/◌, arith}
use Rattle.binaryfile.specs.declared.TheConstants.{STRIDE}
use Rattle.binaryfile.proofs.scan.entry_place.Goals as goal

pub bounds-starts-entry : goal.bounds-starts-entry
bounds-starts-entry c = (c.requires.index (c.args.number / STRIDE) (omega arith)).0

pub place_from-requires-clause-place : goal.place_from-requires-clause-place
place_from-requires-clause-place c = (c.requires.index (c.args.number / STRIDE) (omega arith)).1
