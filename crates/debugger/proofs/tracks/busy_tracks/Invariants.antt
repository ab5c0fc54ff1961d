use Rattle.std.proofs.Common.{◌<◌}
use Rattle.std.specs.List.{All}
use Rattle.debugger.specs.Sessions.{IsOf}
use Rattle.debugger.proofs.tracks.busy_tracks.Given as goal

abbrev pub invariant-loop-locate : goal.invariant-loop-locate
invariant-loop-locate g l = record {
  every : 0 < l.fn.every;
  tracks : All (IsOf l.fn.index l.fn.every) l.busy.items;
}
