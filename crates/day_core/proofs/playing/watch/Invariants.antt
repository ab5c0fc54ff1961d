use Rattle.std.proofs.Common.{◌≡◌, take}
use Rattle.day_core.specs.Turns.{workers_of}
use Rattle.day_core.specs.Schedules.{seen_until}
use Rattle.day_core.proofs.LooksNeverGoBack.{turns_after}
use Rattle.day_core.proofs.playing.watch.Given as goal

abbrev pub invariant-loop-event : goal.invariant-loop-event
invariant-loop-event g l = record {
  turns : l.turns ≡ turns_after l.fn.turns.day (workers_of l.fn.turns) (take l.event-index l.events);
  seen : l.seen.items ≡ seen_until l.fn.turns.day (workers_of l.fn.turns) l.events l.event-index;
}
