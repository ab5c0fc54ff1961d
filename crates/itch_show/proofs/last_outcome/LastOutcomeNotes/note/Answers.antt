use Rattle.std.proofs.Common.{sym}
use Rattle.itch_show.proofs.LastNoted.{last_push}
use Rattle.itch_show.proofs.last_outcome.LastOutcomeNotes.note.Goals as goal

pub returns : goal.returns
returns g c = λ first before was. sym (last_push before _)
