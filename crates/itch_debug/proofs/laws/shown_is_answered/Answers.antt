use Rattle.itch_debug.proofs.ShownAnswers as shown
use Rattle.itch_debug.proofs.laws.shown_is_answered.Goals as goal

pub returns : goal.returns
returns c = shown.is_answered
