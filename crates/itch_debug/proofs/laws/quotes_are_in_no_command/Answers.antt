use Rattle.itch_debug.proofs.Quotes as quotes
use Rattle.itch_debug.proofs.laws.quotes_are_in_no_command.Goals as goal

pub returns : goal.returns
returns c = quotes.in_none
