use Rattle.itch_text.proofs.WholeTexts as texts
use Rattle.itch_text.proofs.laws.one_first_fault.Goals as goal

pub returns : goal.returns
returns c = texts.one_first_fault
