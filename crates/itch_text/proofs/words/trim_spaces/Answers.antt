use Rattle.itch_text.proofs.FirstLine.{rest_all}
use Rattle.itch_text.proofs.FirstWord.{spaces_skipped, no_space_first}
use Rattle.itch_text.proofs.words.trim_spaces.Goals as goal

pub returns-in-Some-clause-words : goal.returns-in-Some-clause-words
returns-in-Some-clause-words c = rw (rest_all c.args.line.now c.in-Some.start) (spaces_skipped c.args.line.now c.in-Some.start c.in-Some.ensures)

pub returns-in-Some-clause-first : goal.returns-in-Some-clause-first
returns-in-Some-clause-first c = rw (rest_all c.args.line.now c.in-Some.start) (λ long. no_space_first c.args.line.now c.in-Some.start c.in-Some.ensures)
