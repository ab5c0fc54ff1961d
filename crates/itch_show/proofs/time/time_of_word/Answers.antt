use Rattle.itch_show.proofs.ClockWords.{if_none, no_time, too_late}
use Rattle.itch_show.proofs.time.time_of_word.Goals as goal

pub returns-in_err-number_of_text-clause-none : goal.returns-in_err-number_of_text-clause-none
returns-in_err-number_of_text-clause-none c =
    if_none c.from_residual.result (λ nanos text fits. no_time c.args.word.now nanos ((c.in_err-number_of_text.ensures {u = tt}).none) ((c.in_default.ensures {u = tt}).none) text fits)

pub returns-clause-none : goal.returns-clause-none
returns-clause-none c =
    too_late c.new-2.result c.args.word.now c.in_ok-number_of_text.field-0 c.new-2.ensures.fits ((c.in_ok-number_of_text.ensures {u = tt}).some) ((c.in_default.ensures {u = tt}).none)
