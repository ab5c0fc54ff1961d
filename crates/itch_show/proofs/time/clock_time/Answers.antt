use Rattle.std.proofs.Common.{◌∙◌, drop, take, refl, subst, sym}
use Rattle.itch_show.specs.Times.{Decimals, TwoDigits}
use Rattle.itch_show.proofs.ClockWords.{clock_parts, if_none, parts_of, rest_of}
use Rattle.itch_show.proofs.time.clock_time.Goals as goal

pub returns-clause-some : goal.returns-clause-some
returns-clause-some c =
    let word = c.args.word.now in
    record {
      hours = take 2 word;
      minutes = take 2 (drop 3 word);
      seconds = take 2 (drop 6 word);
      rest = drop 8 word;
      hour = c.in_ok-hour.hour;
      minute = c.in_ok-minute.minute;
      second = c.in_ok-second.second;
      fraction = c.in_ok-fraction.fraction;
      parts = clock_parts word c.if-word-lt8.false c.if-word-ne58.false c.if-word-ne58-2.false;
      hour_is = (c.in_ok-hour.ensures {u = tt}).some;
      minute_is = (c.in_ok-minute.ensures {u = tt}).some;
      second_is = (c.in_ok-second.ensures {u = tt}).some;
      fraction_is = subst (λ rest. Decimals rest c.in_ok-fraction.fraction) (rest_of word) ((c.in_ok-fraction.ensures {u = tt}).some);
      nanos_is = refl;
    }

pub returns-in_err-hour-clause-none : goal.returns-in_err-hour-clause-none
returns-in_err-hour-clause-none c =
    if_none c.from_residual.result (λ nanos text. (c.in_err-hour.ensures {u = tt}).none text.hour (subst (λ l. TwoDigits l text.hour 24) (parts_of text).0 text.hour_is))

pub returns-in_err-minute-clause-none : goal.returns-in_err-minute-clause-none
returns-in_err-minute-clause-none c =
    if_none c.from_residual-in_err-minute.result (λ nanos text. (c.in_err-minute.ensures {u = tt}).none text.minute (subst (λ l. TwoDigits l text.minute 60) (parts_of text).1 text.minute_is))

pub returns-in_err-second-clause-none : goal.returns-in_err-second-clause-none
returns-in_err-second-clause-none c =
    if_none c.from_residual-in_err-second.result (λ nanos text. (c.in_err-second.ensures {u = tt}).none text.second (subst (λ l. TwoDigits l text.second 60) (parts_of text).2 text.second_is))

pub returns-in_err-fraction-clause-none : goal.returns-in_err-fraction-clause-none
returns-in_err-fraction-clause-none c =
    let word = c.args.word.now in
    if_none c.from_residual-in_err-fraction.result (λ nanos text. (c.in_err-fraction.ensures {u = tt}).none text.fraction
    (subst (λ l. Decimals l text.fraction) ((parts_of text).3 ∙ sym (rest_of word)) text.fraction_is))
