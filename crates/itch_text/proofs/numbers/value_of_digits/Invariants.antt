use Rattle.std.proofs.Common.{◌≡◌, ◌↔◌, drop}
use Rattle.std.specs.Str.Parse.{AllDigits, digits_value, digits_value_after}
use Rattle.itch_text.proofs.numbers.value_of_digits.Given as goal

abbrev pub invariant-digits : goal.invariant-digits
invariant-digits l = record {
  digits : AllDigits 10 l.text ↔ AllDigits 10 (drop l.byte-index l.text);
  value : digits_value 10 l.text ≡ digits_value_after 10 l.value (drop l.byte-index l.text);
}
