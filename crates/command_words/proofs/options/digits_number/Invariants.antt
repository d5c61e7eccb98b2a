use Rattle.std.proofs.Common.{◌≡◌, ◌<◌, ◌^◌, length, true, drop}
use Rattle.std.specs.Char.{is_ascii_digit}
use Rattle.std.specs.List.{list_all}
use Rattle.std.specs.Str.Parse.{digits_value, digits_value_after}
use Rattle.command_words.proofs.options.digits_number.Given as goal

-- the digits so far and those left spell the whole number, which has at most nine digits
abbrev pub invariant-loop-digit : goal.invariant-loop-digit
invariant-loop-digit l = record {
  whole : digits_value_after 10 l.number (drop l.digit-index l.word) ≡ digits_value 10 l.word;
  digits : list_all is_ascii_digit (drop l.digit-index l.word) ≡ true;
  few : length l.word < 10;
  small : l.number < 10 ^ l.digit-index;
}
