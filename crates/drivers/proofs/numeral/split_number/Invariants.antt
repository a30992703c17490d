use Rattle.std.proofs.Common.{◌≡◌, ◌<◌, ◌^◌, false, true, take, All, eqb}
use Rattle.std.specs.Char.{is_ascii_digit}
use Rattle.std.specs.List.{list_all}
use Rattle.std.specs.Str.Parse.{digits_value}
use Rattle.drivers.proofs.numeral.split_number.Given as goal

abbrev pub invariant-loop-at : goal.invariant-loop-at
invariant-loop-at l = record {
  before : All (λ b. eqb b l.separator ≡ false) (take l.at l.text);
  digits : list_all is_ascii_digit (take l.at l.text) ≡ true;
  value_is : l.value ≡ digits_value 10 (take l.at l.text);
  fits : l.value < 2 ^ 64;
}
