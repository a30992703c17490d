use Rattle.std.proofs.Common.{◌≡◌, ◌-◌, ◌≤◌, length, true, take}
use Rattle.std.specs.Char.{is_ascii_digit}
use Rattle.std.specs.List.{list_all}
use Rattle.std.specs.Str.Parse.{digits_value}
use Rattle.drivers.proofs.named.digits.Given as goal

abbrev pub decreases-loop-at : goal.decreases-loop-at
decreases-loop-at l = length l.text - l.at

abbrev pub invariant-loop-at : goal.invariant-loop-at
invariant-loop-at l = record {
  begun : 1 ≤ l.at;
  inside : l.at ≤ length l.text;
  digits : list_all is_ascii_digit (take l.at l.text) ≡ true;
  value_is : l.value ≡ digits_value 10 (take l.at l.text);
  fits : l.value ≤ 4294967295;
}
