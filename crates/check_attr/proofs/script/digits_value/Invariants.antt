-- The value so far is that of the digits so far.
use Rattle.std.proofs.Common.{◌≡◌, ◌<◌, ◌^◌, take, true}
use Rattle.std.specs.Char.{is_ascii_digit}
use Rattle.std.specs.List.{list_all}
use Rattle.check_attr.specs.inner.ScriptParts.{digits_value}
use Rattle.check_attr.proofs.script.digits_value.Given as goal

abbrev pub invariant-loop-digit : goal.invariant-loop-digit
invariant-loop-digit l = record {
  digits : list_all is_ascii_digit (take l.digit-index l.word) ≡ true;
  value : l.value ≡ digits_value (take l.digit-index l.word);
  bound : l.value < 10 ^ l.digit-index;
}
