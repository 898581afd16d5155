-- What a label says.
use Rattle.std.proofs.lemmas.Bool.Decides.{nat_tests}
use Rattle.std.proofs.Common.{◌≡◌, ℕ, ◌<◌, ◌^◌, ◌==◌, ◌&&◌, nat_lt, not, Bool, true, List, length, arith, rules, tests, Result, if◌then◌else◌}
use Rattle.std.specs.Result.{result_unwrap_or}
use Rattle.std.specs.Fmt.{decimal}
use Rattle.std.specs.Str.{all_ascii_digits}
use Rattle.std.specs.Str.Parse.{digits_value, ParsesUnsigned, IsNumeral}
use Rattle.std.proofs.lemmas.Str.Parse.{IsNumeralModel, numerals_by_value, tells_all_ascii_digits, without_leading_plus_none, not_in_digits}
use Rattle.std.proofs.lemmas.Fmt.{digits_decimal, digits_value-decimal, decimal_nonempty}
use Rattle.yektrod.specs.Sourced.{digits_number, list_number}

own : IsNumeralModel (λ ds. all_ascii_digits ds ≡ true) (digits_value 10)
own = numerals_by_value _ tells_all_ascii_digits

-- digits that fit say their value
fits : (ds : List ℕ) → all_ascii_digits ds ≡ true → 0 < length ds → digits_value 10 ds < 2 ^ 64 → digits_number ds ≡ digits_value 10 ds
fits ds digits some small = search (rules, tests)

-- the index of a list is what its label says
pub list_number-decimal : (n : ℕ) → n < 2 ^ 64 → list_number (decimal n) ≡ n
list_number-decimal n small =
    grind (arith, nat_tests, digits_decimal, own, digits_value-decimal, decimal_nonempty, without_leading_plus_none, not_in_digits, fits)

-- and digits that say it fit
from_test : (ds : List ℕ) → (all_ascii_digits ds && not (length ds == 0) && nat_lt (digits_value 10 ds) (2 ^ 64)) ≡ true
    → IsNumeral 10 ds × (digits_value 10 ds < 2 ^ 64)
from_test ds passes = grind (arith, nat_tests, tests, own)

no_number : (b : Bool) (n : ℕ) → (b ≡ true → ⊥) → (if b then n else 0) ≡ 0
no_number b n never = grind (arith, nat_tests)

-- what a parse gives is what the text says
pub parsed : {E : Type 0} (label : List ℕ) (r : Result ℕ E) → ParsesUnsigned 64 10 label r → result_unwrap_or r 0 ≡ list_number label
parsed label r h = grind (arith, nat_tests, fits, own, no_number, from_test)
