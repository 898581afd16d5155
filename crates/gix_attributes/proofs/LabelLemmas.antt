-- What labels stand for: each the source with its index, whichever sources are appended.
use Rattle.std.proofs.lemmas.Bool.Decides.{nat_tests}
use Rattle.std.proofs.Common.{◌≡◌, ℕ, ◌<◌, ◌^◌, true, List, [], ◌∷◌, ◌++◌, length, map, Option, option_map, slice_get, unwrap_or, refl, arith}
use Rattle.std.specs.Prelude.{IfSome}
use Rattle.std.specs.Str.{all_ascii_digits}
use Rattle.std.specs.Str.Parse.{digits_value}
use Rattle.std.proofs.lemmas.Option.{unwrap_or-slice_get}
use Rattle.std.proofs.Math.ListN.{get_or-append}
use Rattle.std.proofs.lemmas.Fmt.{digits_decimal, digits_value-decimal}
use Rattle.std.proofs.lemmas.List.Elements.{All-head, All-tail}
use Rattle.std.proofs.lemmas.Str.Parse.{IsNumeralModel, numerals_by_value, tells_all_ascii_digits}
use Rattle.attr_search.specs.ListView.{Listed}
use Rattle.gix_attributes.specs.EngineStates.{EngineState}
use Rattle.gix_attributes.specs.Told.{AreLabelsBelow, IsLabelBelow, label_at, list_told, source_at, state_told}

digits : IsNumeralModel (λ ds. all_ascii_digits ds ≡ true) (digits_value 10)
digits = numerals_by_value (λ ds. all_ascii_digits ds ≡ true) tells_all_ascii_digits

-- a label is an index in digits
pub label_digits : (n : ℕ) → n < 2 ^ 64 → all_ascii_digits (label_at n) ≡ true
label_digits n below = digits_decimal digits n below

pub label_value : (n : ℕ) → n < 2 ^ 64 → digits_value 10 (label_at n) ≡ n
label_value n below = digits_value-decimal digits n below

-- and so it stands for the source with this index
pub source_at_label : (sources : List (List ℕ)) (n : ℕ) → n < 2 ^ 64 →
    source_at sources (label_at n) ≡ unwrap_or (slice_get sources n) (label_at n)
source_at_label sources n below = grind (arith, nat_tests, label_digits, label_value)

pub label_below : (n count : ℕ) → n < 2 ^ 64 → n < count → IsLabelBelow count (label_at n)
label_below n count below lt e = omega (arith, label_value n below, lt)

-- sources that are appended change nothing of what is labelled below them
pub source_at-more : (sources more : List (List ℕ)) (text : List ℕ) → IsLabelBelow (length sources) text →
    source_at (sources ++ more) text ≡ source_at sources text
source_at-more sources more text below = grind (arith, nat_tests, unwrap_or-slice_get, get_or-append)

option_more : (sources more : List (List ℕ)) (source : Option (List ℕ)) → IfSome source (IsLabelBelow (length sources)) →
    option_map (source_at (sources ++ more)) source ≡ option_map (source_at sources) source
option_more sources more source below = grind (arith, nat_tests, source_at-more)

lists_more : (sources more : List (List ℕ)) (lists : List Listed) → AreLabelsBelow (length sources) lists →
    map (list_told (source_at (sources ++ more))) lists ≡ map (list_told (source_at sources)) lists
lists_more sources more [] below = refl
lists_more sources more (list ∷ lists) below =
    let P : Listed → Type 0 = λ l. IfSome l.source (IsLabelBelow (length sources)) in
    grind (arith, nat_tests, option_more, All-head, All-tail, lists_more sources more lists (All-tail P list lists below))

pub state_told-more : (sources more : List (List ℕ)) (s : EngineState) → AreLabelsBelow (length sources) s.lists →
    state_told (source_at (sources ++ more)) s ≡ state_told (source_at sources) s
state_told-more sources more s below = rw (lists_more sources more s.lists below) refl
