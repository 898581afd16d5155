-- The parts of a record are read exactly if they are spelled.
use Rattle.std.proofs.lemmas.Bool.Decides.{nat_tests, Decides-eqb}
use Rattle.std.proofs.Common.{◌≡◌, ℕ, ◌+◌, ◌-◌, ◌*◌, ◌^◌, ◌<◌, Bool, true, false, not, List, [], ◌∷◌, ◌++◌, length, take, drop}
use Rattle.std.proofs.Common.{fold, Option, Some, None, option_map, refl, ap, ◌∙◌, arith, append_assoc, rules}
use Rattle.std.proofs.Common.{le-leb, leb-true, length-append, length-take-le, take-append-drop}
use Rattle.std.proofs.Math.Seq.{take-append_seam, take_at, drop_at}
use Rattle.std.specs.Prelude.{nat_eq, decimal, if◌then◌else◌, ◌==◌}
use Rattle.std.specs.Char.{is_ascii_digit}
use Rattle.std.specs.List.{list_all, starts_with, position, position_from}
use Rattle.std.specs.Str.{IsUtf8}
use Rattle.std.proofs.lemmas.Fmt.{decimal_nonempty, length-decimal-le, first_decimal, decimal_digit, digits_decimal, digits_value-decimal}
use Rattle.std.proofs.lemmas.Fmt.{decimal-digits_value}
use Rattle.std.proofs.lemmas.List.{drop_more, get_or-take}
use Rattle.std.proofs.lemmas.List.Sums.{list_all-from_AllPass}
use Rattle.std.proofs.lemmas.List.Quantifiers.{position-Some}
use Rattle.std.proofs.lemmas.Iterator.Adapters.{position_from-zero}
use Rattle.std.proofs.lemmas.Str.{IsUtf8-from_is_utf8, is_utf8-from_IsUtf8}
use Rattle.std.proofs.lemmas.Str.Parse.{IsNumeralModel, FoldsDigits, IsDigitsTest, numerals_by_fold, digits_value_short}
use Rattle.std.proofs.lemmas.Slice.Eq.{starts_is}
use Rattle.check_attr.specs.Script.{IsHeaderNumber}
use Rattle.check_attr.specs.inner.ScriptParts.{◌then◌, strip_prefix, split_once, split_at, if_text, is_number, digits_value, number_before}

-- ---- options and tests

pub then-some : {X Y : Type 0} (o : Option X) (next : X → Option Y) (y : Y) → (o then next) ≡ Some y → (x : X) × (o ≡ Some x) × (next x ≡ Some y)
then-some o next y e = grind (arith, nat_tests)

pub same_some : {X : Type 0} (x y : X) → Some x ≡ Some y → x ≡ y
same_some x y e = grind (arith, nat_tests)

pub map-some : {X Y : Type 0} (f : X → Y) (o : Option X) (y : Y) → option_map f o ≡ Some y → (x : X) × (o ≡ Some x) × (f x ≡ y)
map-some f o y e = grind (arith, nat_tests)

pub if-some : {X : Type 0} (b : Bool) (x y : X) → (if b then Some x else None) ≡ Some y → (b ≡ true) × (x ≡ y)
if-some b x y e = grind (arith, nat_tests)

-- ---- numbers

tells : IsDigitsTest (λ ds. list_all is_ascii_digit ds ≡ true)
tells = search rules

folds : FoldsDigits (fold (λ value digit. 10 * value + (digit - 48)))
folds = search rules

own : IsNumeralModel (λ ds. list_all is_ascii_digit ds ≡ true) digits_value
own = numerals_by_fold _ tells _ folds

pub is_number-decimal : (n : ℕ) → n < 10 ^ 8 → is_number (decimal n) ≡ true
is_number-decimal n h =
    grind (
      arith,
      nat_tests,
      decimal_nonempty n,
      length-decimal-le 8 n,
      digits_decimal own n,
      decimal_digit n,
      first_decimal n,
      h,
    )

pub is_number-only : (word : List ℕ) → is_number word ≡ true → IsHeaderNumber (digits_value word) × (decimal (digits_value word) ≡ word)
is_number-only word e =
    grind (arith, nat_tests, digits_value_short own word 8, decimal-digits_value own word)

pub decimal_digits : (n : ℕ) → IsHeaderNumber n → list_all is_ascii_digit (decimal n) ≡ true
decimal_digits n short = digits_decimal own n (omega (arith, short))

pub decimal_some : (n : ℕ) → IsHeaderNumber n → 0 < length (decimal n)
decimal_some n short = decimal_nonempty n (omega (arith, short))

-- ---- a part up to a separator

-- the separator is not in these bytes
abbrev Lacks : ℕ → List ℕ → Type 0
Lacks stop bytes = list_all (λ b. not (b == stop)) bytes ≡ true

found-back : (i : ℕ) (stop : ℕ) (word rest : List ℕ) → Lacks stop word
    → position_from (λ b. b == stop) i (word ++ stop ∷ rest) ≡ Some (i + length word)
found-back i stop [] rest e = grind (arith, nat_tests)
found-back i stop (b ∷ word) rest e = grind (arith, nat_tests, found-back (i + 1) stop word rest)

-- a word, the separator, and the rest
abbrev Parted : ℕ → List ℕ → List ℕ → List ℕ → Type 0
Parted stop bytes word rest = Lacks stop word × (bytes ≡ word ++ stop ∷ rest)

pub split_once-only : (stop : ℕ) (bytes word rest : List ℕ) → split_once stop bytes ≡ Some (word, rest) → Parted stop bytes word rest
split_once-only stop bytes word rest e =
    let at = map-some _ (position (λ b. b == stop) bytes) (word, rest) e in
    let is = at.1 in
    let found = position-Some (λ b. b == stop) bytes at.0 0 is in
    let lacks : Lacks stop (take at.0 bytes) = list_all-from_AllPass (λ b. not (b == stop)) (take at.0 bytes)
    (λ k d lt. grind (arith, nat_tests, lt, length-take-le at.0 bytes, get_or-take at.0 bytes k d, position-Some (λ b. b == stop) bytes at.0 d is)) in
    grind (arith, nat_tests, lacks, found.0, found.1, take-append-drop at.0 bytes, drop_more bytes at.0 0)

at_offset : List ℕ → ℕ → List ℕ × List ℕ
at_offset bytes offset = (take offset bytes, drop (offset + 1) bytes)

at_end : (stop : ℕ) (word rest : List ℕ) → at_offset (word ++ stop ∷ rest) (length word) ≡ (word, rest)
unfolding at_offset
at_end stop word rest =
    let fact = drop_at (word ++ stop ∷ []) rest (length word + 1) (length-append word (stop ∷ [])) in
    grind (arith, nat_tests, take-append_seam word (stop ∷ rest), append_assoc word (stop ∷ []) rest, fact, length-append word (stop ∷ []))

pub split_once-back : (stop : ℕ) (word rest : List ℕ) → Lacks stop word → split_once stop (word ++ stop ∷ rest) ≡ Some (word, rest)
unfolding at_offset
split_once-back stop word rest lacks = grind (arith, nat_tests, found-back 0 stop word rest lacks, at_end stop word rest, position_from-zero)

-- ---- a number before a separator

no_digit : (stop : ℕ) (word : List ℕ) → is_ascii_digit stop ≡ false → list_all is_ascii_digit word ≡ true → Lacks stop word
no_digit stop [] other e = refl
no_digit stop (b ∷ word) other e = grind (arith, nat_tests, no_digit stop word other)

pub number_before-back : (stop n : ℕ) (rest : List ℕ) → is_ascii_digit stop ≡ false → IsHeaderNumber n
    → number_before stop (decimal n ++ stop ∷ rest) ≡ Some (n, rest)
number_before-back stop n rest other short =
    grind (arith, nat_tests, split_once-back, no_digit, digits_decimal, own, is_number-decimal, digits_value-decimal)

pub number_before-only : (stop : ℕ) (bytes : List ℕ) (n : ℕ) (rest : List ℕ) → number_before stop bytes ≡ Some (n, rest)
    → IsHeaderNumber n × (bytes ≡ decimal n ++ stop ∷ rest)
number_before-only stop bytes n rest e =
    let at = then-some (split_once stop bytes) _ (n, rest) e in
    let parted = split_once-only stop bytes at.0.0 at.0.1 at.1 in
    grind (arith, nat_tests, if-some, is_number-only)

-- ---- parts of a length

pub split_at-back : (n : ℕ) (part rest : List ℕ) → length part ≡ n → split_at n (part ++ rest) ≡ Some (part, rest)
split_at-back n part rest e = grind (arith, nat_tests, le-leb, length-append, take_at, drop_at)

pub split_at-only : (n : ℕ) (bytes part rest : List ℕ) → split_at n bytes ≡ Some (part, rest) → (length part ≡ n) × (bytes ≡ part ++ rest)
split_at-only n bytes part rest e = grind (arith, nat_tests, if-some, length-take-le, leb-true, take-append-drop)

pub if_text-back : (part rest : List ℕ) → IsUtf8 part → if_text (part, rest) ≡ Some (part, rest)
if_text-back part rest text = grind (arith, nat_tests, is_utf8-from_IsUtf8 part text)

pub if_text-only : (p q : List ℕ × List ℕ) → if_text p ≡ Some q → (p ≡ q) × IsUtf8 q.0
if_text-only p q e = grind (arith, nat_tests, if-some, IsUtf8-from_is_utf8)

pub split_text-only : (n : ℕ) (bytes part rest : List ℕ) → (split_at n bytes then if_text) ≡ Some (part, rest)
    → (length part ≡ n) × IsUtf8 part × (bytes ≡ part ++ rest)
split_text-only n bytes part rest e =
    let at = then-some (split_at n bytes) if_text (part, rest) e in
    let text = if_text-only at.0 (part, rest) at.2 in
    let read = split_at-only n bytes part rest (at.1 ∙ ap Some text.0) in
    (read.0, text.1, read.1)

-- ---- words

pub starts_with-only : (bytes word : List ℕ) → starts_with nat_eq bytes word ≡ true → bytes ≡ word ++ drop (length word) bytes
starts_with-only bytes word e = (starts_is {E = nat_eq} Decides-eqb bytes word (starts_with nat_eq bytes word) refl).0 e

pub strip_prefix-only : (front bytes rest : List ℕ) → strip_prefix front bytes ≡ Some rest → bytes ≡ front ++ rest
strip_prefix-only front bytes rest e = grind (arith, nat_tests, if-some, starts_with-only)
