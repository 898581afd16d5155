-- A text without the slashes at its end, and the variables that were looked up.
use Rattle.std.proofs.lemmas.Grind.{common_steps}
use Rattle.std.proofs.lemmas.Bool.Decides.{nat_tests}
use Rattle.std.proofs.Common.{◌≡◌, ◌<◌, ◌≤◌, ◌-◌, ℕ, List, [], ◌∷◌, length, take, get_or, refl, Option, Some, None}
use Rattle.std.proofs.Common.{arith, eq-eqb, lit<, Bor, String, Global, string_bytes, Result}
use Rattle.std.specs.Prelude.{is_some, option_map, IfOk}
use Rattle.std.specs.Fn.{Mut, CalledAt}
use Rattle.std.specs.List.{suffix_len}
use Rattle.std.specs.Str.Pattern.{IsTrimEndMatches, IsFullyTrimmed, CutsSuffixes, FindsCharSuffix}
use Rattle.std.proofs.lemmas.Bool.{ne_eqb}
use Rattle.std.proofs.lemmas.List.{length-take-le, take-take, get_or-take, take_more, take_all}
use Rattle.std.proofs.lemmas.Str.{encode_ascii}
use Rattle.std.proofs.lemmas.List.Sums.{suffix_len_is}
use Rattle.attr_wildmatch.specs.Slashes.{is_slash}
use Rattle.gix_attributes.specs.Sources.{Asked, AsksInOrder, location}
use Rattle.gix_attributes.specs.declared.source.Prefixes.{Prefixes}
use Rattle.gix_attributes.specs.declared.source.Source.{Source}

-- the slashes after so many bytes were cut
record AreCut (text left : List ℕ) : Type 0 where
  pub front : left ≡ take (length left) text
  pub within : length left ≤ length text
  pub slashes : (k : ℕ) → length left ≤ k → k < length text → get_or text k 0 ≡ 47

cut_all : (text : List ℕ) (widths : List ℕ) (left : List ℕ) → CutsSuffixes (FindsCharSuffix 47) text widths left → AreCut text left
cut_all text [] left cuts = grind (arith, nat_tests, take_all)
cut_all text (n ∷ ns) left (mid, cuts, (width, at, boundary), is) =
    grind (arith, common_steps, nat_tests, length-take-le, get_or-take, take-take, lit<, cut_all text ns mid cuts)

-- what is left has no slash at its end
last_byte : (left : List ℕ) → IsFullyTrimmed (FindsCharSuffix 47) left → 0 < length left → get_or left (length left - 1) 0 ≡ 47 → ⊥
last_byte left (None, finds, end) some is = grind (arith, nat_tests, take_all, take_more, encode_ascii, lit<, finds (take (length left - 1) left))
last_byte left (Some n, finds, end) some is = absurd (omega (arith, finds.0, end))

pub trimmed : (text left : List ℕ) → IsTrimEndMatches (FindsCharSuffix 47) text left → left ≡ take (length text - suffix_len is_slash text) text
trimmed text left trims = grind (arith, nat_tests, cut_all, suffix_len_is, eq-eqb, ne_eqb, last_byte, get_or-take)

-- a variable that was looked up, with its value
abbrev pub asked_for : List ℕ → Option (String Global) → Asked
asked_for name answer = record { name = name; value = option_map string_bytes answer }

-- one variable was looked up
pub asks_one : {F : Type 0} (calls : Mut F (Bor (List ℕ) × Unit {0}) (Option (String Global))) (f : F) (name : List ℕ)
    (answer : Option (String Global)) (after : F)
    → CalledAt calls f name answer after → AsksInOrder calls f (asked_for name answer ∷ [])
asks_one calls f name answer after called = (after, (after, (answer, called, refl), refl))

-- two were, one after the other
pub asks_two : {F : Type 0} (calls : Mut F (Bor (List ℕ) × Unit {0}) (Option (String Global))) (f : F) (name : List ℕ)
    (answer : Option (String Global)) (mid : F)
    (name' : List ℕ) (answer' : Option (String Global)) (after : F)
    → CalledAt calls f name answer mid → CalledAt calls mid name' answer' after → AsksInOrder calls f
    (asked_for name answer ∷ asked_for name' answer' ∷ [])
asks_two calls f name answer mid name' answer' after called called' =
    (after, (mid, (answer, called, refl), (after, (answer', called', refl), refl)))

pub is_some-text : (answer : Option (String Global)) → is_some (option_map string_bytes answer) ≡ is_some answer
is_some-text answer = grind (arith, nat_tests)

-- a result that is the path of a source is the path of the same source by another name
pub located : {E : Type 0} (source known : Source) (prefixes : Prefixes) (asked : List Asked) (found : Option (List ℕ))
    (result : Result (Option (String Global)) E)
    → source ≡ known → location known prefixes asked ≡ found → IfOk result (λ path. option_map string_bytes path ≡ found)
    → IfOk result (λ path. option_map string_bytes path ≡ location source prefixes asked)
located source known prefixes asked found result is same returned = grind (arith, nat_tests)
