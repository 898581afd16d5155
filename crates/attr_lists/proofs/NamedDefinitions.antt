-- Definitions by number and by name: they are the same where the lines have the numbers of their names.
use Rattle.std.proofs.Common.{◌≡◌, ◌≢◌, ℕ, ◌<◌, true, false, cond, ltb, List, [], ◌∷◌, length, get_or, All}
use Rattle.std.proofs.Common.{slice_get, bytes_eq, Option, Some, None, unwrap_or, option_map, refl, sym, ap, ◌∙◌, arith}
use Rattle.std.proofs.Common.{true≢false}
use Rattle.std.specs.List.{list_any, position_or_len, IsDistinct}
use Rattle.std.specs.Cmp.Lexicographic.{bytes_decides, nat_list_eq_equiv}
use Rattle.std.proofs.lemmas.Bool.{cases_Bool, cases_lt, cond-true, cond-false, lt-ltb}
use Rattle.std.proofs.lemmas.List.Elements.{All-head, All-tail}
use Rattle.std.proofs.lemmas.List.Folds.{list_any_at, list_any_none}
use Rattle.std.proofs.lemmas.List.Quantifiers.{position-Some}
use Rattle.std.proofs.lemmas.List.Sums.{fails_before_first, position_or_len_is}
use Rattle.std.proofs.lemmas.Map.Keys.{apart_from_distinct}
use Rattle.std.proofs.lemmas.Option.{get_or_from_slice_get, slice_get_within}
use Rattle.std.proofs.lemmas.Option.{slice_get-get_or}
use Rattle.attr_lists.specs.Definitions.{bodies_of_number, bodies_named, macros_defined}
use Rattle.attr_lists.specs.Collections.{NumberedBody}
use Rattle.attr_lists.specs.ListViews.{Entry}
use Rattle.attr_lists.specs.Numbers.{number_of}
use Rattle.attr_lists.specs.shared.Keeping.{HasMacroNumber}
use Rattle.attr_lists.specs.inner.NameSteps.{has_name_at}
use Rattle.attr_lists.proofs.DefinitionLemmas.{bodies_named-cons}
use Rattle.attr_lists.specs.inner.Registered.{bodies_of_name}

-- the name is among the names
abbrev pub Has : List (List ℕ) → List ℕ → Type 0
Has names name = list_any (bytes_eq name) names ≡ true

pub itself : (name : List ℕ) → bytes_eq name name ≡ true
itself name = (bytes_decides name name).1 refl

-- a name among the names has the number of its index
pub index_of : (names : List (List ℕ)) (name : List ℕ) → Has names name → position_or_len (bytes_eq name) names < length names
index_of names name h = grind (arith, true≢false, list_any_none, bytes_eq, fails_before_first, cases_lt)

-- of names that differ, the one at a number has this number
pub number_at : (names : List (List ℕ)) (n : ℕ) → IsDistinct bytes_eq names → n < length names → number_of names (get_or names n []) ≡ Some n
number_at names n distinct lt =
    let name = get_or names n [] in
    let at = position_or_len_is (bytes_eq name) names n [] (omega (arith, lt))
    (λ k before. nat_list_eq_equiv.symm name (get_or names k []) ∙ apart_from_distinct bytes_eq names k n [] distinct before lt)
    (λ inside. itself name) in
    ap (λ i. cond (ltb i (length names)) (Some i) None) at ∙ cond-true (ltb n (length names)) (Some n) None (lt-ltb n (length names) lt)

-- a name has a number where it is among the names
pub absent : (names : List (List ℕ)) (name : List ℕ) → number_of names name ≡ None → list_any (bytes_eq name) names ≡ false
absent names name none = grind (arith, bytes_eq, true≢false, cond-true, lt-ltb, index_of, cases_Bool)

pub without_number : (names : List (List ℕ)) (name : List ℕ) → list_any (bytes_eq name) names ≡ false → number_of names name ≡ None
without_number names name none = at (number_of names name) refl
  where
    at : (o : Option ℕ) → number_of names name ≡ o → number_of names name ≡ None
    at None e = e
    at (Some n) e =
        let here = position-Some (bytes_eq name) names n [] e in
        absurd (true≢false (sym (list_any_at (bytes_eq name) names n [] here.0 here.1) ∙ none))

-- the number of a name is that of its index
pub number_name : (names : List (List ℕ)) (name : List ℕ) (n : ℕ) → number_of names name ≡ Some n → (n < length names) × (get_or names n [] ≡ name)
number_name names name n e =
    let first = position-Some (bytes_eq name) names n [] e in (first.0, sym ((bytes_decides name (get_or names n [])).0 first.1))

-- of names that differ, each has the number at which it stands
pub number_where : (names : List (List ℕ)) (name : List ℕ) (n : ℕ) → IsDistinct bytes_eq names → slice_get names n ≡ Some name
    → number_of names name ≡ Some n
number_where names name n distinct h =
    ap (number_of names) (sym (get_or_from_slice_get names n name [] h)) ∙ number_at names n distinct (slice_get_within names n name h)

-- of names that differ, each has no number but the one at which it stands
pub has_only : (names : List (List ℕ)) (name : List ℕ) (k : ℕ) → IsDistinct bytes_eq names → has_name_at names name k ≡ true
    → number_of names name ≡ Some k
has_only names name k distinct has = at (slice_get names k) refl
  where
    at : (o : Option (List ℕ)) → slice_get names k ≡ o → number_of names name ≡ Some k
    at None e = absurd (true≢false (sym has ∙ ap (λ o. unwrap_or (option_map (bytes_eq name) o) false) e))
    at (Some text) e =
        let same : name ≡ text = (bytes_decides name text).0 (sym (ap (λ o. unwrap_or (option_map (bytes_eq name) o) false) e) ∙ has) in
        number_where names name k distinct (e ∙ ap Some (sym same))

has_own : (names : List (List ℕ)) (name : List ℕ) (n : ℕ) → number_of names name ≡ Some n → has_name_at names name n ≡ true
has_own names name n e =
    let here = number_name names name n e in
    ap (λ o. unwrap_or (option_map (bytes_eq name) o) false) (slice_get-get_or names n [] here.0)
    ∙ (bytes_decides name (get_or names n [])).1 (sym here.1)

-- so the bodies of a name are those of its number
pub bodies_by_number : (names : List (List ℕ)) (name : List ℕ) → IsDistinct bytes_eq names → (o : Option ℕ) → number_of names name ≡ o
    → (list : List NumberedBody) → bodies_of_name names list name ≡ unwrap_or (option_map (λ n. bodies_of_number n list) o) []
bodies_by_number names name distinct o e [] = grind arith
bodies_by_number names name distinct None e (b ∷ list) =
    grind (arith, cond-false, cases_Bool, has_only, bodies_by_number names name distinct None e list)
bodies_by_number names name distinct (Some n) e (b ∷ list) =
    grind (arith, cond-true, cond-false, cases_Bool, has_only, has_own, bodies_by_number names name distinct (Some n) e list)

-- the name at the number of a name is that name
pub named_at : (names : List (List ℕ)) (name : List ℕ) (n : ℕ) (text : List ℕ) → number_of names name ≡ Some n → slice_get names n ≡ Some text →
    text ≡ name
named_at names name n text is at = sym (get_or_from_slice_get names n text [] at) ∙ (number_name names name n is).1

-- the macros of lines that have the numbers of their names have the bodies that the lines define, name by name
pub bodies_by_name : (names : List (List ℕ)) (name : List ℕ) (lines : List Entry) → All (HasMacroNumber names) lines
    → bodies_of_name names (macros_defined lines) name ≡ bodies_named name lines
bodies_by_name names name [] h = refl
bodies_by_name names name (line ∷ lines) h =
    let here = All-head (HasMacroNumber names) line lines h in
    let rest = bodies_by_name names name lines (All-tail (HasMacroNumber names) line lines h) in
    grind (arith, here, rest, bodies_named-cons, cond-true, cond-false, cases_Bool)
