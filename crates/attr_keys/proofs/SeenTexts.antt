-- Keys as they are read, and texts in lower case.
use Rattle.std.proofs.Common.{arith, ◌≡◌, ◌<◌, ℕ, suc, Bool, true, false, List, [], ◌∷◌, Option, Some, length, get_or, map, reverse}
use Rattle.std.proofs.Common.{refl, sym, ap, ◌∙◌}
use Rattle.std.specs.Prelude.{option_map, slice_get}
use Rattle.std.proofs.lemmas.Grind.{common_steps}
use Rattle.std.proofs.lemmas.Bool.Decides.{nat_tests}
use Rattle.std.proofs.lemmas.List.{length-map, length-reverse, map_push, reverse-append, reverse-reverse}
use Rattle.std.proofs.lemmas.Option.{slice_get-get_or, slice_get-map}
use Rattle.attr_keys.specs.declared.key.Key.{Key}
use Rattle.attr_keys.specs.shared.KeyContents.{KeyContent}
use Rattle.attr_keys.specs.inner.Cases.{content_in_case, in_case, seen, seen_keys}
use Rattle.attr_keys.specs.shared.Codes.{byte_code, codes_of, key_codes, row_codes}
use Rattle.attr_keys.specs.shared.Meeting.{directed, is_end, key_content}

pub codes_in_case : (fold : Bool) (text : List ℕ) (is_whole : Bool) → codes_of false (in_case fold text) is_whole ≡ codes_of fold text is_whole
codes_in_case true (b ∷ bs) is_whole = ap (λ l. byte_code true b ∷ l) (codes_in_case true bs is_whole)
codes_in_case fold text is_whole = grind (arith, nat_tests)

-- a text that is reversed twice is the same
pub directed_twice : (from_end : Bool) (text : List ℕ) → directed from_end (directed from_end text) ≡ text
directed_twice from_end text = grind (arith, nat_tests, reverse-reverse)

-- the codes of a key that is read like this
pub codes_seen : (fold from_end : Bool) (key : Key) → codes_of fold (directed from_end key.text.now) key.is_whole
    ≡ key_codes (Some (seen fold from_end (key_content key)))
codes_seen fold from_end key = grind (arith, nat_tests, codes_in_case, directed_twice)

-- the key of a line
pub row_is : {K : Type 0} (content : K → KeyContent) (lines : List K) (row : ℕ) (line : K) (key : Key) → row < length lines →
    line ≡ get_or lines row line → key_content key ≡ content line → slice_get (map content lines) row ≡ Some (key_content key)
row_is content lines row line key lt at is =
    slice_get-map content lines row ∙ ap (option_map content) (slice_get-get_or lines row line lt ∙ ap Some (sym at)) ∙ ap Some (sym is)

-- the codes of the key of a line
pub row_seen : {K : Type 0} (content : K → KeyContent) (fold from_end : Bool) (lines : List K) (row : ℕ) (line : Option K) →
    slice_get lines row ≡ line →
    key_codes (option_map (λ l. seen fold from_end (content l)) line) ≡ row_codes (seen_keys fold from_end (map content lines)) row
row_seen content fold from_end (l ∷ ls) (suc row) line is = row_seen content fold from_end ls row line is
row_seen content fold from_end lines row line is = grind (arith, nat_tests)

map_reverse : (f : ℕ → ℕ) (x : List ℕ) → map f (reverse x) ≡ reverse (map f x)
map_reverse f [] = refl
map_reverse f (b ∷ bs) = grind (arith, common_steps, reverse-append, map_push, map_reverse f bs)

pub directed_in_case : (from_end fold : Bool) (text : List ℕ) → directed from_end (in_case fold text) ≡ in_case fold (directed from_end text)
directed_in_case from_end fold text = grind (arith, nat_tests, map_reverse)

-- keys in lower case, read as they are
pub seen_lower : (from_end : Bool) (keys : List KeyContent) →
    seen_keys true from_end keys ≡ seen_keys false from_end (map (content_in_case true) keys)
seen_lower from_end [] = refl
seen_lower from_end (key ∷ keys) =
    let own = directed (is_end key.subject) key.text in
    ap (λ t. with_text t ∷ seen_keys true from_end keys)
    (sym (directed_in_case from_end true own) ∙ ap (directed from_end) (sym (directed_in_case (is_end key.subject) true key.text)))
    ∙ ap (λ l. seen false from_end (content_in_case true key) ∷ l) (seen_lower from_end keys)
  where
    with_text : List ℕ → KeyContent
    with_text t = record { subject = key.subject; text = t; is_whole = key.is_whole }

pub length-in_case : (fold : Bool) (text : List ℕ) → length (in_case fold text) ≡ length text
length-in_case fold text = grind (arith, nat_tests, length-map)

pub length-seen : (fold from_end : Bool) (text : List ℕ) → length (in_case fold (directed from_end text)) ≡ length text
length-seen fold from_end text = grind (arith, nat_tests, length-map, length-reverse)
