-- Patterns that are read the same, and lists of them.
use Rattle.std.proofs.Common.{◌≡◌, ℕ, suc, ◌<◌, ◌≤◌, true, ◌&&◌, List, ◌∷◌, length, get_or, take, map, Option, ap, arith, nat_eq, eq-eqb}
use Rattle.std.specs.Option.{option_eq}
use Rattle.std.specs.Cmp.Lexicographic.{pointwise, bytes_decides}
use Rattle.std.proofs.lemmas.Bool.Decides.{nat_tests}
use Rattle.std.proofs.lemmas.Bool.{eqb-true, and_parts, and_from}
use Rattle.std.proofs.lemmas.List.{take_all}
use Rattle.attr_glob.specs.declared.pattern.Pattern.{Pattern}
use Rattle.attr_glob.specs.declared.search.pattern.Mapping.{Mapping}
use Rattle.attr_glob.specs.declared.search.pattern.indexed_line.IndexedLine.{IndexedLine}
use Rattle.attr_glob.specs.contracts.pattern.PatternPartialEq.TheImpl as pattern
use Rattle.attr_glob.specs.Patterns.{Reading}
use Rattle.attr_glob.specs.Views.{pattern_view, mode_bits, patterns_of}

offset_is : (x y : Option ℕ) → option_eq nat_eq x y ≡ true → x ≡ y
offset_is x y e = grind (arith, nat_tests, eqb-true)

offset_same : (x y : Option ℕ) → x ≡ y → option_eq nat_eq x y ≡ true
offset_same x y e = grind (arith, nat_tests, eq-eqb)

-- equal patterns are read the same
pub read_same : (x y : Pattern) → pattern.ghosts.eq x y ≡ true → pattern_view x ≡ pattern_view y
read_same x y e =
    let one = and_parts (pointwise nat_eq x.text.items y.text.items) (nat_eq (mode_bits x.mode)
    (mode_bits y.mode) && option_eq nat_eq x.first_wildcard_pos y.first_wildcard_pos) e in
    let text = (bytes_decides x.text.items y.text.items).0 one.0 in
    grind (arith, nat_tests, and_parts, nat_eq, eqb-true, offset_is)

-- patterns that are read the same are equal
pub same_read : (x y : Pattern) → pattern_view x ≡ pattern_view y → pattern.ghosts.eq x y ≡ true
same_read x y e =
    and_from (pointwise nat_eq x.text.items y.text.items) (nat_eq (mode_bits x.mode) (mode_bits y.mode) && option_eq nat_eq x.first_wildcard_pos
    y.first_wildcard_pos)
    ((bytes_decides x.text.items y.text.items).1 (ap (λ (r : Reading). r.text) e))
    (and_from (nat_eq (mode_bits x.mode) (mode_bits y.mode)) (option_eq nat_eq x.first_wildcard_pos y.first_wildcard_pos)
    (eq-eqb (mode_bits x.mode) (mode_bits y.mode) (ap (λ (r : Reading). r.mode) e))
    (offset_same x.first_wildcard_pos y.first_wildcard_pos (ap (λ (r : Reading). r.wildcard) e)))

abbrev pub pattern_in : IndexedLine → Reading
pattern_in line = pattern_view line.pattern

-- lists that are read the same are so at each index
pub lines_at : {V : Type 0} (xs : List IndexedLine) (ys : List (Mapping V)) (i : ℕ) (d : IndexedLine) (e : Mapping V) →
    i < length xs → i < length ys → map pattern_in xs ≡ patterns_of ys → pattern_in (get_or xs i d) ≡ pattern_view (get_or ys i e).pattern
lines_at (x ∷ xs) (y ∷ ys) (suc i) d e ltx lty same = grind (arith, nat_tests, lines_at xs ys i d e)
lines_at xs ys i d e ltx lty same = grind (arith, nat_tests)

pub take_whole : {X : Type 0} (xs : List X) (i : ℕ) → length xs ≤ i → take i xs ≡ xs
take_whole xs i h = take_all i xs h
