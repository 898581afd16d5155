-- The lines of an index are those of its list.
use Rattle.std.proofs.Common.{arith, ◌≡◌, ◌+◌, ◌<◌, ℕ, List, [], ◌∷◌, ◌++◌, get_or, length, map, take, refl, sym, ap, ◌∙◌}
use Rattle.std.proofs.lemmas.Bool.Decides.{nat_tests}
use Rattle.std.proofs.lemmas.List.{length-map, map_push, take_more}
use Rattle.attr_glob.specs.declared.search.pattern.Mapping.{Mapping}
use Rattle.attr_glob.specs.declared.search.pattern.indexed_line.IndexedLine.{IndexedLine}
use Rattle.attr_glob.specs.Indexed.{NumberedPattern, indexed_line, indexed_lines, listed_lines}
use Rattle.attr_glob.specs.Views.{pattern_view, patterns_of}
use Rattle.attr_glob.specs.shared.LineShapes.{indexed_keys, key_of_line}

map_map : {X Y Z : Type 0} (g : Y → Z) (f : X → Y) (xs : List X) → map g (map f xs) ≡ map (λ x. g (f x)) xs
map_map g f [] = refl
map_map g f (x ∷ xs) = ap (λ l. g (f x) ∷ l) (map_map g f xs)

same_line : {V : Type 0} (line : IndexedLine) (mapping : Mapping V) → pattern_view line.pattern ≡ pattern_view mapping.pattern →
    line.number ≡ mapping.sequence_number → indexed_line line ≡ record { pattern = pattern_view mapping.pattern; number = mapping.sequence_number }
same_line line mapping pattern number =
    ap (λ p. record { pattern = p; number = line.number }) pattern
    ∙ ap (λ n. record { pattern = pattern_view mapping.pattern; number = n }) number

-- one more line
pub lines_more : {V : Type 0} (lines lines' : List IndexedLine) (mappings : List (Mapping V)) (line : IndexedLine) (mapping : Mapping V) (i : ℕ) →
    i < length mappings → mapping ≡ get_or mappings i mapping → indexed_lines lines ≡ listed_lines (take i mappings) → lines' ≡ lines ++ line ∷ [] →
    pattern_view line.pattern ≡ pattern_view mapping.pattern → line.number ≡ mapping.sequence_number →
    indexed_lines lines' ≡ listed_lines (take (i + 1) mappings)
lines_more {V} lines lines' mappings line mapping i lt here so_far pushed pattern number =
    let listed : Mapping V → NumberedPattern = λ m. record { pattern = pattern_view m.pattern; number = m.sequence_number } in
    ap indexed_lines pushed ∙ map_push indexed_line lines line ∙ ap (λ l. l ++ indexed_line line ∷ []) so_far
    ∙ ap (λ n. listed_lines (take i mappings) ++ n ∷ []) (same_line line mapping pattern number)
    ∙ sym (ap listed_lines (take_more mappings i mapping lt ∙ ap (λ m. take i mappings ++ m ∷ []) (sym here))
    ∙ map_push listed (take i mappings) mapping)

-- as many lines
pub lines_length : {V : Type 0} (lines : List IndexedLine) (mappings : List (Mapping V)) → indexed_lines lines ≡ listed_lines mappings →
    length lines ≡ length mappings
lines_length {V} lines mappings e = grind (arith, nat_tests, length-map)

-- and so are its patterns
pub patterns_same : {V : Type 0} (lines : List IndexedLine) (mappings : List (Mapping V)) → indexed_lines lines ≡ listed_lines mappings →
    map (λ l. pattern_view l.pattern) lines ≡ patterns_of mappings
patterns_same {V} lines mappings e =
    sym (map_map (λ (n : NumberedPattern). n.pattern) indexed_line lines) ∙ ap (map (λ (n : NumberedPattern). n.pattern)) e
    ∙ map_map (λ (n : NumberedPattern). n.pattern)
    (λ (m : Mapping V). record { pattern = pattern_view m.pattern; number = m.sequence_number }) mappings

-- and its keys
pub keys_read : {V : Type 0} (lines : List IndexedLine) (mappings : List (Mapping V)) → indexed_lines lines ≡ listed_lines mappings →
    indexed_keys lines ≡ map key_of_line (patterns_of mappings)
keys_read {V} lines mappings e =
    sym (map_map key_of_line (λ (l : IndexedLine). pattern_view l.pattern) lines) ∙ ap (map key_of_line) (patterns_same lines mappings e)
