-- What clauses see of the crate's values: their content, and not its address in memory (own).
use Rattle.std.specs.Prelude.{ℕ, List, map, Vec, Option, option_map}
use Rattle.attr_glob.specs.declared.pattern.Mode.{Mode}
use Rattle.attr_glob.specs.declared.pattern.Pattern.{Pattern}
use Rattle.attr_glob.specs.declared.search.pattern.Mapping.{Mapping}
use Rattle.attr_glob.specs.Patterns.{Reading}

-- the flags of a mode, as the sum of their numbers
abbrev pub mode_bits : Mode → ℕ
mode_bits mode = mode.0

abbrev pub pattern_view : Pattern → Reading
pattern_view p = record { text = p.text.items; mode = mode_bits p.mode; wildcard = p.first_wildcard_pos }

-- the bytes of a list's base
abbrev pub base_bytes : {A : Type 0} → Option (Vec ℕ A) → Option (List ℕ)
base_bytes base = option_map (λ b. b.items) base

-- the patterns of mappings, in their order
abbrev pub patterns_of : {V : Type 0} → List (Mapping V) → List Reading
patterns_of mappings = map (λ m. pattern_view m.pattern) mappings
