-- What a copy has of its original (own).
use Rattle.std.specs.Prelude.{◌≡◌, List}
use Rattle.std.specs.List.{AllZip}
use Rattle.attr_glob.specs.declared.search.pattern.Mapping.{Mapping}
use Rattle.attr_glob.specs.Views.{pattern_view}

-- the pattern and the number of a mapping, and for its value what the values' own `Clone` may give
pub record IsMappingClone {V : Type 0} (IsClone : V → V → Type 0) (mapping copy : Mapping V) : Type 0 where
  pub pattern : pattern_view copy.pattern ≡ pattern_view mapping.pattern
  pub value : IsClone mapping.value copy.value
  pub sequence_number : copy.sequence_number ≡ mapping.sequence_number

-- a copy of each mapping, in their order
abbrev pub AreMappingClones : {V : Type 0} → (V → V → Type 0) → List (Mapping V) → List (Mapping V) → Type 0
AreMappingClones IsClone mappings copies = AllZip (IsMappingClone IsClone) mappings copies
