-- A copy of a list has its lines.
use Rattle.std.proofs.Common.{arith, ◌≡◌, List, ◌∷◌}
use Rattle.attr_glob.specs.Clones.{AreMappingClones}
use Rattle.attr_glob.specs.declared.search.pattern.Mapping.{Mapping}
use Rattle.attr_lists.specs.ListViews.{SameValue, entries_view}
use Rattle.attr_lists.specs.declared.types.Value.{Value}

pub copied_lines : (ms copies : List (Mapping Value)) → AreMappingClones SameValue ms copies → entries_view copies ≡ entries_view ms
copied_lines (m ∷ ms) (c ∷ copies) same = grind (arith, copied_lines ms copies)
copied_lines ms copies same = grind arith
