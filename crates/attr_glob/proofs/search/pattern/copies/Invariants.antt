use Rattle.std.proofs.Common.{take}
use Rattle.attr_glob.specs.Clones.{AreMappingClones}
use Rattle.attr_glob.proofs.search.pattern.copies.Given as goal

abbrev pub invariant-loop-mapping : goal.invariant-loop-mapping
invariant-loop-mapping g l = AreMappingClones g.V.Clone.is_clone (take l.mapping-index l.mappings) l.copies.items
