-- Each part of the copy is equal to that of the list.
use Rattle.std.proofs.Common.{arith, ◌&&◌, nat_eq, eq-eqb}
use Rattle.std.proofs.lemmas.Bool.Decides.{nat_tests}
use Rattle.std.specs.Cmp.Lexicographic.{pointwise}
use Rattle.std.specs.Option.{option_eq}
use Rattle.std.specs.String.{string_eq}
use Rattle.attr_glob.specs.Clones.{IsMappingClone}
use Rattle.attr_glob.specs.contracts.pattern.PatternPartialEq.TheImpl as pattern
use Rattle.attr_wildmatch.proofs.ForCallers.{and_both}
use Rattle.attr_glob.proofs.Copies.{clones_equal, text_equal, base_equal}
use Rattle.attr_glob.proofs.IndexLemmas.{same_read}
use Rattle.attr_glob.proofs.search.pattern.laws.list_clone_is_equal.Goals as goal

pub returns : goal.returns
returns g c =
    let list = c.args.list.now in
    let copy = c.args.copy.now in
    let patterns = clones_equal (IsMappingClone g.T.Value.Clone.is_clone)
    (λ x y. pattern.ghosts.eq x.pattern y.pattern && (g.T.Value.PartialEq.eq x.value y.value && nat_eq x.sequence_number y.sequence_number))
    (λ x y h. grind (arith, nat_tests, and_both, nat_eq, same_read, eq-eqb, c.requires.values))
    list.patterns.items copy.patterns.items c.requires.patterns in
    and_both
    (pointwise (λ x y. pattern.ghosts.eq x.pattern y.pattern
    && (g.T.Value.PartialEq.eq x.value y.value && nat_eq x.sequence_number y.sequence_number)) copy.patterns.items list.patterns.items)
    (option_eq string_eq copy.source list.source && option_eq (λ v w. pointwise nat_eq v.items w.items) copy.base list.base)
    patterns
    (and_both (option_eq string_eq copy.source list.source) (option_eq (λ v w. pointwise nat_eq v.items w.items) copy.base list.base)
    (text_equal copy.source list.source c.requires.source) (base_equal copy.base list.base c.requires.base))
