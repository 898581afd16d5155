use Rattle.gix_attributes.proofs.OutcomeLemmas.{wanted_by_flags}
use Rattle.std.proofs.Common.{arith, sym, ◌∙◌}
use Rattle.std.proofs.lemmas.Bool.Decides.{nat_tests}
use Rattle.attr_search.proofs.ForCallers.{on_err}
use Rattle.gix_attributes.proofs.SearchingLemmas.{emptied_alike, not_both, same_state}
use Rattle.gix_attributes.proofs.search.attributes.Search.pattern_matching_relative_path.Goals as goal

pub returns-then-is_err-clause-one : goal.returns-then-is_err-clause-one
returns-then-is_err-clause-one c =
    rw (← c.out.view_is) (simp (c.new-query.ensures.path, c.new-query.ensures.case, c.new-query.ensures.is_dir) at c.search-found.ensures.one)

pub returns-then-is_err-clause-complete : goal.returns-then-is_err-clause-complete
returns-then-is_err-clause-complete c = grind (arith, wanted_by_flags, c.search-found.ensures.done)

pub returns-then-is_err-clause-unchanged : goal.returns-then-is_err-clause-unchanged
returns-then-is_err-clause-unchanged c = λ complete.
    absurd (not_both c.search-found.result (returns-then-is_err-clause-complete c complete) (sym c.is_err.ensures.value ∙ c.if-is_err.true))

pub returns-then-is_err-clause-refused : goal.returns-then-is_err-clause-refused
returns-then-is_err-clause-refused c = grind (arith, nat_tests, on_err, emptied_alike)

pub returns-else-is_err-clause-one : goal.returns-else-is_err-clause-one
returns-else-is_err-clause-one c =
    rw (← c.out.view_is) (simp (c.new-query.ensures.path, c.new-query.ensures.case, c.new-query.ensures.is_dir) at c.search-found.ensures.one)

pub returns-else-is_err-clause-searched : goal.returns-else-is_err-clause-searched
returns-else-is_err-clause-searched c =
    rw (← c.out.view_is) (simp (
      c.out.invariant.wanted,
      wanted_by_flags,
      c.new-query.ensures.path,
      c.new-query.ensures.case,
      c.new-query.ensures.is_dir,
    ) at c.search-found.ensures.searched)

pub returns-else-is_err-clause-joined : goal.returns-else-is_err-clause-joined
returns-else-is_err-clause-joined c =
    rw (← c.out.view_is) (simp (
      c.out.invariant.wanted,
      wanted_by_flags,
      c.new-query.ensures.path,
      c.new-query.ensures.case,
      c.new-query.ensures.is_dir,
    ) at c.search-found.ensures.joined)

pub returns-else-is_err-clause-found : goal.returns-else-is_err-clause-found
returns-else-is_err-clause-found c = rw (← c.out.view_is) (simp (c.out.invariant.wanted, wanted_by_flags) at c.search-found.ensures.found)

pub returns-else-is_err-clause-named : goal.returns-else-is_err-clause-named
returns-else-is_err-clause-named c = rw (← c.out.view_is) c.search-found.ensures.named

pub returns-else-is_err-clause-most : goal.returns-else-is_err-clause-most
returns-else-is_err-clause-most c =
    rw (← c.out.view_is) (simp (
      c.out.invariant.wanted,
      wanted_by_flags,
      c.new-query.ensures.path,
      c.new-query.ensures.case,
      c.new-query.ensures.is_dir,
    ) at c.search-found.ensures.most)

pub returns-else-is_err-clause-least : goal.returns-else-is_err-clause-least
returns-else-is_err-clause-least c = rw (← c.out.view_is) (simp (c.out.invariant.wanted, wanted_by_flags) at c.search-found.ensures.least)

pub returns-else-is_err-clause-tested : goal.returns-else-is_err-clause-tested
returns-else-is_err-clause-tested c =
    rw (← c.out.view_is) (simp (c.out.invariant.wanted, wanted_by_flags, c.new-query.ensures.path, c.new-query.ensures.case)
    at c.search-found.ensures.tested)

pub returns-else-is_err-clause-roots : goal.returns-else-is_err-clause-roots
returns-else-is_err-clause-roots c =
    rw (← c.out.view_is) (simp (
      c.out.invariant.wanted,
      wanted_by_flags,
      c.new-query.ensures.path,
      c.new-query.ensures.case,
      c.new-query.ensures.is_dir,
    ) at c.search-found.ensures.roots)

pub returns-else-is_err-clause-complete : goal.returns-else-is_err-clause-complete
returns-else-is_err-clause-complete c = grind (arith, wanted_by_flags, c.search-found.ensures.done)

pub returns-else-is_err-clause-unchanged : goal.returns-else-is_err-clause-unchanged
returns-else-is_err-clause-unchanged c = λ complete.
    let same = (simp (c.out.invariant.wanted, wanted_by_flags) at c.search-found.ensures.unchanged) (rw (← c.out.view_is) at complete) in
    same_state c.out.inside c.search-found.new.self.slots same ∙ c.out.view_is
