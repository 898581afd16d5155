use Rattle.std.proofs.Common.{length, sym, ap, ◌∙◌, subst}
use Rattle.std.proofs.lemmas.List.{length-map}
use Rattle.gix_attributes.specs.Contents.{Content}
use Rattle.gix_attributes.specs.Covered.{ListsAreCovered}
use Rattle.gix_attributes.specs.Lookups.{IsLookedUp, Lookup, OfTheOnlyTable, ReturnsAnswers, setting_in}
use Rattle.gix_attributes.specs.SearchViews.{lists_in}
use Rattle.worktree.specs.WorktreeView.{files_of}
use Rattle.worktree.specs.Worktrees.{lookup}
use Rattle.worktree.proofs.Worktree.look_up.Goals as goal

pub pattern_matching_relative_path-requires-clause-covered : goal.pattern_matching_relative_path-requires-clause-covered
pattern_matching_relative_path-requires-clause-covered c =
    let made = ap (λ (held : Content). length held.slots) c.in_ok-initialize_with_selection.ensures.ok
    ∙ length-map c.self.inside.collection.names _ in
    subst (λ n. ListsAreCovered n (lists_in c.self.inside.directories)) (sym made) c.self.invariant.directories_numbered.covered

pub pattern_matching_relative_path-requires-2-clause-covered : goal.pattern_matching_relative_path-requires-2-clause-covered
pattern_matching_relative_path-requires-2-clause-covered c =
    let made = ap (λ (held : Content). length held.slots) c.in_ok-initialize_with_selection.ensures.ok
    ∙ length-map c.self.inside.collection.names _ in
    subst (λ n. ListsAreCovered n (lists_in c.self.inside.globals)) (sym (c.in_ok-pattern_matching_relative_path.ensures.kept.count ∙ made))
    c.self.invariant.globals_numbered.covered

pub returns : goal.returns
returns c =
    let w = c.self.inside in
    let start = c.initialize_with_selection.new.self in
    let middle = c.pattern_matching_relative_path.new.out in
    let after = c.pattern_matching_relative_path-2.new.out in
    let found = c.in_ok-pattern_matching_relative_path.ensures in
    let further = c.in_ok-pattern_matching_relative_path-2.ensures in
    let q = lookup c.args.question (files_of w) in
    let directories : Lookup = record q { lists = lists_in w.directories } in
    let first : IsLookedUp directories start middle = record {
      initialized = c.in_ok-initialize_with_selection.ensures.ok;
      lists_named = c.self.invariant.directories_numbered.named;
      bodies_named = c.bodies_have_names.ensures w.collection c.self.invariant.registered.sound;
      searched = found.searched;
      named = found.named;
      kept = found.kept;
    } in
    let both = c.further_searches_join.ensures directories (lists_in w.globals) start middle after first record {
      lists_named = c.self.invariant.globals_numbered.named;
      joined = further.joined;
      named = further.named;
      kept = further.kept;
    } in
    subst (λ files. let q = lookup c.args.question files in OfTheOnlyTable (setting_in q) (ReturnsAnswers q after)) c.self.view_is
    (c.answers_are_of_the_only_table.ensures q start after both)
