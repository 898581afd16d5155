use Rattle.std.proofs.Common.{true, List, ℕ, None, codes, subst}
use Rattle.gix_attributes.specs.Additions.{AddsBuffer, registered_lists}
use Rattle.gix_attributes.specs.Globals.{built_in, built_in_source}
use Rattle.gix_attributes.proofs.KeepingLemmas.{as_no_lists}
use Rattle.gix_attributes.proofs.search.attributes.Search.new_built_in.Goals as goal

pub returns-clause-loaded : goal.returns-clause-loaded
unfolding built_in built_in_source
returns-clause-loaded c =
    let after = registered_lists c.add_patterns_buffer.new.self c.add_patterns_buffer.new.collection in
    let bytes : List ℕ = codes "[attr]binary -diff -merge -text" in
    let added = c.in_ok-add_patterns_buffer.ensures in
    subst (λ before. AddsBuffer (codes "[builtin]") None true bytes before after)
    (as_no_lists c.new-search.result c.args.collection.now c.new-search.ensures.lists c.new-search.ensures.list_ids)
    (subst (λ source. AddsBuffer source None true bytes (registered_lists c.new-search.result c.args.collection.now) after)
    c.in_ok-source.ensures.ok
    (record { lists = added.list; registered = added.registered }))
