use Rattle.attr_search.specs.inner.DirectoryKeys.{GathersKeys}
use Rattle.attr_search.proofs.indexed_lists.IndexedLists.gather.Given as goal

abbrev pub invariant-loop-key : goal.invariant-loop-key
invariant-loop-key l = GathersKeys l.by_key.keys l.keys l.key-index l.numbers.items
