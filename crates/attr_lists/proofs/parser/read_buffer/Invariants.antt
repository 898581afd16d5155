-- The entries so far, with those of the lines that are left, are the entries of all lines; and so for the dropped lines.
use Rattle.attr_lists.specs.ListViews.{entries_view}
use Rattle.attr_lists.proofs.ReadingLemmas.{LinesSoFar}
use Rattle.attr_lists.proofs.parser.read_buffer.Given as goal

abbrev pub invariant-loop-line : goal.invariant-loop-line
invariant-loop-line l =
    LinesSoFar l.allow_macros l.bytes l.line-iterator.results l.initial.names l.names (entries_view l.mappings.items) l.dropped.items
