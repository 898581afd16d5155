-- Lemmas for the crates above, beside the contracts and the laws.

-- Tasks in the order of a search, from the last element of a list. `backwards-append`: of two lists the second comes first.
-- `length-tasks_in`: there is a task for each item.
pub use Rattle.attr_table.proofs.Listed.{backwards-append}
pub use Rattle.attr_table.proofs.Walked.{length-tasks_in}
-- The order of paths of occurrences. `first_beginning`: a path comes before those that go on from it. `first_trans`: of three paths in
-- order the first comes before the last.
pub use Rattle.attr_table.proofs.Order.{first_beginning, first_trans}
-- Walks. `fill_keeps`: a task keeps the slots that are filled. `fill_other`: a task keeps the slots of other attributes.
-- `then_walks`: one walk after another is a walk over the tasks of both.
pub use Rattle.attr_table.proofs.Walked.{fill_keeps, fill_other, then_walks}
-- Parts of a search, with their counts. `nothing_taken`: a search without tasks changes nothing. `done_taken`: neither does one whose
-- wanted attributes have answers. `then_searches`: one part after another. `passes_items`: items whose slots are filled are passed over.
-- `fills_task`: a task fills its slot, and the items of the body that it opens come next.
pub use Rattle.attr_table.proofs.Counted.{nothing_taken, done_taken, then_searches, passes_items, fills_task}
-- Counts. `top`: the greatest count. `left_in-fill`, `left_in-less`: a task that fills its slot takes its body off the items that are
-- left. `newly_filled-same`, `newly_filled-through`, `newly_one`: the slots that are filled in no step, in two, and by one task.
-- `taken_most`: a search takes no more than the work of its setting. `taken_least`: it takes no less than the slots that it fills.
pub use Rattle.attr_table.proofs.Walked.{left_in-fill}
pub use Rattle.attr_table.proofs.Counted.{top, left_in-less, newly_filled-same, newly_filled-through, newly_one, taken_most, taken_least}
-- Tables. `OneTable-of`: there is exactly one stable table. `entry_is`: an entry of a stable table is the earliest of its live
-- occurrences. `some_or_none`, `none_value`: an entry is there or not.
pub use Rattle.attr_table.proofs.Ends.{OneTable-of}
pub use Rattle.attr_table.proofs.Stable.{entry_is, some_or_none, none_value}
-- Cuts. `walked_searched`, `searched_walked`: a walk over all lists is a search, and the other way round. `searched_joined`: a search
-- after another is a search over the joined lists. `seen_wanted`: a wanted attribute has its answer in the whole table.
-- `seen_others`: any other attribute has that answer or none. `Mem`: membership, in which a setting is read.
pub use Rattle.attr_table.proofs.Cuts.{walked_searched, searched_walked, searched_joined, seen_wanted, seen_others}
pub use Rattle.attr_table.proofs.Listed.{Mem}
-- Searches that skip attributes. `skipping_unseen`: the law `skipping_is_unseen`. `narrowed_all`: if each attribute is needed, no slot
-- is skipped. `narrowed_at`: a needed attribute keeps its slot.
pub use Rattle.attr_table.proofs.Skipping.{skipping_unseen, narrowed_all, narrowed_at}
