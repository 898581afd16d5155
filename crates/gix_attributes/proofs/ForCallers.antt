-- The lemmas that crates above may cite, beside the contracts.
-- Counts of failures.
-- `fails_later`: a count that rises after some time has risen over each earlier count.
pub use Rattle.gix_attributes.proofs.GlobalLemmas.{fails_later}
-- Outcomes that are reset, as the law `resetting_starts_again` says it.
-- `reset_at_first`: a reset changes nothing of an outcome that was just initialised. `reset_searched`: after a search it leaves what it
-- left before. `emptied_again`: twice is once.
pub use Rattle.gix_attributes.proofs.OutcomeLemmas.{emptied_again, reset_at_first, reset_searched}
-- The answers of a lookup.
-- `looked_up_answers`: they are those of the only stable table, with names, as the law `answers_are_of_the_only_table` says it.
-- `looked_up_found`: what is found by number is of that table too. `all_named`: each of it has the name of its number.
pub use Rattle.gix_attributes.proofs.LookupLemmas.{all_named, looked_up_answers, looked_up_found}
-- Names. `number_at`: of names that differ, the one at a number has this number.
pub use Rattle.attr_lists.proofs.ForCallers.{number_at}
-- Lists that are registered.
-- `bodies_registered`: the body of each name is its last definition in the lists that are registered.
-- `bodies_have_names`: the items of each body have the numbers of their names.
-- `left_alone`: a collection that registers the lists of a search alone registers what a pop leaves of them.
-- `lists_with_ids`: lists with their list ids are these lists.
pub use Rattle.gix_attributes.proofs.KeepingLemmas.{bodies_have_names, bodies_registered, left_alone, lists_with_ids}
-- Engines.
-- `alone_first`: lists that are added to a collection without lists are registered there alone. `globals_state`: the names and the lists
-- after global files are read into a collection without names.
pub use Rattle.gix_attributes.proofs.RegistrationLemmas.{alone_first}
pub use Rattle.gix_attributes.proofs.FileLemmas.{state_of}
pub use Rattle.gix_attributes.proofs.GlobalLemmas.{globals_state}
-- Sources that are told in place of labels, as the law `sources_only_tell` says it. `answers_to_told`, `finds_for_told`: what a question
-- leaves. `added_told`, `popped_told`: lists are added and removed. `number_told`: the numbers of answers stay.
pub use Rattle.gix_attributes.proofs.ToldLemmas.{added_told, answers_to_told, finds_for_told, number_told, popped_told}
-- Labels. `label_digits`, `label_value`: a label is its index in digits. `source_at_label`: it stands for the source with this index.
-- `label_below`: an index below a count has such a label. `source_at-more`, `state_told-more`: sources that are appended change nothing
-- of what is labelled below them.
pub use Rattle.gix_attributes.proofs.LabelLemmas.{label_below, label_digits, label_value, source_at-more, source_at_label, state_told-more}
