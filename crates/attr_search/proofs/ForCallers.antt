-- What the crates above may rest on, beside the contracts: each line passes on lemmas, and says what they say.

-- a fact that holds anyway holds if there is an error
pub use Rattle.attr_search.proofs.SlotLemmas.{on_err}
-- bodies are as many as they are sized to, and stay so many when they are changed
pub use Rattle.attr_search.proofs.BodyLemmas.{length_sized, length_changed}
-- any flags are among as many that are all set
pub use Rattle.attr_search.proofs.OpenLemmas.{all_among}
-- in a set of numbers, a number is not at another's index
pub use Rattle.attr_search.proofs.WantedLemmas.{at_other}
-- lists compare one by one as what is compared of each
pub use Rattle.attr_search.proofs.CompareLemmas.{equal_alone, ordered_alone}
-- lines that were read are so with other numbers
pub use Rattle.attr_search.proofs.IndexedListLemmas.{numbered_read}
