-- Lemmas for the crates above, beside the contracts and the laws.

-- Names. `valid_name_is_text`: a valid name is UTF-8.
pub use Rattle.attr_text.proofs.NameLemmas.{valid_name_is_text}
-- Tests. `front_fails`: the bytes before the first that passes a test fail it.
pub use Rattle.attr_text.proofs.WordLaws.{front_fails}
-- Words. `words-step`, `words-end`: the words of a text are its first one, and those of the text after it. `offset_of_first`,
-- `offset_in_text`: where the first word begins. `blank-from_slice`, `equals-before_blank`, `no_equals`: where it ends.
pub use Rattle.attr_text.proofs.WordLemmas.{blank-from_slice, equals-before_blank, no_equals, offset_in_text, offset_of_first, words-end, words-step}
