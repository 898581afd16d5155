-- What the crates above may use, beside the contracts. It passes on lemmas alone: their proofs are in the modules named here.

-- take_whole: a list is its own front of at least its length.
pub use Rattle.attr_glob.proofs.IndexLemmas.{take_whole}
-- read_same, same_read: patterns that pass `==` have the same view, and patterns of the same view pass it.
pub use Rattle.attr_glob.proofs.IndexLemmas.{read_same, same_read}
-- path_match_of_test, test_of_path_match: the computed test of matching a path decides the relation.
pub use Rattle.attr_glob.proofs.PathLemmas.{path_match_of_test, test_of_path_match}
-- matching_line_is_candidate: a line that a text gives, that defines no macro and that matches a path is a candidate for the
-- base name of the path. bytewise: texts that are the same byte by byte fold to the same.
pub use Rattle.attr_glob.proofs.MatchingLines.{bytewise, matching_line_is_candidate}
-- reading-wildcard: the offset of the wildcard in a pattern that was read. no_wildcard: a text without the offset of a wildcard has
-- none. text_matches-literal: a text without a wildcard matches its own bytes. text_matches-front: a text doesn't match what
-- doesn't begin with what stands before its first wildcard. whole_met, front_met, end_met: what has the key of a whole text, of a
-- front and of an end. falling_indexes: indexes that fall and that pass a test.
pub use Rattle.attr_glob.proofs.PathLemmas.{reading-wildcard}
pub use Rattle.attr_glob.proofs.Literals.{no_wildcard, text_matches-literal, text_matches-front}
pub use Rattle.attr_glob.proofs.KeyTexts.{whole_met, front_met, end_met}
pub use Rattle.attr_glob.proofs.FallingIndexes.{falling_indexes, passes}
-- keys_read, lines_length: an index has the keys of its list's patterns, and as many lines.
pub use Rattle.attr_glob.proofs.IndexedLemmas.{keys_read, lines_length}
