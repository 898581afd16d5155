-- What the crates above may use, beside the contracts. It passes on lemmas alone: their proofs are in the modules named here.

-- by_test: the two cases of a test. and_parts: both tests of a conjunction pass. and_both, or_left, or_right: a conjunction and a
-- disjunction of tests that pass. equal, equal_so: numbers that pass `==` are equal, and equal numbers pass it. reverse-cons: the
-- reverse of a list with one more element. same_answer: tests that imply each other are equal.
pub use Rattle.attr_wildmatch.proofs.Basics.{by_test, reverse-cons}
pub use Rattle.std.proofs.lemmas.Bool.{and_parts, and_from as and_both, or_left, or_right, eqb-true as equal, eq-eqb as equal_so}
pub use Rattle.attr_wildmatch.proofs.Ends.{same_answer}
-- match_of_test: tokens that pass the computed test match. text_match_of_test, test_of_text_match: the test of matching a text
-- decides the relation. exact_answer: an answer by the relation of tokens and a value is that of the test.
pub use Rattle.attr_wildmatch.proofs.DecidingLemmas.{match_of_test, text_match_of_test, test_of_text_match}
pub use Rattle.attr_wildmatch.proofs.Ends.{exact_answer}
-- pair_below: a pair that a text has is of one of 64 kinds. pair_in_end: what an end of a text has, the text has. pair_needed: each pair
-- that tokens need is in what they match.
pub use Rattle.attr_wildmatch.proofs.PairLemmas.{pair_below, pair_in_end, pair_needed}
