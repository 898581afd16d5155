-- Where words begin and end.
use Rattle.attr_text.proofs.ForCallers.{blank-from_slice, equals-before_blank, no_equals, words-end, words-step}

pub ruleset words = (words-step, words-end)

pub ruleset word_ends = (blank-from_slice, equals-before_blank, no_equals)
