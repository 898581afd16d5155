-- The number that is read is the one that is spelled.
use Rattle.std.proofs.Common.{Some}
use Rattle.check_attr.proofs.SpellingLemmas.{number_spelled, word_read}
use Rattle.check_attr.proofs.script.number_before.Goals as goal

pub returns-clause-spelled : goal.returns-clause-spelled
returns-clause-spelled c =
    number_spelled c.args.separator c.args.bytes.now (Some (c.in_ok-number.number, c.in_ok-word.rest.now))
    (word_read c.args.separator c.args.bytes.now c.in_ok-word.word.now c.in_ok-word.rest.now (Some c.in_ok-number.number)
    c.in_ok-word.ensures c.in_ok-number.ensures)
