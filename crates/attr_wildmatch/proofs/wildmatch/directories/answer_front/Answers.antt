use Rattle.std.proofs.Common.{arith}
use Rattle.std.proofs.lemmas.Bool.Decides.{nat_tests}
use Rattle.attr_wildmatch.specs.TokenList.{tokens_of}
use Rattle.attr_wildmatch.proofs.Ends.{front_left-none, front_left-some}
use Rattle.attr_wildmatch.proofs.wildmatch.directories.answer_front.Goals as goal

pub returns-in_default : goal.returns-in_default
returns-in_default c = grind (arith, nat_tests, front_left-none)

pub returns : goal.returns
returns c =
    let left = front_left-some c.args.case (tokens_of c.args.tokens.now) c.args.value.now _ c.in-Some.ensures in
    rw left.matched (c.answer_alone.ensures c.args.case)
