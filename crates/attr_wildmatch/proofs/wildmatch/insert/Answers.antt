use Rattle.std.proofs.Common.{arith, ◌∙◌}
use Rattle.std.proofs.lemmas.Bool.Decides.{nat_tests}
use Rattle.attr_wildmatch.specs.TokenList.{tokens_of}
use Rattle.attr_wildmatch.proofs.RowLemmas.{row-push, indexes_below-push}
use Rattle.attr_wildmatch.proofs.wildmatch.insert.Goals as goal

pub loop-last-init : goal.loop-last-init
loop-last-init c = (
  omega arith,
  omega arith,
  omega arith,
  omega (arith, c.push_reserved.ensures.capacity),
  (λ most l m. omega arith),
  (λ fresh alive growing row f quiet. (
    c.push_reserved.ensures.items ∙
        row-push (tokens_of c.args.tokens.now) fresh alive c.args.row.now.items c.args.free c.args.index row (omega arith) quiet
        (growing.living c.args.index f),
    f,
  )),
)

pub loop-last-preserved : goal.loop-last-preserved
loop-last-preserved c = grind (arith, nat_tests, indexes_below-push)
