use Rattle.std.proofs.Common.{arith, sym}
use Rattle.attr_wildmatch.proofs.TokenLemmas.{length_of_tokens}
use Rattle.attr_wildmatch.proofs.RowLemmas.{silent, silent_fresh}
use Rattle.attr_wildmatch.proofs.wildmatch.Step.stay.Goals as goal

pub returns-then-stays-clause-row : goal.returns-then-stays-clause-row
returns-then-stays-clause-row c =
    λ fresh alive before u here inside.
    let same = length_of_tokens c.args.self.now.tokens.now in
    c.insert.ensures.row fresh alive u.step.growing u.row_is (u.step.stay c.args.index (sym c.if-stays.ensures.stays) here)
    (silent u (omega arith))

pub returns-then-is_directory_star-clause-row : goal.returns-then-is_directory_star-clause-row
returns-then-is_directory_star-clause-row c =
    λ fresh alive before u here inside.
    let same = length_of_tokens c.args.self.now.tokens.now in
    c.insert_directory.ensures.row fresh alive u.row_is (u.step.directory c.args.index (sym c.if-is_directory_star.ensures.directory) here)
    (λ l. silent_fresh u c.args.index l (omega arith) (omega arith) (λ e. sym c.if-stays.ensures.stays))
    (silent u (omega arith))
