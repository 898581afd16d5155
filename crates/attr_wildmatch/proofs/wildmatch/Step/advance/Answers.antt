use Rattle.std.proofs.Common.{refl, ◌<◌, length, arith, sym}
use Rattle.attr_wildmatch.proofs.TokenLemmas.{length_of_tokens}
use Rattle.attr_wildmatch.proofs.RowLemmas.{silent_next}
use Rattle.attr_wildmatch.proofs.wildmatch.Step.advance.Goals as goal

pub returns-then-advances-clause-row : goal.returns-then-advances-clause-row
returns-then-advances-clause-row c =
    λ fresh alive before u here stayed.
    let same = length_of_tokens c.args.self.now.tokens.now in
    let inside : c.args.index < length c.args.self.now.tokens.now = c.if-advances.ensures.inside refl in
    c.insert.ensures.row fresh alive u.step.growing u.row_is (u.step.advance c.args.index (sym c.if-advances.ensures.advances) here)
    (silent_next u (omega arith) here stayed.stay stayed.directory)
