use Rattle.std.proofs.Common.{◌∙◌}
use Rattle.attr_wildmatch.specs.TokenList.{tokens_of}
use Rattle.attr_wildmatch.proofs.RowLemmas.{row-push, kept_row}
use Rattle.attr_wildmatch.proofs.wildmatch.insert_directory.Goals as goal

pub returns-clause-row : goal.returns-clause-row
returns-clause-row c =
    λ fresh alive row a f quiet.
    kept_row (tokens_of c.args.tokens.now) fresh alive c.push_reserved.new.self.items c.args.index
    (c.push_reserved.ensures.items ∙ row-push (tokens_of c.args.tokens.now) fresh alive c.args.row.now.items c.args.free c.args.index row
    c.if-free-index.false quiet a)
    a (f c.if-free-index.false)
