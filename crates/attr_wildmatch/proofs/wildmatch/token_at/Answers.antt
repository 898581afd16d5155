use Rattle.attr_wildmatch.proofs.TokenLemmas.{looked_up}
use Rattle.attr_wildmatch.proofs.wildmatch.token_at.Goals as goal

pub returns-clause-token : goal.returns-clause-token
returns-clause-token c = let e = c.get.ensures.lookup in looked_up c.args.tokens.now c.args.index c.get.result e.0 e.1
