use Rattle.std.proofs.Common.{arith}
use Rattle.std.proofs.lemmas.List.{length-take}
use Rattle.attr_search.proofs.DirectoryLemmas.{hashed_on}
use Rattle.attr_search.proofs.directory_keys.FrontHasher.key.Goals as goal

pub returns-clause-front : goal.returns-clause-front
returns-clause-front c = grind (arith, hashed_on)

pub returns-clause-key : goal.returns-clause-key
returns-clause-key c = grind (arith, length-take, returns-clause-front)
