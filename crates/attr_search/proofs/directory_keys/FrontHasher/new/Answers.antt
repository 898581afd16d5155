use Rattle.attr_search.proofs.DirectoryLemmas.{hashed_none}
use Rattle.attr_search.proofs.directory_keys.FrontHasher.new.Goals as goal

pub returns-clause-front : goal.returns-clause-front
returns-clause-front c = λ text. hashed_none c.new.result c.new.ensures
