use Rattle.std.proofs.Common.{arith}
use Rattle.attr_search.proofs.DirectoryLemmas.{same_keys}
use Rattle.attr_search.proofs.directory_keys.BaseKeys.of.Goals as goal

pub returns-then-not-has_capital : goal.returns-then-not-has_capital
returns-then-not-has_capital c = grind (arith, same_keys)
