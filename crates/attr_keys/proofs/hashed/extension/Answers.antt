use Rattle.std.proofs.Common.{arith}
use Rattle.std.proofs.lemmas.Bool.Decides.{nat_tests}
use Rattle.attr_keys.proofs.ExtensionTexts.{extension_from_dot_at, longer_extension}
use Rattle.attr_keys.proofs.hashed.extension.Goals as goal

pub returns-then-name-offset-eq46-clause-some : goal.returns-then-name-offset-eq46-clause-some
returns-then-name-offset-eq46-clause-some c = grind (arith, nat_tests, extension_from_dot_at)

pub returns-clause-none : goal.returns-clause-none
returns-clause-none c = grind (arith, nat_tests, longer_extension)
