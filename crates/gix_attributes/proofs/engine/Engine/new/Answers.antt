use Rattle.std.proofs.Common.{arith}
use Rattle.std.proofs.lemmas.Bool.Decides.{nat_tests}
use Rattle.gix_attributes.proofs.RegistrationLemmas.{alone_first}
use Rattle.gix_attributes.proofs.engine.Engine.new.Goals as goal

pub of-requires-clause-known : goal.of-requires-clause-known
of-requires-clause-known c = grind (arith, nat_tests, alone_first, c.in_ok-search.ensures, c.new-collection.ensures.registered)
