-- The bytes are text if and only if the test succeeds.
use Rattle.std.proofs.Common.{arith}
use Rattle.std.proofs.lemmas.Bool.Decides.{nat_tests}
use Rattle.std.proofs.lemmas.Str.{IsUtf8-from_is_utf8, is_utf8-from_IsUtf8}
use Rattle.check_attr.proofs.script.as_text.Goals as goal

pub returns : goal.returns
returns c = grind (arith, nat_tests, is_utf8-from_IsUtf8, IsUtf8-from_is_utf8, c.ok.ensures.value, c.from_utf8.ensures.cases)
