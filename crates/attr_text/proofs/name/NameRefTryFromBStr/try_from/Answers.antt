-- A name that passed the test is ASCII, so its bytes are text.
use Rattle.std.proofs.Common.{arith}
use Rattle.attr_text.proofs.NameLemmas.{valid_name_is_text}
use Rattle.attr_text.proofs.name.NameRefTryFromBStr.try_from.Goals as goal

pub from_utf8_unchecked-text-requires : goal.from_utf8_unchecked-text-requires
from_utf8_unchecked-text-requires c = grind (arith, valid_name_is_text)
