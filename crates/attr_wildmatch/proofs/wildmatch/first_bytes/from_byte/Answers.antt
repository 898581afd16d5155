use Rattle.attr_wildmatch.proofs.FirstBytes.{found_byte, absent_byte}
use Rattle.attr_wildmatch.proofs.wildmatch.first_bytes.from_byte.Goals as goal

pub returns-in-Some : goal.returns-in-Some
returns-in-Some c = found_byte c.args.byte c.args.value.now _ c.in-Some.offset c.new.ensures c.in-Some.ensures.0 c.in-Some.ensures.1

pub returns-in-None : goal.returns-in-None
returns-in-None c = absent_byte c.args.byte c.args.value.now _ c.new.ensures c.in-None.ensures
