use Rattle.std.proofs.Common.{codes, sym, ap, rules, arith}
use Rattle.std.proofs.lemmas.Slice.Eq.{text_from_reads}
use Rattle.attr_wildmatch.specs.Brackets.{class_named}
use Rattle.attr_wildmatch.proofs.bracket.Class.named.Goals as goal

pub returns-in-xdigit : goal.returns-in-xdigit
returns-in-xdigit c = sym (ap class_named (text_from_reads c.args.name.now (codes "xdigit") (omega arith) (search rules)))
