use Rattle.std.proofs.Common.{arith, nat_eq, true}
use Rattle.std.proofs.lemmas.Bool.Decides.{nat_tests}
use Rattle.attr_keys.specs.shared.Meeting.{directed}
use Rattle.attr_keys.proofs.SeenTexts.{codes_in_case}
use Rattle.attr_keys.proofs.Parts.{has_if_long, lacks_if_other}
use Rattle.attr_keys.proofs.key.has_text.Goals as goal
use Rattle.attr_keys.proofs.key.has_text.Goals.{else-key-via-then-key+else-key-text, else-key-via-else-key}

pub returns-then-key-text : goal.returns-then-key-text
returns-then-key-text c =
    let codes = codes_in_case c.args.fold (directed c.args.from_end c.args.text.now) true in
    grind (arith, nat_tests, lacks_if_other, nat_eq, c.requires, c.if-key.true, c.if-key-text.true)

pub returns : goal.returns
returns c =
    let codes = codes_in_case c.args.fold (directed c.args.from_end c.args.text.now) true in
    let fact = c.has_part.ensures in
    grind (arith, nat_tests, else-key-via-then-key+else-key-text, else-key-via-else-key, has_if_long, nat_eq, c.else-key.branch, fact, c.requires)
