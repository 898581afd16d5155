use Rattle.check_attr.proofs.TextLemmas.{OneText-of}
use Rattle.check_attr.proofs.laws.a_script_has_one_text.Goals as goal

pub returns : goal.returns
returns c = OneText-of
